-- A trail's record has room for its contents, and each number stands where its layout says. Assumes nothing.
use Rattle.replay_layout.proofs.RecordLaws.{ready-contents}
use Rattle.replay_stored.proofs.StoredLaws.{are-stored}
use Rattle.replay_stored.proofs.Trail.layout.Goals as goal

pub read_layout-requires : goal.read_layout-requires
read_layout-requires c = record { head_room = ready-contents _ _ c.args.self.now.ready }

pub returns : goal.returns
returns c = are-stored _ _ c.args.self.now.ready _ c.read_layout.ensures

-- In a closed trail the sink alone is asked for: it is a known place of the kind. Assumes nothing.
use Rattle.net.specs.Held.{net_in}
use Rattle.net.proofs.HeldLaws.{held-loaded}
use Rattle.checkpoint_positions.proofs.Placing.{closed-position}
use Rattle.checkpoint_positions.proofs.bad_position.Goals as goal

pub returns-then-closed : goal.returns-then-closed
returns-then-closed c =
    rw (c.if-closed.true, c.sink.ensures) (closed-position (net_in c.args.net.now.words.now) c.args.k c.args.p (held-loaded c.args.net.now.words.now c.args.net.now.held) c.requires.known_kind)

-- The goals of `two_in_row`, from what Invariants says of its loop. Assumes nothing.
use Rattle.words.proofs.Search.{clash-twice}
use Rattle.net_routes.proofs.RuledWords.{row_in}
use Rattle.net_routes.proofs.kinds.two_in_row.Goals as goal

pub loop-i-init : goal.loop-i-init
loop-i-init c = clash-twice 8 _ (row_in _ c.args.w.ruled c.args.from c.args.n c.requires.bounded)

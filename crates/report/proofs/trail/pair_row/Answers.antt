-- An unknown number is refused, and else the numbers are those that were read. Assumes nothing.
use Rattle.report.proofs.TrailLaws.{pair-unknown, pair-count}
use Rattle.report.proofs.trail.pair_row.Goals as goal

pub returns-in_err-n : goal.returns-in_err-n
returns-in_err-n c =
    let read = c.read_pair.ensures in
    pair-unknown c.args.trail.now.rec.now c.args.from c.args.to _ read.answer read.code _ _ c.from_residual.ensures.1 c.in_err-n.ensures.ok_part c.in_err-n.ensures.value

pub returns : goal.returns
returns c =
    let read = c.read_pair.ensures in
    pair-count c.args.trail.now.rec.now c.args.from c.args.to _ read.answer read.code _ c.in_ok-n.ensures.ok_part

-- An unknown number is refused, and else the numbers are those that were read. Assumes nothing.
use Rattle.report.proofs.TrailLaws.{act-unknown, act-counts}
use Rattle.report.proofs.trail.act_row.Goals as goal

pub returns-in_err-k : goal.returns-in_err-k
returns-in_err-k c =
    let read = c.read_act.ensures in
    act-unknown c.args.trail.now.rec.now c.args.a _ read.answer read.code _ _ c.from_residual.ensures.1 c.in_err-k.ensures.ok_part c.in_err-k.ensures.value

pub returns : goal.returns
returns c =
    let read = c.read_act.ensures in
    act-counts c.args.trail.now.rec.now c.args.a _ read.answer read.code _ c.in_ok-k.ensures.ok_part

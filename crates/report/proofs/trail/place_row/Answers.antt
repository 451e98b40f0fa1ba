-- An unknown number is refused, and else the numbers are those that were read. Assumes nothing.
use Rattle.report.proofs.TrailLaws.{place-unknown, place-counts}
use Rattle.report.proofs.trail.place_row.Goals as goal

pub returns-in_err-k : goal.returns-in_err-k
returns-in_err-k c =
    let read = c.read_place.ensures in
    place-unknown c.args.trail.now.rec.now c.args.q _ read.answer read.code _ _ c.from_residual.ensures.1 c.in_err-k.ensures.ok_part c.in_err-k.ensures.value

pub returns : goal.returns
returns c =
    let read = c.read_place.ensures in
    place-counts c.args.trail.now.rec.now c.args.q _ read.answer read.code _ c.in_ok-k.ensures.ok_part

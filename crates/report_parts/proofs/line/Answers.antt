-- The line is the trail's, or that of a known place, activity or pair. Assumes nothing.
use Prim.Native.Nat.{ℕ, ◌-◌, ◌/◌, ◌%◌, ◌<◌}
use mathlib.Core.Path.{ap, ◌∙◌}
use native.Mathlib.Omega.{arith}
use Rattle.replay.specs.Calls.{net_at}
use Rattle.lines.proofs.LineLaws.{same_line}
use Rattle.report.specs.TrailLines.{jump_line_at}
use Rattle.report.proofs.PairIndex.{row_lt, column-lt}
use Rattle.report_parts.proofs.LineLaws.{places_in, acts_in, pair-index, line-trail, line-place, line-act, line-pair, known-place, known-act, known-pair}
use Rattle.report_parts.proofs.line.Goals as goal

pub returns-then-i-eq0 : goal.returns-then-i-eq0
returns-then-i-eq0 c = same_line (line-trail c.args.trail.now.rec.now c.args.i c.if-i-eq0.true) c.trail_line.ensures

pub returns-then-q-places : goal.returns-then-q-places
returns-then-q-places c =
    let b = c.args.trail.now.rec.now in
    let q = c.args.i - 1 in
    let places-are = places_in _ b c.args.trail.now.ready _ c.places-places.ensures in
    let h : q < (net_at b).places = omega (arith, c.if-q-places.true, places-are) in
    known-place b q h (line-place b c.args.i q (omega (arith, c.if-i-eq0.false)) h) c.place_line.ensures

pub returns-then-a-acts : goal.returns-then-a-acts
returns-then-a-acts c =
    let b = c.args.trail.now.rec.now in
    let a = c.args.i - 1 - c.places-places.result in
    let places-are = places_in _ b c.args.trail.now.ready _ c.places-places.ensures in
    let acts-are = acts_in _ b c.args.trail.now.ready _ c.places-places.ensures _ c.acts-acts.ensures in
    let h : a < (net_at b).acts = omega (arith, c.if-a-acts.true, acts-are) in
    known-act b a h (line-act b c.args.i a (omega (arith, places-are, c.if-q-places.false, c.if-i-eq0.false)) h) c.act_line.ensures

pub returns : goal.returns
returns c =
    let b = c.args.trail.now.rec.now in
    let n = c.places-places.result in
    let k = c.args.i - 1 - n - c.acts-acts.result in
    let places-are = places_in _ b c.args.trail.now.ready _ c.places-places.ensures in
    let acts-are = acts_in _ b c.args.trail.now.ready _ c.places-places.ensures _ c.acts-acts.ensures in
    let in_pairs =
    pair-index _ _ c.args.trail.now.ready _ c.places-places.ensures _ c.acts-acts.ensures
    c.args.i c.requires.known_line c.if-i-eq0.false c.if-q-places.false c.if-a-acts.false in
    known-pair b (k / n) (k % n) (omega (arith, places-are, row_lt n k in_pairs)) (omega (arith, places-are, column-lt n k in_pairs))
    (ap (λ (n : ℕ). jump_line_at b (k / n) (k % n)) places-are
    ∙ line-pair b c.args.i k (omega (arith, places-are, acts-are, c.if-a-acts.false, c.if-q-places.false, c.if-i-eq0.false)))
    c.jump_line.ensures

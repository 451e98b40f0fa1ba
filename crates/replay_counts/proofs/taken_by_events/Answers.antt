-- FIRED of each activity, where its input is there. Assumes nothing.
use native.Mathlib.Omega.{arith}
use Rattle.std.proofs.Common.{rules}
use Rattle.replay_counts.proofs.CountLaws.{one_is, taken, taken-few}
use Rattle.replay_counts.proofs.SumLaws.{sum_is, sum_fits}
use Rattle.replay_counts.proofs.taken_by_events.Goals as goal

pub sum-requires-clause-fits : goal.sum-requires-clause-fits
sum-requires-clause-fits c =
    let h = taken c.args.trail.now c.args.q in
    sum_fits h c.map.ensures.source c.acts.ensures c.map.ensures.closure (λ x r q k. search (rules, one_is)) _ (omega (arith, taken-few c.args.trail.now c.args.q))

pub returns : goal.returns
returns c =
    let h = taken c.args.trail.now c.args.q in
    let e = sum_is h c.map.ensures.source c.acts.ensures c.map.ensures.closure (λ x r q k. search (rules, one_is)) _ c.sum.ensures.ran in
    (e, omega (arith, e, taken-few c.args.trail.now c.args.q))

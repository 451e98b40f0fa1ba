-- Each object, by the sink of its kind. Assumes nothing.
use mathlib.Core.Path.{◌∙◌}
use native.Mathlib.Omega.{arith}
use Rattle.std.proofs.Common.{rules}
use Rattle.replay_counts.proofs.CountLaws.{one_is, sunk, sunk-is, sunk-few}
use Rattle.replay_counts.proofs.SumLaws.{sum_is, sum_fits}
use Rattle.replay_counts.proofs.sunk_on.Goals as goal

pub sum-requires-clause-fits : goal.sum-requires-clause-fits
sum-requires-clause-fits c =
    let h = sunk c.args.trail.now c.args.q in
    sum_fits h c.map.ensures.source c.objects.ensures.0 c.map.ensures.closure (λ x r q k. search (rules, one_is)) _ (omega (arith, sunk-few c.args.trail.now c.args.q))

pub returns : goal.returns
returns c =
    let h = sunk c.args.trail.now c.args.q in
    let e = sum_is h c.map.ensures.source c.objects.ensures.0 c.map.ensures.closure (λ x r q k. search (rules, one_is)) _ c.sum.ensures.ran in
    (e ∙ sunk-is c.args.trail.now c.args.q, omega (arith, e, sunk-few c.args.trail.now c.args.q))

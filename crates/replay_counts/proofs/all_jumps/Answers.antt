-- JUMPS of each activity, and the closing jumps. Assumes nothing.
use Prim.Native.Nat.{ℕ, ◌+◌}
use mathlib.Core.Path.{ap₂}
use native.Mathlib.Omega.{arith}
use Rattle.std.proofs.Common.{rules}
use Rattle.replay_counts.proofs.CountLaws.{jumps, jumps-few}
use Rattle.replay_counts.proofs.SumLaws.{sum_is, sum_fits}
use Rattle.replay_counts.proofs.all_jumps.Goals as goal

pub sum-sum-requires-clause-fits : goal.sum-sum-requires-clause-fits
sum-sum-requires-clause-fits c =
    let h = jumps c.args.trail.now in
    sum_fits h c.map.ensures.source c.acts.ensures c.map.ensures.closure (λ x r q k. search rules) _ (omega (arith, jumps-few c.args.trail.now))

pub overflow_add-result : goal.overflow_add-result
overflow_add-result c =
    let h = jumps c.args.trail.now in
    let e = sum_is h c.map.ensures.source c.acts.ensures c.map.ensures.closure (λ x r q k. search rules) _ c.sum-sum.ensures.ran in
    omega (arith, e, jumps-few c.args.trail.now, c.closing-last.ensures.1)

pub returns : goal.returns
returns c =
    let h = jumps c.args.trail.now in
    let e = sum_is h c.map.ensures.source c.acts.ensures c.map.ensures.closure (λ x r q k. search rules) _ c.sum-sum.ensures.ran in
    ap₂ (λ (s j : ℕ). s + j) e c.closing-last.ensures.0

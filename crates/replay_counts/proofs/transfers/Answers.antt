-- MOVED of each activity, and what the close took. Assumes nothing.
use Prim.Native.Nat.{ℕ, ◌+◌, ◌*◌, ◌≤◌}
use mathlib.Core.Path.{ap₂, sym, ◌∙◌}
use native.Mathlib.Nat.{mul-le-mul}
use native.Mathlib.Omega.{arith}
use Rattle.std.proofs.Common.{rules}
use Rattle.replay.proofs.Accepted.{closers-length}
use Rattle.replay.specs.Calls.{state_at}
use Rattle.replay_counts.proofs.CountLaws.{moves, moves-few, one_is, one_le}
use Rattle.replay_counts.proofs.SumLaws.{sum_is, sum_fits}
use Rattle.replay_counts.proofs.transfers.Goals as goal

pub sum-sum-requires-clause-fits : goal.sum-sum-requires-clause-fits
sum-sum-requires-clause-fits c =
    let h = moves c.args.trail.now in
    sum_fits h c.map.ensures.source c.acts.ensures c.map.ensures.closure (λ x r q k. search rules) _ (omega (arith, moves-few c.args.trail.now))

pub overflow_add-result : goal.overflow_add-result
overflow_add-result c =
    let h = moves c.args.trail.now in
    let e = sum_is h c.map.ensures.source c.acts.ensures c.map.ensures.closure (λ x r q k. search rules) _ c.sum-sum.ensures.ran in
    let k : c.from.result ≤ 1 = rw (c.from.ensures, one_is) (one_le c.closed.result) in
    omega (arith, e, moves-few c.args.trail.now, mul-le-mul k c.objects.ensures.1)

pub returns : goal.returns
returns c =
    let h = moves c.args.trail.now in
    let e = sum_is h c.map.ensures.source c.acts.ensures c.map.ensures.closure (λ x r q k. search rules) _ c.sum-sum.ensures.ran in
    ap₂ (λ (s j : ℕ). s + j) e (ap₂ (λ (s j : ℕ). s * j) (c.from.ensures ∙ one_is c.closed.result ∙ c.closed.ensures) (c.objects.ensures.0 ∙ sym (closers-length (state_at c.args.trail.now.rec.now).kinds)))

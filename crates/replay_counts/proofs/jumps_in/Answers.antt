-- The jumps from each place. Assumes nothing.
use native.Mathlib.Omega.{arith}
use Rattle.std.proofs.Common.{rules}
use Rattle.replay_counts.proofs.CountLaws.{into, into-few}
use Rattle.replay_counts.proofs.SumLaws.{sum_is, sum_fits}
use Rattle.replay_counts.proofs.jumps_in.Goals as goal

pub sum-requires-clause-fits : goal.sum-requires-clause-fits
sum-requires-clause-fits c =
    let h = into c.args.trail.now c.args.q in
    sum_fits h c.map.ensures.source c.places.ensures c.map.ensures.closure (λ x r q k. search rules) _ (omega (arith, into-few c.args.trail.now c.args.q c.requires.known_place))

pub returns : goal.returns
returns c =
    let h = into c.args.trail.now c.args.q in
    sum_is h c.map.ensures.source c.places.ensures c.map.ensures.closure (λ x r q k. search rules) _ c.sum.ensures.ran

-- What is left of the activities is searched as all of them would be. Assumes nothing.
use Prim.Native.Nat.{ℕ, ◌+◌}
use mathlib.Core.Bool.{Bool}
use mathlib.Core.Path.{◌≡◌}
use mathlib.Core.List.{List}
use lib.ListN.{get_or, drop}
use Rattle.words.specs.Lists.{any, twice, total, pair_up, parts}
use Rattle.net.specs.Net.{Arc, kinds_of}
use Rattle.net.specs.Held.{net_in, counts_in, arcs_in}
use Rattle.net_routes.proofs.kinds.two_of_kind.Given as goal

abbrev pub two : List ℕ → List Arc → Bool
two w r = twice (kinds_of (net_in w) r)

abbrev pub invariant-loop-size : goal.invariant-loop-size
invariant-loop-size l = let w : List ℕ = l.w.sized.words.now in
    (l.from + total (λ (k : ℕ). k) (drop l.size-index (counts_in w)) ≡ get_or w 3 0)
    × (any (two w) (parts (drop l.size-index (counts_in w)) (drop l.from (pair_up (arcs_in w)))) ≡ any (two w) (parts (counts_in w) (pair_up (arcs_in w))))

-- The chain goes over all the numbers, and the sum of so few of them fits. Assumes nothing.
use Prim.Native.Nat.{ℕ, ◌^◌, ◌≤◌, ◌<◌}
use mathlib.Core.List.{List}
use mathlib.Core.Path.{◌∙◌, refl, sym}
use native.Mathlib.Omega.{arith}
use lib.ListN.{length, get_or}
use Rattle.std.proofs.Common.{rules}
use Rattle.std.specs.List.{sum_by}
use Rattle.std.proofs.lemmas.Iterator.{YieldsList-from_slice, YieldsList-from_map}
use Rattle.std.proofs.lemmas.Iterator.Consumers.{sum_by_from_yields_List, fits_by_from_yields_list}
use Rattle.std.proofs.lemmas.List.Elements.{All-from_get_or}
use Rattle.std.proofs.lemmas.List.Recursion.{is_sum_by}
use Rattle.std.proofs.lemmas.List.Sums.{sum_by-le}
use Rattle.words.specs.Lists.{total}
use Rattle.net_arcs.proofs.sum.Goals as goal

few : (xs : List ℕ) → length xs ≤ 64 → ((i : ℕ) → get_or xs i 0 < 4294967296) → sum_by (λ (n : ℕ). n) xs < 2 ^ 64
few xs l h = omega (arith, l, sum_by-le (λ (n : ℕ). n) 4294967295 xs (All-from_get_or (λ (n : ℕ). n ≤ 4294967295) xs 0 (λ i k. omega (arith, h i))))

pub sum-requires-clause-fits : goal.sum-requires-clause-fits
sum-requires-clause-fits c =
    let xs : List ℕ = c.args.counts.now in
    fits_by_from_yields_list (λ (n : ℕ). n) xs c.map.result _ (YieldsList-from_map _ (λ (n : ℕ). n) (YieldsList-from_slice xs cc) c.map.ensures.closure (λ x r q k. search rules)) (few xs c.requires (λ i. search rules))

pub returns : goal.returns
returns c =
    let xs : List ℕ = c.args.counts.now in
    sum_by_from_yields_List (λ (n : ℕ). n) xs c.map.result _ c.sum.ensures.ran (YieldsList-from_map _ (λ (n : ℕ). n) (YieldsList-from_slice xs cc) c.map.ensures.closure (λ x r q k. search rules)) ∙ sym (is_sum_by (total (λ (n : ℕ). n)) (λ (n : ℕ). n) refl (λ _ _. refl) xs)

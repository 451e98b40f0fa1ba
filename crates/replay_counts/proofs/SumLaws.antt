-- A chain that adds up what a closure gives at each index below n: the sum, and that it fits. Assumes nothing.
use Prim.Native.Nat.{ℕ, zero, suc, ◌+◌, ◌<◌}
use mathlib.Core.Path.{◌≡◌, refl, ap, ◌∙◌}
use mathlib.Core.List.{List, map}
use native.Mathlib.Numerals.{add-one}
use native.Mathlib.Omega.{arith}
use denote.Param.Members.{Mut}
use Rattle.std.specs.Bool.{⊤}
use Rattle.std.specs.Fn.{Called}
use Rattle.std.specs.Iterator.{Drains}
use Rattle.std.specs.Iterator.Adapters.{map_source, map_callee}
use Rattle.std.specs.Iterator.Runs.{EachRunFrom}
use Rattle.std.specs.List.{fold, sum, range_with_len}
use Rattle.std.specs.declared.iter.Map.{Map}
use Rattle.std.specs.declared.ops.Range.{Range}
use Rattle.std.proofs.iter.Yields.{nat_range_steps}
use Rattle.std.proofs.lemmas.Iterator.{YieldsList, YieldsList-from_range, YieldsList-from_map, maps}
use Rattle.std.proofs.lemmas.Iterator.Consumers.{sum_from_yields_List, fits_from_yields_list}
use Rattle.std.proofs.lemmas.List.FromFn.{sum_by-map-range_with_len_more}
use Rattle.words.specs.Lists.{sum_to}

-- the sum of a list by index
summed : (n : ℕ) (h : ℕ → ℕ) → sum (map h (range_with_len 0 n)) ≡ sum_to n h
summed zero h = refl
summed (suc n) h =
    let more : sum (map h (range_with_len 0 (suc n))) ≡ sum (map h (range_with_len 0 n)) + h n = rw add-one at (sum_by-map-range_with_len_more (λ (x : ℕ). x) h 0 n n (omega arith)) in
    omega (arith, summed n h, more)

module _ {F : Type 0} {g : Mut F (ℕ × Unit {0}) ℕ} (h : ℕ → ℕ) {f : F} {s : Map (Range ℕ) F} {n m : ℕ} (source : map_source s ≡ record { start = 0; end = n }) (ends : n ≡ m) (callee : map_callee s ≡ f)
    (each : (x r : ℕ) (q : F) → Called g f (x, tt) r q → (q ≡ f) × (r ≡ h x)) where
  gives : YieldsList (maps nat_range_steps g) (λ r. r) s (map h (range_with_len 0 n))
  gives = YieldsList-from_map g h (YieldsList-from_range 0 n n source (omega arith)) callee each

  pub sum_is : (r : ℕ) → ((xs : List ℕ) × (⊤ → Drains (maps nat_range_steps g) s xs) × (r ≡ fold (λ a x. a + x) 0 xs)) → r ≡ sum_to m h
  sum_is r ran = sum_from_yields_List s r ran gives ∙ summed n h ∙ ap (λ (k : ℕ). sum_to k h) ends

  pub sum_fits : (top : ℕ) → sum_to m h < top → EachRunFrom (maps nat_range_steps g) s (λ p. fold (λ a x. a + x) 0 p.items < top)
  sum_fits top few = fits_from_yields_list s top gives (rw (summed, ends) few)

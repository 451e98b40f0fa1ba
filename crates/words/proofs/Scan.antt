-- A loop along a list, and one along the numbers below n: what is left from index i. Assumes nothing.
use Prim.Native.Nat.{ℕ, ◌+◌, ◌≤◌, ◌<◌}
use mathlib.Core.Bool.{Bool, true, false}
use mathlib.Core.Path.{◌≡◌, refl}
use mathlib.Core.List.{List, [], ◌∷◌}
use native.Mathlib.Numerals.{add-one}
use native.Mathlib.Omega.{arith}
use lib.ListN.{length, drop, get_or, drop_of_length-le}
use lib.Seq.{drop-cons}
use Rattle.words.specs.Lists.{any, either, total, upto}
use Rattle.words.proofs.Lists.{length-upto, upto-at}

-- a search: the element fails the test, passes it, is past the end
module _ {A : Type 0} (f : A → Bool) (xs : List A) (d : A) (i : ℕ) where
  pub any-turn : i < length xs → f (get_or xs i d) ≡ false → any f (drop (i + 1) xs) ≡ any f (drop i xs)
  any-turn lt e = rw (add-one, drop-cons xs i d lt, e)

  pub any_found : i < length xs → f (get_or xs i d) ≡ true → true ≡ any f (drop i xs)
  any_found lt e = rw (drop-cons xs i d lt, e)

  pub any-end : length xs ≤ i → false ≡ any f (drop i xs)
  any-end le = rw (drop_of_length-le xs le)

-- the last of several tests decides
pub either-one : (b : Bool) → b ≡ either (b ∷ [])
either-one true = refl
either-one false = refl

-- a sum
module _ {A : Type 0} (f : A → ℕ) (xs : List A) (d : A) (i : ℕ) where
  pub total-turn : i < length xs → f (get_or xs i d) + total f (drop (i + 1) xs) ≡ total f (drop i xs)
  total-turn lt = rw (add-one, drop-cons xs i d lt)

  pub total-end : length xs ≤ i → total f (drop i xs) ≡ 0
  total-end le = rw (drop_of_length-le xs le)

-- a search of the numbers below n
module _ (f : ℕ → Bool) (n i : ℕ) where
  at_same : i < n → get_or (upto n 0) i 0 ≡ i
  at_same lt = omega (arith, upto-at n 0 i lt)

  pub any_to-turn : i < n → f i ≡ false → any f (drop (i + 1) (upto n 0)) ≡ any f (drop i (upto n 0))
  any_to-turn lt e = any-turn f (upto n 0) 0 i (rw length-upto lt) (rw (at_same lt) e)

  pub any_to-found : i < n → f i ≡ true → true ≡ any f (drop i (upto n 0))
  any_to-found lt e = any_found f (upto n 0) 0 i (rw length-upto lt) (rw (at_same lt) e)

  pub any_to-end : n ≤ i → false ≡ any f (drop i (upto n 0))
  any_to-end le = any-end f (upto n 0) 0 i (rw length-upto le)

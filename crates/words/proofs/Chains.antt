-- What a chain's `any` answers over a list and over the numbers below n, in the words of specs/. Assumes nothing.
use Prim.Native.Nat.{ℕ, zero, suc, ◌+◌, ◌<◌}
use native.Mathlib.Numerals.{add-one}
use native.Mathlib.Omega.{arith}
use mathlib.Core.Bool.{Bool, true, false, ◌||◌}
use mathlib.Core.Path.{◌≡◌, refl, ap, ◌∙◌}
use mathlib.Core.List.{List, [], ◌∷◌}
use lib.ListN.{length, get_or}
use Rattle.std.specs.List.{list_any, range_with_len}
use Rattle.words.specs.Lists.{pick, any, any_to, All, upto}
use Rattle.words.proofs.Lists.{All-to, upto-in}

pick-or : (s t : Bool) → (s || t) ≡ pick s true t
pick-or true t = refl
pick-or false t = refl

pub any-is : {A : Type 0} (f : A → Bool) (xs : List A) → list_any f xs ≡ any f xs
any-is f [] = refl
any-is f (x ∷ xs) = rw (any-is f xs) (pick-or (f x) (any f xs))

upto-is : (n i : ℕ) → range_with_len i n ≡ upto n i
upto-is zero i = refl
upto-is (suc n) i = rw add-one (ap (λ (l : List ℕ). i ∷ l) (upto-is n (suc i)))

pub any_to-is : (f : ℕ → Bool) (n : ℕ) → list_any f (range_with_len 0 n) ≡ any_to n f
any_to-is f n = any-is f (range_with_len 0 n) ∙ ap (any f) (upto-is n 0)

-- the elements by their indices
pub any_at-is : {A : Type 0} (f : A → Bool) (d : A) (xs : List A) → list_any (λ (i : ℕ). f (get_or xs i d)) (range_with_len 0 (length xs)) ≡ any f xs
any_at-is {A = A} f d xs = go 0 xs (λ i. ap (λ (k : ℕ). get_or xs k d) (omega arith))
  where
    go : (j : ℕ) (ys : List A) → ((i : ℕ) → get_or xs (j + i) d ≡ get_or ys i d) → list_any (λ (i : ℕ). f (get_or xs i d)) (range_with_len j (length ys)) ≡ any f ys
    go j [] h = refl
    go j (y ∷ ys) h =
        let e : get_or xs j d ≡ y = ap (λ (k : ℕ). get_or xs k d) (omega arith) ∙ h 0 in
        let t : list_any (λ (i : ℕ). f (get_or xs i d)) (range_with_len (j + 1) (length ys)) ≡ any f ys = go (j + 1) ys (λ i. ap (λ (k : ℕ). get_or xs k d) (omega arith) ∙ h (suc i)) in
        rw (e, t) (pick-or (f y) (any f ys))

-- tests that agree below n
pub any_to-same : (n : ℕ) (f g : ℕ → Bool) → ((i : ℕ) → i < n → f i ≡ g i) → any_to n f ≡ any_to n g
any_to-same n f g h = go (upto n 0) (All-to (λ (i : ℕ). i < 0 + n) (λ (i : ℕ). f i ≡ g i) (λ i l. h i (omega arith)) (upto n 0) (upto-in n 0))
  where
    go : (xs : List ℕ) → All (λ (i : ℕ). f i ≡ g i) xs → any f xs ≡ any g xs
    go [] a = refl
    go (x ∷ xs) a = rw (a.0, go xs a.1)

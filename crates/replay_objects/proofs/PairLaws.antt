-- Two equal numbers in a list, by their indices. Assumes nothing.
use Prim.Native.Nat.{ℕ, zero, suc, ◌<◌}
use mathlib.Core.Bool.{Bool, true, false}
use mathlib.Core.Path.{◌≡◌, refl, sym}
use mathlib.Core.List.{List, [], ◌∷◌}
use native.Mathlib.Omega.{arith}
use lib.Dec.{eqb}
use lib.ListN.{length, get_or, take}
use borrow.Author.Tests.{eq-eqb, ne_eqb}
use Rattle.words.specs.Lists.{pick, has, twice}
use Rattle.words.proofs.Lists.{All-of, any_false}

-- the number at each of the first i indices differs from those before it
abbrev pub Apart : List ℕ → ℕ → Type 0
Apart xs i = (a : ℕ) → a < i → (b : ℕ) → b < a → get_or xs a 0 ≡ get_or xs b 0 → ⊥

either_way : (b : Bool) → pick b true true ≡ true
either_way true = refl
either_way false = refl

has-at : (x : ℕ) (xs : List ℕ) (i : ℕ) → i < length xs → x ≡ get_or xs i 0 → has x xs ≡ true
has-at x [] i h e = absurd (omega arith)
has-at x (y ∷ xs) zero h e = rw (eq-eqb x y e)
has-at x (y ∷ xs) (suc i) h e = rw (has-at x xs i (omega arith) e) (either_way (eqb x y))

pub twice-at : (xs : List ℕ) (i j : ℕ) → i < length xs → j < i → get_or xs i 0 ≡ get_or xs j 0 → twice xs ≡ true
twice-at [] i j h l e = absurd (omega arith)
twice-at (x ∷ xs) zero j h l e = absurd (omega arith)
twice-at (x ∷ xs) (suc i) zero h l e = rw (has-at x xs i (omega arith) (sym e))
twice-at (x ∷ xs) (suc i) (suc j) h l e = rw (twice-at xs i j (omega arith) (omega arith) e) (either_way (has x xs))

pub twice-not : (xs : List ℕ) → Apart xs (length xs) → twice xs ≡ false
twice-not [] f = refl
twice-not (x ∷ xs) f =
    let n : has x xs ≡ false =
    any_false (eqb x) xs (All-of (λ (y : ℕ). eqb x y ≡ false) 0 xs (λ i h. ne_eqb x (get_or xs i 0) (λ e. f (suc i) (omega arith) 0 (omega arith) (sym e)))) in
    rw n (twice-not xs (λ a h b l e. f (suc a) (omega arith) (suc b) (omega arith) e))

-- fewer than two have no pair
pub few_apart : (xs : List ℕ) → length xs < 2 → false ≡ twice xs
few_apart xs h = sym (twice-not xs (λ a k b l e. omega arith))

-- what was found among the first m, where these are the first n
pub among : (l : List ℕ) (n m : ℕ) (r : Bool) → n ≡ m → r ≡ twice (take m l) → r ≡ twice (take n l)
among l n m r e h = rw e h

-- Laws of `interleave`, `evens` and `odds`. Assumes nothing.
use Prim.Native.Nat.{ℕ, zero, suc, ◌+◌, ◌*◌}
use mathlib.Core.Path.{◌≡◌, refl, ap, sym, ◌∙◌}
use mathlib.Core.List.{List, [], ◌∷◌}
use native.Mathlib.Omega.{arith}
use lib.ListN.{length, get_or, set}
use Rattle.words.specs.Lists.{All}
use Rattle.replay.specs.State.{evens, odds}
use Rattle.replay.specs.Record.{interleave}

pub length-interleave : (xs ys : List ℕ) → length xs ≡ length ys → length (interleave xs ys) ≡ 2 * length xs
length-interleave [] ys e = refl
length-interleave (x ∷ xs) [] e = absurd (omega arith)
length-interleave (x ∷ xs) (y ∷ ys) e = omega (arith, length-interleave xs ys (omega arith))

pub All-interleave : (P : ℕ → Type 0) (xs ys : List ℕ) → All P xs → All P ys → All P (interleave xs ys)
All-interleave P [] ys a b = tt
All-interleave P (x ∷ xs) [] a b = tt
All-interleave P (x ∷ xs) (y ∷ ys) a b = (a.0, (b.0, All-interleave P xs ys a.1 b.1))

-- both lists, taken back
pub evens-interleave : (xs ys : List ℕ) → length xs ≡ length ys → evens (interleave xs ys) ≡ xs
evens-interleave [] ys e = refl
evens-interleave (x ∷ xs) [] e = absurd (omega arith)
evens-interleave (x ∷ xs) (y ∷ ys) e = ap (λ (l : List ℕ). x ∷ l) (evens-interleave xs ys (omega arith))

pub odds-interleave : (xs ys : List ℕ) → length xs ≡ length ys → odds (interleave xs ys) ≡ ys
odds-interleave [] [] e = refl
odds-interleave [] (y ∷ ys) e = absurd (omega arith)
odds-interleave (x ∷ xs) [] e = absurd (omega arith)
odds-interleave (x ∷ xs) (y ∷ ys) e = ap (λ (l : List ℕ). y ∷ l) (odds-interleave xs ys (omega arith))

-- by index
skip-two : (x y : ℕ) (r : List ℕ) (m n : ℕ) → m ≡ suc (suc n) → get_or (x ∷ y ∷ r) m 0 ≡ get_or r n 0
skip-two x y r m n e = rw e

past_one : (x m n : ℕ) → m ≡ suc n → get_or (x ∷ []) m 0 ≡ 0
past_one x m n e = rw e

pub evens_at : (l : List ℕ) (i : ℕ) → get_or (evens l) i 0 ≡ get_or l (2 * i) 0
evens_at [] i = refl
evens_at (x ∷ []) zero = refl
evens_at (x ∷ []) (suc i) = sym (past_one x (2 * suc i) (suc (2 * i)) (omega arith))
evens_at (x ∷ y ∷ r) zero = refl
evens_at (x ∷ y ∷ r) (suc i) = evens_at r i ∙ sym (skip-two x y r (2 * suc i) (2 * i) (omega arith))

pub odds-at : (l : List ℕ) (i : ℕ) → get_or (odds l) i 0 ≡ get_or l (2 * i + 1) 0
odds-at [] i = refl
odds-at (x ∷ []) zero = refl
odds-at (x ∷ []) (suc i) = sym (past_one x (2 * suc i + 1) (2 * i + 2) (omega arith))
odds-at (x ∷ y ∷ r) zero = refl
odds-at (x ∷ y ∷ r) (suc i) = odds-at r i ∙ sym (skip-two x y r (2 * suc i + 1) (2 * i + 1) (omega arith))

pub interleave-even : (xs ys : List ℕ) (i : ℕ) → length xs ≡ length ys → get_or (interleave xs ys) (2 * i) 0 ≡ get_or xs i 0
interleave-even xs ys i e = sym (evens_at (interleave xs ys) i) ∙ ap (λ (l : List ℕ). get_or l i 0) (evens-interleave xs ys e)

pub interleave-odd : (xs ys : List ℕ) (i : ℕ) → length xs ≡ length ys → get_or (interleave xs ys) (2 * i + 1) 0 ≡ get_or ys i 0
interleave-odd xs ys i e = sym (odds-at (interleave xs ys) i) ∙ ap (λ (l : List ℕ). get_or l i 0) (odds-interleave xs ys e)

-- one number changed
set-two : (x y : ℕ) (r : List ℕ) (m n v : ℕ) → m ≡ suc (suc n) → set (x ∷ y ∷ r) m v ≡ x ∷ y ∷ set r n v
set-two x y r m n v e = rw e

pub interleave-set-even : (xs ys : List ℕ) (i v : ℕ) → interleave (set xs i v) ys ≡ set (interleave xs ys) (2 * i) v
interleave-set-even [] ys i v = refl
interleave-set-even (x ∷ xs) [] zero v = refl
interleave-set-even (x ∷ xs) [] (suc i) v = refl
interleave-set-even (x ∷ xs) (y ∷ ys) zero v = refl
interleave-set-even (x ∷ xs) (y ∷ ys) (suc i) v = ap (λ (l : List ℕ). x ∷ y ∷ l) (interleave-set-even xs ys i v) ∙ sym (set-two x y (interleave xs ys) (2 * suc i) (2 * i) v (omega arith))

pub interleave-set-odd : (xs ys : List ℕ) (i v : ℕ) → interleave xs (set ys i v) ≡ set (interleave xs ys) (2 * i + 1) v
interleave-set-odd [] ys i v = refl
interleave-set-odd (x ∷ xs) [] i v = refl
interleave-set-odd (x ∷ xs) (y ∷ ys) zero v = refl
interleave-set-odd (x ∷ xs) (y ∷ ys) (suc i) v = ap (λ (l : List ℕ). x ∷ y ∷ l) (interleave-set-odd xs ys i v) ∙ sym (set-two x y (interleave xs ys) (2 * suc i + 1) (2 * i + 1) v (omega arith))

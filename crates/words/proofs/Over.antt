-- Laws of `over`: text written over the start of lent bytes, and text written behind it. Assumes nothing.
use mathlib.Core.Path.{◌≡◌, refl, ap, sym, subst, ◌∙◌}
use mathlib.Core.List.{List, [], ◌∷◌, ◌++◌, append-nil}
use Prim.Native.Nat.{ℕ, zero, suc, ◌+◌, ◌-◌, ◌≤◌, ◌<◌}
use native.Mathlib.Nat.{le_of_suc-le-suc, not-suc-le-zero}
use native.Mathlib.Omega.{arith}
use lib.ListN.{length, take, drop, set, length-append, length-take, length-drop, drop_of_length-le}
use lib.Seq.{take_all, sets, sets-eq}
use Rattle.words.specs.Lists.{over}

-- text written over the bytes from a place on
unfoldable pub over_at : ℕ → List ℕ → List ℕ → List ℕ
over_at at text xs = take at xs ++ over text (drop at xs)

pub over_first : (xs : List ℕ) (x : ℕ) → 0 < length xs → set xs 0 x ≡ over (x ∷ []) xs
over_first [] x h = absurd (not-suc-le-zero h)
over_first (a ∷ xs) x h = refl

-- text stored from the first byte on
pub sets_over : (text xs : List ℕ) → length text ≤ length xs → sets xs 0 text ≡ over text xs
sets_over text xs h =
    let z : 0 + length text ≡ length text = omega arith in
    sets-eq text xs 0 (omega arith) ∙ ap (λ (n : ℕ). text ++ drop n xs) z

-- a byte more behind the text
pub over-more : (text xs : List ℕ) (x : ℕ) → length text < length xs → set (over text xs) (length text) x ≡ over (text ++ (x ∷ [])) xs
over-more [] [] x h = absurd (not-suc-le-zero h)
over-more [] (b ∷ xs) x h = refl
over-more (a ∷ text) [] x h = absurd (not-suc-le-zero h)
over-more (a ∷ text) (b ∷ xs) x h = ap (λ (l : List ℕ). a ∷ l) (over-more text xs x (le_of_suc-le-suc h))

pub length_over : (text xs : List ℕ) → length text ≤ length xs → length (over text xs) ≡ length xs
length_over text xs h = simp (length-append, length-drop) (omega arith)

-- what a call leaves that was lent the part from a place on, and wrote text over its start
module _ (xs : List ℕ) (at : ℕ) where
  rest : length (drop at xs) ≤ length xs - at
  rest = simp length-drop (omega arith)

  pub part : take (length xs - at) (drop at xs) ≡ drop at xs
  part = take_all (length xs - at) (drop at xs) rest

  pub part-back : (text ys : List ℕ) → ys ≡ over text (take (length xs - at) (drop at xs))
      → take at xs ++ (ys ++ drop (length xs - at) (drop at xs)) ≡ over_at at text xs
  unfolding over_at
  part-back text ys e =
      rw (drop_of_length-le (drop at xs) rest, append-nil)
      (ap (λ (l : List ℕ). take at xs ++ l) (e ∙ ap (over text) part))

pub from_start : (text xs : List ℕ) → over_at 0 text xs ≡ over text xs
unfolding over_at
from_start text xs = refl

step_start : (a b xs : List ℕ) → length a ≤ length xs → over_at (length a) b (over a xs) ≡ over (a ++ b) xs
unfolding over_at
step_start [] b xs h = refl
step_start (x ∷ a) b [] h = absurd (not-suc-le-zero h)
step_start (x ∷ a) b (y ∷ xs) h = ap (λ (l : List ℕ). x ∷ l) (step_start a b xs (le_of_suc-le-suc h))

-- text behind text is both at once
pub behind-start : (m : ℕ) (a b xs : List ℕ) → m ≡ length a → length a ≤ length xs → over_at m b (over a xs) ≡ over (a ++ b) xs
behind-start m a b xs e h = subst (λ (k : ℕ). over_at k b (over a xs) ≡ over (a ++ b) xs) (sym e) (step_start a b xs h)

pub behind : (at m : ℕ) (a b xs : List ℕ) → m ≡ at + length a → m ≤ length xs → over_at m b (over_at at a xs) ≡ over_at at (a ++ b) xs
unfolding over_at
behind zero m a b xs e h = behind-start m a b xs (omega (arith, e)) (omega arith)
behind (suc at) zero a b xs e h = absurd (omega (arith, e))
behind (suc at) (suc m) a b [] e h = absurd (not-suc-le-zero h)
behind (suc at) (suc m) a b (y ∷ xs) e h =
    ap (λ (l : List ℕ). y ∷ l) (behind at m a b xs (omega (arith, e)) (le_of_suc-le-suc h))

-- text behind a first byte
pub behind-first : (x : ℕ) (text xs : List ℕ) → 0 < length xs → over_at 1 text (set xs 0 x) ≡ over (x ∷ text) xs
unfolding over_at
behind-first x text [] h = absurd (not-suc-le-zero h)
behind-first x text (y ∷ xs) h = refl

-- one byte at a place
pub one-over : (at x : ℕ) (xs : List ℕ) → at < length xs → set xs at x ≡ over_at at (x ∷ []) xs
unfolding over_at
one-over at x [] h = absurd (not-suc-le-zero h)
one-over zero x (y ∷ xs) h = refl
one-over (suc at) x (y ∷ xs) h = ap (λ (l : List ℕ). y ∷ l) (one-over at x xs (le_of_suc-le-suc h))

pub length-over_at : (at : ℕ) (text xs : List ℕ) → at + length text ≤ length xs → length (over_at at text xs) ≡ length xs
unfolding over_at
length-over_at at text xs h = simp (length-append, length-take, length-drop) (omega arith)

-- Bytes that stand where contents say: the layout test, the numbers of a span, and the bytes of those numbers. Assumes nothing.
use Prim.Native.Nat.{ℕ, zero, suc, ◌+◌, ◌*◌, ◌≤◌, ◌<◌}
use mathlib.Core.Bool.{Bool, true, false}
use mathlib.Core.Path.{◌≡◌, refl, ap, sym, ◌∙◌}
use mathlib.Core.List.{List, [], ◌∷◌, ◌++◌}
use native.Mathlib.Omega.{arith}
use lib.ListN.{length, get_or, take, drop, length-take, length-drop, take-append-drop}
use lib.Seq.{drop-drop, get_or-drop}
use lib.Dec.{eqb}
use borrow.Author.Tests.{eqb-true, eq-eqb}
use Rattle.words.specs.Lists.{pick}
use Rattle.words.specs.Words.{word, words_at, bytes_of, bodies_from, ends_at}
use Rattle.std.specs.Prelude.{None}
use Rattle.words.proofs.Lists.{clash}
use Rattle.words.proofs.Words.{length-words, words_take, words-read, bytes-of-words}
use Rattle.replay.specs.State.{evens, odds}
use Rattle.replay.specs.Record.{interleave, words_from}

-- n bodies from byte `at` on, by the contents from byte i on, end at byte e
abbrev pub Ends : List ℕ → ℕ → ℕ → ℕ → ℕ → Type 0
Ends b i at zero e = at ≡ e
Ends b i at (suc n) e = (word b i ≡ at) × Ends b (i + 8) (at + word b (i + 4)) n e

-- the layout test says just that
pub ends-at : (b : List ℕ) (n i at e : ℕ) → ends_at e (bodies_from b i at n) ≡ true → Ends b i at n e
unfolding bodies_from
ends-at b zero i at e h = eqb-true at e h
ends-at b (suc n) i at e h = let p = go (eqb (word b i) at) h in (eqb-true _ _ p.0, ends-at b n (i + 8) (at + word b (i + 4)) e p.1)
  where
    go : (t : Bool) → ends_at e (pick t (bodies_from b (i + 8) (at + word b (i + 4)) n) None) ≡ true → (t ≡ true) × (ends_at e (bodies_from b (i + 8) (at + word b (i + 4)) n) ≡ true)
    go true h = (refl, h)
    go false h = clash (sym h)

pub at-ends : (b : List ℕ) (n i at e : ℕ) → Ends b i at n e → ends_at e (bodies_from b i at n) ≡ true
unfolding bodies_from
at-ends b zero i at e h = eq-eqb at e h
at-ends b (suc n) i at e h = rw (eq-eqb (word b i) at h.0) (at-ends b n (i + 8) (at + word b (i + 4)) e h.1)

-- every byte is below 256
abbrev pub Bytes : List ℕ → Type 0
Bytes s = (i : ℕ) → get_or s i 0 < 256

bytes_take : (n : ℕ) (s : List ℕ) → Bytes s → Bytes (take n s)
bytes_take zero s f i = omega arith
bytes_take (suc n) [] f i = f i
bytes_take (suc n) (x ∷ s) f zero = f 0
bytes_take (suc n) (x ∷ s) f (suc i) = bytes_take n s (λ i. f (suc i)) i

bytes_drop : (n : ℕ) (s : List ℕ) → Bytes s → Bytes (drop n s)
bytes_drop n s f i = rw get_or-drop (f (n + i))

-- n numbers from byte i on that are there
module _ (b : List ℕ) (i n : ℕ) (fits : i + 4 * n ≤ length b) where
  pub words-from-length : length (words_from b i n) ≡ n
  unfolding words_from
  words-from-length = simp (length-take, length-words, length-drop) (omega arith)

  -- written again, they are the bytes that stand there
  pub words-from-bytes : Bytes b → (size : ℕ) → size ≡ 4 * n → bytes_of (words_from b i n) ≡ take size (drop i b)
  unfolding words_from
  words-from-bytes f size e =
      let s : List ℕ = take (4 * n) (drop i b) in
      let l : length s ≡ 4 * n = simp (length-take, length-drop) (omega arith) in
      ap bytes_of (sym (words_take n (drop i b))) ∙ bytes-of-words s (omega (arith, length-words s)) (bytes_take (4 * n) (drop i b) (bytes_drop i b f))
      ∙ ap (λ (k : ℕ). take k (drop i b)) (sym e)

-- the numbers from byte i on
pub words-from-read : (b : List ℕ) (n i : ℕ) → i + 4 * n ≤ length b → words_from b i n ≡ words_at b i n
unfolding words_from
words-from-read = words-read

pub words-head : (b : List ℕ) (i n : ℕ) → 0 < n → i + 4 * n ≤ length b → get_or (words_from b i n) 0 0 ≡ word b i
words-head b i zero p h = absurd (omega arith)
words-head b i (suc n) p h = ap (λ (l : List ℕ). get_or l 0 0) (words-from-read b (suc n) i h)

-- a span and what follows it
pub glue : (b : List ℕ) (i n : ℕ) (r : List ℕ) → r ≡ drop (i + n) b → take n (drop i b) ++ r ≡ drop i b
glue b i n r e = ap (λ (l : List ℕ). take n (drop i b) ++ l) (e ∙ sym (drop-drop n i b)) ∙ take-append-drop n (drop i b)

-- an even number of numbers, parted and joined again
pub interleave-parted : (n : ℕ) (l : List ℕ) → length l ≡ 2 * n → interleave (evens l) (odds l) ≡ l
interleave-parted n [] e = refl
interleave-parted zero (x ∷ []) e = absurd (omega arith)
interleave-parted (suc n) (x ∷ []) e = absurd (omega arith)
interleave-parted zero (x ∷ y ∷ r) e = absurd (omega arith)
interleave-parted (suc n) (x ∷ y ∷ r) e = ap (λ (l : List ℕ). x ∷ y ∷ l) (interleave-parted n r (omega arith))

pub parted-length : (n : ℕ) (l : List ℕ) → length l ≡ 2 * n → (length (evens l) ≡ n) × (length (odds l) ≡ n)
parted-length zero [] e = (refl, refl)
parted-length (suc n) [] e = absurd (omega arith)
parted-length n (x ∷ []) e = absurd (omega arith)
parted-length zero (x ∷ y ∷ r) e = absurd (omega arith)
parted-length (suc n) (x ∷ y ∷ r) e = let h = parted-length n r (omega arith) in (omega arith, omega arith)

-- A number read or written through the part of the bytes that begins at number `base`. Assumes nothing.
use Prim.Native.Nat.{ℕ, zero, suc, ◌+◌, ◌*◌, ◌-◌, ◌^◌, ◌≤◌, ◌<◌}
use mathlib.Core.Path.{◌≡◌, refl, ap, sym, ◌∙◌}
use mathlib.Core.List.{List, [], ◌∷◌, ◌++◌, append-nil}
use native.Mathlib.Nat.{zero-add, suc-add}
use native.Mathlib.Omega.{arith}
use lib.ListN.{length, get_or, set, take, drop, length-drop, drop_of_length-le}
use lib.Seq.{sets, take_all, get_or-drop}
use borrow.Rule.Slice.PartMut.{put_mid}
use Rattle.words.specs.Words.{words_of, bytes_of}
use Rattle.words.specs.Put.{Put}
use Rattle.words.proofs.Words.{room, words-put, words-drop}

-- numbers stored behind the first
sets_more : (vs : List ℕ) (x : ℕ) (xs : List ℕ) (n : ℕ) → sets (x ∷ xs) (suc n) vs ≡ x ∷ sets xs n vs
sets_more [] x xs n = refl
sets_more (v ∷ vs) x xs n = sets_more vs x (set xs n v) (suc n)

sets_behind : (s : List ℕ) (k j : ℕ) (vs : List ℕ) → k ≤ length s → take k s ++ sets (drop k s) j vs ≡ sets s (k + j) vs
sets_behind s zero j vs h = rw zero-add
sets_behind [] (suc k) j vs h = absurd (omega arith)
sets_behind (x ∷ xs) (suc k) j vs h = ap (λ (l : List ℕ). x ∷ l) (sets_behind xs k j vs (omega arith)) ∙ sym (ap (λ (n : ℕ). sets (x ∷ xs) n vs) (suc-add k j) ∙ sets_more vs x xs (k + j))

module _ (s : List ℕ) (base i : ℕ) (inside : base + i < length (words_of s)) where
  -- the part is there, and holds the number
  pub part_in : 4 * base ≤ length s
  part_in = omega (arith, room s (base + i) inside)

  pub part-is : take (length s - 4 * base) (drop (4 * base) s) ≡ drop (4 * base) s
  part-is = take_all (length s - 4 * base) (drop (4 * base) s) (omega (arith, length-drop (4 * base) s))

  part-words : words_of (take (length s - 4 * base) (drop (4 * base) s)) ≡ drop base (words_of s)
  part-words = ap words_of part-is ∙ words-drop base s

  pub part-has : i < length (words_of (take (length s - 4 * base) (drop (4 * base) s)))
  part-has = omega (arith, ap length part-words, length-drop base (words_of s))

  pub part-get : get_or (words_of (take (length s - 4 * base) (drop (4 * base) s))) i 0 ≡ get_or (words_of s) (base + i) 0
  part-get = ap (λ (l : List ℕ). get_or l i 0) part-words ∙ get_or-drop base (words_of s) i 0

  -- the number written there is written in the whole
  pub part-put : (x : ℕ) (p : List ℕ) → x < 2 ^ 32 → Put (take (length s - 4 * base) (drop (4 * base) s)) i x p → Put s (base + i) x (put_mid (4 * base) (length s - 4 * base) s p)
  unfolding bytes_of
  part-put x p small P = record { bytes = whole; words = ap words_of whole ∙ words-put s (base + i) x small inside }
    where
      none : drop (length s - 4 * base) (drop (4 * base) s) ≡ []
      none = drop_of_length-le (drop (4 * base) s) {i = length s - 4 * base} (omega (arith, length-drop (4 * base) s))

      whole : put_mid (4 * base) (length s - 4 * base) s p ≡ sets s (4 * (base + i)) (bytes_of (x ∷ []))
      whole =
          ap (λ (l : List ℕ). take (4 * base) s ++ (p ++ l)) none ∙ ap (λ (l : List ℕ). take (4 * base) s ++ l) (append-nil p ∙ P.bytes ∙ ap (λ (l : List ℕ). sets l (4 * i) (bytes_of (x ∷ []))) part-is)
          ∙ sets_behind s (4 * base) (4 * i) (bytes_of (x ∷ [])) part_in ∙ ap (λ (n : ℕ). sets s n (bytes_of (x ∷ []))) (omega arith)

-- Bytes over which the bytes of whole numbers are copied: the numbers that they hold. Assumes nothing.
use Prim.Native.Nat.{ℕ, zero, suc, ◌+◌, ◌*◌, ◌/◌, ◌%◌, ◌≤◌}
use mathlib.Core.Path.{◌≡◌, refl, ap, ap₂, sym, ◌∙◌}
use mathlib.Core.List.{List, [], ◌∷◌, ◌++◌, append_assoc}
use native.Mathlib.Omega.{arith}
use borrow.Rule.Slice.PartMut.{put_mid}
use lib.ListN.{length, take, drop, replicate, length-replicate, length-drop}
use lib.Seq.{sets, sets-eq, take_all, drop-drop, length-take-le}
use Rattle.words.specs.Words.{joined, words_of}
use Rattle.words.proofs.Words.{length-words, words_take, words-drop}

words-append : (s r : List ℕ) → length s % 4 ≡ 0 → words_of (s ++ r) ≡ words_of s ++ words_of r
unfolding words_of
words-append [] r h = refl
words-append (a ∷ []) r h = absurd (omega arith)
words-append (a ∷ (b ∷ [])) r h = absurd (omega arith)
words-append (a ∷ (b ∷ (c ∷ []))) r h = absurd (omega arith)
words-append (a ∷ (b ∷ (c ∷ (d ∷ s)))) r h = ap (λ (l : List ℕ). joined a b c d ∷ l) (words-append s r (omega arith))

-- n numbers copied from number `base` on
module _ (out part : List ℕ) (base n m : ℕ) (whole : length part ≡ 4 * n) (size : m ≡ 4 * n) (room : base + n ≤ length (words_of out)) where
  pub words-copied : words_of (put_mid (4 * base) m out part) ≡ sets (words_of out) base (words_of part)
  words-copied =
      let front : length (take (4 * base) out) ≡ 4 * base = length-take-le (4 * base) out (omega (arith, length-words out)) in
      let many : length (words_of part) ≡ n = omega (arith, length-words part) in
      words-append (take (4 * base) out) (part ++ drop m (drop (4 * base) out)) (omega arith)
      ∙ ap₂ (λ (x y : List ℕ). x ++ y) (words_take base out)
      (words-append part (drop m (drop (4 * base) out)) (omega arith)
      ∙ ap (λ (l : List ℕ). words_of part ++ l) (rw size (words-drop n (drop (4 * base) out)) ∙ ap (drop n) (words-drop base out) ∙ drop-drop n base (words_of out)))
      ∙ sym (sets-eq (words_of part) (words_of out) base (omega arith) ∙ append_assoc (take base (words_of out)) (words_of part) (drop (base + length (words_of part)) (words_of out)) ∙ ap (λ (k : ℕ). take base (words_of out) ++ (words_of part ++ drop (base + k) (words_of out))) many)

-- all whole numbers of some bytes
pub words_in : (s : List ℕ) → words_of (take (4 * (length s / 4)) s) ≡ words_of s
words_in s = words_take (length s / 4) s ∙ take_all (length s / 4) (words_of s) (omega (arith, length-words s))

-- n zeros from number `base` on
words-zeros : (n : ℕ) → words_of (replicate (4 * n) 0) ≡ replicate n 0
unfolding words_of
words-zeros zero = refl
words-zeros (suc n) = let e : 4 * suc n ≡ suc (suc (suc (suc (4 * n)))) = omega arith in rw e (ap (λ (l : List ℕ). 0 ∷ l) (words-zeros n))

pub zeros-copied : (out part : List ℕ) (base n m : ℕ) → m ≡ 4 * n → base + n ≤ length (words_of out) → part ≡ replicate (length (take m (drop (4 * base) out))) 0
    → words_of (put_mid (4 * base) m out part) ≡ sets (words_of out) base (replicate n 0)
zeros-copied out part base n m size room e =
    let k : length (take m (drop (4 * base) out)) ≡ 4 * n = length-take-le m (drop (4 * base) out) (omega (arith, length-drop (4 * base) out, length-words out)) ∙ size in
    let zeros : part ≡ replicate (4 * n) 0 = e ∙ ap (λ (j : ℕ). replicate j 0) k in
    words-copied out part base n m (ap length zeros ∙ length-replicate (4 * n) 0) size room ∙ ap (λ (l : List ℕ). sets (words_of out) base l) (ap words_of zeros ∙ words-zeros n)

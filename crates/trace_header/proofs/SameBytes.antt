-- Bytes that are the same as those of a file from a byte on. Assumes nothing.
use Prim.Native.Nat.{ℕ, ◌+◌, ◌≤◌, ◌<◌}
use mathlib.Core.Bool.{Bool, true, false}
use mathlib.Core.Path.{◌≡◌, refl, ap, sym, ◌∙◌}
use mathlib.Core.List.{List}
use native.Mathlib.Omega.{arith}
use lib.Dec.{ltb}
use lib.ListN.{length, get_or, take, drop, length-take, length-drop}
use lib.Seq.{get_or-take, get_or-drop}
use borrow.Author.Tests.{ltb-true, ltb-false}
use Rattle.words.specs.Words.{word}

-- two comparisons with the same outcome
pub ltb-same : (a b c d : ℕ) → (a < b → c < d) → (c < d → a < b) → ltb a b ≡ ltb c d
ltb-same a b c d f g = go (ltb a b) refl (ltb c d) refl
  where
    go : (x : Bool) → ltb a b ≡ x → (y : Bool) → ltb c d ≡ y → x ≡ y
    go true p true q = refl
    go false p false q = refl
    go true p false q = absurd (omega (arith, f (ltb-true a b p), ltb-false c d q))
    go false p true q = absurd (omega (arith, g (ltb-true c d q), ltb-false a b p))

-- the first k bytes of w are the k bytes of b from byte `from` on, as far as there are any
module _ (k : ℕ) (w b : List ℕ) (from : ℕ) (same : take k w ≡ take k (drop from b)) where
  same_byte : (i : ℕ) → i < k → get_or w i 0 ≡ get_or b (from + i) 0
  same_byte i h = sym (get_or-take k w i 0 h) ∙ ap (λ (l : List ℕ). get_or l i 0) same ∙ get_or-take k (drop from b) i 0 h ∙ get_or-drop from b i 0

  next-byte : (i j : ℕ) → i + j < k → get_or w (i + j) 0 ≡ get_or b (from + i + j) 0
  next-byte i j h = same_byte (i + j) h ∙ ap (λ (x : ℕ). get_or b x 0) (omega arith)

  pub same_word : (i : ℕ) → i + 4 ≤ k → word w i ≡ word b (from + i)
  unfolding word
  same_word i h = omega (arith, same_byte i (omega arith), next-byte i 1 (omega arith), next-byte i 2 (omega arith), next-byte i 3 (omega arith))

  pub same-short : (j : ℕ) → 0 < j → j ≤ k → ltb (length w) j ≡ ltb (length b) (from + j)
  same-short j p h =
      let e = sym (length-take k w) ∙ ap length same ∙ length-take k (drop from b) in
      let d = length-drop from b in
      ltb-same (length w) j (length b) (from + j) (λ l. omega (arith, e, d)) (λ l. omega (arith, e, d))

  pub same_more : 0 < k → ltb 0 (length w) ≡ ltb from (length b)
  same_more p =
      let e = sym (length-take k w) ∙ ap length same ∙ length-take k (drop from b) in
      let d = length-drop from b in
      ltb-same 0 (length w) from (length b) (λ l. omega (arith, e, d)) (λ l. omega (arith, e, d))

-- What stores leave in a range of words: the same range, and a range apart from it. Assumes nothing.
use Prim.Native.Nat.{ℕ, suc, ◌+◌, ◌-◌, ◌≤◌, ◌<◌}
use mathlib.Core.Logic.{◌⊎◌, inl, inr}
use mathlib.Core.Path.{◌≡◌, refl, ap, sym, ◌∙◌}
use mathlib.Core.List.{List, [], ◌∷◌, ◌++◌, append-nil, append_assoc}
use native.Mathlib.Omega.{arith}
use lib.ListN.{length, get_or, take, drop, set, drop_of_length-le}
use lib.Seq.{sets, sets-eq, take_at, drop_at, length-take-le, drop-set-lt, drop-set-add, take-set-le, get_or-set_other, get_or-take, get_or-drop}

-- n words from word s on, and i, are apart
abbrev pub Apart : ℕ → ℕ → ℕ → ℕ → Type 0
Apart s n i m = (s + n ≤ i) ⊎ (i + m ≤ s)

module _ {A : Type 0} where
  pub view-set : (l : List A) (s n i : ℕ) (a : A) → Apart s n i 1 → take n (drop s (set l i a)) ≡ take n (drop s l)
  view-set l s n i a (inl h) =
      let e : s + (i - s) ≡ i = omega arith in
      ap (λ (j : ℕ). take n (drop s (set l j a))) (sym e) ∙ ap (take n) (drop-set-add s l (i - s) a) ∙ take-set-le n (drop s l) (i - s) a (omega arith)
  view-set l s n i a (inr h) = ap (take n) (drop-set-lt s l i a (omega arith))

  pub view-sets : (l : List A) (s n i : ℕ) (vs : List A) → Apart s n i (length vs) → take n (drop s (sets l i vs)) ≡ take n (drop s l)
  view-sets l s n i [] h = refl
  view-sets l s n i (a ∷ vs) (inl h) = view-sets (set l i a) s n (suc i) vs (inl (omega arith)) ∙ view-set l s n i a (inl h)
  view-sets l s n i (a ∷ vs) (inr h) = view-sets (set l i a) s n (suc i) vs (inr (omega arith)) ∙ view-set l s n i a (inr (omega arith))

  pub view-same : (l : List A) (i : ℕ) (vs : List A) → i + length vs ≤ length l → take (length vs) (drop i (sets l i vs)) ≡ vs
  view-same l i vs h =
      ap (λ (r : List A). take (length vs) (drop i r)) (sets-eq vs l i h ∙ append_assoc (take i l) vs (drop (i + length vs) l))
      ∙ ap (take (length vs)) (drop_at (take i l) (vs ++ drop (i + length vs) l) i (length-take-le i l (omega arith)))
      ∙ take_at vs (drop (i + length vs) l) (length vs) refl

  -- one word
  pub word_same : (l : List A) (i : ℕ) (vs : List A) (j : ℕ) (d : A) → i + length vs ≤ length l → j < length vs → get_or (sets l i vs) (i + j) d ≡ get_or vs j d
  word_same l i vs j d h g =
      sym (get_or-take (length vs) (drop i (sets l i vs)) j d g ∙ get_or-drop i (sets l i vs) j d) ∙ ap (λ (r : List A). get_or r j d) (view-same l i vs h)

  pub word-apart : (l : List A) (i : ℕ) (vs : List A) (j : ℕ) (d : A) → Apart j 1 i (length vs) → get_or (sets l i vs) j d ≡ get_or l j d
  word-apart l i [] j d h = refl
  word-apart l i (a ∷ vs) j d (inl h) = word-apart (set l i a) (suc i) vs j d (inl (omega arith)) ∙ get_or-set_other l i j a d (λ e. omega arith)
  word-apart l i (a ∷ vs) j d (inr h) = word-apart (set l i a) (suc i) vs j d (inr (omega arith)) ∙ get_or-set_other l i j a d (λ e. omega arith)

  -- all words
  pub sets-all : (l vs : List A) → length l ≡ length vs → sets l 0 vs ≡ vs
  sets-all l vs h =
      sets-eq vs l 0 (omega arith)
      ∙ ap (λ (r : List A). vs ++ r) (drop_of_length-le l {i = 0 + length vs} (omega arith))
      ∙ append-nil vs

-- Searches, by what is left of them: for a number that stands twice, and along the parts of a list. Assumes nothing.
use Prim.Native.Nat.{ℕ, ◌+◌, ◌≤◌, ◌<◌}
use mathlib.Core.Bool.{Bool, true, false}
use mathlib.Core.Path.{◌≡◌, refl, ap, sym, ◌∙◌}
use mathlib.Core.List.{List, [], ◌∷◌}
use native.Mathlib.Omega.{arith}
use native.Mathlib.Decide.{ℕ_discrete}
use native.Mathlib.Numerals.{add-one}
use lib.ListN.{length, get_or, set, take, drop, replicate, length-set, length-replicate, drop_of_length-le}
use lib.Seq.{drop-cons, drop-drop, get_or-set_same, get_or-set_other}
use lib.Dec.{eqb}
use borrow.Author.Tests.{eq-eqb, ne_eqb}
use Rattle.words.specs.Lists.{pick, any, All, has, twice, parts}
use Rattle.words.proofs.Lists.{All-to, any_false, All-of, same_at}

-- a number that is seen, or stands twice in the list
pub clashes : List Bool → List ℕ → Bool
clashes s [] = false
clashes s (k ∷ ks) = pick (get_or s k false) true (clashes (set s k true) ks)

module _ (s : List Bool) (ks : List ℕ) (i : ℕ) where
  pub clash-turn : i < length ks → get_or s (get_or ks i 0) false ≡ false → clashes s (drop i ks) ≡ clashes (set s (get_or ks i 0) true) (drop (i + 1) ks)
  unfolding clashes
  clash-turn h e = rw (add-one, drop-cons ks i 0 h, e)

  pub clash-found : i < length ks → get_or s (get_or ks i 0) false ≡ true → clashes s (drop i ks) ≡ true
  unfolding clashes
  clash-found h e = rw (drop-cons ks i 0 h, e)

  pub clash-end : length ks ≤ i → clashes s (drop i ks) ≡ false
  unfolding clashes
  clash-end h = rw (drop_of_length-le ks h)

seen : List Bool → List ℕ → Bool
seen s ks = any (λ (j : ℕ). get_or s j false) ks

one_seen : (s : List Bool) (k j : ℕ) → k < length s → get_or (set s k true) j false ≡ pick (eqb k j) true (get_or s j false)
one_seen s k j h = go (ℕ_discrete k j)
  where
    go : Dec (k ≡ j) → get_or (set s k true) j false ≡ pick (eqb k j) true (get_or s j false)
    go (yes e) = rw (eq-eqb k j e, ← e) (get_or-set_same s k true false h)
    go (no n) = rw (ne_eqb k j n) (get_or-set_other s k j true false (λ e. n (sym e)))

or_swap : (a g b h : Bool) → pick (pick a true g) true (pick b true h) ≡ pick (pick a true b) true (pick g true h)
or_swap true g b h = refl
or_swap false true true h = refl
or_swap false true false h = refl
or_swap false false b h = refl

seen-set : (s : List Bool) (k : ℕ) → k < length s → (ks : List ℕ) → seen (set s k true) ks ≡ pick (has k ks) true (seen s ks)
unfolding seen
seen-set s k h [] = refl
seen-set s k h (j ∷ ks) = rw (one_seen s k j h, seen-set s k h ks) (or_swap (eqb k j) (get_or s j false) (has k ks) (any (λ (j : ℕ). get_or s j false) ks))

or_turn : (g h r t : Bool) → pick g true (pick (pick h true r) true t) ≡ pick (pick g true r) true (pick h true t)
or_turn true h r t = refl
or_turn false true true t = refl
or_turn false true false t = refl
or_turn false false r t = refl

clash-is : (s : List Bool) (ks : List ℕ) → All (λ (k : ℕ). k < length s) ks → clashes s ks ≡ pick (seen s ks) true (twice ks)
unfolding clashes seen
clash-is s [] a = refl
clash-is s (k ∷ ks) a =
    rw (clash-is (set s k true) ks (All-to (λ (j : ℕ). j < length s) (λ (j : ℕ). j < length (set s k true)) (λ j h. omega (arith, length-set s k true)) ks a.1), seen-set s k a.0 ks)
    (or_turn (get_or s k false) (has k ks) (any (λ (j : ℕ). get_or s j false) ks) (twice ks))

-- with nothing seen, what clashes stands twice
pub clash-twice : (n : ℕ) (ks : List ℕ) → All (λ (k : ℕ). k < n) ks → clashes (replicate n false) ks ≡ twice ks
unfolding seen
clash-twice n ks a =
    clash-is (replicate n false) ks (All-to (λ (j : ℕ). j < n) (λ (j : ℕ). j < length (replicate n false)) (λ j h. omega (arith, length-replicate n false)) ks a)
    ∙ ap (λ (b : Bool). pick b true (twice ks)) (any_false (λ (j : ℕ). get_or (replicate n false) j false) ks (All-of (λ (j : ℕ). get_or (replicate n false) j false ≡ false) 0 ks (λ i h. same_at n (get_or ks i 0) false)))

-- the parts of a list from part a on, which begins at `from`
module _ {A : Type 0} (f : List A → Bool) (cs : List ℕ) (xs : List A) (a from : ℕ) where
  pub parts-turn : a < length cs → f (take (get_or cs a 0) (drop from xs)) ≡ false → any f (parts (drop a cs) (drop from xs)) ≡ any f (parts (drop (a + 1) cs) (drop (from + get_or cs a 0) xs))
  parts-turn h e = rw (add-one, drop-cons cs a 0 h, e, drop-drop)

  pub parts-found : a < length cs → f (take (get_or cs a 0) (drop from xs)) ≡ true → any f (parts (drop a cs) (drop from xs)) ≡ true
  parts-found h e = rw (drop-cons cs a 0 h, e)

  pub parts-end : length cs ≤ a → any f (parts (drop a cs) (drop from xs)) ≡ false
  parts-end h = rw (drop_of_length-le cs h)

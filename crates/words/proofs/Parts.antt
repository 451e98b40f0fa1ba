-- A list cut: a part of it, all parts of given lengths, pairs; their lengths, and what stands in them. Assumes nothing.
use Prim.Native.Nat.{ℕ, zero, suc, ◌+◌, ◌*◌, ◌/◌, ◌≤◌, ◌<◌}
use mathlib.Core.Logic.{◌⊎◌, inl, inr}
use mathlib.Core.Path.{◌≡◌, refl, ap, subst₂, ◌∙◌}
use mathlib.Core.List.{List, [], ◌∷◌}
use native.Mathlib.Omega.{arith}
use lib.ListN.{length, get_or, take, drop, length-take, length-drop}
use lib.Seq.{get_or-take, get_or-drop}
use Rattle.words.specs.Lists.{All, In, here, there, total, pair_up, parts}
use Rattle.words.proofs.Lists.{All-take, All-drop}

-- n elements from element `from` on
module _ {A : Type 0} (xs : List A) (from n : ℕ) where
  pub cut-length : from + n ≤ length xs → length (take n (drop from xs)) ≡ n
  cut-length h = simp (length-take, length-drop) (omega arith)

  pub cut_at : (i : ℕ) (d : A) → i < n → get_or (take n (drop from xs)) i d ≡ get_or xs (from + i) d
  cut_at i d h = get_or-take n (drop from xs) i d h ∙ get_or-drop from xs i d

  pub cut_short : (i : ℕ) → n ≤ i → length (take n (drop from xs)) ≤ i
  cut_short i h = simp length-take (omega arith)

-- pairs of a list of numbers
pub length_pairs : (xs : List ℕ) → length (pair_up xs) ≡ length xs / 2
length_pairs [] = refl
length_pairs (x ∷ []) = refl
length_pairs (x ∷ y ∷ r) = omega (arith, length_pairs r)

pub pair-at : (xs : List ℕ) (j : ℕ) → j < length (pair_up xs) → get_or (pair_up xs) j (0, 0) ≡ (get_or xs (2 * j) 0, get_or xs (2 * j + 1) 0)
pair-at [] j h = absurd (omega arith)
pair-at (x ∷ []) j h = absurd (omega arith)
pair-at (x ∷ y ∷ r) zero h = refl
pair-at (x ∷ y ∷ r) (suc j) h =
    subst₂ (λ (a b : ℕ). get_or (pair_up r) j (0, 0) ≡ (get_or (x ∷ y ∷ r) a 0, get_or (x ∷ y ∷ r) b 0))
    (twice-suc (2 * j) (2 * suc j) (omega arith)) (twice-suc (2 * j + 1) (2 * suc j + 1) (omega arith)) (pair-at r j (omega arith))
  where
    twice-suc : (n m : ℕ) → suc (suc n) ≡ m → suc (suc n) ≡ m
    twice-suc n m e = e

-- the sum of the lengths
abbrev pub sum : List ℕ → ℕ
sum ns = total (λ (n : ℕ). n) ns

module _ {A : Type 0} where
  pub length-parts : (ns : List ℕ) (xs : List A) → length (parts ns xs) ≡ length ns
  length-parts [] xs = refl
  length-parts (n ∷ ns) xs = ap suc (length-parts ns (drop n xs))

  pub part_length : (ns : List ℕ) (xs : List A) → sum ns ≤ length xs → (a : ℕ) → a < length ns → length (get_or (parts ns xs) a []) ≡ get_or ns a 0
  part_length [] xs s a h = absurd (omega arith)
  part_length (n ∷ ns) xs s zero h = simp length-take (omega arith)
  part_length (n ∷ ns) xs s (suc a) h = part_length ns (drop n xs) (simp length-drop (omega arith)) a (omega arith)

  pub All-parts : (P : A → Type 0) (ns : List ℕ) (xs : List A) → All P xs → All (λ (r : List A). All P r) (parts ns xs)
  All-parts P [] xs a = tt
  All-parts P (n ∷ ns) xs a = (All-take P n xs a, All-parts P ns (drop n xs) (All-drop P n xs a))

  in_take : (n : ℕ) (xs : List A) (x : A) → In x (take n xs) → In x xs
  in_take zero xs x i = elim i [ ]
  in_take (suc n) [] x i = elim i [ ]
  in_take (suc n) (y ∷ xs) x here = here
  in_take (suc n) (y ∷ xs) x (there i) = there (in_take n xs x i)

  in-drop : (n : ℕ) (xs : List A) (x : A) → In x (drop n xs) → In x xs
  in-drop zero xs x i = i
  in-drop (suc n) [] x i = elim i [ ]
  in-drop (suc n) (y ∷ xs) x i = there (in-drop n xs x i)

  in_cut : (n : ℕ) (xs : List A) (x : A) → In x xs → In x (take n xs) ⊎ In x (drop n xs)
  in_cut zero xs x i = inr i
  in_cut (suc n) [] x i = elim i [ ]
  in_cut (suc n) (y ∷ xs) x here = inl here
  in_cut (suc n) (y ∷ xs) x (there i) = go (in_cut n xs x i)
    where
      go : In x (take n xs) ⊎ In x (drop n xs) → In x (y ∷ take n xs) ⊎ In x (drop n xs)
      go (inl j) = inl (there j)
      go (inr j) = inr j

  -- an element of a part is an element of the list
  pub in_whole : (ns : List ℕ) (xs : List A) (a : ℕ) (x : A) → In x (get_or (parts ns xs) a []) → In x xs
  in_whole [] xs a x i = elim i [ ]
  in_whole (n ∷ ns) xs zero x i = in_take n xs x i
  in_whole (n ∷ ns) xs (suc a) x i = in-drop n xs x (in_whole ns (drop n xs) a x i)

  -- an element of a list that is cut up whole is in some part
  pub record Part (ns : List ℕ) (xs : List A) (x : A) : Type 0 where
    pub which : ℕ
    pub known : which < length ns
    pub «in» : In x (get_or (parts ns xs) which [])

  pub in-part : (ns : List ℕ) (xs : List A) (x : A) → sum ns ≡ length xs → In x xs → Part ns xs x
  in-part [] [] x s i = elim i [ ]
  in-part [] (y ∷ xs) x s i = absurd (omega arith)
  in-part (n ∷ ns) xs x s i = go (in_cut n xs x i) (in-part ns (drop n xs) x (simp length-drop (omega arith)))
    where
      go : In x (take n xs) ⊎ In x (drop n xs) → (In x (drop n xs) → Part ns (drop n xs) x) → Part (n ∷ ns) xs x
      go (inl j) r = record { which = 0; known = omega arith; «in» = j }
      go (inr j) r = let p = r j in record { which = suc p.which; known = omega arith; «in» = p.«in» }

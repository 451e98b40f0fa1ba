-- The look-up words: each arc stands at its activity and its kind. Assumes nothing.
use Prim.Native.Nat.{ℕ, zero, suc, ◌+◌, ◌*◌, ◌≤◌, ◌<◌}
use mathlib.Core.Bool.{Bool, true, false}
use mathlib.Core.Path.{◌≡◌, refl, ap, sym, ◌∙◌}
use mathlib.Core.List.{List, [], ◌∷◌, map}
use native.Mathlib.Omega.{arith}
use lib.ListN.{length, get_or, take, drop, set, length-set}
use lib.Seq.{get_or-set_same, get_or-set_other}
use lib.Dec.{eqb}
use borrow.Author.Tests.{eqb-true, eqb-false, eq-eqb, ne_eqb}
use mathlib.Core.Logic.{inl}
use Rattle.words.specs.Lists.{pick, All, has, twice}
use Rattle.words.proofs.Lists.{clash}
use Rattle.words.proofs.Sets.{view-set}
use Rattle.net.specs.Net.{Arc, arc_of}
use Rattle.net.specs.Held.{pack, index_row, index_rows}

module _ (kind_of : ℕ → ℕ) where
  -- the kinds of arcs
  abbrev kinds : List Arc → List ℕ
  kinds xs = map (λ (x : Arc). kind_of x.0) xs

  abbrev Small : List Arc → Type 0
  Small xs = All (λ (x : Arc). kind_of x.0 < 8) xs

  pub row-length : (base : ℕ) (xs : List Arc) (w : List ℕ) → length (index_row kind_of base xs w) ≡ length w
  row-length base [] w = refl
  row-length base (x ∷ xs) w = row-length base xs (set w (base + kind_of x.0) (pack x)) ∙ length-set w (base + kind_of x.0) (pack x)

  pub rows-length : (base : ℕ) (rs : List (List Arc)) (w : List ℕ) → length (index_rows kind_of base rs w) ≡ length w
  rows-length base [] w = refl
  rows-length base (r ∷ rs) w = rows-length (base + 8) rs (index_row kind_of base r w) ∙ row-length base r w

  -- words before the index
  row-view : (base : ℕ) (xs : List Arc) (w : List ℕ) (s n : ℕ) → s + n ≤ base → take n (drop s (index_row kind_of base xs w)) ≡ take n (drop s w)
  row-view base [] w s n h = refl
  row-view base (x ∷ xs) w s n h =
      row-view base xs (set w (base + kind_of x.0) (pack x)) s n h ∙ view-set w s n (base + kind_of x.0) (pack x) (inl (omega arith))

  pub rows-view : (base : ℕ) (rs : List (List Arc)) (w : List ℕ) (s n : ℕ) → s + n ≤ base → take n (drop s (index_rows kind_of base rs w)) ≡ take n (drop s w)
  rows-view base [] w s n h = refl
  rows-view base (r ∷ rs) w s n h = rows-view (base + 8) rs (index_row kind_of base r w) s n (omega arith) ∙ row-view base r w s n h

  row_before : (base : ℕ) (xs : List Arc) (w : List ℕ) (j : ℕ) → j < base → get_or (index_row kind_of base xs w) j 0 ≡ get_or w j 0
  row_before base [] w j h = refl
  row_before base (x ∷ xs) w j h =
      row_before base xs (set w (base + kind_of x.0) (pack x)) j h ∙ get_or-set_other w (base + kind_of x.0) j (pack x) 0 (λ e. omega arith)

  pub rows_before : (base : ℕ) (rs : List (List Arc)) (w : List ℕ) (j : ℕ) → j < base → get_or (index_rows kind_of base rs w) j 0 ≡ get_or w j 0
  rows_before base [] w j h = refl
  rows_before base (r ∷ rs) w j h = rows_before (base + 8) rs (index_row kind_of base r w) j (omega arith) ∙ row_before base r w j h

  -- words behind an activity's eight
  row-behind : (base : ℕ) (xs : List Arc) (w : List ℕ) (j : ℕ) → Small xs → base + 8 ≤ j → get_or (index_row kind_of base xs w) j 0 ≡ get_or w j 0
  row-behind base [] w j a h = refl
  row-behind base (x ∷ xs) w j a h =
      row-behind base xs (set w (base + kind_of x.0) (pack x)) j a.1 h
      ∙ get_or-set_other w (base + kind_of x.0) j (pack x) 0 (λ e. omega (arith, a.0))

  -- a kind that no arc has
  row-none : (base : ℕ) (xs : List Arc) (w : List ℕ) (k : ℕ) → has k (kinds xs) ≡ false → get_or (index_row kind_of base xs w) (base + k) 0 ≡ get_or w (base + k) 0
  row-none base [] w k e = refl
  row-none base (x ∷ xs) w k e = go (eqb k (kind_of x.0)) refl e (row-none base xs (set w (base + kind_of x.0) (pack x)) k)
    where
      go : (t : Bool) → eqb k (kind_of x.0) ≡ t → pick t true (has k (kinds xs)) ≡ false
          → (has k (kinds xs) ≡ false → get_or (index_row kind_of base xs (set w (base + kind_of x.0) (pack x))) (base + k) 0 ≡ get_or (set w (base + kind_of x.0) (pack x)) (base + k) 0)
          → get_or (index_row kind_of base xs (set w (base + kind_of x.0) (pack x))) (base + k) 0 ≡ get_or w (base + k) 0
      go true q e r = clash e
      go false q e r = r e ∙ get_or-set_other w (base + kind_of x.0) (base + k) (pack x) 0 (λ z. eqb-false k (kind_of x.0) q (omega arith))

  -- a kind that one arc has
  row-some : (base : ℕ) (xs : List Arc) (w : List ℕ) (k : ℕ) → Small xs → base + 8 ≤ length w → twice (kinds xs) ≡ false → has k (kinds xs) ≡ true
      → get_or (index_row kind_of base xs w) (base + k) 0 ≡ pack (arc_of kind_of k xs)
  row-some base [] w k a l u e = clash (sym e)
  row-some base (x ∷ xs) w k a l u e =
      go (eqb k (kind_of x.0)) refl e (has (kind_of x.0) (kinds xs)) refl u
      (row-some base xs (set w (base + kind_of x.0) (pack x)) k a.1 (omega (arith, length-set w (base + kind_of x.0) (pack x))))
    where
      go : (t : Bool) → eqb k (kind_of x.0) ≡ t → pick t true (has k (kinds xs)) ≡ true
          → (s : Bool) → has (kind_of x.0) (kinds xs) ≡ s → pick s true (twice (kinds xs)) ≡ false
          → (twice (kinds xs) ≡ false → has k (kinds xs) ≡ true → get_or (index_row kind_of base xs (set w (base + kind_of x.0) (pack x))) (base + k) 0 ≡ pack (arc_of kind_of k xs))
          → get_or (index_row kind_of base xs (set w (base + kind_of x.0) (pack x))) (base + k) 0 ≡ pack (pick (eqb (kind_of x.0) k) x (arc_of kind_of k xs))
      go t q e true z u r = clash u
      go true q e false z u r =
          let i : k ≡ kind_of x.0 = eqb-true _ _ q in
          rw (i, eq-eqb (kind_of x.0) (kind_of x.0) refl)
          (row-none base xs (set w (base + kind_of x.0) (pack x)) (kind_of x.0) z
          ∙ get_or-set_same w (base + kind_of x.0) (pack x) 0 (omega (arith, a.0)))
      go false q e false z u r = rw (ne_eqb (kind_of x.0) k (λ i. eqb-false _ _ q (sym i))) (r u e)

  row_at : (base : ℕ) (xs : List Arc) (w : List ℕ) (k : ℕ) → Small xs → base + 8 ≤ length w → twice (kinds xs) ≡ false → get_or w (base + k) 0 ≡ 0
      → get_or (index_row kind_of base xs w) (base + k) 0 ≡ pick (has k (kinds xs)) (pack (arc_of kind_of k xs)) 0
  row_at base xs w k a l u z = go (has k (kinds xs)) refl
    where
      go : (t : Bool) → has k (kinds xs) ≡ t → get_or (index_row kind_of base xs w) (base + k) 0 ≡ pick t (pack (arc_of kind_of k xs)) 0
      go true e = row-some base xs w k a l u e
      go false e = row-none base xs w k e ∙ z

  -- the look-up word of activity a and kind k
  pub rows_at : (base : ℕ) (rs : List (List Arc)) (w : List ℕ) → All Small rs → All (λ (r : List Arc). twice (kinds r) ≡ false) rs
      → base + 8 * length rs ≤ length w → ((j : ℕ) → base ≤ j → get_or w j 0 ≡ 0)
      → (a k : ℕ) → a < length rs → k < 8
      → get_or (index_rows kind_of base rs w) (base + 8 * a + k) 0 ≡ pick (has k (kinds (get_or rs a []))) (pack (arc_of kind_of k (get_or rs a []))) 0
  rows_at base [] w s u l z a k h g = absurd (omega arith)
  rows_at base (r ∷ rs) w s u l z zero k h g =
      let i : base + 8 * 0 + k ≡ base + k = omega arith in
      ap (λ (j : ℕ). get_or (index_rows kind_of (base + 8) rs (index_row kind_of base r w)) j 0) i
      ∙ rows_before (base + 8) rs (index_row kind_of base r w) (base + k) (omega arith)
      ∙ row_at base r w k s.0 (omega arith) u.0 (z (base + k) (omega arith))
  rows_at base (r ∷ rs) w s u l z (suc a) k h g =
      let i : base + 8 * suc a + k ≡ base + 8 + 8 * a + k = omega arith in
      ap (λ (j : ℕ). get_or (index_rows kind_of (base + 8) rs (index_row kind_of base r w)) j 0) i
      ∙ rows_at (base + 8) rs (index_row kind_of base r w) s.1 u.1 (omega (arith, row-length base r w))
      (λ j q. row-behind base r w j s.0 q ∙ z j (omega arith)) a k (omega arith) g

  -- what holds of every arc holds of the arc of a kind
  pub arc-has : (P : Arc → Type 0) (k : ℕ) (xs : List Arc) → All P xs → has k (kinds xs) ≡ true → P (arc_of kind_of k xs)
  arc-has P k [] a e = clash (sym e)
  arc-has P k (x ∷ xs) a e = go (eqb k (kind_of x.0)) refl e (arc-has P k xs a.1)
    where
      go : (t : Bool) → eqb k (kind_of x.0) ≡ t → pick t true (has k (kinds xs)) ≡ true → (has k (kinds xs) ≡ true → P (arc_of kind_of k xs))
          → P (pick (eqb (kind_of x.0) k) x (arc_of kind_of k xs))
      go true q e r = rw (eq-eqb (kind_of x.0) k (sym (eqb-true _ _ q))) a.0
      go false q e r = rw (ne_eqb (kind_of x.0) k (λ i. eqb-false _ _ q (sym i))) (r e)

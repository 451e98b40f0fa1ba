-- The look-up words: what is left to store after i arcs of a row, and after a rows; and the words before them, which stay.
-- Assumes nothing.
use Prim.Native.Nat.{ℕ, ◌+◌, ◌*◌, ◌≤◌, ◌<◌}
use native.Mathlib.Numerals.{add-one}
use native.Mathlib.Omega.{arith}
use mathlib.Core.Logic.{inl}
use mathlib.Core.Path.{◌≡◌, refl, ap, sym, ◌∙◌}
use mathlib.Core.List.{List, [], ◌∷◌}
use lib.ListN.{length, get_or, set, take, drop, length-set, drop_of_length-le}
use lib.Seq.{drop-cons, drop-drop, get_or-set_other}
use Rattle.words.specs.Lists.{pair_up, parts, total}
use Rattle.words.proofs.Scan.{total-turn}
use Rattle.words.proofs.Sets.{view-set}
use Rattle.net.specs.Net.{Arc}
use Rattle.net.specs.Held.{ends_in, places_in, counts_in, arcs_in, net_in, pack, index_row, index_rows, Sized}
use Rattle.net.specs.Ruled.{Ruled}
use Rattle.net.proofs.Views.{counts-length, count_at}
use Rattle.net_routes.proofs.RuledWords.{kind-small, inp-known, inp-small, out-small}
use Rattle.net.proofs.IndexLaws.{rows-length, rows-view, rows_before}

module _ (kind_of : ℕ → ℕ) (base : ℕ) (row : List Arc) (i : ℕ) (t : List ℕ) where
  pub row_more : (x : Arc) → i < length row → get_or row i (0, 0) ≡ x → index_row kind_of base (drop (i + 1) row) (set t (base + kind_of x.0) (pack x)) ≡ index_row kind_of base (drop i row) t
  row_more x h e = rw (add-one, drop-cons row i (0, 0) h, ← e)

  pub row-end : length row ≤ i → index_row kind_of base (drop i row) t ≡ t
  row-end h = rw (drop_of_length-le row h)

module _ (kind_of : ℕ → ℕ) (cs : List ℕ) (xs : List Arc) (a from base : ℕ) (t : List ℕ) where
  pub rows_more : a < length cs → index_rows kind_of (base + 8) (parts (drop (a + 1) cs) (drop (from + get_or cs a 0) xs)) (index_row kind_of base (take (get_or cs a 0) (drop from xs)) t) ≡ index_rows kind_of base (parts (drop a cs) (drop from xs)) t
  rows_more h = rw (add-one, drop-cons cs a 0 h, drop-drop)

  pub rows_end : length cs ≤ a → index_rows kind_of base (parts (drop a cs) (drop from xs)) t ≡ t
  rows_end h = rw (drop_of_length-le cs h)

-- the words v are those of w but for the look-up words
pub record Same (v w : List ℕ) : Type 0 where
  pub size : length v ≡ length w
  pub word : (j : ℕ) → j < 1172 → get_or v j 0 ≡ get_or w j 0
  pub view : (s n : ℕ) → s + n ≤ 1172 → take n (drop s v) ≡ take n (drop s w)

pub same_start : (w : List ℕ) → Same w w
same_start w = record { size = refl; word = λ j h. refl; view = λ s n h. refl }

-- one look-up word is stored
pub same_set : (v w : List ℕ) (i x : ℕ) → 1172 ≤ i → Same v w → Same (set v i x) w
same_set v w i x h S =
    record {
      size = length-set v i x ∙ S.size;
      word = λ j l. get_or-set_other v i j x 0 (λ e. omega arith) ∙ S.word j l;
      view = λ s n l. view-set v s n i x (inl (omega arith)) ∙ S.view s n l;
    }

-- those of an activity are stored
pub same_row : (kind_of : ℕ → ℕ) (base : ℕ) (r : List Arc) (v w : List ℕ) → 1172 ≤ base → Same v w → Same (index_row kind_of base r v) w
same_row kind_of base r v w h S =
    record {
      size = rows-length kind_of base (r ∷ []) v ∙ S.size;
      word = λ j l. rows_before kind_of base (r ∷ []) v j (omega arith) ∙ S.word j l;
      view = λ s n l. rows-view kind_of base (r ∷ []) v s n (omega arith) ∙ S.view s n l;
    }

-- they hold the same net, to which none of 4 to 7 applies
module _ (v w : List ℕ) (S : Same v w) (R : Ruled w) where
  same_ends : ends_in v ≡ ends_in w
  unfolding ends_in
  same_ends = ap (λ (n : ℕ). take (2 * n) (drop 4 v)) (S.word 0 (omega arith)) ∙ S.view 4 (2 * get_or w 0 0) (omega (arith, R.sized.kinds))

  same-places : places_in v ≡ places_in w
  unfolding places_in
  same-places = ap (λ (n : ℕ). take n (drop 20 v)) (S.word 1 (omega arith)) ∙ S.view 20 (get_or w 1 0) (omega (arith, R.sized.places))

  pub same-counts : counts_in v ≡ counts_in w
  unfolding counts_in
  same-counts = ap (λ (n : ℕ). take n (drop 84 v)) (S.word 2 (omega arith)) ∙ S.view 84 (get_or w 2 0) (omega (arith, R.sized.acts))

  pub same-arcs : arcs_in v ≡ arcs_in w
  unfolding arcs_in
  same-arcs = ap (λ (n : ℕ). take (2 * n) (drop 148 v)) (S.word 3 (omega arith)) ∙ S.view 148 (2 * get_or w 3 0) (omega (arith, R.arcs-few))

  pub same-net : net_in v ≡ net_in w
  unfolding net_in
  same-net = rw (same_ends, same-places, same-counts, same-arcs)

  pub same-ruled : Ruled v
  same-ruled =
      record {
        sized = record { size = S.size ∙ R.sized.size; kinds = omega (arith, S.word 0 (omega arith), R.sized.kinds); places = omega (arith, S.word 1 (omega arith), R.sized.places); acts = omega (arith, S.word 2 (omega arith), R.sized.acts) };
        places = rw (same-net, same-places) R.places;
        ends = rw same-net R.ends;
        counts = rw same-counts R.counts;
        sum = rw (same-counts, S.word 3 (omega arith)) R.sum;
        arcs-few = omega (arith, S.word 3 (omega arith), R.arcs-few);
        arcs = rw (same-net, same-arcs) R.arcs;
      }

  -- what the code reads of them
  pub same-sized : Sized v
  same-sized = same-ruled.sized

  pub same-few : (get_or v 3 0 ≡ get_or w 3 0) × (get_or v 3 0 ≤ 512)
  same-few = (S.word 3 (omega arith), same-ruled.arcs-few)

  pub same-kind : (p : ℕ) → get_or (places_in v) p 0 ≡ (net_in w).kind_of p
  unfolding net_in
  same-kind p = ap (λ (ps : List ℕ). get_or ps p 0) same-places

  pub same-kind-small : (p : ℕ) → p < length (places_in v) → get_or (places_in v) p 0 < 8
  same-kind-small = kind-small v same-ruled

  pub same-inp-known : (j : ℕ) → j < get_or w 3 0 → (get_or (pair_up (arcs_in v)) j (0, 0)).0 < length (places_in v)
  same-inp-known j h = inp-known v same-ruled j (omega (arith, same-few))

  pub same-inp-small : (j : ℕ) → j < get_or w 3 0 → (get_or (pair_up (arcs_in v)) j (0, 0)).0 < 64
  same-inp-small j h = inp-small v same-ruled j (omega (arith, same-few))

  pub same-out-small : (j : ℕ) → j < get_or w 3 0 → (get_or (pair_up (arcs_in v)) j (0, 0)).1 < 64
  same-out-small j h = out-small v same-ruled j (omega (arith, same-few))

  pub same-count : (a : ℕ) → a < get_or w 2 0 → get_or v (84 + a) 0 ≡ get_or (counts_in w) a 0
  same-count a h = S.word (84 + a) (omega (arith, h, R.sized.acts)) ∙ sym (count_at w R.sized a h)

  pub rows-left : (a : ℕ) → a < get_or w 2 0 → get_or (counts_in w) a 0 + total (λ (n : ℕ). n) (drop (a + 1) (counts_in w)) ≡ total (λ (n : ℕ). n) (drop a (counts_in w))
  rows-left a h = total-turn (λ (n : ℕ). n) (counts_in w) 0 a (omega (arith, h, counts-length w R.sized))

pub ruleset indexed = (same-ruled, same-sized, same-few, same-kind-small, same-inp-known, same-inp-small, same-out-small)

-- What words to whose bodies none of 3 to 7 applies hold, by index. Assumes nothing.
use Prim.Native.Nat.{ℕ, ◌+◌, ◌≤◌, ◌<◌}
use mathlib.Core.Path.{◌≡◌, refl, ap, ◌∙◌}
use mathlib.Core.List.{List}
use native.Mathlib.Omega.{arith}
use lib.ListN.{length, get_or, set, take, drop, replicate, length-map}
use borrow.Author.Tests.{leb-false}
use Rattle.words.specs.Lists.{pick, All, pair_up}
use Rattle.words.proofs.Lists.{any_none, All-at, All-of, map_at}
use Rattle.words.proofs.Search.{clash-turn, clash-found, clash-end}
use Rattle.words.proofs.Parts.{cut-length, cut_at}
use Rattle.net.specs.Net.{Arc, GoodArc, kinds_of}
use Rattle.net.specs.Table.{pass, passes, marked}
use Rattle.net.specs.Held.{net_in, places_in, arcs_in}
use Rattle.net.specs.Ruled.{Ruled, source_marks}
use Rattle.net.proofs.Views.{kinds-is, places-length, places_is, place_at, arcs-length}
use Rattle.net.proofs.Marks.{joint-is, pass-turn, pass-end, passes-turn, passes-end, passes_stay}
use Rattle.net.proofs.Promise.{Ends, ends-good, arcs-good}
use lib.Dec.{leb, eqb}

module _ (w : List ℕ) (R : Ruled w) where
  pub good-arcs : All (GoodArc (net_in w)) (pair_up (arcs_in w))
  good-arcs = arcs-good (net_in w) (pair_up (arcs_in w)) R.arcs

  pub good-ends : (k : ℕ) → k < (net_in w).kinds → Ends (net_in w) k
  good-ends = ends-good (net_in w) R.ends

  pub kind-in : (p : ℕ) → p < get_or w 1 0 → get_or w (20 + p) 0 < get_or w 0 0
  kind-in p h =
      let a : get_or (places_in w) p 0 < (net_in w).kinds = All-at (λ (k : ℕ). k < (net_in w).kinds) 0 (places_in w)
      (any_none (λ (k : ℕ). leb (net_in w).kinds k) (λ (k : ℕ). k < (net_in w).kinds) (λ k e. leb-false _ _ e) (places_in w) R.places)
      p (omega (arith, places-length w R.sized)) in
      omega (arith, a, place_at w R.sized p h, kinds-is w R.sized)

  pub kind-small : (p : ℕ) → p < length (places_in w) → get_or (places_in w) p 0 < 8
  kind-small p h =
      omega (arith, R.sized.kinds, kinds-is w R.sized, All-at (λ (k : ℕ). k < (net_in w).kinds) 0 (places_in w) (any_none (λ (k : ℕ). leb (net_in w).kinds k) (λ (k : ℕ). k < (net_in w).kinds) (λ k e. leb-false _ _ e) (places_in w) R.places) p h)

  -- arc j joins two known places
  good-arc : (j : ℕ) → j < get_or w 3 0 → GoodArc (net_in w) (get_or (pair_up (arcs_in w)) j (0, 0))
  good-arc j h = All-at (GoodArc (net_in w)) (0, 0) (pair_up (arcs_in w)) good-arcs j (omega (arith, arcs-length w R.sized R.arcs-few))

  pub inp-known : (j : ℕ) → j < get_or w 3 0 → (get_or (pair_up (arcs_in w)) j (0, 0)).0 < length (places_in w)
  unfolding net_in
  inp-known j h = (good-arc j h).inp

  pub out-known : (j : ℕ) → j < get_or w 3 0 → (get_or (pair_up (arcs_in w)) j (0, 0)).1 < length (places_in w)
  unfolding net_in
  out-known j h = (good-arc j h).out

  -- they, and both ends of each kind, are among 64 marks
  pub inp-small : (j : ℕ) → j < get_or w 3 0 → (get_or (pair_up (arcs_in w)) j (0, 0)).0 < 64
  inp-small j h = omega (arith, inp-known j h, places-length w R.sized, R.sized.places)

  pub out-small : (j : ℕ) → j < get_or w 3 0 → (get_or (pair_up (arcs_in w)) j (0, 0)).1 < 64
  out-small j h = omega (arith, out-known j h, places-length w R.sized, R.sized.places)

  pub source-small : (k : ℕ) → k < (net_in w).kinds → (net_in w).source k < 64
  source-small k h = omega (arith, (good-ends k h).source_in, places_is w R.sized, R.sized.places)

  pub sink-small : (k : ℕ) → k < (net_in w).kinds → (net_in w).sink k < 64
  sink-small k h = omega (arith, (good-ends k h).sink-in, places_is w R.sized, R.sized.places)

  -- the kinds of the n arcs from arc `from` on
  module _ (from n : ℕ) (h : from + n ≤ get_or w 3 0) where
    abbrev row : List Arc
    row = take n (drop from (pair_up (arcs_in w)))

    row-size : length row ≡ n
    row-size = cut-length (pair_up (arcs_in w)) from n (omega (arith, arcs-length w R.sized R.arcs-few))

    pub row-length : length (kinds_of (net_in w) row) ≡ n
    row-length = length-map row (λ (x : Arc). (net_in w).kind_of x.0) ∙ row-size

    pub row_at : (i : ℕ) → i < n → get_or (kinds_of (net_in w) row) i 0 ≡ get_or (places_in w) (get_or (pair_up (arcs_in w)) (from + i) (0, 0)).0 0
    unfolding net_in
    row_at i l =
        map_at (λ (x : Arc). get_or (places_in w) x.0 0) (0, 0) 0 row i (omega (arith, row-size))
        ∙ ap (λ (x : Arc). get_or (places_in w) x.0 0) (cut_at (pair_up (arcs_in w)) from n i (0, 0) l)

    pub row_in : All (λ (k : ℕ). k < 8) (kinds_of (net_in w) row)
    row_in = All-of (λ (k : ℕ). k < 8) 0 (kinds_of (net_in w) row)
        (λ i l. let known : i < n = omega (arith, l, row-length) in omega (arith, row_at i known, kind-small _ (inp-known (from + i) (omega arith))))

  -- the marks that begin with all sources say of each sink whether its own source reaches it
  pub sink-marked : (m : List ℕ) → m ≡ passes 64 (pair_up (arcs_in w)) (source_marks (net_in w) (replicate 64 0)) → (k : ℕ) → k < (net_in w).kinds →
      eqb (get_or m ((net_in w).sink k) 0) 1 ≡ marked (net_in w).places (pair_up (arcs_in w)) ((net_in w).source k) ((net_in w).sink k)
  sink-marked m e k h =
      ap (λ (m : List ℕ). eqb (get_or m ((net_in w).sink k) 0) 1) e
      ∙ joint-is (net_in w) (pair_up (arcs_in w)) (omega (arith, places_is w R.sized, R.sized.places)) (λ k h. (good-ends k h).source_in) (λ k h. (good-ends k h).source_of) good-arcs k h ((net_in w).sink k) (good-ends k h).sink-of

-- one arc of a pass, and none
pub pass_more : (xs : List Arc) (i : ℕ) (m : List ℕ) → i < length xs → pass (drop i xs) m ≡ pass (drop (i + 1) xs) (pick (eqb (get_or m (get_or xs i (0, 0)).0 0) 1) (set m (get_or xs i (0, 0)).1 1) m)
pass_more xs i m h = pass-turn xs i m (get_or xs i (0, 0)).0 (get_or xs i (0, 0)).1 h refl

pub ruleset passing = (pass_more, pass-end, arcs-length, inp-small, out-small)

pub ruleset all_passes = (passes-turn, passes-end, passes_stay)

pub ruleset rows = (row-length, row_at, clash-turn, clash-found, clash-end, kind-small, inp-known)

pub ruleset ruled = (kind-small, inp-known, inp-small, out-small, source-small, sink-small)

-- What stands where in words that hold a table's bodies. Assumes nothing.
use Prim.Native.Nat.{ℕ, ◌+◌, ◌*◌, ◌≤◌, ◌<◌}
use mathlib.Core.Path.{◌≡◌, ap, ap₂, ◌∙◌}
use mathlib.Core.List.{List}
use native.Mathlib.Omega.{arith}
use lib.ListN.{length, get_or}
use Rattle.words.specs.Lists.{pair_up}
use Rattle.words.proofs.Parts.{cut-length, cut_at, length_pairs, pair-at}
use Rattle.net.specs.Net.{Arc}
use Rattle.net.specs.Held.{ends_in, places_in, counts_in, arcs_in, net_in, Sized}

module _ (w : List ℕ) (S : Sized w) where
  pub ends-length : length (ends_in w) ≡ 2 * get_or w 0 0
  unfolding ends_in
  ends-length = cut-length w 4 (2 * get_or w 0 0) (omega (arith, S.size, S.kinds))

  pub kinds-is : (net_in w).kinds ≡ get_or w 0 0
  unfolding net_in
  kinds-is = omega (arith, length_pairs (ends_in w), ends-length)

  pub places-length : length (places_in w) ≡ get_or w 1 0
  unfolding places_in
  places-length = cut-length w 20 (get_or w 1 0) (omega (arith, S.size, S.places))

  pub places_is : (net_in w).places ≡ get_or w 1 0
  unfolding net_in
  places_is = places-length

  pub counts-length : length (counts_in w) ≡ get_or w 2 0
  unfolding counts_in
  counts-length = cut-length w 84 (get_or w 2 0) (omega (arith, S.size, S.acts))

  pub acts-is : (net_in w).acts ≡ get_or w 2 0
  unfolding net_in
  acts-is = counts-length

  pub place_at : (p : ℕ) → p < get_or w 1 0 → get_or (places_in w) p 0 ≡ get_or w (20 + p) 0
  unfolding places_in
  place_at p h = cut_at w 20 (get_or w 1 0) p 0 h

  pub kind_at : (p : ℕ) → p < get_or w 1 0 → (net_in w).kind_of p ≡ get_or w (20 + p) 0
  unfolding net_in
  kind_at p h = place_at p h

  pub count_at : (a : ℕ) → a < get_or w 2 0 → get_or (counts_in w) a 0 ≡ get_or w (84 + a) 0
  unfolding counts_in
  count_at a h = cut_at w 84 (get_or w 2 0) a 0 h

  end-at : (i : ℕ) → i < 2 * get_or w 0 0 → get_or (ends_in w) i 0 ≡ get_or w (4 + i) 0
  unfolding ends_in
  end-at i h = cut_at w 4 (2 * get_or w 0 0) i 0 h

  pub source-at : (k : ℕ) → k < get_or w 0 0 → (net_in w).source k ≡ get_or w (4 + 2 * k) 0
  unfolding net_in
  source-at k h = ap (λ (x : Arc). x.0) (pair-at (ends_in w) k (omega (arith, length_pairs (ends_in w), ends-length))) ∙ end-at (2 * k) (omega arith)

  pub sink-at : (k : ℕ) → k < get_or w 0 0 → (net_in w).sink k ≡ get_or w (5 + 2 * k) 0
  unfolding net_in
  sink-at k h = ap (λ (x : Arc). x.1) (pair-at (ends_in w) k (omega (arith, length_pairs (ends_in w), ends-length))) ∙ end-at (2 * k + 1) (omega arith) ∙ ap (λ (i : ℕ). get_or w i 0) (omega arith)

  module _ (few : get_or w 3 0 ≤ 512) where
    arcs-words : length (arcs_in w) ≡ 2 * get_or w 3 0
    unfolding arcs_in
    arcs-words = cut-length w 148 (2 * get_or w 3 0) (omega (arith, S.size))

    pub arcs-length : length (pair_up (arcs_in w)) ≡ get_or w 3 0
    arcs-length = omega (arith, length_pairs (arcs_in w), arcs-words)

    arc-word : (i : ℕ) → i < 2 * get_or w 3 0 → get_or (arcs_in w) i 0 ≡ get_or w (148 + i) 0
    unfolding arcs_in
    arc-word i h = cut_at w 148 (2 * get_or w 3 0) i 0 h

    pub arc-at : (j : ℕ) → j < get_or w 3 0 → get_or (pair_up (arcs_in w)) j (0, 0) ≡ (get_or w (148 + 2 * j) 0, get_or w (149 + 2 * j) 0)
    arc-at j h =
        pair-at (arcs_in w) j (omega (arith, arcs-length))
        ∙ ap₂ {C = Arc} (λ (a b : ℕ). (a, b)) (arc-word (2 * j) (omega arith)) (arc-word (2 * j + 1) (omega arith) ∙ ap (λ (i : ℕ). get_or w i 0) (omega arith))

pub ruleset views = (kinds-is, places_is, source-at, sink-at, arc-at)

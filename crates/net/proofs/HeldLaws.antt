-- Words that hold a loaded net: the net, the sizes, and the look-up words. Assumes nothing.
use Prim.Native.Nat.{ℕ, ◌+◌, ◌*◌, ◌/◌, ◌%◌, ◌≤◌, ◌<◌}
use mathlib.Core.Bool.{true, false}
use mathlib.Core.Path.{◌≡◌, refl, ap, sym, subst, ◌∙◌}
use mathlib.Core.List.{List, []}
use mathlib.Core.Logic.{∥∥₁_elim}
use native.Mathlib.Omega.{arith}
use native.Mathlib.Nat.{ℕ_set}
use native.Mathlib.Bridge.{le_prop}
use lib.ListN.{length, get_or}
use Rattle.words.specs.Lists.{pick, All, pair_up, parts, twice}
use Rattle.words.specs.Words.{body_of}
use Rattle.words.proofs.Lists.{All-of, All-to, is_eq}
use Rattle.words.specs.Refusals.{first}
use Rattle.words.proofs.Refusals.{first-zero, none-apply}
use Rattle.words.proofs.Parts.{sum, length-parts, part_length}
use Rattle.net.specs.Net.{Net, Arc, Loaded, GoodArc, takes, input_of, output_of, kinds_of}
use Rattle.net.specs.Table.{net_of, load_code, end_tests, arc_tests}
use Rattle.net.specs.Held.{ends_in, places_in, counts_in, arcs_in, net_in, pack, body_words, loaded_words, LoadedFrom, Held, Tabled, Sized}
use Rattle.net.proofs.Views.{counts-length, count_at}
use Rattle.net.proofs.Promise.{passed, taken-shape, promise, promise-from}
use Rattle.net.proofs.IndexLaws.{rows_at, arc-has}
use Rattle.net.proofs.BodyWords.{FitFront, FitArcs, Holds, body-words, no_words, indexed, ends-in, places-in, counts-in, arcs-in, net-in, sized}
use Rattle.net.proofs.Room.{fit-front, fit-arcs}
use Rattle.net.specs.Limits.{net_words}

-- the arcs of each activity
abbrev rows_of : List ℕ → List (List Arc)
rows_of b = parts (body_of b 2) (pair_up (body_of b 3))

module _ (b : List ℕ) (taken : load_code b ≡ 0) where
  all-arcs : sum (body_of b 2) ≡ length (pair_up (body_of b 3))
  all-arcs = is_eq _ _ (passed b taken).ends.1.1.1.0

  front : FitFront (body_of b 0) (body_of b 1) (body_of b 2)
  front = fit-front b (taken-shape b taken)

  arcs : FitArcs (body_of b 3)
  arcs = fit-arcs b (taken-shape b taken) (passed b taken).ends.1.1.0 all-arcs

  holds : Holds (body_of b 0) (body_of b 1) (body_of b 2) (body_of b 3) (loaded_words b)
  unfolding loaded_words
  holds =
      indexed (body_of b 0) (body_of b 1) (body_of b 2) (body_of b 3) front arcs (λ (p : ℕ). get_or (body_of b 1) p 0) (rows_of b) (body_words (body_of b 0) (body_of b 1) (body_of b 2) (body_of b 3))
      (body-words (body_of b 0) (body_of b 1) (body_of b 2) (body_of b 3) front arcs)

  -- what loading leaves holds the table's net
  pub loaded-tabled : (v : List ℕ) → v ≡ loaded_words b → Tabled v b
  unfolding net_of
  loaded-tabled v e =
      rw e (record {
        held = record { some = ∣ record { table = b; taken = taken; words = refl } ∣₁ };
        net = net-in (body_of b 0) (body_of b 1) (body_of b 2) (body_of b 3) front arcs (loaded_words b) holds;
        taken = taken;
      })

  loaded-sized : Sized (loaded_words b)
  loaded-sized = sized (body_of b 0) (body_of b 1) (body_of b 2) front (length (body_of b 3) / 2) (loaded_words b) holds.front

  loaded-arcs : (a : ℕ) → a < (net_in (loaded_words b)).acts → length ((net_in (loaded_words b)).arcs a) ≡ get_or (loaded_words b) (84 + a) 0
  unfolding net_in
  loaded-arcs a h =
      let c : counts_in (loaded_words b) ≡ body_of b 2 = counts-in (body_of b 0) (body_of b 1) (body_of b 2) front (length (body_of b 3) / 2) (loaded_words b) holds.front in
      let x : arcs_in (loaded_words b) ≡ body_of b 3 = arcs-in (body_of b 0) (body_of b 1) (body_of b 2) (body_of b 3) front arcs (loaded_words b) holds in
      part_length (counts_in (loaded_words b)) (pair_up (arcs_in (loaded_words b))) (rw (c, x) (omega (arith, all-arcs))) a h
      ∙ count_at (loaded_words b) loaded-sized a (omega (arith, counts-length (loaded_words b) loaded-sized))

  small : All (λ (r : List Arc). All (λ (x : Arc). get_or (body_of b 1) x.0 0 < 8) r) (rows_of b)
  unfolding net_of
  small =
      let L = promise b taken in
      All-of (λ (r : List Arc). All (λ (x : Arc). get_or (body_of b 1) x.0 0 < 8) r) [] (rows_of b)
      (λ i h. All-to (GoodArc (net_of b)) (λ (x : Arc). get_or (body_of b 1) x.0 0 < 8) (λ x g. omega (arith, L.kind-in x.0 g.inp, L.kinds-le)) (get_or (rows_of b) i [])
      (L.arc-good i (omega (arith, length-parts (body_of b 2) (pair_up (body_of b 3))))))

  once : All (λ (r : List Arc). twice (kinds_of (net_of b) r) ≡ false) (rows_of b)
  unfolding net_of
  once =
      All-of (λ (r : List Arc). twice (kinds_of (net_of b) r) ≡ false) [] (rows_of b)
      (λ i h. (promise b taken).arc-once i (omega (arith, length-parts (body_of b 2) (pair_up (body_of b 3)))))

  loaded-index : (a k : ℕ) → a < (net_of b).acts → k < (net_of b).kinds
      → get_or (loaded_words b) (1172 + 8 * a + k) 0 ≡ pick (takes (net_of b) a k) (pack (input_of (net_of b) a k, output_of (net_of b) a k)) 0
  unfolding loaded_words net_of
  loaded-index a k h g =
      let l : length (rows_of b) ≡ length (body_of b 2) = length-parts (body_of b 2) (pair_up (body_of b 3)) in
      let B : List ℕ = body_words (body_of b 0) (body_of b 1) (body_of b 2) (body_of b 3) in
      let z : length B ≡ net_words = (body-words (body_of b 0) (body_of b 1) (body_of b 2) (body_of b 3) front arcs).front.size in
      rows_at (λ (p : ℕ). get_or (body_of b 1) p 0) 1172 (rows_of b) B small once
      (omega (arith, front.counts-few)) (no_words (body_of b 0) (body_of b 1) (body_of b 2) (body_of b 3) front arcs) a k (omega arith) (omega (arith, (promise b taken).kinds-le))

-- What the words of a loaded net pass: every test of loading from 3 on. It is a fact with one proof, as `Held` is.
record Passes (w : List ℕ) : Type 0 where
  sized : Sized w
  kinds : (1 ≤ length (pair_up (ends_in w))) × (length (pair_up (ends_in w)) ≤ 8)
  places : (2 ≤ length (places_in w)) × (length (places_in w) ≤ 64)
  acts : (1 ≤ length (counts_in w)) × (length (counts_in w) ≤ 64)
  ends : first (end_tests (ends_in w) (places_in w) (counts_in w) (arcs_in w)) ≡ 0
  arcs : first (arc_tests (ends_in w) (places_in w) (counts_in w) (arcs_in w)) ≡ 0

passes : (b : List ℕ) → load_code b ≡ 0 → Passes (loaded_words b)
passes b taken =
    let p = passed b taken in
    let s = taken-shape b taken in
    let H = holds b taken in
    let F = front b taken in
    let n : ℕ = length (body_of b 3) / 2 in
    let ends : ends_in (loaded_words b) ≡ body_of b 0 = ends-in (body_of b 0) (body_of b 1) (body_of b 2) F n (loaded_words b) H.front in
    let places : places_in (loaded_words b) ≡ body_of b 1 = places-in (body_of b 0) (body_of b 1) (body_of b 2) F n (loaded_words b) H.front in
    let counts : counts_in (loaded_words b) ≡ body_of b 2 = counts-in (body_of b 0) (body_of b 1) (body_of b 2) F n (loaded_words b) H.front in
    let all : arcs_in (loaded_words b) ≡ body_of b 3 = arcs-in (body_of b 0) (body_of b 1) (body_of b 2) (body_of b 3) F (arcs b taken) (loaded_words b) H in
    record {
      sized = loaded-sized b taken;
      kinds = rw ends (omega (arith, s.pairs0, s.kinds-ge), omega (arith, s.pairs0, s.kinds-le));
      places = rw places (omega (arith, s.length1, s.places-ge), omega (arith, s.length1, s.places-le));
      acts = rw counts (omega (arith, s.length2, s.acts-ge), omega (arith, s.length2, s.acts-le));
      ends = rw (ends, places, counts, all) (first-zero (end_tests (body_of b 0) (body_of b 1) (body_of b 2) (body_of b 3)) p.ends);
      arcs = rw (ends, places, counts, all) (first-zero (arc_tests (body_of b 0) (body_of b 1) (body_of b 2) (body_of b 3)) p.arcs);
    }

-- the same of any words that hold a loaded net
module _ (w : List ℕ) (H : Held w) where
  held-passes : Passes w
  held-passes =
      let one : IsProp (Passes w) = hlevel (ℕ_set, le_prop) in
      ∥∥₁_elim H.some one (λ (T : LoadedFrom w). subst Passes (sym T.words) (passes T.table T.taken))

  pub held-loaded : Loaded (net_in w)
  unfolding net_in
  held-loaded =
      let P = held-passes in
      promise-from (ends_in w) (places_in w) (counts_in w) (arcs_in w)
      (none-apply (end_tests (ends_in w) (places_in w) (counts_in w) (arcs_in w)) (omega arith) P.ends)
      (none-apply (arc_tests (ends_in w) (places_in w) (counts_in w) (arcs_in w)) (omega arith) P.arcs)
      P.kinds P.places P.acts

  pub held-sized : Sized w
  held-sized = held-passes.sized

  -- the number of arcs of activity a
  pub held-arcs : (a : ℕ) → a < (net_in w).acts → length ((net_in w).arcs a) ≡ get_or w (84 + a) 0
  held-arcs =
      let one : IsProp ((a : ℕ) → a < (net_in w).acts → length ((net_in w).arcs a) ≡ get_or w (84 + a) 0) = hlevel (ℕ_set, le_prop) in
      ∥∥₁_elim H.some one
      (λ (T : LoadedFrom w). subst (λ (v : List ℕ). (a : ℕ) → a < (net_in v).acts → length ((net_in v).arcs a) ≡ get_or v (84 + a) 0) (sym T.words)
      (loaded-arcs T.table T.taken))

  -- the look-up word of activity a and kind k
  pub index_at : (a k : ℕ) → a < (net_in w).acts → k < (net_in w).kinds
      → get_or w (1172 + 8 * a + k) 0 ≡ pick (takes (net_in w) a k) (pack (input_of (net_in w) a k, output_of (net_in w) a k)) 0
  index_at =
      let one : IsProp ((a k : ℕ) → a < (net_in w).acts → k < (net_in w).kinds
      → get_or w (1172 + 8 * a + k) 0 ≡ pick (takes (net_in w) a k) (pack (input_of (net_in w) a k, output_of (net_in w) a k)) 0) = hlevel (ℕ_set, le_prop) in
      ∥∥₁_elim H.some one
      (λ (T : LoadedFrom w). subst (λ (N : Net). (a k : ℕ) → a < N.acts → k < N.kinds → get_or w (1172 + 8 * a + k) 0 ≡ pick (takes N a k) (pack (input_of N a k, output_of N a k)) 0)
      (sym (loaded-tabled T.table T.taken w T.words).net)
      (λ a k h g. ap (λ (v : List ℕ). get_or v (1172 + 8 * a + k) 0) T.words ∙ loaded-index T.table T.taken a k h g))

  -- the arc of a kind that activity a takes joins known places
  pub arc-in : (a k : ℕ) → a < (net_in w).acts → takes (net_in w) a k ≡ true → GoodArc (net_in w) (input_of (net_in w) a k, output_of (net_in w) a k)
  arc-in a k h e = arc-has (net_in w).kind_of (GoodArc (net_in w)) k ((net_in w).arcs a) (held-loaded.arc-good a h) e

  -- its places, out of the look-up word
  pub unpacked : (a k n : ℕ) → a < (net_in w).acts → takes (net_in w) a k ≡ true → n ≡ pick (takes (net_in w) a k) (pack (input_of (net_in w) a k, output_of (net_in w) a k)) 0
      → (n % 256 ≡ input_of (net_in w) a k) × (n / 256 % 256 ≡ output_of (net_in w) a k)
  unpacked a k n h e q =
      let g = arc-in a k h e in
      let f : n ≡ pack (input_of (net_in w) a k, output_of (net_in w) a k) = rw e at q in
      (omega (arith, g.inp, g.out, held-loaded.places-le), omega (arith, g.inp, g.out, held-loaded.places-le))

-- What loading promises of a table that it takes; test 9, computed, is the path by arcs. Assumes nothing.
use Prim.Native.Nat.{ℕ, ◌%◌, ◌≤◌, ◌<◌}
use mathlib.Core.Bool.{Bool, true, false, not}
use mathlib.Core.Logic.{◌↔◌}
use mathlib.Core.Path.{◌≡◌, sym, ◌∙◌}
use mathlib.Core.List.{List, [], ◌∷◌, ◌++◌}
use native.Mathlib.Omega.{arith}
use lib.ListN.{length}
use lib.Dec.{leb, ltb, eqb}
use borrow.Author.Tests.{leb-false, ltb-false, eqb-false, not-false}
use Rattle.words.specs.Lists.{any, any_to, either, All, twice, pair_up, parts}
use Rattle.words.specs.Words.{body_of}
use Rattle.words.proofs.Lists.{pos, is_eq, any_none, any_to-none, All-at, All-to}
use Rattle.words.proofs.Refusals.{None, none-apply, none-split, none-applies}
use Rattle.words.proofs.Scan.{either-one}
use Rattle.words.proofs.Parts.{sum, length-parts, part_length, All-parts, in_whole, in-part}
use Rattle.net.specs.Net.{Net, Arc, Reaches, stay, along, GoodArc, Loaded, kinds_of}
use Rattle.net.specs.Table.{net_from, net_of, marked, bad_ends, bad_count, bad_arc, shape_tests, end_tests, arc_tests, load_tests, load_code}
use Rattle.net.proofs.Marks.{Walk, rest, on, marked-is}
use Rattle.net.proofs.Bodies.{Shaped, shaped}
use Rattle.net.specs.Limits.{max_table}

-- none of a list of tests holds
each : (ts : List Bool) → either ts ≡ false → All (λ (t : Bool). t ≡ false) ts
each ts e = any_none (λ (t : Bool). t) (λ (t : Bool). t ≡ false) (λ t q. q) ts e

-- what test 5 says of a kind
pub record Ends (N : Net) (k : ℕ) : Type 0 where
  pub source_in : N.source k < N.places
  pub source_of : N.kind_of (N.source k) ≡ k
  pub sink-in : N.sink k < N.places
  pub sink-of : N.kind_of (N.sink k) ≡ k
  pub differ : N.source k ≡ N.sink k → ⊥

pub ends-good : (N : Net) → any_to N.kinds (bad_ends N) ≡ false → (k : ℕ) → k < N.kinds → Ends N k
ends-good N e k h =
    let t = each (leb N.places (N.source k) ∷ leb N.places (N.sink k) ∷ not (eqb (N.kind_of (N.source k)) k)
    ∷ not (eqb (N.kind_of (N.sink k)) k) ∷ eqb (N.source k) (N.sink k) ∷ []) (any_to-none N.kinds (bad_ends N) e k h) in
    record {
      source_in = leb-false _ _ t.0;
      sink-in = leb-false _ _ t.1.0;
      source_of = is_eq _ _ t.1.1.0;
      sink-of = is_eq _ _ t.1.1.1.0;
      differ = eqb-false _ _ t.1.1.1.1.0;
    }

-- what test 7 says of the arcs
arc-good : (N : Net) (x : Arc) → bad_arc N x ≡ false → GoodArc N x
arc-good N x e =
    let t = each (leb N.places x.0 ∷ leb N.places x.1 ∷ not (eqb (N.kind_of x.0) (N.kind_of x.1)) ∷ []) e in
    record { inp = leb-false _ _ t.0; out = leb-false _ _ t.1.0; same = sym (is_eq _ _ t.1.1.0) }

pub arcs-good : (N : Net) (xs : List Arc) → any (bad_arc N) xs ≡ false → All (GoodArc N) xs
arcs-good N xs e = any_none (bad_arc N) (GoodArc N) (arc-good N) xs e

-- what test 6 says of a number of arcs
count-good : (n : ℕ) → bad_count n ≡ false → (1 ≤ n) × (n ≤ 8)
count-good n e = let t = each (eqb n 0 ∷ ltb 8 n ∷ []) e in (pos n (eqb-false _ _ t.0), ltb-false _ _ t.1.0)

pub counts-good : (ns : List ℕ) → any bad_count ns ≡ false → All (λ (n : ℕ). (1 ≤ n) × (n ≤ 8)) ns
counts-good ns e = any_none bad_count (λ (n : ℕ). (1 ≤ n) × (n ≤ 8)) count-good ns e

module _ (ends places counts arcs : List ℕ) where
  -- arcs one by one, and arcs by activities, lead to the same places
  pub walk-reaches : sum counts ≡ length (pair_up arcs) → (s q : ℕ) → Walk (pair_up arcs) s q ↔ Reaches (net_from ends places counts arcs) s q
  walk-reaches c s q = (forth q, back q)
    where
      forth : (q : ℕ) → Walk (pair_up arcs) s q → Reaches (net_from ends places counts arcs) s q
      forth q rest = stay
      forth q (on x i r) = let p = in-part counts (pair_up arcs) x c i in along p.which p.known x p.«in» (forth x.0 r)

      back : (q : ℕ) → Reaches (net_from ends places counts arcs) s q → Walk (pair_up arcs) s q
      back q stay = rest
      back q (along a h x i r) = on x (in_whole counts (pair_up arcs) a x i) (back x.0 r)

  module _ (e : None (end_tests ends places counts arcs)) where
    counts-sum : sum counts ≡ length (pair_up arcs)
    counts-sum = is_eq _ _ e.1.1.1.0

    -- test 9 of a kind, where none of 4 to 7 applies
    pub nine-from : any (bad_arc (net_from ends places counts arcs)) (pair_up arcs) ≡ false
        → (k : ℕ) → k < length (pair_up ends)
        → let N : Net = net_from ends places counts arcs in
        (marked N.places (pair_up arcs) (N.source k) (N.sink k) ≡ true) ↔ Reaches N (N.source k) (N.sink k)
    nine-from g k h =
        let N : Net = net_from ends places counts arcs in
        let m = marked-is N.places (N.source k) (N.sink k) (pair_up arcs) (ends-good N e.1.0 k h).source_in
        (All-to (GoodArc N) (λ (x : Arc). x.1 < N.places) (λ x t. t.out) (pair_up arcs) (arcs-good N (pair_up arcs) g)) in
        let w = walk-reaches counts-sum (N.source k) (N.sink k) in
        (λ t. w.0 (m.0 t), λ r. m.1 (w.1 r))

    pub promise-from : None (arc_tests ends places counts arcs)
        → (1 ≤ length (pair_up ends)) × (length (pair_up ends) ≤ 8)
        → (2 ≤ length places) × (length places ≤ 64)
        → (1 ≤ length counts) × (length counts ≤ 64)
        → Loaded (net_from ends places counts arcs)
    promise-from t k p a =
        let N : Net = net_from ends places counts arcs in
        let seven : any (bad_arc N) (pair_up arcs) ≡ false = either-one _ ∙ none-applies 7 (arc_tests ends places counts arcs) t in
        let eight : any (λ (r : List Arc). twice (kinds_of N r)) (parts counts (pair_up arcs)) ≡ false = either-one _ ∙ none-applies 8 (arc_tests ends places counts arcs) t in
        let nine : any_to N.kinds (λ (k : ℕ). not (marked N.places (pair_up arcs) (N.source k) (N.sink k))) ≡ false = either-one _ ∙ none-applies 9 (arc_tests ends places counts arcs) t in
        record {
          kinds-ge = k.0;
          kinds-le = k.1;
          places-ge = p.0;
          places-le = p.1;
          acts-ge = a.0;
          acts-le = a.1;
          kind-in = λ p h. All-at (λ (k : ℕ). k < N.kinds) 0 places (any_none (λ (k : ℕ). leb N.kinds k) (λ (k : ℕ). k < N.kinds) (λ k q. leb-false _ _ q) places e.0) p h;
          source_in = λ k h. (ends-good N e.1.0 k h).source_in;
          source_of = λ k h. (ends-good N e.1.0 k h).source_of;
          sink-in = λ k h. (ends-good N e.1.0 k h).sink-in;
          sink-of = λ k h. (ends-good N e.1.0 k h).sink-of;
          ends-differ = λ k h. (ends-good N e.1.0 k h).differ;
          arcs-ge = λ a h. let c = All-at (λ (n : ℕ). (1 ≤ n) × (n ≤ 8)) 0 counts (counts-good counts e.1.1.0) a h in
              omega (arith, part_length counts (pair_up arcs) (omega (arith, counts-sum)) a h, c.0);
          arcs-le = λ a h. let c = All-at (λ (n : ℕ). (1 ≤ n) × (n ≤ 8)) 0 counts (counts-good counts e.1.1.0) a h in
              omega (arith, part_length counts (pair_up arcs) (omega (arith, counts-sum)) a h, c.1);
          arc-good = λ a h. All-at (λ (r : List Arc). All (GoodArc N) r) [] (parts counts (pair_up arcs))
              (All-parts (GoodArc N) counts (pair_up arcs) (arcs-good N (pair_up arcs) seven)) a (omega (arith, length-parts counts (pair_up arcs)));
          arc-once = λ a h. All-at (λ (r : List Arc). twice (kinds_of N r) ≡ false) [] (parts counts (pair_up arcs))
              (any_none (λ (r : List Arc). twice (kinds_of N r)) (λ (r : List Arc). twice (kinds_of N r) ≡ false) (λ r q. q) (parts counts (pair_up arcs)) eight) a
              (omega (arith, length-parts counts (pair_up arcs)));
          reached = λ k h. (nine-from seven k h).0 (not-false _ (any_to-none N.kinds _ nine k h));
        }

-- no test applies to a table that is taken
pub record Passed (b : List ℕ) : Type 0 where
  pub shape : None (shape_tests b)
  pub ends : None (end_tests (body_of b 0) (body_of b 1) (body_of b 2) (body_of b 3))
  pub arcs : None (arc_tests (body_of b 0) (body_of b 1) (body_of b 2) (body_of b 3))

pub passed : (b : List ℕ) → load_code b ≡ 0 → Passed b
unfolding load_code
passed b e =
    let es : List (Bool × ℕ) = end_tests (body_of b 0) (body_of b 1) (body_of b 2) (body_of b 3) in
    let cs : List (Bool × ℕ) = arc_tests (body_of b 0) (body_of b 1) (body_of b 2) (body_of b 3) in
    let s = none-split (shape_tests b) (es ++ cs) (none-apply (load_tests b) (omega arith) e) in
    let r = none-split es cs s.1 in
    record { shape = s.0; ends = r.0; arcs = r.1 }

pub taken-shape : (b : List ℕ) → load_code b ≡ 0 → Shaped b
taken-shape b e = shaped b (passed b e).shape

pub promise : (b : List ℕ) → load_code b ≡ 0 → Loaded (net_of b)
unfolding net_of
promise b e =
    let p = passed b e in
    let s = shaped b p.shape in
    promise-from (body_of b 0) (body_of b 1) (body_of b 2) (body_of b 3) p.ends p.arcs
    (sized s.pairs0 s.kinds-ge s.kinds-le) (sized s.length1 s.places-ge s.places-le) (sized s.length2 s.acts-ge s.acts-le)
  where
    sized : {x y lo hi : ℕ} → x ≡ y → lo ≤ y → y ≤ hi → (lo ≤ x) × (x ≤ hi)
    sized e l h = (omega arith, omega arith)

-- a table that is taken has a length from 32 to 4,704, in whole numbers
pub table-size : (b : List ℕ) → load_code b ≡ 0 → (32 ≤ length b) × (length b ≤ max_table) × (length b % 4 ≡ 0)
table-size b e = let s = taken-shape b e in (s.size-ge, s.size-le, s.whole)

-- test 9 of kind k, where none of 1 to 7 applies
pub nine-is : (b : List ℕ) → None (end_tests (body_of b 0) (body_of b 1) (body_of b 2) (body_of b 3))
    → any (bad_arc (net_of b)) (pair_up (body_of b 3)) ≡ false
    → (k : ℕ) → k < (net_of b).kinds
    → (marked (net_of b).places (pair_up (body_of b 3)) ((net_of b).source k) ((net_of b).sink k) ≡ true) ↔ Reaches (net_of b) ((net_of b).source k) ((net_of b).sink k)
unfolding net_of
nine-is b e g k h = nine-from (body_of b 0) (body_of b 1) (body_of b 2) (body_of b 3) e g k h

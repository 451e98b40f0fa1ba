-- The route table file (document 01 "The route table file"): the net that it gives, and the refusals 1 to 9.
use Rattle.std.specs.Prelude.{ℕ, zero, suc, ◌/◌, ◌%◌, Bool, not, List, [], ◌∷◌, ◌++◌, length, get_or, set, replicate, ltb, leb, eqb}
use Rattle.words.specs.Lists.{pick, any, either, twice, total, any_to, pair_up, parts}
use Rattle.words.specs.Refusals.{first}
use Rattle.words.specs.Words.{word, bodies_of, ends_at, body_of}
use Rattle.net.specs.Net.{Net, Arc, kinds_of}
use Rattle.net.specs.Limits.{max_table}

-- the net of four bodies: (source, sink) of each kind, the kind of each place, the number of arcs of each
-- activity, and the arcs (input place, output place), activity 0's first
abbrev pub net_from : List ℕ → List ℕ → List ℕ → List ℕ → Net
net_from ends places counts arcs =
    record {
      kinds = length (pair_up ends);
      places = length places;
      acts = length counts;
      kind_of = λ (p : ℕ). get_or places p 0;
      source = λ (k : ℕ). (get_or (pair_up ends) k (0, 0)).0;
      sink = λ (k : ℕ). (get_or (pair_up ends) k (0, 0)).1;
      arcs = λ (a : ℕ). get_or (parts counts (pair_up arcs)) a [];
    }

-- the net of a table file's bytes
unfoldable pub net_of : List ℕ → Net
net_of b = net_from (body_of b 0) (body_of b 1) (body_of b 2) (body_of b 3)

-- one pass over the arcs: an arc whose input place is marked marks its output place
abbrev pub pass : List Arc → List ℕ → List ℕ
pass [] m = m
pass (x ∷ xs) m = pass xs (pick (eqb (get_or m x.0 0) 1) (set m x.1 1) m)

-- the marks after n passes
abbrev pub passes : ℕ → List Arc → List ℕ → List ℕ
passes zero xs m = m
passes (suc n) xs m = passes n xs (pass xs m)

-- of n places, place q is marked after n passes that begin with place s alone
unfoldable pub marked : ℕ → List Arc → ℕ → ℕ → Bool
marked n xs s q = eqb (get_or (passes n xs (set (replicate n 0) s 1)) q 0) 1

-- 5: the source or sink of kind k is unknown, of another kind, or the two are equal
abbrev pub bad_ends : Net → ℕ → Bool
bad_ends N k =
    either (leb N.places (N.source k) ∷ leb N.places (N.sink k) ∷ not (eqb (N.kind_of (N.source k)) k)
    ∷ not (eqb (N.kind_of (N.sink k)) k) ∷ eqb (N.source k) (N.sink k) ∷ [])

-- 6: an activity with no arcs or over 8
abbrev pub bad_count : ℕ → Bool
bad_count n = either (eqb n 0 ∷ ltb 8 n ∷ [])

-- 7: a place of the arc is unknown, or the two are of different kinds
abbrev pub bad_arc : Net → Arc → Bool
bad_arc N x =
    either (leb N.places x.0 ∷ leb N.places x.1 ∷ not (eqb (N.kind_of x.0) (N.kind_of x.1)) ∷ [])

-- 3: too few or too many kinds, places or activities
abbrev pub size_tests : ℕ → ℕ → ℕ → List (Bool × ℕ)
size_tests kinds places acts =
    (ltb kinds 1, 3) ∷ (ltb 8 kinds, 3) ∷ (ltb places 2, 3) ∷ (ltb 64 places, 3) ∷ (ltb acts 1, 3) ∷ (ltb 64 acts, 3) ∷ []

-- 2: a body's length in bytes is no multiple of its row; then 3
abbrev pub row_tests : ℕ → ℕ → ℕ → ℕ → List (Bool × ℕ)
row_tests kinds places acts arcs =
    (not (eqb (kinds % 8) 0), 2) ∷ (not (eqb (places % 4) 0), 2) ∷ (not (eqb (acts % 4) 0), 2) ∷ (not (eqb (arcs % 8) 0), 2)
    ∷ size_tests (kinds / 8) (places / 4) (acts / 4)

-- 1: the length. 2: the layout, and lengths that are no whole rows. 3: the sizes.
abbrev pub shape_tests : List ℕ → List (Bool × ℕ)
shape_tests b =
    (ltb (length b) 32, 1) ∷ (ltb max_table (length b), 1)
    ∷ (not (ends_at (length b) (bodies_of 4 b)), 2)
    ∷ row_tests (word b 4) (word b 12) (word b 20) (word b 28)

-- 4: a place of unknown kind. 5: sources and sinks. 6: numbers of arcs, which must add up to the arcs.
abbrev pub end_tests : List ℕ → List ℕ → List ℕ → List ℕ → List (Bool × ℕ)
end_tests ends places counts arcs = let N : Net = net_from ends places counts arcs in
    (any (λ (k : ℕ). leb N.kinds k) places, 4)
    ∷ (any_to N.kinds (bad_ends N), 5)
    ∷ (any bad_count counts, 6)
    ∷ (not (eqb (total (λ (n : ℕ). n) counts) (length (pair_up arcs))), 6)
    ∷ []

-- 7: an arc. 8: two arcs of one activity of one kind. 9: a sink that is not reached from its source.
abbrev pub arc_tests : List ℕ → List ℕ → List ℕ → List ℕ → List (Bool × ℕ)
arc_tests ends places counts arcs = let N : Net = net_from ends places counts arcs in
    (any (bad_arc N) (pair_up arcs), 7)
    ∷ (any (λ (r : List Arc). twice (kinds_of N r)) (parts counts (pair_up arcs)), 8)
    ∷ (any_to N.kinds (λ (k : ℕ). not (marked N.places (pair_up arcs) (N.source k) (N.sink k))), 9)
    ∷ []

-- loading a table: the tests of the refusals 1 to 9, in the paper's order
abbrev pub load_tests : List ℕ → List (Bool × ℕ)
load_tests b =
    shape_tests b
    ++ (end_tests (body_of b 0) (body_of b 1) (body_of b 2) (body_of b 3)
    ++ arc_tests (body_of b 0) (body_of b 1) (body_of b 2) (body_of b 3))

-- the number of the first refusal that applies; 0 where the table is taken
unfoldable pub load_code : List ℕ → ℕ
load_code b = first (load_tests b)

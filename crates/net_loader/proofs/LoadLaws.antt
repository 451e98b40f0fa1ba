-- Loading, step by step: what the words hold after each, and what the tests on words say of the bytes. Assumes nothing.
use Prim.Native.Nat.{ℕ, ◌+◌, ◌/◌, ◌≤◌}
use mathlib.Core.Bool.{Bool}
use mathlib.Core.Path.{◌≡◌, ap, sym, ◌∙◌, subst}
use mathlib.Core.List.{List, ◌++◌}
use native.Mathlib.Omega.{arith}
use lib.ListN.{length, replicate}
use lib.Seq.{sets}
use borrow.Author.Tests.{eq-eqb, ne_eqb}
use Rattle.std.specs.Prelude.{Result, IsErrAnd}
use Rattle.words.specs.Lists.{pair_up, parts}
use Rattle.words.specs.Refusals.{first}
use Rattle.words.specs.Words.{word, body_of}
use Rattle.words.proofs.Lists.{is_eq}
use Rattle.words.proofs.Refusals.{None, none-apply, first_then, first-stays, first-le, passed_on}
use Rattle.words.proofs.Parts.{length_pairs}
use Rattle.net.specs.declared.LoadError.{LoadError}
use Rattle.net.specs.Answer.{load_error_code, load_answer_code}
use Rattle.net.specs.Table.{shape_tests, end_tests, arc_tests, load_tests, load_code}
use Rattle.net.specs.Held.{ends_in, places_in, counts_in, arcs_in, net_in, front_words, body_words, index_rows, front_over, loaded_words, after_load, Sized}
use Rattle.net.specs.Ruled.{front_tests, Fronted, Ruled}
use Rattle.net.proofs.Bodies.{Shaped}
use Rattle.net.proofs.BodyWords.{FitFront, FitArcs, Front, Holds, front-words, with-arcs, ends-in, places-in, counts-in, arcs-in, sized}
use Rattle.net.specs.contracts.LoadErrorRefusal.TheImpl.Laws.{not_zero-law}
use Rattle.net.proofs.Room.{fit-front, fit-arcs}
use Rattle.net.specs.Limits.{net_words}
use Rattle.net_fill.proofs.Shape.{shaped-by}
use Rattle.net_refusals.proofs.RuledBy.{ruled-by}

pub code-le : (b : List ℕ) → load_code b ≤ 9
unfolding load_code
code-le b = first-le 9 (load_tests b) (omega arith)

-- a refusal that is passed on, and gives the table's number, says nothing of the words
pub refuses : (b w : List ℕ) (r : Result Unit LoadError) (e : LoadError) → IsErrAnd r (λ y. y ≡ e) → load_error_code e ≡ load_code b
    → (load_answer_code r ≡ load_code b) × (load_code b ≡ 0 → w ≡ loaded_words b)
refuses b w r e p h = (passed_on load_error_code r e p ∙ h, λ z. absurd (not_zero-law e (h ∙ z)))

-- the lent words after a table was refused, and after one was taken
pub refused_words : (b t : List ℕ) (e : LoadError) → load_error_code e ≡ load_code b → t ≡ after_load b t
unfolding after_load
refused_words b t e h = rw (ne_eqb (load_code b) 0 (λ z. not_zero-law e (h ∙ z)))

pub taken_words : (b w t : List ℕ) → 0 ≡ load_code b → (load_code b ≡ 0 → w ≡ loaded_words b) → w ≡ after_load b t
unfolding after_load
taken_words b w t z h = rw (eq-eqb (load_code b) 0 (sym z)) (h (sym z))

-- the tests behind those of the shape
abbrev body_tests : List ℕ → List (Bool × ℕ)
body_tests b = end_tests (body_of b 0) (body_of b 1) (body_of b 2) (body_of b 3) ++ arc_tests (body_of b 0) (body_of b 1) (body_of b 2) (body_of b 3)

pub shape_refused : (b : List ℕ) (e : LoadError) → load_error_code e ≡ first (shape_tests b) → load_error_code e ≡ load_code b
unfolding load_code
shape_refused b e h = h ∙ sym (first-stays (shape_tests b) (body_tests b) (λ z. not_zero-law e (h ∙ z)))

-- the words w got the front of a table to which none of 1 to 3 applies
module _ (b t w : List ℕ) (fresh : t ≡ replicate net_words 0) (no_shape : 0 ≡ first (shape_tests b)) (w-is : w ≡ front_over b t) where
  abbrev A : List ℕ
  A = body_of b 0

  abbrev B : List ℕ
  B = body_of b 1

  abbrev C : List ℕ
  C = body_of b 2

  abbrev D : List ℕ
  D = body_of b 3

  abbrev shape : Shaped b
  shape = shaped-by b (sym no_shape)

  front : FitFront A B C
  front = fit-front b shape

  half : {l : ℕ} (x : ℕ) → l ≡ x / 4 → l / 2 ≡ x / 8
  half x e = omega arith

  w-holds : w ≡ front_words A B C (length D / 2)
  unfolding front_over front_words
  w-holds = w-is ∙ ap (front_over b) fresh ∙ rw (half (word b 4) shape.length0, shape.length1, shape.length2, half (word b 28) shape.length3)

  H1 : Front A B C (length D / 2) w
  H1 = subst (Front A B C (length D / 2)) (sym w-holds) (front-words A B C front (length D / 2))

  -- the tests 4 to 6 on words that hold the first three bodies are those on the bytes
  same-front : (v : List ℕ) → Front A B C (length D / 2) v → first (front_tests v) ≡ first (end_tests A B C D)
  unfolding net_in
  same-front v H = rw (ends-in A B C front (length D / 2) v H, places-in A B C front (length D / 2) v H, counts-in A B C front (length D / 2) v H, H.arcs-at, sym (length_pairs D))

  pub sized_front : Sized w
  sized_front = sized A B C front (length D / 2) w H1

  pub front_refused : (e : LoadError) → load_error_code e ≡ first (front_tests w) → load_error_code e ≡ load_code b
  unfolding load_code
  front_refused e h =
      let q : load_error_code e ≡ first (end_tests A B C D) = h ∙ same-front w H1 in
      q ∙ sym (first_then (shape_tests b) (body_tests b) (sym no_shape) (omega arith) ∙ first-stays (end_tests A B C D) (arc_tests A B C D) (λ z. not_zero-law e (q ∙ z)))

  -- none of 4 to 6 applies
  module _ (no_front : 0 ≡ first (front_tests w)) where
    ends : first (end_tests A B C D) ≡ 0
    ends = sym (no_front ∙ same-front w H1)

    none : None (end_tests A B C D)
    none = none-apply (end_tests A B C D) (omega arith) ends

    arcs : FitArcs D
    arcs = fit-arcs b shape none.1.1.0 (is_eq _ _ none.1.1.1.0)

    -- the arcs are there, and there is room for them
    pub arcs_inside : word b 24 + word b 28 ≤ length b
    arcs_inside = omega (arith, shape.start3, shape.end)

    pub arcs_room : 148 + word b 28 / 4 ≤ net_words
    arcs_room = omega (arith, arcs.arcs-few, shape.length3)

    -- the words v got the arcs too
    module _ (v : List ℕ) (v-is : v ≡ sets w 148 D) where
      H2 : Holds A B C D v
      H2 = subst (Holds A B C D) (sym v-is) (with-arcs A B C D front arcs w H1)

      pub fronted : Fronted v
      fronted = record { sized = sized A B C front (length D / 2) v H2.front; none = same-front v H2.front ∙ ends; arcs-few = omega (arith, H2.front.arcs-at, arcs.arcs-few) }

      code : first (arc_tests (ends_in v) (places_in v) (counts_in v) (arcs_in v)) ≡ load_code b
      unfolding load_code
      code =
          (rw (ends-in A B C front (length D / 2) v H2.front, places-in A B C front (length D / 2) v H2.front, counts-in A B C front (length D / 2) v H2.front, arcs-in A B C D front arcs v H2))
          ∙ sym (first_then (shape_tests b) (body_tests b) (sym no_shape) (omega arith) ∙ first_then (end_tests A B C D) (arc_tests A B C D) ends (omega arith))

      pub arcs_refused : (e : LoadError) → load_error_code e ≡ first (arc_tests (ends_in v) (places_in v) (counts_in v) (arcs_in v)) → load_error_code e ≡ load_code b
      arcs_refused e h = h ∙ code

      -- none of 7 to 9 applies
      module _ (no_arcs : 0 ≡ first (arc_tests (ends_in v) (places_in v) (counts_in v) (arcs_in v))) where
        pub ruled : Ruled v
        unfolding net_in
        ruled = ruled-by v fronted (none-apply (arc_tests (ends_in v) (places_in v) (counts_in v) (arcs_in v)) (omega arith) (sym no_arcs)).0

        -- the table is taken, and the words, with the look-up words of their net stored too, are what loading leaves
        pub taken : (u : List ℕ) → u ≡ index_rows (net_in v).kind_of 1172 (parts (counts_in v) (pair_up (arcs_in v))) v → (0 ≡ load_code b) × (load_code b ≡ 0 → u ≡ loaded_words b)
        unfolding loaded_words net_in body_words
        taken u h =
            let v-holds : v ≡ body_words A B C D = v-is ∙ ap (λ (w : List ℕ). sets w 148 D) w-holds in
            (no_arcs ∙ code, λ z. h ∙ rw (ends-in A B C front (length D / 2) v H2.front, places-in A B C front (length D / 2) v H2.front, counts-in A B C front (length D / 2) v H2.front, arcs-in A B C D front arcs v H2, v-holds))

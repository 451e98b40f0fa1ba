-- What the later tests of loading may rely on: words to whose bodies none of the earlier ones applies. Of test 3 they have what `Sized`
-- says, that nothing is too many.
use Rattle.std.specs.Prelude.{ℕ, zero, suc, ◌≤◌, Bool, false, not, ◌≡◌, List, [], ◌∷◌, get_or, set, leb, eqb}
use Rattle.words.specs.Lists.{any, any_to, pair_up, total}
use Rattle.net.specs.Net.{Net}
use Rattle.net.specs.Table.{bad_ends, bad_count, bad_arc}
use Rattle.net.specs.Held.{net_in, places_in, counts_in, arcs_in, Sized}
use Rattle.words.specs.Refusals.{first}

-- the tests 4 to 6 on words that hold the first three bodies
abbrev pub front_tests : List ℕ → List (Bool × ℕ)
front_tests w =
    (any (λ (k : ℕ). leb (net_in w).kinds k) (places_in w), 4)
    ∷ (any_to (net_in w).kinds (bad_ends (net_in w)), 5)
    ∷ (any bad_count (counts_in w), 6)
    ∷ (not (eqb (total (λ (n : ℕ). n) (counts_in w)) (get_or w 3 0)), 6)
    ∷ []

-- what 7 to 9 may rely on: none of 4 to 6 applies, and no more arcs than there is room for
pub record Fronted (w : List ℕ) : Type 0 where
  pub sized : Sized w
  pub none : first (front_tests w) ≡ 0
  pub arcs-few : get_or w 3 0 ≤ 512

-- what 8, 9 and the look-up words may rely on: none of 4 to 7 applies
pub record Ruled (w : List ℕ) : Type 0 where
  pub sized : Sized w
  pub places : any (λ (k : ℕ). leb (net_in w).kinds k) (places_in w) ≡ false
  pub ends : any_to (net_in w).kinds (bad_ends (net_in w)) ≡ false
  pub counts : any bad_count (counts_in w) ≡ false
  pub sum : total (λ (n : ℕ). n) (counts_in w) ≡ get_or w 3 0
  pub arcs-few : get_or w 3 0 ≤ 512
  pub arcs : any (bad_arc (net_in w)) (pair_up (arcs_in w)) ≡ false

-- the marks m with the sources of the first n kinds marked, and of all kinds
abbrev pub marks_to : Net → ℕ → List ℕ → List ℕ
marks_to N zero m = m
marks_to N (suc n) m = set (marks_to N n m) (N.source n) 1

abbrev pub source_marks : Net → List ℕ → List ℕ
source_marks N m = marks_to N N.kinds m

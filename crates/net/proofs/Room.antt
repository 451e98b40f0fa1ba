-- The bodies of a table to which none of 1 to 3 applies have room in the words; its arcs, where none of 6 applies. Assumes nothing.
use Prim.Native.Nat.{ℕ, ◌*◌, ◌/◌, ◌%◌, ◌≤◌}
use mathlib.Core.Bool.{false}
use mathlib.Core.Path.{◌≡◌}
use mathlib.Core.List.{List}
use native.Mathlib.Omega.{arith}
use lib.ListN.{length}
use Rattle.words.specs.Lists.{any, pair_up}
use Rattle.words.specs.Words.{word, body_of}
use Rattle.words.proofs.Sums.{total-le, total-const}
use Rattle.words.proofs.Parts.{sum, length_pairs}
use Rattle.net.specs.Table.{bad_count}
use Rattle.net.proofs.Bodies.{Shaped}
use Rattle.net.proofs.BodyWords.{FitFront, FitArcs}
use Rattle.net.proofs.Promise.{counts-good}

-- numbers two by two
even : {l : ℕ} (x : ℕ) → l ≡ x / 4 → x % 8 ≡ 0 → 2 * (l / 2) ≡ l
even x e r = omega arith

module _ (b : List ℕ) (s : Shaped b) where
  pub fit-front : FitFront (body_of b 0) (body_of b 1) (body_of b 2)
  fit-front = record {
    ends-few = sixteen (word b 4) s.length0 s.rows0 s.kinds-le;
    ends-even = even (word b 4) s.length0 s.rows0;
    places-few = omega (arith, s.length1, s.places-le);
    counts-few = omega (arith, s.length2, s.acts-le);
  }
    where
      sixteen : {l : ℕ} (x : ℕ) → l ≡ x / 4 → x % 8 ≡ 0 → x / 8 ≤ 8 → l ≤ 16
      sixteen x e r h = omega arith

  pub fit-arcs : any bad_count (body_of b 2) ≡ false → sum (body_of b 2) ≡ length (pair_up (body_of b 3)) → FitArcs (body_of b 3)
  fit-arcs c e = record {
    arcs-few = many (length (body_of b 3)) (even (word b 28) s.length3 s.rows3) (length_pairs (body_of b 3)) e few s.length2 s.acts-le;
    arcs-even = even (word b 28) s.length3 s.rows3;
  }
    where
      few : sum (body_of b 2) ≤ 8 * length (body_of b 2)
      few = omega (arith, total-le (λ (n : ℕ). (1 ≤ n) × (n ≤ 8)) (λ (n : ℕ). n) (λ (n : ℕ). 8) (body_of b 2) (counts-good (body_of b 2) c) (λ n h. h.1), total-const 8 (body_of b 2))

      many : (l : ℕ) {p t c y : ℕ} → 2 * (l / 2) ≡ l → p ≡ l / 2 → t ≡ p → t ≤ 8 * c → c ≡ y → y ≤ 64 → l ≤ 1024
      many l e p t h c y = omega arith

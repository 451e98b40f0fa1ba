-- Rows of sums: what is added to them, and how large they grow. Assumes nothing.
use Prim.Native.Nat.{ℕ, zero, suc, ◌+◌, ◌*◌, ◌≤◌, ◌<◌}
use mathlib.Core.Bool.{Bool, true, false}
use mathlib.Core.Path.{◌≡◌, refl, ap, sym, ◌∙◌}
use mathlib.Core.List.{List}
use native.Mathlib.Omega.{arith}
use native.Mathlib.Decide.{ℕ_discrete}
use native.Mathlib.Nat.{suc-mul}
use native.Mathlib.Numerals.{add-one}
use Rattle.std.specs.List.{sum}
use Rattle.std.proofs.lemmas.List.Sums.{sum_by_more}
use lib.ListN.{length, get_or, set, take, replicate, length-set, length-replicate}
use lib.Seq.{get_or-set_same, get_or-set_other}
use Rattle.words.specs.Lists.{pick, sum_to}
use Rattle.words.proofs.Lists.{zeros-at}
use Rattle.checkpoint_jumps.specs.Sums.{AtMost, Added}

pub pick-le : (b : Bool) (v : ℕ) → pick b 0 v ≤ v
pick-le true v = omega arith
pick-le false v = omega arith

-- 64 zeros, and sums that began with them
pub zeros-most : (n m : ℕ) → AtMost n m (replicate 64 0)
zeros-most n m = record { size = length-replicate {A = ℕ} 64 0; at = λ q h. omega (arith, zeros-at 64 q) }

pub zeros-added : (n : ℕ) (row : List ℕ) (f : ℕ → ℕ) → Added n (replicate 64 0) row f → (q : ℕ) → q < n → get_or row q 0 ≡ f q
zeros-added n row f A q h = omega (arith, A.at q h, zeros-at 64 q)

module _ {n : ℕ} {a b : List ℕ} {f : ℕ → ℕ} where
  pub added-same : {g : ℕ → ℕ} → Added n a b f → ((q : ℕ) → q < n → f q ≡ g q) → Added n a b g
  added-same A e = record { size = A.size; at = λ q h. A.at q h ∙ ap (λ (d : ℕ). get_or a q 0 + d) (e q h) }

  pub added_then : {c : List ℕ} {g h : ℕ → ℕ} → Added n a b f → Added n b c g → ((q : ℕ) → q < n → f q + g q ≡ h q) → Added n a c h
  added_then A B e = record { size = B.size ∙ A.size; at = λ q l. omega (arith, A.at q l, B.at q l, e q l) }

  pub added-most : {m : ℕ} → AtMost n m a → Added n a b f → (d k : ℕ) → ((q : ℕ) → q < n → f q ≤ d) → m + d ≤ k → AtMost n k b
  added-most M A d k l e = record { size = A.size ∙ M.size; at = λ q h. omega (arith, M.at q h, A.at q h, l q h) }

pub most-le : {n : ℕ} {a : List ℕ} {m : ℕ} → AtMost n m a → (k : ℕ) → m ≤ k → AtMost n k a
most-le M k e = record { size = M.size; at = λ q h. omega (arith, M.at q h) }

-- one sum grows
module _ (n : ℕ) (row : List ℕ) (p d v : ℕ) (f : ℕ → ℕ) where
  pub one-added : p < length row → v ≡ get_or row p 0 + d → f p ≡ d → ((q : ℕ) → (q ≡ p → ⊥) → f q ≡ 0) → Added n row (set row p v) f
  one-added h e same other = record { size = length-set row p v; at = λ q l. go q (ℕ_discrete q p) }
    where
      go : (q : ℕ) → Dec (q ≡ p) → get_or (set row p v) q 0 ≡ get_or row q 0 + f q
      go q (yes i) = rw i (get_or-set_same row p v 0 h ∙ omega arith)
      go q (no n) = get_or-set_other row p q v 0 n ∙ omega (arith, other q n)

-- the first n sums together
sum-most : (n m : ℕ) (f : ℕ → ℕ) → ((q : ℕ) → q < n → f q ≤ m) → sum_to n f ≤ n * m
sum-most zero m f h = omega arith
sum-most (suc n) m f h = omega (arith, suc-mul n m, h n (omega arith), sum-most n m f (λ q l. h q (omega arith)))

pub sum-take : (row : List ℕ) (n : ℕ) → n ≤ length row → sum (take n row) ≡ sum_to n (λ (q : ℕ). get_or row q 0)
sum-take row zero h = refl
sum-take row (suc n) h =
    ap (λ (k : ℕ). sum (take k row)) (sym (add-one n))
    ∙ omega (arith, sum_by_more (λ (x : ℕ). x) row n 0 h, sum-take row n (omega arith))

pub sum-fits : {n m : ℕ} {row : List ℕ} → AtMost n m row → n ≤ 64 → sum (take n row) ≤ n * m
sum-fits {n} {m} {row} M h = omega (arith, sum-take row n (omega (arith, M.size)), sum-most n m (λ (q : ℕ). get_or row q 0) M.at)

-- A pass over a row of 64, of which the sums below y are done: each has f more than before, and is at most m.
pub record Pass (before row : List ℕ) (f : ℕ → ℕ) (m y : ℕ) : Type 0 where
  pub size : length row ≡ 64
  pub done : (q : ℕ) → q < y → (get_or row q 0 ≡ get_or before q 0 + f q) × (get_or row q 0 ≤ m)
  pub left : (q : ℕ) → y ≤ q → get_or row q 0 ≡ get_or before q 0

module _ (before : List ℕ) (f : ℕ → ℕ) (m : ℕ) where
  pub pass-begin : length before ≡ 64 → Pass before before f m 0
  pass-begin e = record { size = e; done = λ q h. absurd (omega arith); left = λ q h. refl }

  pub pass-turn : (row : List ℕ) (y v : ℕ) → Pass before row f m y → y < 64 → v ≡ get_or row y 0 + f y → v ≤ m → Pass before (set row y v) f m (y + 1)
  pass-turn row y v P h e l = record {
    size = length-set row y v ∙ P.size;
    done = λ q g. go q g (ℕ_discrete q y);
    left = λ q g. get_or-set_other row y q v 0 (λ i. omega arith) ∙ P.left q (omega arith);
  }
    where
      go : (q : ℕ) → q < y + 1 → Dec (q ≡ y) → (get_or (set row y v) q 0 ≡ get_or before q 0 + f q) × (get_or (set row y v) q 0 ≤ m)
      go q g (yes i) = rw i (let s : get_or (set row y v) y 0 ≡ v = get_or-set_same row y v 0 (omega (arith, P.size)) in (omega (arith, P.left y (omega arith)), omega arith))
      go q g (no n) = let s : get_or (set row y v) q 0 ≡ get_or row q 0 = get_or-set_other row y q v 0 n in let d = P.done q (omega arith) in (omega arith, omega arith)

  pub pass-end : (row : List ℕ) (n : ℕ) → length before ≡ 64 → Pass before row f m n → Added n before row f × AtMost n m row
  pass-end row n e P = (record { size = P.size ∙ sym e; at = λ q h. (P.done q h).0 }, record { size = P.size; at = λ q h. (P.done q h).1 })

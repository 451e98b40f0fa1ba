-- What events take, kind by kind, is what they take arc by arc. Assumes nothing.
use Prim.Native.Nat.{ℕ, zero, suc, ◌+◌, ◌*◌, ◌≤◌, ◌<◌}
use mathlib.Core.Bool.{Bool, true, false}
use mathlib.Core.Path.{◌≡◌, refl, ap, sym, ◌∙◌}
use mathlib.Core.List.{List, [], ◌∷◌}
use native.Mathlib.Omega.{arith}
use native.Mathlib.Decide.{ℕ_discrete}
use native.Mathlib.Nat.{mul_comm, mul-one, mul-zero, mul-le-mul}
use lib.ListN.{length, get_or, set}
use lib.Dec.{eqb}
use borrow.Author.Tests.{eq-eqb, ne_eqb}
use Rattle.words.specs.Lists.{pick, All, has, twice, one, total, sum_to}
use Rattle.words.proofs.Lists.{clash, All-to}
use Rattle.words.proofs.Sums.{sum_to-same, sum_to-zero, sum_to-add, sum_to-at, sum_to-mul}
use Rattle.net.specs.Net.{Net, Arc, kinds_of, arc_of, takes, input_of, GoodArc, Loaded}
use Rattle.replay.specs.Plain.{closer_kinds}
use Rattle.replay.specs.State.{inputs, sunk_on}
use Rattle.replay.proofs.Accepted.{closers-kinds}
use Rattle.checkpoint_jumps.specs.Sums.{taken_by, AtMost, Added}
use Rattle.checkpoint_jumps.proofs.Adding.{one-added, added-most}
use Rattle.checkpoint_jumps.proofs.Totals.{sum-total}

pub one-le : (b : Bool) → one b ≤ 1
one-le true = omega arith
one-le false = omega arith

module _ (N : Net) (q : ℕ) where
  -- 1 where the list has an arc of kind k, and the first such arc takes from q
  abbrev by_kind : List Arc → ℕ → ℕ
  by_kind xs k = pick (has k (kinds_of N xs)) (one (eqb q (arc_of N.kind_of k xs).0)) 0

  split : (b c : Bool) → pick b true c ≡ false → (b ≡ false) × (c ≡ false)
  split true c e = clash e
  split false c e = (refl, e)

  arcs-sum : (K : ℕ) (xs : List Arc) → All (λ (x : Arc). N.kind_of x.0 < K) xs → twice (kinds_of N xs) ≡ false → sum_to K (by_kind xs) ≡ total (λ (x : Arc). one (eqb q x.0)) xs
  arcs-sum K [] a e = sum_to-zero K
  arcs-sum K (x ∷ xs) a e =
      let s = split (has (N.kind_of x.0) (kinds_of N xs)) (twice (kinds_of N xs)) e in
      sum_to-same K (by_kind (x ∷ xs)) (λ (k : ℕ). one (eqb k (N.kind_of x.0)) * one (eqb q x.0) + by_kind xs k) (λ k h. go k s.0 (ℕ_discrete k (N.kind_of x.0)))
      ∙ sum_to-add K (λ (k : ℕ). one (eqb k (N.kind_of x.0)) * one (eqb q x.0)) (by_kind xs)
      ∙ omega (arith, sum_to-at K (N.kind_of x.0) (λ (k : ℕ). one (eqb q x.0)) a.0, arcs-sum K xs a.1 s.1)
    where
      go : (k : ℕ) → has (N.kind_of x.0) (kinds_of N xs) ≡ false → Dec (k ≡ N.kind_of x.0) → by_kind (x ∷ xs) k ≡ one (eqb k (N.kind_of x.0)) * one (eqb q x.0) + by_kind xs k
      go k e (yes i) = rw (i, eq-eqb (N.kind_of x.0) (N.kind_of x.0) refl, e) (omega arith)
      go k e (no n) = rw (ne_eqb k (N.kind_of x.0) n, ne_eqb (N.kind_of x.0) k (λ i. n (sym i))) (omega arith)

  taken-one : (a k : ℕ) → taken_by N a q k ≤ 1
  taken-one a k = go (has k (kinds_of N (N.arcs a))) (one-le (eqb q (arc_of N.kind_of k (N.arcs a)).0))
    where
      go : (b : Bool) {v : ℕ} → v ≤ 1 → pick b v 0 ≤ 1
      go true h = h
      go false h = omega arith

  -- over the kinds below k
  pub taken-le : (a k : ℕ) → sum_to k (taken_by N a q) ≤ k
  taken-le a zero = omega arith
  taken-le a (suc k) = omega (arith, taken-one a k, taken-le a k)

  -- what `fired` events of activity a take, over the kinds below k, and over all
  module _ (a fired : ℕ) where
    pub taken-most : (k : ℕ) → fired ≤ 4294967295 → sum_to k (λ (j : ℕ). fired * taken_by N a q j) ≤ 4294967295 * k
    taken-most zero h = omega arith
    taken-most (suc k) h = omega (arith, mul-le-mul h (taken-one a k), taken-most k h)

    pub taken-inputs : Loaded N → a < N.acts → sum_to N.kinds (λ (j : ℕ). fired * taken_by N a q j) ≡ fired * inputs N q a
    taken-inputs L h =
        sum_to-same N.kinds (λ (j : ℕ). fired * taken_by N a q j) (λ (j : ℕ). taken_by N a q j * fired) (λ j l. mul_comm fired (taken_by N a q j))
        ∙ sum_to-mul N.kinds fired (taken_by N a q)
        ∙ ap (λ (v : ℕ). v * fired) (arcs-sum N.kinds (N.arcs a) (All-to (GoodArc N) (λ (x : Arc). N.kind_of x.0 < N.kinds) (λ x g. L.kind-in x.0 g.inp) (N.arcs a) (L.arc-good a h)) (L.arc-once a h))
        ∙ mul_comm (inputs N q a) fired

pub taken-grown : (N : Net) (a fired k m : ℕ) {before after : List ℕ} → fired ≤ 4294967295 → k ≤ 8 → AtMost N.places m before
    → Added N.places before after (λ (q : ℕ). sum_to k (λ (j : ℕ). fired * taken_by N a q j)) → AtMost N.places (m + 34359738368) after
taken-grown N a fired k m f e M A = added-most M A 34359738368 _ (λ q h. omega (arith, taken-most N q a fired k f)) (omega arith)

-- one kind that the activity takes, and one object at the close
pub kind-added : (N : Net) (a k fired : ℕ) (row : List ℕ) (p v : ℕ) → takes N a k ≡ true → p ≡ input_of N a k → p < length row → v ≡ get_or row p 0 + fired → Added N.places row (set row p v) (λ (q : ℕ). fired * taken_by N a q k)
kind-added N a k fired row p v t e h s =
    one-added N.places row p fired v (λ (q : ℕ). fired * taken_by N a q k) h s
    (rw (t, eq-eqb p (input_of N a k) e, mul-one))
    (λ q n. rw (t, ne_eqb q (input_of N a k) (λ i. n (i ∙ sym e)), mul-zero))

pub sink-added : (N : Net) (k : ℕ) (row : List ℕ) (p v : ℕ) → p ≡ N.sink k → p < length row → v ≡ get_or row p 0 + 1 → Added N.places row (set row p v) (λ (q : ℕ). one (eqb q (N.sink k)))
sink-added N k row p v e h s =
    one-added N.places row p 1 v (λ (q : ℕ). one (eqb q (N.sink k))) h s
    (rw (eq-eqb p (N.sink k) e))
    (λ q n. rw (ne_eqb q (N.sink k) (λ i. n (i ∙ sym e))))

-- object by object, the objects below i take at most i, and all of them what the close takes
module _ (N : Net) (ks : List ℕ) (q : ℕ) where
  pub sinks-most : (i : ℕ) → sum_to i (λ (o : ℕ). one (eqb q (N.sink (get_or ks o 0)))) ≤ i
  sinks-most zero = omega arith
  sinks-most (suc i) = omega (arith, one-le (eqb q (N.sink (get_or ks i 0))), sinks-most i)

  pub sinks-all : sum_to (length ks) (λ (o : ℕ). one (eqb q (N.sink (get_or ks o 0)))) ≡ sunk_on N (closer_kinds ks) q
  sinks-all = sum-total (λ (k : ℕ). one (eqb q (N.sink k))) ks ∙ ap (λ (l : List ℕ). sunk_on N l q) (sym (closers-kinds ks))

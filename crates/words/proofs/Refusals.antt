-- The first refusal is 0 exactly where no test holds. Assumes nothing.
use Prim.Native.Nat.{ℕ, ◌≤◌, ◌<◌}
use mathlib.Core.Bool.{Bool, true, false}
use mathlib.Core.Path.{◌≡◌, refl, ap}
use mathlib.Core.List.{List, [], ◌∷◌, ◌++◌}
use native.Mathlib.Omega.{arith}
use lib.Dec.{eqb}
use Rattle.std.specs.Prelude.{Result, Ok, Err, IsErrAnd}
use Rattle.words.specs.Lists.{pick, any, both, All}
use Rattle.words.specs.Refusals.{first, answer_code}
use Rattle.words.proofs.Lists.{both_false}

-- no test of the list holds
abbrev pub None : List (Bool × ℕ) → Type 0
None ts = All (λ (t : Bool × ℕ). t.0 ≡ false) ts

pub first-none : (b : Bool) (n : ℕ) (r : ℕ) → 0 < n → pick b n r ≡ 0 → (b ≡ false) × (r ≡ 0)
first-none true n r h e = absurd (omega arith)
first-none false n r h e = (refl, e)

pub none-apply : (ts : List (Bool × ℕ)) → All (λ (t : Bool × ℕ). 0 < t.1) ts → first ts ≡ 0 → None ts
none-apply [] h e = tt
none-apply (t ∷ ts) h e = let r = first-none t.0 t.1 (first ts) h.0 e in (r.0, none-apply ts h.1 r.1)

-- some test with the number n holds: a law about one number of a list does not depend on the list's order
abbrev pub applies : ℕ → List (Bool × ℕ) → Bool
applies n ts = any (λ (t : Bool × ℕ). both (eqb n t.1) t.0) ts

pub none-applies : (n : ℕ) (ts : List (Bool × ℕ)) → None ts → applies n ts ≡ false
none-applies n [] a = refl
none-applies n (t ∷ ts) a = rw (both_false (eqb n t.1) t.0 (λ e. a.0)) (none-applies n ts a.1)

pub first-zero : (ts : List (Bool × ℕ)) → None ts → first ts ≡ 0
first-zero [] a = refl
first-zero (t ∷ ts) a = rw a.0 (first-zero ts a.1)

pub none-split : (xs ys : List (Bool × ℕ)) → None (xs ++ ys) → None xs × None ys
none-split [] ys a = (tt, a)
none-split (x ∷ xs) ys a = let r = none-split xs ys a.1 in ((a.0, r.0), r.1)

-- the first refusal of two lists, one behind the other
pub first_then : (xs ys : List (Bool × ℕ)) → first xs ≡ 0 → All (λ (t : Bool × ℕ). 0 < t.1) xs → first (xs ++ ys) ≡ first ys
first_then [] ys e p = refl
first_then (x ∷ xs) ys e p = let r = first-none x.0 x.1 (first xs) p.0 e in rw r.0 (first_then xs ys r.1 p.1)

pub first-stays : (xs ys : List (Bool × ℕ)) → (first xs ≡ 0 → ⊥) → first (xs ++ ys) ≡ first xs
first-stays [] ys n = absurd (n refl)
first-stays (x ∷ xs) ys n = go x.0 n (first-stays xs ys)
  where
    go : (b : Bool) → (pick b x.1 (first xs) ≡ 0 → ⊥) → ((first xs ≡ 0 → ⊥) → first (xs ++ ys) ≡ first xs) → pick b x.1 (first (xs ++ ys)) ≡ pick b x.1 (first xs)
    go true n r = refl
    go false n r = r n

pub first-le : (m : ℕ) (ts : List (Bool × ℕ)) → All (λ (t : Bool × ℕ). t.1 ≤ m) ts → first ts ≤ m
first-le m [] a = omega arith
first-le m (t ∷ ts) a = go t.0 a.0 (first-le m ts a.1)
  where
    go : (b : Bool) → t.1 ≤ m → first ts ≤ m → pick b t.1 (first ts) ≤ m
    go true h r = h
    go false h r = r

-- the first test holds, and its number is given
pub refused : (b : Bool) (n r : ℕ) → b ≡ true → n ≡ pick b n r
refused b n r e = rw e

-- the first test does not hold, and the others decide
pub passed : (b : Bool) (n r x : ℕ) → b ≡ false → x ≡ r → x ≡ pick b n r
passed b n r x e h = rw e h

-- a refusal that is passed on keeps its number
pub passed_on : {A E : Type 0} (number_of : E → ℕ) (r : Result A E) (e : E) → IsErrAnd r (λ y. y ≡ e) → answer_code number_of r ≡ number_of e
passed_on number_of (Ok x) e h = absurd h
passed_on number_of (Err y) e h = ap number_of h

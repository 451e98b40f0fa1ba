-- Test 45, object by object, and over all objects at once. Assumes nothing.
use Prim.Native.Nat.{ℕ, ◌*◌, ◌≤◌, ◌<◌}
use mathlib.Core.Bool.{Bool, true, false, not}
use mathlib.Core.Path.{◌≡◌, refl, ap, ◌∙◌}
use mathlib.Core.List.{List, [], ◌∷◌}
use native.Mathlib.Decide.{ℕ_discrete}
use lib.ListN.{length, get_or}
use lib.Dec.{leb, eqb}
use borrow.Author.Tests.{eq-eqb, ne_eqb, le-leb, lt-leb}
use Rattle.std.specs.List.{list_any, range_with_len}
use Rattle.words.specs.Lists.{pick, any, either, both}
use Rattle.words.proofs.Chains.{any_to-is}
use Rattle.words.proofs.Lists.{both_false}
use Rattle.words.proofs.Scan.{either-one}
use Rattle.net.specs.Net.{Net, Loaded}
use Rattle.replay.specs.Plain.{closers}
use Rattle.replay.specs.State.{State}
use Rattle.checkpoint.specs.Bodies.{hit}
use Rattle.checkpoint.specs.Restore.{tests45}
use Rattle.checkpoint_positions.specs.Positions.{bad_position}

or-last : (a b : Bool) → true ≡ pick a true (pick b true true)
or-last true b = refl
or-last false true = refl
or-last false false = refl

-- an object of kind k on place p
module _ (N : Net) (k p : ℕ) where
  pub closed-position : Loaded N → k < N.kinds → not (eqb p (N.sink k)) ≡ bad_position N true k p
  closed-position L h = go (ℕ_discrete p (N.sink k))
    where
      go : Dec (p ≡ N.sink k) → not (eqb p (N.sink k)) ≡ bad_position N true k p
      go (yes e) = rw (e, lt-leb N.places (N.sink k) (L.sink-in k h), eq-eqb (N.kind_of (N.sink k)) k (L.sink-of k h), eq-eqb (N.sink k) (N.sink k) refl)
      go (no n) = rw (ne_eqb p (N.sink k) n) (or-last (leb N.places p) (not (eqb (N.kind_of p) k)))

  pub open_unknown : N.places ≤ p → true ≡ bad_position N false k p
  open_unknown h = rw (le-leb _ _ h)

  pub open-known : p < N.places → not (eqb (N.kind_of p) k) ≡ bad_position N false k p
  open-known h = rw (lt-leb _ _ h) (either-one _)

-- a search for one of three is three searches
or_swap : (a x b y c z : Bool) → pick (either (a ∷ b ∷ c ∷ [])) true (either (x ∷ y ∷ z ∷ [])) ≡ either (pick a true x ∷ pick b true y ∷ pick c true z ∷ [])
or_swap true x b y c z = refl
or_swap false true true y c z = refl
or_swap false true false y true z = refl
or_swap false true false y false z = refl
or_swap false false true y c z = refl
or_swap false false false true true z = refl
or_swap false false false true false z = refl
or_swap false false false false true z = refl
or_swap false false false false false z = refl

or-both : (c x y : Bool) → pick (both c x) true (both c y) ≡ both c (pick x true y)
or-both true x y = refl
or-both false x y = refl

module _ {A : Type 0} (f g h : A → Bool) (c : Bool) where
  three : (xs : List A) → any (λ (x : A). either (f x ∷ g x ∷ both c (h x) ∷ [])) xs ≡ either (any f xs ∷ any g xs ∷ both c (any h xs) ∷ [])
  three [] = rw (both_false c false (λ q. refl))
  three (x ∷ xs) = rw (three xs) (or_swap (f x) (any f xs) (g x) (any g xs) (both c (h x)) (both c (any h xs)) ∙ ap (λ (b : Bool). either (pick (f x) true (any f xs) ∷ pick (g x) true (any g xs) ∷ b ∷ [])) (or-both c (h x) (any h xs)))

-- the whole test: by its length, and object by object; the close takes every object
module _ (N : Net) (d : State) (size : ℕ) (closed : Bool) where
  pub positions-size : (size ≡ 4 * length d.kinds → ⊥) → true ≡ hit (tests45 N d size closed)
  positions-size n = rw (ne_eqb size (4 * length d.kinds) n)

  pub positions-hit : size ≡ 4 * length d.kinds → list_any (λ (o : ℕ). bad_position N closed (get_or d.kinds o 0) (get_or d.places o 0)) (range_with_len 0 (length d.kinds)) ≡ hit (tests45 N d size closed)
  positions-hit e =
      any_to-is (λ (o : ℕ). bad_position N closed (get_or d.kinds o 0) (get_or d.places o 0)) (length d.kinds)
      ∙ rw (eq-eqb size (4 * length d.kinds) e)
      (three (λ (o : ℕ). leb N.places (get_or d.places o 0)) (λ (o : ℕ). not (eqb (N.kind_of (get_or d.places o 0)) (get_or d.kinds o 0)))
      (λ (o : ℕ). not (eqb (get_or d.places o 0) (N.sink (get_or d.kinds o 0)))) closed (closers d.kinds))

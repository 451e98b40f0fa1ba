-- What is left to find in an event's objects, one after the other. Assumes nothing.
use Prim.Native.Nat.{ℕ, ◌+◌, ◌/◌, ◌≤◌, ◌<◌}
use mathlib.Core.Bool.{Bool, true, false, not}
use mathlib.Core.Path.{◌≡◌, refl, ap, sym, subst, ◌∙◌}
use mathlib.Core.List.{List, [], ◌∷◌}
use native.Mathlib.Nat.{add-zero}
use native.Mathlib.Numerals.{add-one}
use native.Mathlib.Omega.{arith}
use lib.Dec.{leb, eqb}
use lib.ListN.{length, get_or, set, take, drop, length-map, drop_of_length-le}
use lib.Seq.{sets, drop-cons, length-sets}
use borrow.Author.Tests.{le-leb, lt-leb, ne_eqb}
use Rattle.std.specs.Int.{from_bool}
use Rattle.words.specs.Lists.{pick, any, twice}
use Rattle.net.specs.Net.{Net, takes}
use Rattle.words.specs.Refusals.{first}
use Rattle.words.specs.Words.{words_of}
use Rattle.words.proofs.Refusals.{first_then}
use Rattle.words.proofs.Words.{length-words}
use Rattle.words.proofs.Sets.{view-same}
use Rattle.replay.specs.Plain.{object_kinds, known_tests, same_kind_tests, object_tests}

-- 25, else 26, else 26 where some were found foreign before, by the objects left
abbrev pub kinds_left : Net → List ℕ → ℕ → List ℕ → ℕ → ℕ
kinds_left N ks a os foreign = pick (any (λ (o : ℕ). leb (length ks) o) os) 25 (pick (any (λ (k : ℕ). not (takes N a k)) (object_kinds ks os)) 26 (pick (eqb foreign 0) 0 26))

pub one_more : (f : Bool) → from_bool f ≤ 1
one_more true = omega arith
one_more false = omega arith

-- no object is left
pub left-none : (N : Net) (ks : List ℕ) (a foreign : ℕ) (all : List ℕ) → all ≡ [] → pick (eqb foreign 0) 0 26 ≡ kinds_left N ks a all foreign
left-none N ks a foreign all e = rw e refl

pub next : (os : List ℕ) (i : ℕ) → i < length os → drop i os ≡ get_or os i 0 ∷ drop (i + 1) os
next os i h = rw add-one (drop-cons os i 0 h)

-- object i is unknown, is known, is stored
module _ (N : Net) (ks os : List ℕ) (a i : ℕ) (h : i < length os) where
  pub left-unknown : (foreign : ℕ) → length ks ≤ get_or os i 0 → 25 ≡ kinds_left N ks a (drop i os) foreign
  left-unknown foreign u = rw (next os i h, le-leb (length ks) (get_or os i 0) u)

  pub left-known : (foreign : ℕ) → get_or os i 0 < length ks
      → kinds_left N ks a (drop (i + 1) os) (foreign + from_bool (not (takes N a (get_or ks (get_or os i 0) 0)))) ≡ kinds_left N ks a (drop i os) foreign
  left-known foreign k =
      rw (next os i h, lt-leb (length ks) (get_or os i 0) k) (go (any (λ (o : ℕ). leb (length ks) o) (drop (i + 1) os)) (not (takes N a (get_or ks (get_or os i 0) 0))) (any (λ (k : ℕ). not (takes N a k)) (object_kinds ks (drop (i + 1) os))))
    where
      go : (u f r : Bool) → pick {A = ℕ} u 25 (pick r 26 (pick (eqb (foreign + from_bool f) 0) 0 26)) ≡ pick u 25 (pick (pick f true r) 26 (pick (eqb foreign 0) 0 26))
      go true f r = refl
      go false true true = refl
      go false true false = rw (ne_eqb (foreign + 1) 0 (λ e. omega arith))
      go false false r = rw (add-zero foreign)

  pub store-one : (xs : List ℕ) → sets (set xs i (get_or ks (get_or os i 0) 0)) (i + 1) (object_kinds ks (drop (i + 1) os)) ≡ sets xs i (object_kinds ks (drop i os))
  store-one xs = rw (next os i h, add-one)

-- past the last object none is left
pub none_left : (bytes : List ℕ) (i : ℕ) → length bytes / 4 ≤ i → drop i (words_of bytes) ≡ []
none_left bytes i h = drop_of_length-le (words_of bytes) {i = i} (omega (arith, length-words bytes))

-- the kinds of up to eight objects, stored over eight numbers
module _ (ks os before kinds : List ℕ) (room : length before ≡ 8) (few : length os ≤ 8) (filled : kinds ≡ sets before 0 (object_kinds ks os)) where
  pub kinds-length : length kinds ≡ 8
  kinds-length = ap length filled ∙ length-sets before 0 (object_kinds ks os) ∙ room

  pub kinds-front : take (length os) kinds ≡ object_kinds ks os
  kinds-front =
      let e : length (object_kinds ks os) ≡ length os = length-map os (λ (o : ℕ). get_or ks o 0) in
      ap (take (length os)) filled ∙ subst (λ (n : ℕ). take n (sets before 0 (object_kinds ks os)) ≡ object_kinds ks os) e (view-same before 0 (object_kinds ks os) (omega arith))

-- then 27 is left, where neither 25 nor 26 applies
module _ (N : Net) (ks os before kinds : List ℕ) (a : ℕ) (room : length before ≡ 8) (few : length os ≤ 8) (known : 0 ≡ first (known_tests N ks a os)) (filled : kinds ≡ sets before 0 (object_kinds ks os)) where
  pub same-left : (n : ℕ) (found f : Bool) → n ≡ length os → found ≡ twice (take n kinds) → found ≡ f → pick {A = ℕ} f 27 0 ≡ first (object_tests N ks a os)
  same-left n found f e t h =
      let same : f ≡ twice (object_kinds ks os) = sym h ∙ t ∙ ap (λ (m : ℕ). twice (take m kinds)) e ∙ ap twice (kinds-front ks os before kinds room few filled) in
      ap (λ (b : Bool). pick {A = ℕ} b 27 0) same ∙ sym (first_then (known_tests N ks a os) (same_kind_tests ks os) (sym known) (omega arith))

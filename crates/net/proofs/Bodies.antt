-- The bodies of a table to which none of 1 to 3 applies. Assumes nothing.
use Prim.Native.Nat.{ℕ, suc, ◌+◌, ◌/◌, ◌%◌, ◌≤◌}
use mathlib.Core.Bool.{Bool, true, false}
use mathlib.Core.Path.{◌≡◌, refl, sym}
use mathlib.Core.List.{List}
use native.Mathlib.Omega.{arith}
use lib.ListN.{length, take, drop, length-take, length-drop}
use lib.Dec.{eqb}
use borrow.Author.Tests.{ltb-false, eqb-true, not-false}
use Rattle.std.specs.Prelude.{None as Gap}
use Rattle.words.specs.Lists.{pick, pair_up}
use Rattle.words.specs.Words.{word, words_of, bodies_from, bodies_of, ends_at, body_of}
use Rattle.words.proofs.Lists.{is_eq, clash}
use Rattle.words.proofs.Words.{length-words}
use Rattle.words.proofs.Refusals.{None}
use Rattle.words.proofs.Parts.{length_pairs}
use Rattle.net.specs.Table.{shape_tests}
use Rattle.net.specs.Limits.{max_table}

pub record Shaped (b : List ℕ) : Type 0 where
  pub size-ge : 32 ≤ length b
  pub size-le : length b ≤ max_table
  pub whole : length b % 4 ≡ 0
  pub start0 : word b 0 ≡ 32
  pub start1 : word b 8 ≡ 32 + word b 4
  pub start2 : word b 16 ≡ 32 + word b 4 + word b 12
  pub start3 : word b 24 ≡ 32 + word b 4 + word b 12 + word b 20
  pub end : 32 + word b 4 + word b 12 + word b 20 + word b 28 ≡ length b
  pub rows0 : word b 4 % 8 ≡ 0
  pub rows1 : word b 12 % 4 ≡ 0
  pub rows2 : word b 20 % 4 ≡ 0
  pub rows3 : word b 28 % 8 ≡ 0
  pub kinds-ge : 1 ≤ word b 4 / 8
  pub kinds-le : word b 4 / 8 ≤ 8
  pub places-ge : 2 ≤ word b 12 / 4
  pub places-le : word b 12 / 4 ≤ 64
  pub acts-ge : 1 ≤ word b 20 / 4
  pub acts-le : word b 20 / 4 ≤ 64
  pub length0 : length (body_of b 0) ≡ word b 4 / 4
  pub length1 : length (body_of b 1) ≡ word b 12 / 4
  pub length2 : length (body_of b 2) ≡ word b 20 / 4
  pub length3 : length (body_of b 3) ≡ word b 28 / 4
  pub pairs0 : length (pair_up (body_of b 0)) ≡ word b 4 / 8
  pub pairs3 : length (pair_up (body_of b 3)) ≡ word b 28 / 8

-- bodies without a gap, one by one
bodies-step : (b : List ℕ) (e i at n : ℕ) → ends_at e (bodies_from b i at (suc n)) ≡ true
    → (word b i ≡ at) × (ends_at e (bodies_from b (i + 8) (at + word b (i + 4)) n) ≡ true)
unfolding bodies_from
bodies-step b e i at n = go (eqb (word b i) at) refl
  where
    go : (t : Bool) → eqb (word b i) at ≡ t → ends_at e (pick t (bodies_from b (i + 8) (at + word b (i + 4)) n) Gap) ≡ true
        → (word b i ≡ at) × (ends_at e (bodies_from b (i + 8) (at + word b (i + 4)) n) ≡ true)
    go true q h = (eqb-true _ _ q, h)
    go false q h = clash (sym h)

bodies-last : (b : List ℕ) (e i at : ℕ) → ends_at e (bodies_from b i at 0) ≡ true → at ≡ e
unfolding bodies_from
bodies-last b e i at h = eqb-true _ _ h

body-length : (b : List ℕ) (s n : ℕ) → s / 4 + n / 4 ≤ length b / 4 → length (take (n / 4) (drop (s / 4) (words_of b))) ≡ n / 4
body-length b s n h = simp (length-take, length-drop) (omega (arith, length-words b))

body-pairs : (xs : List ℕ) (n : ℕ) → n % 8 ≡ 0 → length xs ≡ n / 4 → length (pair_up xs) ≡ n / 8
body-pairs xs n h l = omega (arith, length_pairs xs)

pub shaped : (b : List ℕ) → None (shape_tests b) → Shaped b
unfolding bodies_of body_of
shaped b t =
    let h1 = bodies-step b (length b) 0 32 3 (not-false _ t.1.1.0) in
    let h2 = bodies-step b (length b) 8 (32 + word b 4) 2 h1.1 in
    let h3 = bodies-step b (length b) 16 (32 + word b 4 + word b 12) 1 h2.1 in
    let h4 = bodies-step b (length b) 24 (32 + word b 4 + word b 12 + word b 20) 0 h3.1 in
    let z : 32 + word b 4 + word b 12 + word b 20 + word b 28 ≡ length b = bodies-last b (length b) 32 _ h4.1 in
    let r = t.1.1.1 in
    let r0 : word b 4 % 8 ≡ 0 = is_eq _ _ r.0 in
    let r1 : word b 12 % 4 ≡ 0 = is_eq _ _ r.1.0 in
    let r2 : word b 20 % 4 ≡ 0 = is_eq _ _ r.1.1.0 in
    let r3 : word b 28 % 8 ≡ 0 = is_eq _ _ r.1.1.1.0 in
    let l = r.1.1.1.1 in
    let s0 : word b 0 ≡ 32 = h1.0 in
    let s1 : word b 8 ≡ 32 + word b 4 = h2.0 in
    let s2 : word b 16 ≡ 32 + word b 4 + word b 12 = h3.0 in
    let s3 : word b 24 ≡ 32 + word b 4 + word b 12 + word b 20 = h4.0 in
    let l0 : length (body_of b 0) ≡ word b 4 / 4 = body-length b (word b 0) (word b 4) (omega arith) in
    let l3 : length (body_of b 3) ≡ word b 28 / 4 = body-length b (word b 24) (word b 28) (omega arith) in
    record {
      size-ge = ltb-false _ _ t.0;
      size-le = ltb-false _ _ t.1.0;
      whole = omega arith;
      start0 = s0;
      start1 = s1;
      start2 = s2;
      start3 = s3;
      end = z;
      rows0 = r0;
      rows1 = r1;
      rows2 = r2;
      rows3 = r3;
      kinds-ge = ltb-false _ _ l.0;
      kinds-le = ltb-false _ _ l.1.0;
      places-ge = ltb-false _ _ l.1.1.0;
      places-le = ltb-false _ _ l.1.1.1.0;
      acts-ge = ltb-false _ _ l.1.1.1.1.0;
      acts-le = ltb-false _ _ l.1.1.1.1.1.0;
      length0 = l0;
      length1 = body-length b (word b 8) (word b 12) (omega arith);
      length2 = body-length b (word b 16) (word b 20) (omega arith);
      length3 = l3;
      pairs0 = body-pairs (body_of b 0) (word b 4) r0 l0;
      pairs3 = body-pairs (body_of b 3) (word b 28) r3 l3;
    }

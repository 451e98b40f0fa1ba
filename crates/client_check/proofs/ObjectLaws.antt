-- The objects of a list in bytes. Assumes nothing.
use Prim.Native.Nat.{ℕ, ◌%◌, ◌≤◌, ◌<◌}
use mathlib.Core.Path.{◌≡◌, sym}
use mathlib.Core.List.{List}
use lib.ListN.{length, replicate}
use borrow.Author.Tests.{eq-eqb, ne_eqb, le-leb, lt-leb}
use Rattle.words.specs.Words.{words_of}
use Rattle.client_check.specs.Objects.{objects_in}

module _ (s : List ℕ) where
  pub rows_in : length s % 4 ≡ 0 → length s ≤ 32 → objects_in s ≡ words_of s
  unfolding objects_in
  rows_in e h = rw (eq-eqb (length s % 4) 0 e, le-leb (length s) 32 h)

  pub no_rows : (length s % 4 ≡ 0 → ⊥) → objects_in s ≡ replicate 9 0
  unfolding objects_in
  no_rows n = rw (ne_eqb (length s % 4) 0 n)

  pub many-rows : length s % 4 ≡ 0 → 32 < length s → objects_in s ≡ replicate 9 0
  unfolding objects_in
  many-rows e h = rw (eq-eqb (length s % 4) 0 e, lt-leb (length s) 32 h)

  -- nine objects in 36 bytes
  pub nine_uneven : (length s % 4 ≡ 0 → ⊥) → words_of (replicate 36 0) ≡ objects_in s
  unfolding words_of
  nine_uneven n = sym (no_rows n)

  pub nine_many : length s % 4 ≡ 0 → 32 < length s → words_of (replicate 36 0) ≡ objects_in s
  unfolding words_of
  nine_many e h = sym (many-rows e h)

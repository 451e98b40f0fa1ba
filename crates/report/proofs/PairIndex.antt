-- The pair of places with index i, row by row: its row and its column. Assumes nothing.
use Prim.Native.Nat.{ℕ, zero, suc, ◌*◌, ◌/◌, ◌%◌, ◌<◌}
use native.Mathlib.Nat.{div-lt_iff_lt-mul, mod-lt}
use native.Mathlib.Omega.{arith}

-- an index below n * n is that of a row and a column below n
pub some-place : (n i : ℕ) → i < n * n → 0 < n
some-place zero i h = absurd (omega arith)
some-place (suc n) i h = omega arith

module _ (n i : ℕ) (h : i < n * n) where
  pub row_lt : i / n < n
  row_lt = (div-lt_iff_lt-mul (some-place n i h)).1 h

  pub column-lt : i % n < n
  column-lt = mod-lt i (some-place n i h)

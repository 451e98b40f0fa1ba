-- An unknown number is refused, and else the numbers that were read are written. Assumes nothing.
use Prim.Native.Nat.{ℕ}
use mathlib.Core.List.{List, [], ◌∷◌}
use native.Mathlib.Omega.{arith}
use lib.ListN.{get_or}
use Rattle.words.specs.Words.{bytes_of}
use Rattle.client_counts.specs.Numbers.{place_numbers}
use Rattle.report.proofs.TrailLaws.{line_refused, row_written}
use Rattle.client_counts.proofs.place_numbers.Goals as goal

pub returns-in_err-place : goal.returns-in_err-place
returns-in_err-place c = line_refused _ _ _ _ _ c.from_residual.ensures.1 c.in_err-place.ensures

pub returns : goal.returns
unfolding place_numbers
returns c = row_written (λ (xs : List ℕ). bytes_of (get_or xs 0 0 ∷ get_or xs 1 0 ∷ get_or xs 2 0 ∷ get_or xs 3 0 ∷ [])) (omega arith, tt) c.in_ok-place.ensures c.write_row.ensures

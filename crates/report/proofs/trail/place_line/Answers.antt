-- An unknown number is refused, and else the line of the numbers that were read is written. Assumes nothing.
use Prim.Native.Nat.{ℕ}
use mathlib.Core.List.{List}
use native.Mathlib.Omega.{arith}
use lib.ListN.{get_or}
use Rattle.report_lines.specs.ReportLines.{place_line}
use Rattle.report.specs.TrailLines.{place_line_at}
use Rattle.report.proofs.TrailLaws.{line_refused, row_written}
use Rattle.report.proofs.trail.place_line.Goals as goal

pub returns-in_err-place : goal.returns-in_err-place
returns-in_err-place c = line_refused _ _ _ _ _ c.from_residual.ensures.1 c.in_err-place.ensures

pub returns : goal.returns
unfolding place_line_at
returns c = row_written (λ (xs : List ℕ). place_line (get_or xs 0 0) (get_or xs 1 0) (get_or xs 2 0) (get_or xs 3 0)) (omega arith, tt) c.in_ok-place.ensures c.place_line.ensures

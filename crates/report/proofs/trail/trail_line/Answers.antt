-- The line of the numbers that were read is written. Assumes nothing.
use Prim.Native.Nat.{ℕ}
use mathlib.Core.Path.{refl}
use mathlib.Core.List.{List}
use lib.ListN.{get_or}
use Rattle.report_lines.specs.ReportLines.{trail_line}
use Rattle.report.specs.TrailLines.{trail_line_at}
use Rattle.report.proofs.TrailLaws.{row_written}
use Rattle.report.proofs.trail.trail_line.Goals as goal

pub returns : goal.returns
unfolding trail_line_at
returns c = row_written (λ (xs : List ℕ). trail_line (get_or xs 0 0) (get_or xs 1 0) (get_or xs 2 0) (get_or xs 3 0)) tt (refl, c.trail_row.ensures) c.trail_line.ensures

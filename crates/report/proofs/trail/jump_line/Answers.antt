-- An unknown number is refused, and else the line of the numbers that were read is written. Assumes nothing.
use Prim.Native.Nat.{ℕ}
use mathlib.Core.List.{List}
use native.Mathlib.Omega.{arith}
use lib.ListN.{get_or}
use Rattle.report_lines.specs.ReportLines.{jump_line}
use Rattle.report.specs.TrailLines.{jump_line_at}
use Rattle.report.proofs.TrailLaws.{line_refused, row_written}
use Rattle.report.proofs.trail.jump_line.Goals as goal

pub returns-in_err-from : goal.returns-in_err-from
returns-in_err-from c = line_refused _ _ _ _ _ c.from_residual.ensures.1 c.in_err-from.ensures

pub returns : goal.returns
unfolding jump_line_at
returns c = row_written (λ (xs : List ℕ). jump_line (get_or xs 0 0) (get_or xs 1 0) (get_or xs 2 0)) (omega arith, (omega arith, tt)) c.in_ok-from.ensures c.jump_line.ensures

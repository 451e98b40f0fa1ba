-- T4's report, line by line and whole, and T13's figures with those of A.7, computed from the definitions, are the papers' text; and a
-- line of 41 bytes, which is the longest. Assumes nothing.
use mathlib.Core.Path.{◌≡◌, refl, ap}
use native.Mathlib.Omega.{arith}
use lib.ListN.{length}
use Rattle.replay.specs.Rows.{M}
use Rattle.report.specs.Report.{report_of}
use Rattle.text.specs.Decimal.{decimal}
use Rattle.fitness.specs.Fitness.{thousandths, fitness}
use Rattle.text.proofs.DecimalLaws.{digits_are}
use Rattle.lines.specs.Lines.{line_of}
use Rattle.report_lines.specs.ReportLines.{trail_line}
use Rattle.report.specs.Rows.{lines, longest, rounding, figures, whole, RowsHold}
use Rattle.report.specs.Lengths.{max_line}

pub lines-hold : RowsHold lines
unfolding lines line_of decimal fitness thousandths
lines-hold = (refl, (refl, (refl, (refl, (refl, (refl, (refl, (refl, (refl, (refl, (refl, (refl, (refl, tt)))))))))))))

pub longest-holds : RowsHold longest
unfolding longest line_of fitness thousandths
longest-holds =
    (rw (digits_are 3 1024 (omega arith), digits_are 6 1000000 (omega arith), digits_are 6 8001024 (omega arith)) refl, tt)

-- it has as many bytes as a line can have
pub longest-size : length (trail_line 1024 1000000 8001024 8001024) ≡ max_line
unfolding longest
longest-size = ap length longest-holds.0

pub rounding-holds : RowsHold rounding
unfolding rounding fitness thousandths
rounding-holds = (refl, (refl, (refl, (refl, (refl, (refl, (refl, (refl, (refl, (refl, tt))))))))))

pub figures-hold : RowsHold figures
unfolding figures line_of decimal fitness thousandths
figures-hold = (refl, (refl, (refl, (refl, tt))))

pub whole-holds : RowsHold whole
unfolding whole M report_of line_of decimal fitness thousandths
whole-holds = (refl, tt)

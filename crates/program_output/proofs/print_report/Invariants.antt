-- The invariant: n is the number of lines, the buffer has its 4096 bytes, and the lines up to line i are printed. The measure is how
-- many lines are left.
use Prim.Native.Nat.{◌-◌, ◌≤◌}
use mathlib.Core.Path.{◌≡◌}
use lib.ListN.{length}
use Rattle.std.specs.Io.KnownBytes.{Appends}
use Rattle.report_parts.specs.Parts.{lines_in, lines_from}
use Rattle.program_output.proofs.print_report.Given as goal

abbrev pub invariant-loop-i : goal.invariant-loop-i
invariant-loop-i g l = record {
  count : l.n ≡ lines_in l.trail.rec.now;
  room : length l.out ≡ 4096;
  within : l.i ≤ l.n;
  printed : Appends (g.W.Write.contents l.initial.to) (g.W.Write.contents l.to) (lines_from l.trail.rec.now l.i 0);
}

abbrev pub decreases-loop-i : goal.decreases-loop-i
decreases-loop-i g l = l.n - l.i

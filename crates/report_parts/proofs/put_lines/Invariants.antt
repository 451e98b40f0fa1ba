-- The invariant: what is still to be put, over the bytes as they are now, completes the lines over the bytes at entry. Assumes nothing.
use Prim.Native.Nat.{◌≤◌, max}
use mathlib.Core.Path.{◌≡◌}
use Rattle.report_parts.specs.Parts.{lines_in}
use Rattle.report_parts.proofs.PutLaws.{Putting}
use Rattle.report_parts.proofs.put_lines.Given as goal

abbrev pub invariant-loop-i : goal.invariant-loop-i
invariant-loop-i l = record {
  lines : l.n ≡ lines_in l.trail.rec.now;
  upto : l.i ≤ max l.from l.n;
  put : Putting l.trail.rec.now l.from l.initial.out l.i l.at l.out;
}

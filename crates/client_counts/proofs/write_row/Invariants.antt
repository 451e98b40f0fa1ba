-- The numbers that are left, put behind those that are written, are all of them. Assumes nothing.
use Prim.Native.Nat.{◌*◌}
use mathlib.Core.Path.{◌≡◌}
use lib.ListN.{drop}
use lib.Seq.{sets}
use Rattle.words.specs.Words.{bytes_of}
use Rattle.client_counts.proofs.write_row.Given as goal

abbrev pub invariant-loop-i : goal.invariant-loop-i
invariant-loop-i l = sets l.out (4 * l.i) (bytes_of (drop l.i l.row)) ≡ sets l.initial.out 0 (bytes_of l.row)

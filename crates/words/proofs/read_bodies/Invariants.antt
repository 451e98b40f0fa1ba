-- The loop keeps what is left: the bodies from pair i on, which are to start at `end`. Assumes nothing.
use Prim.Native.Nat.{◌-◌, ◌*◌}
use mathlib.Core.Path.{◌≡◌}
use Rattle.words.specs.Words.{bodies_from, bodies_of}
use Rattle.words.proofs.read_bodies.Given as goal

abbrev pub invariant-loop-i : goal.invariant-loop-i
invariant-loop-i l = bodies_from l.s (8 * l.i) l.end (l.n - l.i) ≡ bodies_of l.n l.s

-- The kinds passed differ from those before them, and the one at i from the first j; the pairs are left at the first that are equal. Assumes nothing.
use Prim.Native.Nat.{ℕ, ◌<◌}
use mathlib.Core.Bool.{false}
use mathlib.Core.Path.{◌≡◌}
use lib.ListN.{get_or}
use Rattle.replay_objects.proofs.PairLaws.{Apart}
use Rattle.replay_objects.proofs.kinds.two_among.Given as goal

abbrev pub invariant-loop-j : goal.invariant-loop-j
invariant-loop-j g l = (l.found ≡ false) × ((b : ℕ) → b < l.j → get_or l.kinds l.i 0 ≡ get_or l.kinds b 0 → ⊥)

abbrev pub invariant-pairs : goal.invariant-pairs
invariant-pairs g l = (l.found ≡ false) × Apart l.kinds l.i

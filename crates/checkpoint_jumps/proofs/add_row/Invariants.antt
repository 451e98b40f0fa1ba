-- The columns below y have their counts; the sum of those that no jump can have is that of the columns below y. Assumes nothing.
use Prim.Native.Nat.{◌+◌, ◌*◌, ◌≤◌}
use mathlib.Core.Path.{◌≡◌}
use Rattle.words.specs.Lists.{sum_to}
use Rattle.net.specs.Held.{net_in}
use Rattle.checkpoint_jumps.specs.Sums.{pair_in, foreign_in}
use Rattle.checkpoint_jumps.proofs.Adding.{Pass}
use Rattle.checkpoint_jumps.proofs.add_row.Given as goal

abbrev pub invariant-loop-y : goal.invariant-loop-y
invariant-loop-y l = Pass l.initial.into l.into (pair_in (net_in l.net.words.now) l.js l.x) (l.x * 4294967296 + 4294967296) l.y × (l.off ≡ pair_in (net_in l.net.words.now) l.js l.x l.x + sum_to l.y (foreign_in (net_in l.net.words.now) l.js l.x l.k)) × (l.off ≤ 4294967296 * (l.y + 1))

-- After x rows each column has their counts. Assumes nothing.
use Prim.Native.Nat.{ℕ, ◌*◌, ◌≤◌}
use mathlib.Core.Path.{◌≡◌}
use Rattle.words.specs.Lists.{sum_to}
use Rattle.net.specs.Held.{net_in}
use Rattle.checkpoint_jumps.specs.Sums.{pair_in, barred_in, AtMost, Added}
use Rattle.checkpoint_jumps.proofs.add_rows.Given as goal

abbrev pub invariant-loop-x : goal.invariant-loop-x
invariant-loop-x l = (l.off ≡ sum_to l.x (barred_in (net_in l.net.words.now) l.js)) × (l.off ≤ 279172874240 * l.x) × Added (net_in l.net.words.now).places l.initial.into l.into (λ (y : ℕ). sum_to l.x (λ (z : ℕ). pair_in (net_in l.net.words.now) l.js z y)) × AtMost (net_in l.net.words.now).places (l.x * 4294967296) l.into

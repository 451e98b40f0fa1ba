-- After k kinds, each sum has grown by what they take. Assumes nothing.
use Prim.Native.Nat.{ℕ, ◌*◌}
use Rattle.words.specs.Lists.{sum_to}
use Rattle.net.specs.Held.{net_in}
use Rattle.checkpoint_jumps.specs.Sums.{taken_by, Added}
use Rattle.checkpoint_jumps.proofs.take_arcs.Given as goal

abbrev pub invariant-loop-k : goal.invariant-loop-k
invariant-loop-k l = Added (net_in l.net.words.now).places l.initial.taken l.taken (λ (q : ℕ). sum_to l.k (λ (j : ℕ). l.fired * taken_by (net_in l.net.words.now) l.a q j))

-- After a activities each sum has grown by what their events take. Assumes nothing.
use Prim.Native.Nat.{ℕ, ◌+◌, ◌*◌}
use lib.ListN.{get_or}
use Rattle.words.specs.Lists.{sum_to}
use Rattle.words.specs.Words.{words_of}
use Rattle.net.specs.Held.{net_in}
use Rattle.replay.specs.State.{inputs}
use Rattle.checkpoint_jumps.specs.Sums.{AtMost, Added}
use Rattle.checkpoint_jumps.proofs.CountedBodies.take_inputs.Given as goal

abbrev pub invariant-loop-a : goal.invariant-loop-a
invariant-loop-a l = Added (net_in l.self.net.words.now).places l.initial.taken l.taken (λ (q : ℕ). sum_to l.a (λ (b : ℕ). get_or (words_of l.self.counts.now) (3 + 2 * b) 0 * inputs (net_in l.self.net.words.now) q b)) × AtMost (net_in l.self.net.words.now).places (l.a * 34359738368) l.taken

-- After i objects each sum has grown by what they add. Assumes nothing.
use Prim.Native.Nat.{ℕ}
use lib.ListN.{get_or}
use lib.Dec.{eqb}
use Rattle.words.specs.Lists.{one, sum_to}
use Rattle.words.specs.Words.{words_of}
use Rattle.net.specs.Held.{net_in}
use Rattle.checkpoint_jumps.specs.Sums.{Added}
use Rattle.checkpoint_jumps.proofs.CountedBodies.take_sinks.Given as goal

abbrev pub invariant-loop-i : goal.invariant-loop-i
invariant-loop-i l = Added (net_in l.self.net.words.now).places l.initial.taken l.taken (λ (q : ℕ). sum_to l.i (λ (o : ℕ). one (eqb q ((net_in l.self.net.words.now).sink (get_or (words_of l.self.register.now) o 0)))))

-- With the sum of the jumps added, the record's numbers are those of a state from which the objects left lead to the state
-- sought. Assumes nothing.
use Prim.Native.Nat.{◌≤◌}
use Rattle.words.specs.Words.{words_of}
use Rattle.replay_close.proofs.Sinks.{Sinking}
use Rattle.replay_close.proofs.sink_objects.Given as goal

abbrev pub invariant-loop-o : goal.invariant-loop-o
invariant-loop-o l = (l.jumps ≤ l.o) × Sinking l.net.words.now l.initial.rec l.lay l.o l.jumps (words_of l.rec)

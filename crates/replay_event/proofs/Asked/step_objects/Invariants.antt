-- With the sum of the jumps added, the record's numbers are those of a state from which the objects left lead to the state
-- sought. Assumes nothing.
use Prim.Native.Nat.{◌≤◌}
use Rattle.words.specs.Words.{words_of}
use Rattle.replay_event.proofs.Steps.{Stepping}
use Rattle.replay_event.proofs.Asked.step_objects.Given as goal

abbrev pub invariant-loop-i : goal.invariant-loop-i
invariant-loop-i l = (l.jumps ≤ l.i) × Stepping l.self l.initial.rec l.i l.jumps (words_of l.rec)

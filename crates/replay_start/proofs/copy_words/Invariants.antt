-- What is left to store after i numbers. Assumes nothing.
use Prim.Native.Nat.{◌+◌}
use mathlib.Core.Path.{◌≡◌}
use lib.ListN.{length, drop}
use lib.Seq.{sets}
use Rattle.words.specs.Words.{words_of}
use Rattle.replay_start.proofs.copy_words.Given as goal

abbrev pub invariant-loop-i : goal.invariant-loop-i
invariant-loop-i l = (length l.out ≡ length l.initial.out) × (sets (words_of l.out) (l.base + l.i) (drop l.i (words_of l.s)) ≡ sets (words_of l.initial.out) l.base (words_of l.s))

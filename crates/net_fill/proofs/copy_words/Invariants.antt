-- What is left to store after i words. Assumes nothing.
use Prim.Native.Nat.{◌+◌}
use mathlib.Core.Path.{◌≡◌}
use lib.ListN.{take, drop}
use lib.Seq.{sets}
use Rattle.words.specs.Words.{words_of}
use Rattle.net_fill.proofs.copy_words.Given as goal

abbrev pub invariant-loop-i : goal.invariant-loop-i
invariant-loop-i l = let ws = take l.n (drop l.from (words_of l.s)) in sets l.w (l.base + l.i) (drop l.i ws) ≡ sets l.initial.w l.base ws

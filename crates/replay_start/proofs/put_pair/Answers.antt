-- The pair's second number is in the bytes. Assumes nothing.
use native.Mathlib.Omega.{arith}
use Rattle.words.proofs.Words.{length-words}
use Rattle.replay_start.proofs.put_pair.Goals as goal

pub overflow_add-i : goal.overflow_add-i
overflow_add-i c = omega (arith, length-words c.args.out.now)

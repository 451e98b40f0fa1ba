-- The row of each object is there. Assumes nothing.
use native.Mathlib.Omega.{arith}
use Rattle.words.proofs.Words.{length-words}
use Rattle.replay_start.proofs.put_sources.Goals as goal

pub put_source-requires : goal.put_source-requires
put_source-requires c = record { known_object = omega (arith, length-words c.args.out.now, length-words c.loop-o.out, c.loop-o.invariant.0, c.objects-o-end.ensures, c.requires.room) }

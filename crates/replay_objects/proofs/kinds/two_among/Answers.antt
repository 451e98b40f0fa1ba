-- The return within has found a pair; past the last kind there is none. Assumes nothing.
use mathlib.Core.Path.{sym, ◌∙◌}
use native.Mathlib.Omega.{arith}
use Rattle.replay_objects.proofs.PairLaws.{twice-at, twice-not}
use Rattle.replay_objects.proofs.kinds.two_among.Goals as goal

pub returns-after-pairs : goal.returns-after-pairs
returns-after-pairs g c = c.pairs.invariant.0 ∙ sym (twice-not c.args.kinds.now (λ a h. c.pairs.invariant.1 a (omega (arith, c.pairs-test.false, c.requires))))

pub returns-then-kinds-i : goal.returns-then-kinds-i
returns-then-kinds-i g c = sym (twice-at c.args.kinds.now c.pairs.i c.loop-j.j (omega (arith, c.requires)) c.loop-j-test.true c.if-kinds-i.true)

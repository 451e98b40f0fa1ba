-- The turn passes as many bytes more as it read.
use Rattle.std.proofs.Common.{rules}
use Rattle.program_input.proofs.Reading.{pass_more}
use Rattle.program_input.proofs.skip.Goals as goal

pub loop-passed-preserved : goal.loop-passed-preserved
loop-passed-preserved g c = (search rules, pass_more _ _ _ _ _ _ (search rules) c.loop-passed.invariant.1 c.read_some.ensures.bytes)

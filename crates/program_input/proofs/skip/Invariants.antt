-- Each read that is not the last leaves fewer bytes to pass.
use Rattle.std.proofs.Common.{◌≤◌, ◌-◌}
use Rattle.program_input.specs.Counts.{Passes}
use Rattle.program_input.proofs.skip.Given as goal

abbrev pub invariant-loop-passed : goal.invariant-loop-passed
invariant-loop-passed g l = (l.passed ≤ l.n) × Passes (g.R.Read.remaining l.initial.input) (g.R.Read.remaining l.input) l.passed

abbrev pub decreases-loop-passed : goal.decreases-loop-passed
decreases-loop-passed g l = l.n - l.passed

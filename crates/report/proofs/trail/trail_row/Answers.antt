-- What was read is what the line has. Assumes nothing.
use mathlib.Core.Path.{ap}
use mathlib.Core.List.{[], ◌∷◌}
use Rattle.replay_counts.specs.Reads.{trail_read}
use Rattle.replay_counts.specs.declared.TrailCounts.{TrailCounts}
use Rattle.report.proofs.trail.trail_row.Goals as goal

pub returns : goal.returns
unfolding trail_read
returns c = ap (λ (k : TrailCounts). k.objects ∷ k.events ∷ k.jumps ∷ k.transfers ∷ []) c.read_trail-k.ensures

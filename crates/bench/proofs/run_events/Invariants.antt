-- The loop: what is left of the body is still to be carried out. Assumes nothing.
use mathlib.Core.Path.{◌≡◌}
use lib.ListN.{length}
use Rattle.bench.proofs.Rows.{Left}
use Rattle.bench.proofs.run_events.Given as goal

abbrev pub invariant-loop-event : goal.invariant-loop-event
invariant-loop-event l = record {
  left : Left l.initial.trail.rec.now l.events l.trail.rec.now l.rest l.n;
  same : l.trail.rec.ghost_name ≡ l.initial.trail.rec.ghost_name;
}

abbrev pub decreases-loop-event : goal.decreases-loop-event
decreases-loop-event l = length l.rest

-- The invariant: what comes of all events stays the same from step to step. The measure is how many events can still be
-- accepted: each step that is not the last accepts one more, and at most 1,000,000 are accepted.
use Prim.Native.Nat.{◌-◌, ◌≤◌}
use mathlib.Core.Path.{◌≡◌}
use lib.ListN.{length}
use Rattle.program_step.specs.Outcomes.{SameTrail, followed_kinds, followed_net, spot_at}
use Rattle.program_events.specs.Window.{Window, Kept}
use Rattle.program_events.proofs.Kept.{going}
use Rattle.program_events.proofs.steps.Given as goal

abbrev pub invariant-loop-from : goal.invariant-loop-from
invariant-loop-from l = record {
  kept : Kept (followed_net l.initial.following) (followed_kinds l.initial.following) l.initial.following.body (Window l.window l.least) l.initial.following.rec.now (spot_at 0 l.initial.following) l.following.rec.now (going (spot_at l.from l.following));
  inside : l.from ≤ length l.window;
  same : SameTrail l.initial.following l.following;
  grown : l.initial.following.accepted ≤ l.following.accepted;
  first : l.following.accepted ≤ l.initial.following.accepted → l.from ≡ 0;
}

abbrev pub decreases-loop-from : goal.decreases-loop-from
decreases-loop-from l = 1000001 - l.following.accepted

-- The invariant: the bytes that were read first and those that the turns read are a file. The measure is how many events can
-- still be accepted: each turn but the last accepts one, since a window that is full has room for one.
use Prim.Native.Nat.{◌-◌}
use mathlib.Core.Path.{◌≡◌}
use Rattle.program_input.specs.Window.{window_bytes, window_room}
use Rattle.program_step.specs.Outcomes.{SameTrail, followed_kinds, followed_net, spot_at}
use Rattle.program_events.proofs.File.{Read}
use Rattle.program_events.proofs.all_events.Given as goal

abbrev pub invariant-loop-from : goal.invariant-loop-from
invariant-loop-from g l = record {
  read : Read (followed_net l.initial.following) (followed_kinds l.initial.following) l.initial.following.body l.initial.following.rec.now (window_bytes l.initial.window) (window_room l.initial.window) l.following.rec.now (window_bytes l.window) (spot_at 0 l.following);
  same : SameTrail l.initial.following l.following;
  room : window_room l.window ≡ window_room l.initial.window;
  same_buffer : l.window.buf.ghost_name ≡ l.initial.window.buf.ghost_name;
}

abbrev pub decreases-loop-from : goal.decreases-loop-from
decreases-loop-from g l = 1000001 - l.following.accepted

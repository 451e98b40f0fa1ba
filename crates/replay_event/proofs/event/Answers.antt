-- `event` meets its contract: a refused event leaves the bytes. Assumes nothing.
use Rattle.replay_event.proofs.Answered.{bytes_kept}
use Rattle.replay_event.proofs.event.Goals as goal

pub returns-in_err-refuse-clause-trail_after : goal.returns-in_err-refuse-clause-trail_after
returns-in_err-refuse-clause-trail_after c = rw (← c.wide-act.ensures) (bytes_kept _ _ c.args.trail.now.ready _ _ _ c.in_err-refuse.was c.refuse.ensures)

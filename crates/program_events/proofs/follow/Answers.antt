-- The trail is closed where no event was refused, and it is one to which calls can be put, also after the close. Assumes nothing.
use Rattle.net.specs.Held.{net_in}
use Rattle.replay.specs.Plain.{close}
use Rattle.replay.specs.Register.{kinds_in}
use Rattle.replay.proofs.Calls.{ready-asked}
use Rattle.program_input.specs.Window.{window_bytes, window_room}
use Rattle.program_events.proofs.File.{end-refused, end-closed}
use Rattle.program_events.proofs.follow.Goals as goal

pub returns-in_err-put_events-clause-ends : goal.returns-in_err-put_events-clause-ends
returns-in_err-put_events-clause-ends g c =
    let a = c.args in
    let p = c.put_events in
    end-refused (net_in a.register.now.net.words.now) (kinds_in (net_in a.register.now.net.words.now) a.register.now.bytes.now) a.body a.rec.now (window_bytes a.window.now) (window_room a.window.now) p.new.rec p.result p.ensures.all _ c.in_err-put_events.was _ c.from_residual.ensures.1

pub returns-clause-ends : goal.returns-clause-ends
returns-clause-ends g c =
    let a = c.args in
    let p = c.put_events in
    end-closed (net_in a.register.now.net.words.now) (kinds_in (net_in a.register.now.net.words.now) a.register.now.bytes.now) a.body a.rec.now (window_bytes a.window.now) (window_room a.window.now) p.new.rec p.result p.ensures.all c.in_ok-put_events.was c.close_trail.new.rec c.close_trail.ensures

pub returns-clause-ready : goal.returns-clause-ready
returns-clause-ready g c = rw c.close_trail.ensures (ready-asked _ _ c.put_events.ensures.ready close)

-- `close` meets its contract: the flag that is read gives the answer. Assumes nothing.
use mathlib.Core.Path.{refl}
use native.Mathlib.Omega.{arith}
use Rattle.replay.proofs.Calls.{ready-asked, bytes-refused}
use Rattle.replay_layout.proofs.RecordLaws.{ready-contents}
use Rattle.replay_moves.proofs.Layouts.{closed_in}
use Rattle.replay_close.specs.Answers.{ask_close}
use Rattle.replay_close.proofs.Sinks.{flag-is, close-refused, close-accepted}
use Rattle.replay_close.proofs.close.Goals as goal

pub read_layout-lay-requires : goal.read_layout-lay-requires
read_layout-lay-requires c = record { head_room = ready-contents _ _ c.args.trail.now.ready }

pub get_word-requires : goal.get_word-requires
get_word-requires c = rw c.closed_at.ensures (closed_in _ _ _ c.args.trail.now.ready c.read_layout-lay.ensures)

pub returns-then-get_word-ne0 : goal.returns-then-get_word-ne0
returns-then-get_word-ne0 c =
    let R = c.args.trail.now.ready in let e = c.read_layout-lay.ensures in
    let told = close-refused _ _ _ R e (rw (c.get_word.ensures, c.closed_at.ensures, flag-is _ _ _ R e) at c.if-get_word-ne0.true) in
    record { answer = told; trail_after = bytes-refused _ _ R ask_close (λ z. omega (arith, told)); same_net = refl; same_bytes = refl }

pub take_close-requires-clause-is_open : goal.take_close-requires-clause-is_open
take_close-requires-clause-is_open c = rw (c.get_word.ensures, c.closed_at.ensures, flag-is _ _ _ c.args.trail.now.ready c.read_layout-lay.ensures) at c.if-get_word-ne0.false

pub invariant_of-trail-2 : goal.invariant_of-trail-2
invariant_of-trail-2 c = record { ready = rw c.take_close.ensures (ready-asked _ _ c.args.trail.now.ready ask_close) }

pub returns-clause-answer : goal.returns-clause-answer
returns-clause-answer c =
    close-accepted _ _ _ c.args.trail.now.ready c.read_layout-lay.ensures (rw (c.get_word.ensures, c.closed_at.ensures, flag-is _ _ _ c.args.trail.now.ready c.read_layout-lay.ensures) at c.if-get_word-ne0.false)

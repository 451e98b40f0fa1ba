-- An event that was read is accepted, and the step is what the answer says. Assumes nothing.
use Prim.Native.Nat.{ℕ, ◌+◌, ◌-◌, ◌*◌}
use mathlib.Core.Bool.{false}
use mathlib.Core.Path.{◌≡◌, ap, ◌∙◌}
use native.Mathlib.Omega.{arith}
use lib.ListN.{length}
use Rattle.words.specs.Words.{words_of}
use Rattle.program_step.specs.OneStep.{Outcome}
use Rattle.program_step.proofs.StepLaws.{Taken, event_found, passed_on, taken, trail-told, outcome-told}
use Rattle.program_step.proofs.Following.step.Goals as goal
use Rattle.program_step.proofs.Following.step.Goals.{In-Some}

event-taken : (c : In-Some) → Taken c.args.self.now c.args.window.now (event_found c.in-Some.read)
event-taken c = taken c.args.self.now c.args.window.now _ (rw c.in-Some.is at c.in_ok-read_window.ensures.answer)

pub returns-in_err-read_window-clause-trail : goal.returns-in_err-read_window-clause-trail
returns-in_err-read_window-clause-trail c = rw c.in_err-read_window.was at (trail-told c.args.self.now c.args.window.now _ c.read_window.ensures.answer)

pub returns-in_err-read_window-clause-outcome : goal.returns-in_err-read_window-clause-outcome
returns-in_err-read_window-clause-outcome c =
    passed_on 0 c.args.self.now _ _ c.from_residual.ensures.1 ∙ rw c.in_err-read_window.was at (outcome-told c.args.self.now c.args.window.now _ c.read_window.ensures.answer)

pub overflow_sub-size : goal.overflow_sub-size
overflow_sub-size c = let h = event-taken (goal.at.overflow_sub-size c).In-Some in omega (arith, h.size)

pub take-requires : goal.take-requires
take-requires c = record { ready = c.args.self.now.follows.ready; accepted = (event-taken (goal.at.take-requires c).In-Some).accepts }

pub overflow_add-self : goal.overflow_add-self
overflow_add-self c = let h = event-taken (goal.at.overflow_add-self c).In-Some in omega (arith, h.room)

pub invariant_of-self : goal.invariant_of-self
invariant_of-self c = let h = event-taken (goal.at.invariant_of-self c).In-Some in record { follows = rw c.take.ensures h.follows }

pub returns-in-None-clause-trail : goal.returns-in-None-clause-trail
returns-in-None-clause-trail c = trail-told c.args.self.now c.args.window.now _ (rw c.in-None.is at c.in_ok-read_window.ensures.answer)

pub returns-in-None-clause-outcome : goal.returns-in-None-clause-outcome
returns-in-None-clause-outcome c = outcome-told c.args.self.now c.args.window.now _ (rw c.in-None.is at c.in_ok-read_window.ensures.answer)

pub returns-in-Some-clause-trail : goal.returns-in-Some-clause-trail
returns-in-Some-clause-trail c = c.take.ensures ∙ trail-told c.args.self.now c.args.window.now _ (rw c.in-Some.is at c.in_ok-read_window.ensures.answer)

pub returns-in-Some-clause-outcome : goal.returns-in-Some-clause-outcome
returns-in-Some-clause-outcome c =
    let s = c.args.self.now in
    let h = event-taken (goal.at.returns-in-Some-clause-outcome c).In-Some in
    let n : 0 + (c.in-Some.read.next.at - s.at) ≡ 0 + 8 + 4 * length (words_of c.in-Some.read.event.objects.now) = omega (arith, h.size) in
    ap {B = Outcome} (λ (n : ℕ). record { spot = record { from = n; at = c.in-Some.read.next.at; accepted = s.accepted + 1 }; over = false; code = 0 }) n
    ∙ outcome-told s c.args.window.now _ (rw c.in-Some.is at c.in_ok-read_window.ensures.answer)

-- What comes of all events stays the same from step to step, and a step that is not the last accepts one event more. Assumes nothing.
use Prim.Native.Nat.{ℕ, ◌+◌, ◌-◌, ◌≤◌, ◌<◌}
use mathlib.Core.Path.{◌≡◌, refl, ◌∙◌}
use mathlib.Core.List.{List}
use native.Mathlib.Decide.{dec_le}
use native.Mathlib.Omega.{arith}
use lib.ListN.{length, drop, length-drop}
use lib.Seq.{length-take-le}
use Rattle.std.specs.Prelude.{Option, Some, Result, Ok}
use Rattle.replay_layout.proofs.RecordLaws.{ready-loaded}
use Rattle.trace_reader.specs.declared.TraceError.{TraceError}
use Rattle.program_step.specs.declared.Following.{Following}
use Rattle.program_step.specs.OneStep.{step_trail, step_outcome}
use Rattle.program_step.specs.Outcomes.{SameTrail, followed_kinds, followed_net, outcome_of, spot_at}
use Rattle.program_step.proofs.StepLaws.{Stepped, stepped, events-few, passed_on}
use Rattle.program_events.specs.Window.{Window, Kept}
use Rattle.program_events.proofs.Kept.{going, window_from, kept-start, kept_step, kept-over}
use Rattle.program_events.proofs.steps.Goals as goal
use Rattle.program_events.proofs.steps.Goals.{After-step, In-Some}

-- the step that was made, and what is kept over it
record Made (f₀ f g : Following) (window : List ℕ) (least from : ℕ) (r : Result (Option ℕ) TraceError) : Type 0 where
  kept : Kept (followed_net f₀) (followed_kinds f₀) f₀.body (Window window least) f₀.rec.now (spot_at 0 f₀) g.rec.now (outcome_of from g r)
  step : Stepped (length (window_from window from)) f.accepted (outcome_of 0 g r)
  few : f.accepted ≤ 1000000
  room : length (window_from window from) ≡ length window - from
  same : SameTrail f₀ g

made : (f₀ f g : Following) (window : List ℕ) (least from : ℕ) (r : Result (Option ℕ) TraceError) → SameTrail f₀ f → SameTrail f g
    → Kept (followed_net f₀) (followed_kinds f₀) f₀.body (Window window least) f₀.rec.now (spot_at 0 f₀) f.rec.now (going (spot_at from f)) → from ≤ length window → least ≤ length window - from
    → g.rec.now ≡ step_trail (followed_net f) (followed_kinds f) (window_from window from) f.body f.rec.now (spot_at 0 f)
    → outcome_of 0 g r ≡ step_outcome (followed_net f) (followed_kinds f) (window_from window from) f.body (spot_at 0 f)
    → Made f₀ f g window least from r
made f₀ f g window least from r before now K inside enough p q =
    let few = events-few _ _ _ _ f.follows in
    record {
      kept = kept_step (followed_net f₀) (followed_kinds f₀) f₀.body (ready-loaded _ _ f₀.follows.ready) window least f₀.rec.now (spot_at 0 f₀) f.rec.now (spot_at from f) g.rec.now g r K enough inside few (rw (← before.2, ← before.3) p) (rw (← before.2, ← before.3) q);
      step = stepped f (window_from window from) _ q;
      few = few;
      room = length-take-le (length window - from) (drop from window) (omega (arith, length-drop from window));
      same = (now.0 ∙ before.0, now.1 ∙ before.1, now.2 ∙ before.2, now.3 ∙ before.3);
    }

made-here : (c : After-step) → Made c.args.following.now c.loop-from.following c.step.new.self c.args.window.now c.args.least c.loop-from.from c.step.result
made-here c =
    let l = c.loop-from in
    made c.args.following.now l.following c.step.new.self c.args.window.now c.args.least l.from c.step.result l.invariant.same c.step.ensures.same l.invariant.kept l.invariant.inside c.loop-from-test.true c.step.ensures.trail c.step.ensures.outcome

event-here : (c : In-Some) → Stepped (length (window_from c.args.window.now c.loop-from.from)) c.loop-from.following.accepted (outcome_of 0 c.step.new.self (Ok (Some c.in-Some.size)))
event-here c = rw (c.in_ok-size.was, c.in-Some.is) at (made-here (goal.at-In-Some c).After-step).step

-- fewer bytes are left than at the start, so that a step was made
advanced : (size least from n m : ℕ) → (m ≤ n → from ≡ 0) → size - from < least → least ≤ size - 0 → n < m
advanced size least from n m first rest room = go (dec_le m n)
  where
    go : Dec (m ≤ n) → n < m
    go (yes l) = absurd (omega (arith, first l))
    go (no k) = omega arith

pub loop-from-init : goal.loop-from-init
loop-from-init c =
    let f = c.args.following.now in
    record { kept = kept-start (followed_net f) (followed_kinds f) f.body _ f.rec.now (spot_at 0 f); inside = omega arith; same = (refl, refl, refl, refl); grown = omega arith; first = λ h. refl }

pub returns-in_err-size-clause-kept : goal.returns-in_err-size-clause-kept
returns-in_err-size-clause-kept c =
    let f = c.args.following.now in
    let g = c.step.new.self in
    let m = made-here (goal.at-returns-in_err-size-clause-kept c).After-step in
    rw (passed_on 0 g _ _ c.from_residual.ensures.1) (kept-over (followed_net f) (followed_kinds f) f.body _ f.rec.now (spot_at 0 f) g.rec.now (spot_at c.loop-from.from g) 0 _ (rw c.in_err-size.was at m.kept))

pub overflow_add-from : goal.overflow_add-from
overflow_add-from c =
    let m = made-here (goal.at-overflow_add-from c).After-step in
    let s = event-here (goal.at-overflow_add-from c).In-Some in
    omega (arith, s.inside, m.room, c.loop-from.invariant.inside)

pub loop-from-smaller : goal.loop-from-smaller
loop-from-smaller c =
    let m = made-here (goal.at-loop-from-smaller c).After-step in
    let s = event-here (goal.at-loop-from-smaller c).In-Some in
    omega (arith, s.more refl, m.few)

pub loop-from-preserved : goal.loop-from-preserved
loop-from-preserved c =
    let l = c.loop-from in
    let m = made-here (goal.at-loop-from-preserved c).After-step in
    let s = event-here (goal.at-loop-from-preserved c).In-Some in
    let n : c.step.new.self.accepted ≡ l.following.accepted + 1 = s.more refl in
    record {
      kept = rw (c.in_ok-size.was, c.in-Some.is) at m.kept;
      inside = omega (arith, s.inside, m.room, l.invariant.inside);
      same = m.same;
      grown = omega (arith, l.invariant.grown, n);
      first = λ h. absurd (omega (arith, l.invariant.grown, n));
    }

pub returns-in-None-clause-kept : goal.returns-in-None-clause-kept
returns-in-None-clause-kept c =
    let f = c.args.following.now in
    let g = c.step.new.self in
    let m = made-here (goal.at-returns-in-None-clause-kept c).After-step in
    kept-over (followed_net f) (followed_kinds f) f.body _ f.rec.now (spot_at 0 f) g.rec.now (spot_at c.loop-from.from g) 0 0 (rw (c.in_ok-size.was, c.in-None.is) at m.kept)

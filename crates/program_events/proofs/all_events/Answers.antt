-- A turn that is over has carried out all events of a file, and after one that is not, what was read so far goes on in the window.
-- Assumes nothing.
use Prim.Native.Nat.{ℕ, ◌+◌, ◌-◌, ◌≤◌}
use mathlib.Core.Bool.{true}
use mathlib.Core.Path.{◌≡◌, refl, ap, sym, ◌∙◌}
use mathlib.Core.List.{List}
use native.Mathlib.Omega.{arith}
use lib.ListN.{take, drop}
use Rattle.std.specs.Prelude.{Option, Some, None, Result, Ok, Err}
use Rattle.std.specs.Result.{IsErrAnd}
use Rattle.trace_reader.specs.declared.TraceError.{TraceError}
use Rattle.program_input.specs.declared.InputWindow.{InputWindow}
use Rattle.program_input.specs.Window.{window_bytes, window_room}
use Rattle.program_step.specs.declared.Following.{Following}
use Rattle.program_step.specs.Outcomes.{SameTrail, followed_kinds, followed_net, outcome_of, spot_at}
use Rattle.program_step.proofs.StepLaws.{events-few}
use Rattle.program_events.specs.Ends.{left_by, left_of}
use Rattle.program_events.specs.Window.{Filled, Kept, OfSomeFile}
use Rattle.program_events.proofs.File.{Read, read-over, read-on}
use Rattle.program_events.proofs.all_events.Goals as goal

-- a turn in the window w, where f₀ and w₀ are the trail and the window at first
module _ (f₀ f g : Following) (w₀ w : InputWindow) (r : Result (Option ℕ) TraceError) where
  abbrev Read-so-far : List ℕ → List ℕ → Following → Type 0
  Read-so-far rec bytes f = Read (followed_net f₀) (followed_kinds f₀) f₀.body f₀.rec.now (window_bytes w₀) (window_room w₀) rec bytes (spot_at 0 f)

  -- what the turn keeps, by the trail at first
  kept-first : SameTrail f₀ f → Kept (followed_net f) (followed_kinds f) f.body (Filled w.buf.now w.len) f.rec.now (spot_at 0 f) g.rec.now (outcome_of 0 g r)
      → Kept (followed_net f₀) (followed_kinds f₀) f₀.body (Filled w.buf.now w.len) f.rec.now (spot_at 0 f) g.rec.now (outcome_of 0 g r)
  kept-first h K = rw (← h.2, ← h.3) K

  module _ (R : Read-so-far f.rec.now (window_bytes w) f) (same : SameTrail f₀ f) (room : window_room w ≡ window_room w₀) (K : Kept (followed_net f) (followed_kinds f) f.body (Filled w.buf.now w.len) f.rec.now (spot_at 0 f) g.rec.now (outcome_of 0 g r)) where
    over : (outcome_of 0 g r).over ≡ true → OfSomeFile (followed_net f₀) (followed_kinds f₀) f₀.body f₀.rec.now (window_bytes w₀) (window_room w₀) (◌≡◌ (left_by g.rec.now (outcome_of 0 g r)))
    over = read-over (followed_net f₀) (followed_kinds f₀) f₀.body f₀.rec.now (window_bytes w₀) (window_room w₀) f.rec.now w.buf.now w.len (spot_at 0 f) R refl w.within room g.rec.now (outcome_of 0 g r) (kept-first same K)

    goes-on : (n : ℕ) → r ≡ Ok (Some n) → w.len ≡ window_room w → n ≤ w.len → (new : List ℕ) → take (w.len - n) new ≡ drop n (window_bytes w) → Read-so-far g.rec.now new g
    goes-on n e full inside new old =
        let z : 0 + n ≡ n = omega arith in
        read-on (followed_net f₀) (followed_kinds f₀) f₀.body f₀.rec.now (window_bytes w₀) (window_room w₀) f.rec.now w.buf.now w.len (spot_at 0 f) R refl w.within room g.rec.now (outcome_of 0 g (Ok (Some n)))
        (rw e at (kept-first same K)) refl full (rw z inside) new (rw z old)

-- a refusal that is passed on
refused-left : (f : Following) (r : Result Unit TraceError) (e : TraceError) → IsErrAnd r (λ y. y ≡ e) → left_by f.rec.now (outcome_of 0 f (Err e)) ≡ left_of f r
refused-left f (Ok x) e p = absurd p
refused-left f (Err y) e p = ap (λ y. left_of f (Err y)) (sym p)

pub returns-in_err-from-clause-all : goal.returns-in_err-from-clause-all
returns-in_err-from-clause-all g c =
    let l = c.loop-from in
    let n = c.turn.new.following in
    rw (← refused-left n _ _ c.from_residual.ensures.1)
    (over c.args.following.now l.following n c.args.window.now l.window (Err c.in_err-from.field-0.0) l.invariant.read l.invariant.same l.invariant.room (rw c.in_err-from.was at c.turn.ensures.kept) refl)

pub loop-from-smaller : goal.loop-from-smaller
loop-from-smaller g c =
    let l = c.loop-from in
    let r = rw (c.in_ok-from.was, c.in-Some.is) at c.turn.ensures.turned in
    omega (arith, r.full refl, r.more refl (omega (arith, r.full refl, l.invariant.room, c.requires.in_bounds)), events-few _ _ _ _ l.following.follows)

pub loop-from-preserved : goal.loop-from-preserved
loop-from-preserved g c =
    let l = c.loop-from in
    let t = c.turn.ensures in
    let r = rw (c.in_ok-from.was, c.in-Some.is) at t.turned in
    let i = rw (c.in_ok-from.was, c.in-Some.is) at t.inside in
    let h = l.invariant.same in
    record {
      read = goes-on c.args.following.now l.following c.turn.new.following c.args.window.now l.window c.turn.result l.invariant.read h l.invariant.room t.kept c.in-Some.from (rw (c.in_ok-from.was, c.in-Some.is) refl) (r.full refl) (omega (arith, i)) _ c.refill.ensures.kept;
      same = (t.same.0 ∙ h.0, t.same.1 ∙ h.1, t.same.2 ∙ h.2, t.same.3 ∙ h.3);
      room = c.refill.ensures.room ∙ l.invariant.room;
      same_buffer = c.refill.ensures.same_buffer ∙ l.invariant.same_buffer;
    }

pub returns-clause-all : goal.returns-clause-all
returns-clause-all g c =
    let l = c.loop-from in
    over c.args.following.now l.following c.turn.new.following c.args.window.now l.window (Ok None) l.invariant.read l.invariant.same l.invariant.room (rw (c.in_ok-from.was, c.in_default.is) at c.turn.ensures.kept) refl

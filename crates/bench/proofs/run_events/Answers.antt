-- The loop puts the events that are left one by one, and gives what is carried out. Assumes nothing.
use mathlib.Core.Path.{sym, ◌∙◌}
use Rattle.bench.proofs.Rows.{code-refused, code-taken, left-end, left-refused, left-more}
use Rattle.bench.proofs.run_events.Goals as goal

pub returns-then-is_err : goal.returns-then-is_err
returns-then-is_err c =
    let l = c.loop-event in
    let refused = left-refused _ _ _ _ _ l.invariant.left _ _ c.in-Some.ensures.0 _ c.event.ensures.trail_after (λ z. code-refused c.event.result (sym c.is_err.ensures.value ∙ c.if-is_err.true) (c.event.ensures.answer ∙ z)) in
    record { count = refused.0; trail_after = refused.1; same_bytes = c.event.ensures.same_bytes ∙ l.invariant.same }

pub loop-event-preserved : goal.loop-event-preserved
loop-event-preserved c =
    let l = c.loop-event in
    let taken = code-taken c.event.result (sym c.is_err.ensures.value ∙ c.if-is_err.false) in
    record {
      left = left-more _ _ _ _ _ l.invariant.left _ _ c.in-Some.ensures.0 _ c.event.ensures.trail_after (sym c.event.ensures.answer ∙ taken) c.in-Some.ensures.1;
      same = c.event.ensures.same_bytes ∙ l.invariant.same;
    }

pub returns : goal.returns
returns c =
    let l = c.loop-event in
    let ended = left-end _ _ _ _ _ l.invariant.left c.in_default.ensures in
    record { count = ended.0; trail_after = ended.1; same_bytes = l.invariant.same }

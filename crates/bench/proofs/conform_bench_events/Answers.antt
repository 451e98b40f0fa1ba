-- A refused trail stops the call; else the answer is that of the events. Assumes nothing.
use mathlib.Core.Path.{◌∙◌}
use Rattle.client_check.proofs.Checks.{stop-answer, stop-bytes, go-answer, go-bytes}
use Rattle.bench.specs.Bench.{events_answer, events_leave}
use Rattle.bench.proofs.conform_bench_events.Goals as goal

pub returns-then-refused-ne0 : goal.returns-then-refused-ne0
unfolding events_answer events_leave
returns-then-refused-ne0 c = let a = c.args in
    let k = c.checked-refused.ensures in
    record { answer = stop-answer a.trail.now _ _ k c.if-refused-ne0.true _; trail_after = stop-bytes a.trail.now _ _ k c.if-refused-ne0.true _ a.trail.now }

pub invariant_of-net : goal.invariant_of-net
invariant_of-net c = record { held = (c.checked-refused.ensures.ready c.if-refused-ne0.false).held }

pub run_record-requires : goal.run_record-requires
run_record-requires c = c.checked-refused.ensures.ready c.if-refused-ne0.false

pub returns : goal.returns
unfolding events_answer events_leave
returns c = let a = c.args in
    let k = c.checked-refused.ensures in
    let z = c.if-refused-ne0.false in
    let e = c.run_record.ensures in
    record { answer = e.0 ∙ go-answer a.trail.now _ _ k z _; trail_after = e.1 ∙ go-bytes a.trail.now _ _ k z _ a.trail.now }

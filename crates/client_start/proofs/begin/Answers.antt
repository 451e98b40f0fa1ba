-- A register of no whole rows gives 11; else the number of the start, and how many bytes the record takes. Assumes nothing.
use mathlib.Core.Path.{sym, ◌∙◌}
use Rattle.client_start.proofs.Starts.{rows-stop, startable, left_as, start-refused, sizes, size-le, start-taken}
use Rattle.client_start.proofs.begin.Goals as goal

pub returns-then-not-whole-clause-answer : goal.returns-then-not-whole-clause-answer
returns-then-not-whole-clause-answer c = let a = c.args in rw c.from.ensures (rows-stop _ _ a.trail.now a.tabled.now.tabled.taken (sym c.whole.ensures ∙ c.if-not-whole.true)).0

pub returns-then-not-whole-clause-trail_after : goal.returns-then-not-whole-clause-trail_after
returns-then-not-whole-clause-trail_after c = let a = c.args in (rows-stop _ _ a.trail.now a.tabled.now.tabled.taken (sym c.whole.ensures ∙ c.if-not-whole.true)).1

pub returns-in_err-start-clause-answer : goal.returns-in_err-start-clause-answer
returns-in_err-start-clause-answer c =
    let a = c.args in let S = startable _ _ a.trail.now _ a.tabled.now.tabled (sym c.whole.ensures ∙ c.if-not-whole.false) in
    start-refused _ _ a.trail.now _ S c.from_residual.result _ c.from_residual.ensures.1 c.in_err-start.ensures.code

pub returns-in_err-start-clause-trail_after : goal.returns-in_err-start-clause-trail_after
returns-in_err-start-clause-trail_after c =
    let a = c.args in let S = startable _ _ a.trail.now _ a.tabled.now.tabled (sym c.whole.ensures ∙ c.if-not-whole.false) in
    c.in_err-start.ensures.rec_after ∙ left_as _ _ a.trail.now _ S

pub record_bytes-size-requires : goal.record_bytes-size-requires
record_bytes-size-requires c =
    let a = c.args in let S = startable _ _ a.trail.now _ a.tabled.now.tabled (sym c.whole.ensures ∙ c.if-not-whole.false) in
    record { bounded = sizes _ _ a.trail.now _ S (sym c.in_ok-start.ensures.code) }

pub returns : goal.returns
returns c =
    let a = c.args in let S = startable _ _ a.trail.now _ a.tabled.now.tabled (sym c.whole.ensures ∙ c.if-not-whole.false) in
    let z = sym c.in_ok-start.ensures.code in
    record {
      few = size-le _ _ a.trail.now _ S z _ c.record_bytes-size.ensures;
      answer = start-taken _ _ a.trail.now _ S z _ c.record_bytes-size.ensures;
      trail_after = c.in_ok-start.ensures.rec_after ∙ left_as _ _ a.trail.now _ S;
    }

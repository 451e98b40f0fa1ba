-- A refused trail stops the call; else the answer is that of the writing. Assumes nothing.
use Rattle.client_calls.proofs.Written.{write-stops, write_goes}
use Rattle.client_write.proofs.write.Goals as goal

pub returns-then-refused-ne0-clause-answer : goal.returns-then-refused-ne0-clause-answer
returns-then-refused-ne0-clause-answer g c tests line P = (write-stops c.args.trail.now _ _ c.checked-refused.ensures tests line c.args.out.now c.if-refused-ne0.true).0

pub returns-then-refused-ne0-clause-out_after : goal.returns-then-refused-ne0-clause-out_after
returns-then-refused-ne0-clause-out_after g c tests line P = (write-stops c.args.trail.now _ _ c.checked-refused.ensures tests line c.args.out.now c.if-refused-ne0.true).1

pub returns-clause-answer : goal.returns-clause-answer
returns-clause-answer g c tests line P =
    (write_goes c.args.trail.now _ _ c.checked-refused.ensures tests line c.args.out.now c.if-refused-ne0.false _ _ _ (c.put_line.ensures.writes tests line P) c.line_answer.ensures).0

pub returns-clause-out_after : goal.returns-clause-out_after
returns-clause-out_after g c tests line P =
    (write_goes c.args.trail.now _ _ c.checked-refused.ensures tests line c.args.out.now c.if-refused-ne0.false _ _ _ (c.put_line.ensures.writes tests line P) c.line_answer.ensures).1

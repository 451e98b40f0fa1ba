-- The line fits the lent bytes. Assumes nothing.
use native.Mathlib.Omega.{arith}
use Rattle.program_output.proofs.Refusal.{refusal-written}
use Rattle.program_output.proofs.refusal_line.Goals as goal

pub returns-clause-line : goal.returns-clause-line
returns-clause-line c =
    let w = c.refused_line in
    rw c.unwrap_or.ensures (refusal-written c.args.refused.code c.args.refused.events (omega arith) (omega arith) _ w.result _ c.requires w.ensures).1

-- The steps of the loop, and that its end is the whole part. Assumes nothing.
use Prim.Native.Nat.{ℕ}
use mathlib.Core.Path.{◌≡◌, ap, sym, subst, ◌∙◌}
use native.Mathlib.Omega.{arith}
use Rattle.lines.specs.Answer.{line_answer_code, size_of}
use Rattle.report_parts.specs.Parts.{lines_on, Puts}
use Rattle.report_parts.proofs.PutLaws.{error_code, putting, put-line, put-no-line, put-end}
use Rattle.report_parts.proofs.put_lines.Goals as goal

pub loop-i-init : goal.loop-i-init
loop-i-init c = record {
  lines = c.line_count-n.ensures ∙ ap lines_on c.args.trail.now.ready.net;
  upto = omega arith;
  put = putting c.args.trail.now.rec.now c.args.from c.args.out.now;
}

pub returns-in-Err : goal.returns-in-Err
returns-in-Err c =
    let l = c.loop-i in
    put-no-line c.args.trail.now.rec.now c.args.from c.args.out.now l.i l.at l.out l.invariant.put _ _ c.line.ensures
    (λ z. error_code c.in-Err.field-0 (sym (ap line_answer_code c.in-Err.is) ∙ z))

pub loop-i-preserved : goal.loop-i-preserved
loop-i-preserved c =
    let l = c.loop-i in
    record {
      lines = l.invariant.lines;
      upto = omega arith;
      put = put-line c.args.trail.now.rec.now c.args.from c.args.out.now l.i l.at l.out l.invariant.put _ _ c.line.ensures (omega arith) (ap line_answer_code c.in-Ok.is) _ (sym (ap size_of c.in-Ok.is));
    }

pub returns : goal.returns
returns c =
    let l = c.loop-i in
    let last : l.i ≡ c.max.result = omega arith in
    subst (λ (i : ℕ). Puts c.args.trail.now.rec.now c.args.from c.args.out.now (record { next = i; size = l.at }) l.out) last
    (put-end c.args.trail.now.rec.now c.args.from c.args.out.now l.i l.at l.out l.invariant.put (omega arith))

-- Each field is written over the part behind those before it, and the line feed behind the last. Assumes nothing.
use Prim.Native.Nat.{ℕ, ◌+◌}
use mathlib.Core.Path.{ap, sym, ◌∙◌}
use mathlib.Core.List.{List}
use native.Mathlib.Omega.{arith}
use lib.ListN.{length, get_or, drop}
use Rattle.text.specs.Fields.{field_text}
use Rattle.lines.specs.Lines.{fields_text}
use Rattle.text.specs.declared.field.Field.TheVariants.{Nothing}
use Rattle.words.proofs.Over.{over_at, part-back, from_start, behind, one-over}
use Rattle.lines.proofs.LineLaws.{fields-step, fields-step-length, fields-end}
use Rattle.lines.proofs.put_fields.Goals as goal

pub loop-f-init : goal.loop-f-init
loop-f-init c = record { room = omega arith; whole = from_start (fields_text c.args.fs.now) c.args.out.now }

pub loop-f-preserved : goal.loop-f-preserved
loop-f-preserved c =
    let l = c.loop-f in
    let fs = c.args.fs.now in
    let text = field_text (get_or fs l.f-index Nothing) in
    let rest = fields_text (drop (l.f-index + 1) fs) in
    let n = fields-step-length fs l.f-index c.loop-f-test.true in
    let e = c.put_field-at.ensures in
    record {
      room = omega (arith, n);
      whole =
          ap (λ (xs : List ℕ). over_at (l.at + c.put_field-at.result) rest xs) (part-back l.out l.at text _ e.1)
          ∙ behind l.at (l.at + c.put_field-at.result) text rest l.out (omega arith) (omega (arith, n))
          ∙ ap (λ (xs : List ℕ). over_at l.at xs l.out) (sym (fields-step fs l.f-index c.loop-f-test.true))
          ∙ l.invariant.whole;
    }

pub returns : goal.returns
returns c =
    let l = c.loop-f in
    let e = fields-end c.args.fs.now l.f-index c.loop-f-test.false in
    one-over l.at 10 l.out (omega (arith, ap length e)) ∙ ap (λ (xs : List ℕ). over_at l.at xs l.out) (sym e) ∙ l.invariant.whole

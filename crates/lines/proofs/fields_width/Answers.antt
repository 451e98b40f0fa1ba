-- The sum of the fields' lengths, each of which is at most 21. Assumes nothing.
use Rattle.std.proofs.Common.{rules, ◌≡◌, length, arith, min}
use Rattle.std.specs.Prelude.{sum_by}
use Rattle.std.proofs.iter.runs.Made.{chains}
use Rattle.text.specs.Fields.{field_text}
use Rattle.text.specs.declared.field.Field.{Field}
use Rattle.lines.proofs.LineLaws.{fields_sum, short_sum}
use Rattle.lines.proofs.fields_width.Goals as goal

pub overflow_add-result : goal.overflow_add-result
overflow_add-result c =
    let u : c.sum-fields.result ≡ sum_by (λ (f : Field). min 21 (length (field_text f))) c.args.fs.now = search (rules, chains) in
    omega (arith, u, short_sum c.args.fs.now)

pub returns : goal.returns
returns c =
    let e : c.sum-fields.result ≡ sum_by (λ (f : Field). length (field_text f)) c.args.fs.now = search (rules, chains) in
    let u : c.sum-fields.result ≡ sum_by (λ (f : Field). min 21 (length (field_text f))) c.args.fs.now = search (rules, chains) in
    omega (arith, e, u, fields_sum c.args.fs.now, short_sum c.args.fs.now)

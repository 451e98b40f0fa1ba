-- The line fits by its length, and then the word and the fields behind it are the whole line. Assumes nothing.
use mathlib.Core.Path.{ap, ◌∙◌}
use native.Mathlib.Omega.{arith}
use Rattle.text.specs.Fields.{word_text}
use Rattle.lines.specs.Lines.{fields_text, line_of}
use Rattle.words.proofs.Over.{over_at, part-back, behind-start}
use Rattle.lines.proofs.LineLaws.{line-length, no_room, with-room}
use Rattle.lines.proofs.write_line.Goals as goal

pub returns-then-out-n : goal.returns-then-out-n
returns-then-out-n c =
    let a = c.args in
    no_room (line_of a.w a.fs.now) a.out.now (omega (arith, line-length a.w a.fs.now))

pub returns : goal.returns
unfolding line_of
returns c =
    let a = c.args in
    let n = line-length a.w a.fs.now in
    with-room (line_of a.w a.fs.now) a.out.now _ _ (omega (arith, n)) (omega (arith, n)) (omega arith)
    (part-back c.put_word-at.new.out c.put_word-at.result (fields_text a.fs.now) _ c.put_fields.ensures
    ∙ ap (λ xs. over_at c.put_word-at.result (fields_text a.fs.now) xs) c.put_word-at.ensures.1
    ∙ behind-start c.put_word-at.result (word_text a.w) (fields_text a.fs.now) a.out.now c.put_word-at.ensures.0 (omega arith))

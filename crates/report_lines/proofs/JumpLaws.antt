-- Laws of `jump_line`: nothing for a count of 0, else the line of the three fields. Assumes nothing.
use Rattle.std.proofs.Common.{◌≡◌, ℕ, ◌<◌, List, [], ◌∷◌, refl, arith}
use borrow.Author.Tests.{eq-eqb, ne_eqb}
use Rattle.text.specs.declared.field.Word.TheVariants.{Jump}
use Rattle.text.specs.declared.field.Field.TheVariants.{Number}
use Rattle.lines.specs.Lines.{line_of}
use Rattle.lines.specs.Answer.{Writes}
use Rattle.std.specs.Prelude.{Result, Ok}
use Rattle.lines.specs.declared.LineError.{LineError}
use Rattle.lines.proofs.LineLaws.{with-room}
use Rattle.report_lines.specs.ReportLines.{jump_line}

pub no_jumps : (from to count : ℕ) (lent : List ℕ) → count ≡ 0 → Writes [] (jump_line from to count) lent (Ok 0) lent
no_jumps from to count lent e = rw (eq-eqb count 0 e) (with-room [] lent _ _ (omega arith) refl (omega arith) refl)

pub some_jumps : (from to count : ℕ) (lent left : List ℕ) (r : Result ℕ LineError) → 0 < count
    → Writes [] (line_of Jump (Number from ∷ Number to ∷ Number count ∷ [])) lent r left
    → Writes [] (jump_line from to count) lent r left
some_jumps from to count lent left r h w = rw (ne_eqb count 0 (λ z. omega arith)) w

-- The line of a refusal fits 64 bytes, so that it is written. Assumes nothing.
use Prim.Native.Nat.{ℕ, ◌≤◌, ◌<◌}
use mathlib.Core.Path.{◌≡◌, ap, sym, ◌∙◌}
use mathlib.Core.List.{List, [], ◌∷◌, ◌++◌}
use native.Mathlib.Omega.{arith}
use lib.ListN.{length, take, drop, length-append, length-take}
use lib.Seq.{take-append_seam}
use borrow.Author.Tests.{le-ltb}
use Rattle.program_input.specs.Counts.{IsPrefixLen}
use Rattle.words.specs.Lists.{over}
use Rattle.text.specs.Decimal.{decimal}
use Rattle.text.specs.declared.field.Word.TheVariants as word
use Rattle.text.specs.declared.field.Field.TheVariants as field
use Rattle.text.proofs.DecimalLaws.{short}
use Rattle.report_lines.specs.ReportLines.{refused_line}
use Rattle.lines.specs.Answer.{size_of, line_code, Writes}
use Rattle.std.specs.Prelude.{Result}
use Rattle.lines.specs.declared.LineError.{LineError}
use Rattle.lines.proofs.LineLaws.{line-length}

module _ (code events : ℕ) (code-fits : code < 4294967296) (events-fit : events < 4294967296) where
  refusal-short : length (refused_line code events) ≤ 64
  refusal-short = omega (
    arith,
    line-length word.Refused (field.Number code ∷ field.Number events ∷ []),
    length-append (decimal code) (32 ∷ (decimal events ++ 10 ∷ [])),
    length-append (decimal events) (10 ∷ []),
    short 9 code (omega arith),
    short 9 events (omega arith),
  )

  pub refusal-written : (lent : List ℕ) (r : Result ℕ LineError) (left : List ℕ) → 64 ≤ length lent → Writes [] (refused_line code events) lent r left
      → IsPrefixLen (size_of r) left × (take (size_of r) left ≡ refused_line code events)
  unfolding line_code
  refusal-written lent r left e W =
      let t = le-ltb (length lent) (length (refused_line code events)) (omega (arith, refusal-short)) in
      let s : size_of r ≡ length (refused_line code events) = rw t at W.size in
      let b : left ≡ over (refused_line code events) lent = rw t at W.bytes in
      let l : take (size_of r) left ≡ refused_line code events = rw (s, b) (take-append_seam (refused_line code events) (drop (length (refused_line code events)) lent)) in
      let n : size_of r ≡ length (take (size_of r) left) = s ∙ sym (ap length l) in
      ((omega (arith, length-take (size_of r) left), n), l)

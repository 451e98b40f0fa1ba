-- What a call that writes a line of the report, or its whole numbers, answers and leaves, by the bytes at entry.
use Rattle.std.specs.Prelude.{ℕ, Bool, List, length, eqb}
use Rattle.words.specs.Lists.{pick, over}
use Rattle.lines.specs.Answer.{line_code}
use Rattle.client_answers.specs.Answers.{wrote}
use Rattle.client_check.specs.OnTrail.{on_trail, left_by}

-- writing x into lent bytes, behind tests of its own
unfoldable pub write_answer : List ℕ → List (Bool × ℕ) → List ℕ → List ℕ → ℕ
write_answer b tests x lent = on_trail b (wrote (line_code tests x lent) (length x))

unfoldable pub write_leaves : List ℕ → List (Bool × ℕ) → List ℕ → List ℕ → List ℕ
write_leaves b tests x lent = left_by b (pick (eqb (line_code tests x lent) 0) (over x lent) lent) lent

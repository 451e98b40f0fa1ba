-- CONFORM_MAX_LINE of conform.h, 41 bytes, is always enough for a line of the report (the sheet): with as many lent bytes none of the
-- four calls that write a line answers 61, whatever trail, place and activity it gets.
use Rattle.std.specs.Prelude.{ℕ, ◌≤◌, ◌≡◌, List, [], length}
use Rattle.replay_counts.specs.Reads.{place_tests, act_tests, pair_tests}
use Rattle.report.specs.TrailLines.{trail_line_at, place_line_at, act_line_at, jump_line_at}
use Rattle.report.specs.Lengths.{max_line}
use Rattle.client_answers.specs.Answers.{number}
use Rattle.client_calls.specs.Writing.{write_answer}

pub record MaxLine : Type 0 where
  pub trail-fits : (b lent : List ℕ) → max_line ≤ length lent → number (write_answer b [] (trail_line_at b) lent) ≡ 61 → ⊥
  pub place-fits : (b : List ℕ) (q : ℕ) (lent : List ℕ) → max_line ≤ length lent → number (write_answer b (place_tests b q) (place_line_at b q) lent) ≡ 61 → ⊥
  pub act-fits : (b : List ℕ) (a : ℕ) (lent : List ℕ) → max_line ≤ length lent → number (write_answer b (act_tests b a) (act_line_at b a) lent) ≡ 61 → ⊥
  pub jump-fits : (b : List ℕ) (x y : ℕ) (lent : List ℕ) → max_line ≤ length lent → number (write_answer b (pair_tests b x y) (jump_line_at b x y) lent) ≡ 61 → ⊥

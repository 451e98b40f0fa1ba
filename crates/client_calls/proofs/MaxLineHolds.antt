-- No line of the report is longer than CONFORM_MAX_LINE. Assumes nothing.
use Prim.Native.Nat.{ℕ, ◌≤◌}
use mathlib.Core.Bool.{Bool}
use mathlib.Core.Path.{◌≡◌}
use mathlib.Core.List.{List, []}
use native.Mathlib.Omega.{arith}
use lib.ListN.{length}
use Rattle.words.proofs.Refusals.{first-le}
use Rattle.net.proofs.Promise.{promise}
use Rattle.replay.specs.Record.{table_in}
use Rattle.replay.specs.Calls.{net_at, state_at}
use Rattle.replay_counts.specs.Reads.{place_tests, place_code, act_tests, act_code, pair_tests, pair_code}
use Rattle.checkpoint.specs.Restore.{restore_code}
use Rattle.checkpoint.proofs.Restored.{restored-loads, restored-sound}
use Rattle.lines.specs.Answer.{line_code}
use Rattle.report.specs.TrailLines.{place_line_at, act_line_at, jump_line_at}
use Rattle.report.specs.Lengths.{max_line, HasRoom}
use Rattle.report.proofs.LengthLaws.{has_room}
use Rattle.client_answers.specs.Answers.{number, wrote}
use Rattle.client_calls.specs.Writing.{write_answer}
use Rattle.client_calls.specs.MaxLine.{MaxLine}
use Rattle.client_calls.proofs.MaxRecordHolds.{own-fits}

-- 41 to 47, or there is room
room : (b lent : List ℕ) → max_line ≤ length lent → restore_code b ≡ 0 → HasRoom b lent
unfolding net_at state_at
room b lent h z = has_room b (promise (table_in b) (restored-loads b z)) (restored-sound b z) lent h

fits : (b : List ℕ) (tests : List (Bool × ℕ)) (x lent : List ℕ) → (restore_code b ≡ 0 → line_code tests x lent ≤ 52) → number (write_answer b tests x lent) ≡ 61 → ⊥
unfolding write_answer
fits b tests x lent few = own-fits b (wrote (line_code tests x lent) (length x)) (λ z e. omega (arith, few z, e))

pub max-line : MaxLine
unfolding place_code act_code pair_code
max-line = record {
  trail-fits = λ b lent h. fits b [] _ lent (λ z. omega (arith, (room b lent h z).trail));
  place-fits = λ b q lent h. fits b (place_tests b q) (place_line_at b q) lent (λ z. omega (arith, (room b lent h z).place q, first-le 52 (place_tests b q) (omega arith)));
  act-fits = λ b a lent h. fits b (act_tests b a) (act_line_at b a) lent (λ z. omega (arith, (room b lent h z).act a, first-le 52 (act_tests b a) (omega arith)));
  jump-fits = λ b x y lent h. fits b (pair_tests b x y) (jump_line_at b x y) lent (λ z. omega (arith, (room b lent h z).jump x y, first-le 52 (pair_tests b x y) (omega arith)));
}

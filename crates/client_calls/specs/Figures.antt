-- FIT on the lines that the calls from C write (A.7): whatever trail, place or activity a call gets, where it is taken the line that it
-- wrote shows FIT of the trail's own counts, rounded as A.7 asks.
use Rattle.std.specs.Prelude.{ℕ, Bool, ◌≡◌, List, [], take, get_or}
use Rattle.replay.specs.State.{stored_consumed, stored_jumps_in, stored_moved, stored_jumps, stored_transfers}
use Rattle.replay.specs.Calls.{net_at, state_at}
use Rattle.replay_counts.specs.Reads.{place_tests, act_tests}
use Rattle.report.specs.TrailLines.{trail_line_at, place_line_at, act_line_at}
use Rattle.report.specs.Figures.{ShowsFitness}
use Rattle.client_answers.specs.Answers.{number, second}
use Rattle.client_calls.specs.Writing.{write_answer, write_leaves}

-- what a call wrote: the front of the lent bytes, as long as its answer says
abbrev pub written_by : List ℕ → List (Bool × ℕ) → List ℕ → List ℕ → List ℕ
written_by b tests x lent = take (second (write_answer b tests x lent)) (write_leaves b tests x lent)

pub record FiguresFromC : Type 0 where
  pub trail-line : (b lent : List ℕ) → number (write_answer b [] (trail_line_at b) lent) ≡ 0
      → ShowsFitness (written_by b [] (trail_line_at b) lent) (stored_jumps (net_at b) (state_at b)) (stored_transfers (net_at b) (state_at b))
  pub place-line : (b : List ℕ) (q : ℕ) (lent : List ℕ) → number (write_answer b (place_tests b q) (place_line_at b q) lent) ≡ 0
      → ShowsFitness (written_by b (place_tests b q) (place_line_at b q) lent) (stored_jumps_in (net_at b) (state_at b) q) (stored_consumed (net_at b) (state_at b) q)
  pub act-line : (b : List ℕ) (a : ℕ) (lent : List ℕ) → number (write_answer b (act_tests b a) (act_line_at b a) lent) ≡ 0
      → ShowsFitness (written_by b (act_tests b a) (act_line_at b a) lent) (get_or (state_at b).jumps a 0) (stored_moved (net_at b) (state_at b) a)

-- How long a line of the report (the sheet) can be: CONFORM_MAX_LINE of include/conform.h.
use Rattle.std.specs.Prelude.{ℕ, ◌≤◌, ◌<◌, ◌≡◌, List, [], length}
use Rattle.replay.specs.Calls.{net_at}
use Rattle.replay_counts.specs.Reads.{place_tests, place_code, act_tests, act_code, pair_tests, pair_code}
use Rattle.lines.specs.Answer.{line_code}
use Rattle.report.specs.TrailLines.{trail_line_at, place_line_at, act_line_at, jump_line_at}

-- the bytes of the longest line, its line feed included
abbrev pub max_line : ℕ
max_line = 41

-- no line of the trail in the bytes b has more
pub record LinesFit (b : List ℕ) : Type 0 where
  pub trail : length (trail_line_at b) ≤ max_line
  pub place : (q : ℕ) → q < (net_at b).places → length (place_line_at b q) ≤ max_line
  pub act : (a : ℕ) → a < (net_at b).acts → length (act_line_at b a) ≤ max_line
  pub jump : (x y : ℕ) → x < (net_at b).places → y < (net_at b).places → length (jump_line_at b x y) ≤ max_line

-- the bytes `lent` have room for each of its lines: the number is that of the tests before 61, on any place and activity
pub record HasRoom (b lent : List ℕ) : Type 0 where
  pub trail : line_code [] (trail_line_at b) lent ≡ 0
  pub place : (q : ℕ) → line_code (place_tests b q) (place_line_at b q) lent ≡ place_code b q
  pub act : (a : ℕ) → line_code (act_tests b a) (act_line_at b a) lent ≡ act_code b a
  pub jump : (x y : ℕ) → line_code (pair_tests b x y) (jump_line_at b x y) lent ≡ pair_code b x y

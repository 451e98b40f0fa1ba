-- Writing a line into a lent part: the paper's number and the values for each answer, and what is left of the part.
use Rattle.std.specs.Prelude.{ℕ, ◌≤◌, Bool, ◌≡◌, Result, List, [], ◌∷◌, ◌++◌, length, ltb, eqb}
use Rattle.std.specs.Result.{result_unwrap_or}
use Rattle.words.specs.Lists.{pick, over}
use Rattle.words.specs.Refusals.{first, answer_code}
use Rattle.lines.specs.declared.LineError.{LineError}
use Rattle.lines.specs.declared.LineError.TheVariants.{UnknownPlace, UnknownActivity, NoRoom}

-- the number of each refusal
abbrev pub line_error_code : LineError → ℕ
line_error_code UnknownPlace = 51
line_error_code UnknownActivity = 52
line_error_code NoRoom = 61

-- the number of each answer, 0 where the line is written
abbrev pub line_answer_code : Result ℕ LineError → ℕ
line_answer_code = answer_code line_error_code

-- how many bytes were written
abbrev pub size_of : Result ℕ LineError → ℕ
size_of r = result_unwrap_or r 0

-- the first number that applies: that of a test that comes before, then 61 where the lent part is shorter than the line
unfoldable pub line_code : List (Bool × ℕ) → List ℕ → List ℕ → ℕ
line_code tests line lent = first (tests ++ ((ltb (length lent) (length line), 61) ∷ []))

-- writing the line into the bytes `lent`, behind the tests, is answered r and leaves `left`: the line and the other bytes
-- as they were, and on a refusal all bytes as they were; no line has more than 113 bytes, whatever its numbers
pub record Writes (tests : List (Bool × ℕ)) (line lent : List ℕ) (r : Result ℕ LineError) (left : List ℕ) : Type 0 where
  pub code : line_answer_code r ≡ line_code tests line lent
  pub size : size_of r ≡ pick (eqb (line_code tests line lent) 0) (length line) 0
  pub few : size_of r ≤ 113
  pub bytes : left ≡ pick (eqb (line_code tests line lent) 0) (over line lent) lent

-- The paper's number for each answer of starting.
use Rattle.std.specs.Prelude.{ℕ, Result}
use Rattle.words.specs.Refusals.{answer_code}
use Rattle.replay_objects.specs.RegisterAnswers.{register_error_code}
use Rattle.replay_start.specs.declared.StartError.{StartError}
use Rattle.replay_start.specs.declared.StartError.TheVariants.{Register, NoRoom}

abbrev pub start_error_code : StartError → ℕ
start_error_code (Register e) = register_error_code e
start_error_code NoRoom = 61

-- 0 where the trail was started
abbrev pub start_answer_code : Result Unit StartError → ℕ
start_answer_code = answer_code start_error_code

-- The answer to a close as document 01's number.
use Rattle.std.specs.Prelude.{ℕ, Result}
use Rattle.words.specs.Refusals.{answer_code}
use Rattle.replay.specs.Plain.{Ask, close}
use Rattle.replay_close.specs.declared.CloseError.{CloseError}
use Rattle.replay_close.specs.declared.CloseError.TheVariants.{AlreadyClosed}

abbrev pub close_error_code : CloseError → ℕ
close_error_code AlreadyClosed = 31

-- 0 where the trail was closed
abbrev pub close_answer_code : Result Unit CloseError → ℕ
close_answer_code = answer_code close_error_code

-- a close that is put to a trail
abbrev pub ask_close : Ask
ask_close = close

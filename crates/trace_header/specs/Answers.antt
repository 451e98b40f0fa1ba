-- The answer to opening a trail file as document 01's number.
use Rattle.std.specs.Prelude.{ℕ, Result}
use Rattle.words.specs.Refusals.{answer_code}
use Rattle.replay_objects.specs.RegisterAnswers.{register_error_code}
use Rattle.trace_header.specs.declared.OpenError.{OpenError}
use Rattle.trace_header.specs.declared.OpenError.TheVariants.{Contents, Register}

abbrev pub open_error_code : OpenError → ℕ
open_error_code Contents = 71
open_error_code (Register e) = register_error_code e

-- 0 where the file is opened
abbrev pub open_answer_code : Result Unit OpenError → ℕ
open_answer_code = answer_code open_error_code

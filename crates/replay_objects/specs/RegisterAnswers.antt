-- The paper's number for each answer of the tests of a register.
use Rattle.std.specs.Prelude.{ℕ, Result}
use Rattle.words.specs.Refusals.{answer_code}
use Rattle.replay_objects.specs.declared.register.RegisterError.{RegisterError}
use Rattle.replay_objects.specs.declared.register.RegisterError.TheVariants.{Number, Kind}

abbrev pub register_error_code : RegisterError → ℕ
register_error_code Number = 11
register_error_code Kind = 12

abbrev pub register_answer_code : Result Unit RegisterError → ℕ
register_answer_code = answer_code register_error_code

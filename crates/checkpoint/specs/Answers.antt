-- The paper's number for each refusal, and for each answer, of checking, taking up and putting down a record.
use Rattle.std.specs.Prelude.{ℕ, Result}
use Rattle.words.specs.Refusals.{answer_code}
use Rattle.net.specs.Answer.{load_error_code}
use Rattle.replay_objects.specs.RegisterAnswers.{register_error_code}
use Rattle.checkpoint.specs.declared.RestoreError.{RestoreError}
use Rattle.checkpoint.specs.declared.RestoreError.TheVariants.{Length, Layout, Table, Rows, Register, Positions, Counts, Jumps, NoRoom}
use Rattle.checkpoint.specs.declared.SaveError.{SaveError}
use Rattle.checkpoint.specs.declared.SaveError.TheVariants as S

abbrev pub restore_error_code : RestoreError → ℕ
restore_error_code Length = 41
restore_error_code Layout = 42
restore_error_code (Table e) = 43
restore_error_code Rows = 44
restore_error_code (Register e) = 44
restore_error_code Positions = 45
restore_error_code Counts = 46
restore_error_code Jumps = 47
restore_error_code NoRoom = 61

-- the second number: 43 also gives the table's, 44 the register's
abbrev pub restore_error_second : RestoreError → ℕ
restore_error_second Length = 0
restore_error_second Layout = 0
restore_error_second (Table e) = load_error_code e
restore_error_second Rows = 0
restore_error_second (Register e) = register_error_code e
restore_error_second Positions = 0
restore_error_second Counts = 0
restore_error_second Jumps = 0
restore_error_second NoRoom = 0

-- 0 where the record is taken
abbrev pub restore_answer_code : Result Unit RestoreError → ℕ
restore_answer_code = answer_code restore_error_code

abbrev pub restore_answer_second : Result Unit RestoreError → ℕ
restore_answer_second = answer_code restore_error_second

abbrev pub save_error_code : SaveError → ℕ
save_error_code S.NoRoom = 61

-- 0 where the record is put down
abbrev pub saved_code : Result Unit SaveError → ℕ
saved_code = answer_code save_error_code

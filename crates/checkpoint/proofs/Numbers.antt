-- A refusal has a number, under a name that the code can give to the check. Assumes nothing.
use mathlib.Core.Path.{◌≡◌}
use Rattle.checkpoint.specs.contracts.RestoreErrorRefusal.TheImpl.Laws.{not_zero-law}
use Rattle.checkpoint.specs.declared.RestoreError.{RestoreError}
use Rattle.checkpoint.specs.Answers.{restore_error_code}

pub not_restored : (e : RestoreError) → restore_error_code e ≡ 0 → ⊥
not_restored = not_zero-law

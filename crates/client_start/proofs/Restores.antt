-- The answer of taking up a record, by what came of restoring it. Assumes nothing.
use Prim.Native.Nat.{ℕ, ◌≤◌}
use mathlib.Core.Path.{◌≡◌, refl}
use mathlib.Core.List.{List}
use native.Mathlib.Omega.{arith}
use lib.ListN.{length}
use borrow.Author.Tests.{ltb-false, ne_eqb}
use Rattle.words.proofs.Refusals.{none-apply}
use Rattle.replay.specs.Limits.{max_record}
use Rattle.checkpoint.specs.Restore.{restore_second}
use Rattle.checkpoint.specs.Take.{take_tests, take_code}
use Rattle.client_answers.specs.Answers.{packed}
use Rattle.client_calls.specs.Client.{restore_answer}

-- the record r
module _ (r : List ℕ) (room : ℕ) where
  pub few : take_code r room ≡ 0 → length r ≤ max_record
  unfolding take_code
  few z = ltb-false max_record (length r) (none-apply (take_tests r room) (omega arith) z).1.0

  pub answer_refused : (take_code r room ≡ 0 → ⊥) → restore_answer r room ≡ packed (take_code r room) (restore_second r)
  unfolding restore_answer
  answer_refused n = rw (ne_eqb (take_code r room) 0 n) refl

  pub answer_taken : take_code r room ≡ 0 → restore_answer r room ≡ packed 0 (length r)
  unfolding restore_answer
  answer_taken z = rw z refl

pub ruleset takes = (few, answer_taken, answer_refused)

-- What a call may rely on behind the check of the trail that it is lent.
use Rattle.std.specs.Prelude.{ℕ, ◌≡◌, List}
use Rattle.replay.specs.Ready.{Ready}
use Rattle.checkpoint.specs.Restore.{restore_code, restore_second}
use Rattle.client_answers.specs.Answers.{packed}

-- the trail b was checked with the answer r; where that is 0, the words w hold its net and a call can be put to it
pub record Checked (b w : List ℕ) (r : ℕ) : Type 0 where
  pub answer : r ≡ packed (restore_code b) (restore_second b)
  pub ready : r ≡ 0 → Ready w b

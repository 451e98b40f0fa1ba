-- What a call on a lent trail answers and leaves.
use Rattle.std.specs.Prelude.{ℕ, List, eqb}
use Rattle.words.specs.Lists.{pick}
use Rattle.checkpoint.specs.Restore.{restore_code, restore_second}
use Rattle.client_answers.specs.Answers.{packed}

-- a call on a lent trail b: 41 to 47, with the second number of 43 and 44, come before the call's own answer
abbrev pub on_trail : List ℕ → ℕ → ℕ
on_trail b own = pick (eqb (restore_code b) 0) own (packed (restore_code b) (restore_second b))

-- what a call on a lent trail b leaves of some lent bytes: the call's own, or the bytes as they were
abbrev pub left_by : List ℕ → List ℕ → List ℕ → List ℕ
left_by b own lent = pick (eqb (restore_code b) 0) own lent

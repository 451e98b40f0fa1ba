-- Refusals: a flat list of tests, each with the number that it gives, in the paper's order; and the number of an answer.
use Rattle.std.specs.Prelude.{ℕ, Bool, List, [], ◌∷◌, Result, Ok, Err}
use Rattle.words.specs.Lists.{pick}

-- the number of the first test that holds; 0 where none does
abbrev pub first : List (Bool × ℕ) → ℕ
first [] = 0
first (t ∷ r) = pick t.0 t.1 (first r)

-- the number of an answer, by that of each refusal; 0 where the call was taken
abbrev pub answer_code : {A E : Type 0} → (E → ℕ) → Result A E → ℕ
answer_code number_of (Ok x) = 0
answer_code number_of (Err e) = number_of e

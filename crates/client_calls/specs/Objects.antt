-- What document 01 asks of an event's object list in bytes: 24, in its place, unless it has one row for each arc.
use Rattle.std.specs.Prelude.{ℕ, ◌%◌, Bool, true, ◌≡◌, List, [], ◌∷◌, ◌++◌, length, leb}
use Rattle.words.specs.Refusals.{first}
use Rattle.words.specs.Words.{words_of}
use Rattle.replay.specs.Plain.{trail_tests, ask_event}
use Rattle.replay.specs.Calls.{net_at, state_at}
use Rattle.client_answers.specs.Answers.{packed}
use Rattle.client_check.specs.OnTrail.{on_trail}
use Rattle.client_check.specs.Objects.{objects_in}
use Rattle.client_calls.specs.Client.{ask_answer, ask_leaves}

-- 21 to 24, for an event of activity a with a list that cannot have one row for each arc
abbrev pub uneven_tests : List ℕ → ℕ → List (Bool × ℕ)
uneven_tests b a = trail_tests (state_at b).closed (state_at b).events ++ (leb (net_at b).acts a, 23) ∷ (true, 24) ∷ []

-- The trail b, activity a and the list s: a list of whole rows, however long, is the objects that it names; any other gives
-- the first of 21 to 24 and changes nothing.
pub record ObjectsRule (b : List ℕ) (a : ℕ) (s : List ℕ) : Type 0 where
  pub whole-answer : length s % 4 ≡ 0 → ask_answer b (ask_event a (objects_in s)) ≡ ask_answer b (ask_event a (words_of s))
  pub whole-bytes : length s % 4 ≡ 0 → ask_leaves b (ask_event a (objects_in s)) ≡ ask_leaves b (ask_event a (words_of s))
  pub uneven-answer : (length s % 4 ≡ 0 → ⊥) → ask_answer b (ask_event a (objects_in s)) ≡ on_trail b (packed (first (uneven_tests b a)) 0)
  pub uneven-bytes : (length s % 4 ≡ 0 → ⊥) → ask_leaves b (ask_event a (objects_in s)) ≡ b

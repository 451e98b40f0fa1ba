-- Events of a trail file's events body, carried out one after the other on a lent trail.
use Rattle.std.specs.Prelude.{ℕ, zero, suc, ◌+◌, List, [], ◌∷◌, length, get_or, take, drop, eqb, leb}
use Rattle.words.specs.Lists.{pick}
use Rattle.words.specs.Words.{words_of}
use Rattle.replay.specs.Plain.{Ask, ask_event}
use Rattle.replay.specs.Calls.{ask_code, ask_bytes}
use Rattle.client_check.specs.OnTrail.{on_trail, left_by}

-- the row of an event at the front of the numbers: activity, count, objects
abbrev pub row_size : List ℕ → ℕ
row_size ws = 2 + get_or ws 1 0

abbrev pub row_at : List ℕ → Ask
row_at ws = ask_event (get_or ws 0 0) (take (get_or ws 1 0) (drop 2 ws))

-- at most n events, up to a row that is cut off
unfoldable pub rows_of : ℕ → List ℕ → List Ask
rows_of zero ws = []
rows_of (suc n) ws = pick (leb (row_size ws) (length ws)) (row_at ws ∷ rows_of n (drop (row_size ws) ws)) []

-- the events of a body: there are fewer than numbers
unfoldable pub events_in : List ℕ → List Ask
events_in s = rows_of (length (words_of s)) (words_of s)

-- how many are accepted on the trail b up to the first that is refused, and the bytes then
unfoldable pub accepted : List ℕ → List Ask → ℕ
accepted b [] = 0
accepted b (q ∷ qs) = pick (eqb (ask_code b q) 0) (1 + accepted (ask_bytes b q) qs) 0

unfoldable pub carried : List ℕ → List Ask → List ℕ
carried b [] = b
carried b (q ∷ qs) = pick (eqb (ask_code b q) 0) (carried (ask_bytes b q) qs) b

-- what is answered, and the trail's bytes
unfoldable pub events_answer : List ℕ → List ℕ → ℕ
events_answer b s = on_trail b (accepted b (events_in s))

unfoldable pub events_leave : List ℕ → List ℕ → List ℕ
events_leave b s = left_by b (carried b (events_in s)) b

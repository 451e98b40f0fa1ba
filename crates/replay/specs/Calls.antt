-- The trail in lent bytes, which are its record: what starting, an event and a close answer, and the bytes that they leave.
-- The functions' contracts are equations with these.
use Rattle.std.specs.Prelude.{ℕ, Bool, List, [], ◌∷◌, ◌++◌, length, ltb, eqb}
use Rattle.words.specs.Lists.{pick, over}
use Rattle.words.specs.Refusals.{first}
use Rattle.net.specs.Net.{Net}
use Rattle.net.specs.Table.{net_of}
use Rattle.replay.specs.Plain.{Ask, register_tests}
use Rattle.replay.specs.State.{State, start_state, answer_s, accept_s}
use Rattle.replay.specs.Record.{encode, table_in, state_in}

-- the net and the state that a trail's bytes hold
unfoldable pub net_at : List ℕ → Net
net_at b = net_of (table_in b)

unfoldable pub state_at : List ℕ → State
state_at b = state_in (net_at b) b

-- an event or a close: the number of its answer, 0 where it is accepted, and the bytes after it
unfoldable pub ask_code : List ℕ → Ask → ℕ
ask_code b q = answer_s (net_at b) (state_at b) q

unfoldable pub ask_bytes : List ℕ → Ask → List ℕ
ask_bytes b q = pick (eqb (ask_code b q) 0) (encode (table_in b) (accept_s (net_at b) (state_at b) q)) b

-- starting: the record of a table that is loaded and of the objects' kinds
unfoldable pub start_record : List ℕ → List ℕ → List ℕ
start_record table ks = encode table (start_state (net_of table) ks)

-- 11 and 12; 61: the lent part, of `room` bytes, is too short
abbrev pub start_tests : List ℕ → List ℕ → ℕ → List (Bool × ℕ)
start_tests table ks room = register_tests (net_of table) ks ++ ((ltb room (length (start_record table ks)), 61) ∷ [])

unfoldable pub start_code : List ℕ → List ℕ → ℕ → ℕ
start_code table ks room = first (start_tests table ks room)

unfoldable pub start_bytes : List ℕ → List ℕ → List ℕ → List ℕ
start_bytes table ks lent = pick (eqb (start_code table ks (length lent)) 0) (over (start_record table ks) lent) lent

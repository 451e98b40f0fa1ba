-- Calls on a trail, which is given by its bytes: events, closes, saves (puttings down) and restores (takings up).
use Rattle.std.specs.Prelude.{ℕ, Bool, List, [], ◌∷◌, length, ltb, eqb}
use Rattle.words.specs.Lists.{pick, over}
use Rattle.words.specs.Refusals.{first}
use Rattle.replay.specs.Plain.{Ask}
use Rattle.replay.specs.Calls.{ask_code, ask_bytes}
use Rattle.checkpoint.specs.Take.{take_code}

-- 61: the lent part, of `room` bytes, is shorter than the trail's record, which is the trail's bytes
abbrev pub save_tests : List ℕ → ℕ → List (Bool × ℕ)
save_tests b room = (ltb room (length b), 61) ∷ []

unfoldable pub save_code : List ℕ → ℕ → ℕ
save_code b room = first (save_tests b room)

-- the lent bytes after a save of the trail b
unfoldable pub save_bytes : List ℕ → List ℕ → List ℕ
save_bytes b lent = pick (eqb (save_code b (length lent)) 0) (over b lent) lent

-- an event or a close; a save into so many lent bytes; a restore, into so many lent bytes, of these
pub data Call : Type 0 where
  asks : Ask → Call
  save : ℕ → Call
  restore : ℕ → List ℕ → Call

-- the number of the answer, 0 where the call is taken
abbrev pub call_code : List ℕ → Call → ℕ
call_code b (asks q) = ask_code b q
call_code b (save room) = save_code b room
call_code b (restore room r) = take_code r room

-- the trail after a call, and after a list of calls, each of which gets the trail as the one before left it
abbrev pub call_bytes : List ℕ → Call → List ℕ
call_bytes b (asks q) = ask_bytes b q
call_bytes b (save room) = b
call_bytes b (restore room r) = pick (eqb (take_code r room) 0) r b

abbrev pub calls : List ℕ → List Call → List ℕ
calls b [] = b
calls b (c ∷ cs) = calls (call_bytes b c) cs

-- the answers to the events and closes
abbrev pub told : List ℕ → List Call → List ℕ
told b [] = []
told b (asks q ∷ cs) = ask_code b q ∷ told (ask_bytes b q) cs
told b (save room ∷ cs) = told b cs
told b (restore room r ∷ cs) = told (call_bytes b (restore room r)) cs

-- the records written
abbrev pub saves : List ℕ → List Call → List (List ℕ)
saves b [] = []
saves b (asks q ∷ cs) = saves (ask_bytes b q) cs
saves b (save room ∷ cs) = pick (eqb (save_code b room) 0) (b ∷ saves b cs) (saves b cs)
saves b (restore room r ∷ cs) = saves (call_bytes b (restore room r)) cs

-- the list's events and closes alone
abbrev pub asked : List Call → List Ask
asked [] = []
asked (asks q ∷ cs) = q ∷ asked cs
asked (save room ∷ cs) = asked cs
asked (restore room r ∷ cs) = asked cs

-- Demand 3 of the functions that C calls: any list of calls on the trail that conform_start wrote. What a call answers and
-- leaves is said by the definitions of its contract.
use Rattle.std.specs.Prelude.{ℕ, ◌≤◌, ◌<◌, Bool, false, ◌⊎◌, ◌≡◌, List, [], ◌∷◌, map, length, take, eqb}
use Rattle.std.proofs.Math.Option.{Option, none, some}
use Rattle.words.specs.Lists.{pick, All}
use Rattle.net.specs.Table.{net_of}
use Rattle.replay.specs.Plain.{Plain, start, run, ask_event}
use Rattle.replay.specs.Plain as P
use Rattle.replay.specs.Register.{kinds_in}
use Rattle.replay_close.specs.Answers.{ask_close}
use Rattle.checkpoint.specs.Take.{take_bytes}
use Rattle.checkpoint.specs.Calls.{asks, save_code, asked}
use Rattle.checkpoint.specs.Calls as list
use Rattle.checkpoint.specs.Demand.{plain_record, plain_saves, Demand3}
use Rattle.client_answers.specs.Answers.{packed, number, second, wrote}
use Rattle.client_check.specs.Objects.{objects_in}
use Rattle.client_calls.specs.Client.{start_answer, start_leaves, ask_answer, ask_leaves, restore_answer, save_answer, save_leaves}

-- the front of lent bytes, as long as the answer says: conform.h tells the caller to cut it out
abbrev pub front : ℕ → List ℕ → List ℕ
front answer lent = take (second answer) lent

-- conform_event with an activity and an object list; conform_close; conform_save into lent bytes; conform_restore of a record
-- into lent bytes
pub data Call : Type 0 where
  event : ℕ → List ℕ → Call
  close : Call
  save : List ℕ → Call
  restore : List ℕ → List ℕ → Call

-- the answer to a call on the trail b, and whether it is taken
abbrev pub answer : List ℕ → Call → ℕ
answer b (event act objects) = ask_answer b (ask_event act (objects_in objects))
answer b close = ask_answer b ask_close
answer b (save lent) = save_answer b (length lent)
answer b (restore r lent) = restore_answer r (length lent)

abbrev pub taken : List ℕ → Call → Bool
taken b c = eqb (number (answer b c)) 0

-- what a save or a restore that is taken wrote in front of its lent bytes
abbrev pub wrote_by : List ℕ → Call → List ℕ
wrote_by b (event act objects) = []
wrote_by b close = []
wrote_by b (save lent) = front (save_answer b (length lent)) (save_leaves b lent)
wrote_by b (restore r lent) = front (restore_answer r (length lent)) (take_bytes r lent)

-- the trail after it: an event or a close changes it in place; what a restore wrote is the trail from then on
abbrev pub next : List ℕ → Call → List ℕ
next b (event act objects) = ask_leaves b (ask_event act (objects_in objects))
next b close = ask_leaves b ask_close
next b (save lent) = b
next b (restore r lent) = pick (taken b (restore r lent)) (wrote_by b (restore r lent)) b

-- the record last written with no event or close accepted since, after a call
abbrev pub last_by : Option (List ℕ) → List ℕ → Call → Option (List ℕ)
last_by last b (event act objects) = pick (taken b (event act objects)) none last
last_by last b close = pick (taken b close) none last
last_by last b (save lent) = pick (taken b (save lent)) (some (wrote_by b (save lent))) last
last_by last b (restore r lent) = last

-- a restore gets that record, or it is refused
abbrev pub Given : Option (List ℕ) → List ℕ → Call → Type 0
Given last b (event act objects) = Unit
Given last b close = Unit
Given last b (save lent) = Unit
Given last b (restore r lent) = (last ≡ some r) ⊎ (taken b (restore r lent) ≡ false)

-- the call is no restore, or one of the trail's own record
abbrev pub OfItself : List ℕ → Call → Type 0
OfItself b (event act objects) = Unit
OfItself b close = Unit
OfItself b (save lent) = Unit
OfItself b (restore r lent) = r ≡ b

-- a list of calls, each of which gets the trail as the one before left it: its answers; the trail after it; the records that
-- its saves wrote; that its restores get what they may get; that none of 41 to 47 is the answer to a call of itself
abbrev pub answers : List ℕ → List Call → List ℕ
answers b [] = []
answers b (c ∷ cs) = answer b c ∷ answers (next b c) cs

abbrev pub trail : List ℕ → List Call → List ℕ
trail b [] = b
trail b (c ∷ cs) = trail (next b c) cs

abbrev pub written : List ℕ → List Call → List (List ℕ)
written b [] = []
written b (event act objects ∷ cs) = written (next b (event act objects)) cs
written b (close ∷ cs) = written (next b close) cs
written b (save lent ∷ cs) = pick (taken b (save lent)) (wrote_by b (save lent) ∷ written b cs) (written b cs)
written b (restore r lent ∷ cs) = written (next b (restore r lent)) cs

abbrev pub Fair : Option (List ℕ) → List ℕ → List Call → Type 0
Fair last b [] = Unit
Fair last b (c ∷ cs) = Given last b c × Fair (last_by last b c) (next b c) cs

abbrev pub Undamaged : List ℕ → List Call → Type 0
Undamaged b [] = Unit
Undamaged b (c ∷ cs) = (OfItself b c → (number (answer b c) < 41) ⊎ (47 < number (answer b c))) × Undamaged (next b c) cs

-- the call as demand 3 has it
abbrev pub meant : Call → list.Call
meant (event act objects) = asks (ask_event act (objects_in objects))
meant close = asks ask_close
meant (save lent) = list.save (length lent)
meant (restore r lent) = list.restore (length lent) r

-- what the plain run p of a table answers: to a save, whether its record fits, and with how many bytes
module _ (table : List ℕ) where
  abbrev pub plain_answer : Plain → Call → ℕ
  plain_answer p (event act objects) = packed (P.answer (net_of table) p (ask_event act (objects_in objects))) 0
  plain_answer p close = packed (P.answer (net_of table) p ask_close) 0
  plain_answer p (save lent) = wrote (save_code (plain_record table p) (length lent)) (length (plain_record table p))
  plain_answer p (restore r lent) = restore_answer r (length lent)

  abbrev pub plain_answers : Plain → List Call → List ℕ
  plain_answers p [] = []
  plain_answers p (c ∷ cs) = plain_answer p c ∷ plain_answers (run (net_of table) p (asked (meant c ∷ []))) cs

-- the trail that conform_start wrote: the bytes of the table, of the register, and those that it was lent
abbrev pub started_by : List ℕ → List ℕ → List ℕ → List ℕ
started_by table objects lent = front (start_answer table objects (length lent)) (start_leaves table objects lent)

-- a list of calls on it
module _ (table objects lent : List ℕ) (cs : List Call) where
  abbrev pub started : List ℕ
  started = started_by table objects lent

  -- what the list's restores may get; conform_start wrote the first record
  abbrev pub FairList : Type 0
  FairList = Fair (some started) started cs

  -- the plain run of the list's events and closes alone, in one go
  abbrev pub plain : Plain
  plain = run (net_of table) (start (kinds_in (net_of table) objects)) (asked (map meant cs))

  pub record FromC : Type 0 where
    -- each answer, and the trail after the list, byte for byte
    pub answers-are : answers started cs ≡ plain_answers table (start (kinds_in (net_of table) objects)) cs
    pub bytes : trail started cs ≡ plain_record table plain
    -- none of 41 to 47 on the way
    pub undamaged : Undamaged started cs
    -- each record written is the plain run's at that point
    pub records : written started cs ≡ plain_saves table (start (kinds_in (net_of table) objects)) (map meant cs)
    -- restored with room for it, it is the trail that wrote it, whatever trail stood there before
    pub resumed : All (λ (r : List ℕ). (b lent : List ℕ) → length r ≤ length lent → next b (restore r lent) ≡ r) (written started cs)
    -- refused calls change nothing, neither of the trail nor of what they are lent
    pub unchanged : (b : List ℕ) (c : Call) → taken b c ≡ false → next b c ≡ b
    pub save-unchanged : (b lent : List ℕ) → taken b (save lent) ≡ false → save_leaves b lent ≡ lent
    pub restore-unchanged : (b r lent : List ℕ) → taken b (restore r lent) ≡ false → take_bytes r lent ≡ lent
    -- what demand 3 says of the plain run's record, which the trail is: positions, every count, and permitted runs
    pub demand : Demand3 table (kinds_in (net_of table) objects) (map meant cs)

-- Demand 3: any list of calls on a freshly started trail leaves what the plain run of its events and closes leaves.
use Rattle.std.specs.Prelude.{ℕ, ◌≤◌, ◌⊎◌, ◌↔◌, ◌≡◌, List, [], ◌∷◌, length, eqb}
use Rattle.std.proofs.Math.Option.{Option, none, some}
use Rattle.words.specs.Lists.{pick, All}
use Rattle.net.specs.Table.{net_of}
use Rattle.replay.specs.Plain.{Plain, begins, start, ask, run, answers}
use Rattle.replay.specs.Permitted.{Permitted}
use Rattle.replay.specs.State.{State, state_of, stored_jumps}
use Rattle.replay.specs.Record.{encode, table_in}
use Rattle.replay.specs.Claims.{Agrees}
use Rattle.replay.specs.Calls.{state_at, ask_code, start_record}
use Rattle.checkpoint.specs.Restore.{restore_code}
use Rattle.checkpoint.specs.Take.{take_code}
use Rattle.checkpoint.specs.Calls.{Call, asks, save, restore, save_code, call_code, call_bytes, calls, told, saves, asked}

-- A restore gets the record that the trail last wrote, with no event or close accepted since, or it is refused.
-- `last` is that record, b the trail.
abbrev pub Fair : Option (List ℕ) → List ℕ → List Call → Type 0
Fair last b [] = Unit
Fair last b (asks q ∷ cs) = Fair (pick (eqb (ask_code b q) 0) none last) (call_bytes b (asks q)) cs
Fair last b (save room ∷ cs) = Fair (pick (eqb (save_code b room) 0) (some b) last) b cs
Fair last b (restore room r ∷ cs) = ((last ≡ some r) ⊎ (take_code r room ≡ 0 → ⊥)) × Fair last (call_bytes b (restore room r)) cs

-- the checkpoint (desk record) of a plain run: of its table, register and state
abbrev pub plain_record : List ℕ → Plain → List ℕ
plain_record table p = encode table (state_of (net_of table) p)

-- the plain run's records where the list saves
abbrev pub plain_saves : List ℕ → Plain → List Call → List (List ℕ)
plain_saves table p [] = []
plain_saves table p (asks q ∷ cs) = plain_saves table (ask (net_of table) p q) cs
plain_saves table p (save room ∷ cs) =
    pick (eqb (save_code (plain_record table p) room) 0) (plain_record table p ∷ plain_saves table p cs) (plain_saves table p cs)
plain_saves table p (restore room r ∷ cs) = plain_saves table p cs

-- a table, a register, a list of calls
module _ (table ks : List ℕ) (cs : List Call) where
  -- the freshly started trail
  abbrev pub fresh : List ℕ
  fresh = start_record table ks

  -- what the list's restores may get; starting wrote the first record
  abbrev pub FairList : Type 0
  FairList = Fair (some fresh) fresh cs

  -- the trail after the list, and what it stores
  abbrev pub trail : List ℕ
  trail = calls fresh cs

  abbrev pub stored : State
  stored = state_at trail

  -- the plain run of the list's events and closes alone, in one go
  abbrev pub plain : Plain
  plain = run (net_of table) (start ks) (asked cs)

  pub record Demand3 : Type 0 where
    -- the answer to each event and close
    pub answers : told fresh cs ≡ answers (net_of table) (start ks) (asked cs)
    -- the trail after the list, byte for byte; its table is unaltered
    pub bytes : trail ≡ plain_record table plain
    pub table_kept : table_in trail ≡ table
    -- its positions and every count
    pub agrees : Agrees (net_of table) stored plain
    -- each record written is the plain run's at that point, and none of 41 to 47 applies to it
    pub records : saves fresh cs ≡ plain_saves table (start ks) cs
    pub taken : All (λ (r : List ℕ). restore_code r ≡ 0) (saves fresh cs)
    -- taken up with room for it, it is the trail that wrote it, whatever trail stood there before
    pub resumed : All (λ (r : List ℕ). (b : List ℕ) (room : ℕ) → length r ≤ room → call_bytes b (restore room r) ≡ r) (saves fresh cs)
    -- refused calls change nothing
    pub unchanged : (b : List ℕ) (c : Call) → (call_code b c ≡ 0 → ⊥) → call_bytes b c ≡ b
    -- once closed, no jump exactly when the accepted events are a permitted run
    pub no_jump : stored.closed ≡ 1 → stored_jumps (net_of table) stored ≡ 0 ↔ Permitted (net_of table) ks (begins (net_of table) ks) plain.events

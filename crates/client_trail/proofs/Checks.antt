-- The answers of the calls on a lent trail b: a refused trail stops them. Assumes nothing.
use Prim.Native.Nat.{ℕ, ◌≤◌}
use mathlib.Core.Path.{◌≡◌, refl}
use mathlib.Core.List.{List}
use lib.ListN.{length}
use borrow.Author.Tests.{ne_eqb}
use Rattle.replay.specs.Plain.{Ask}
use Rattle.replay.specs.Calls.{ask_code, ask_bytes}
use Rattle.replay.specs.Limits.{max_record}
use Rattle.checkpoint.specs.Restore.{restore_code, restore_second}
use Rattle.checkpoint.specs.Calls.{save_code, save_bytes}
use Rattle.checkpoint.proofs.Restored.{restored-le}
use Rattle.client_answers.specs.Answers.{packed}
use Rattle.client_calls.specs.Client.{ask_answer, ask_leaves, save_answer, save_leaves}

module _ (b : List ℕ) where
  -- the trail is refused
  module _ (n : restore_code b ≡ 0 → ⊥) where
    pub ask_stops : (q : Ask) → ask_answer b q ≡ packed (restore_code b) (restore_second b)
    unfolding ask_answer
    ask_stops q = rw (ne_eqb (restore_code b) 0 n) refl

    pub ask_stays : (q : Ask) → ask_leaves b q ≡ b
    unfolding ask_leaves
    ask_stays q = rw (ne_eqb (restore_code b) 0 n) refl

    pub save_stops : (room : ℕ) → save_answer b room ≡ packed (restore_code b) (restore_second b)
    unfolding save_answer
    save_stops room = rw (ne_eqb (restore_code b) 0 n) refl

    pub save_stays : (lent : List ℕ) → save_leaves b lent ≡ lent
    unfolding save_leaves
    save_stays lent = rw (ne_eqb (restore_code b) 0 n) refl

  -- the trail is taken
  module _ (z : restore_code b ≡ 0) where
    pub few : length b ≤ max_record
    few = restored-le b z

    pub ask_goes : (q : Ask) → ask_answer b q ≡ packed (ask_code b q) 0
    unfolding ask_answer
    ask_goes q = rw z refl

    pub ask_leaves_own : (q : Ask) → ask_leaves b q ≡ ask_bytes b q
    unfolding ask_leaves
    ask_leaves_own q = rw z refl

    pub save_leaves_own : (lent : List ℕ) → save_leaves b lent ≡ save_bytes b lent
    unfolding save_leaves
    save_leaves_own lent = rw z refl

    pub save_goes : (room : ℕ) → save_code b room ≡ 0 → save_answer b room ≡ packed 0 (length b)
    unfolding save_answer
    save_goes room e = rw (z, e) refl

    pub save_refused : (room : ℕ) → (save_code b room ≡ 0 → ⊥) → save_answer b room ≡ packed (save_code b room) 0
    unfolding save_answer
    save_refused room m = rw (z, ne_eqb (save_code b room) 0 m) refl

-- an event or a close, and a save
pub ruleset asks = (ask_stops, ask_stays, ask_goes, ask_leaves_own)

pub ruleset saves = (save_stops, save_stays, few, save_goes, save_refused, save_leaves_own)

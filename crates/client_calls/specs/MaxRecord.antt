-- CONFORM_MAX_RECORD of conform.h, 29,844 bytes, is always enough for a trail and for its record.
use Rattle.std.specs.Prelude.{ℕ, ◌≤◌, true, ◌≡◌, List, length}
use Rattle.net.specs.Table.{net_of, load_code}
use Rattle.replay.specs.Plain.{register_code}
use Rattle.replay.specs.Register.{whole_rows, kinds_in}
use Rattle.replay.specs.Calls.{start_record}
use Rattle.checkpoint.specs.Restore.{restore_code}
use Rattle.client_answers.specs.Answers.{number}
use Rattle.client_calls.specs.Client.{start_answer, restore_answer, save_answer}
use Rattle.replay.specs.Limits.{max_record}

pub record MaxRecord : Type 0 where
  -- no record is longer: not one that starting writes, nor one to which none of 41 to 47 applies
  pub start-le : (table ks : List ℕ) → load_code table ≡ 0 → register_code (net_of table) ks ≡ 0 → length (start_record table ks) ≤ max_record
  pub trail-le : (b : List ℕ) → restore_code b ≡ 0 → length b ≤ max_record
  -- so starting is taken where the table loads, the register is of whole rows and taken, and as many bytes are lent
  pub starts : (table objects : List ℕ) (room : ℕ) → load_code table ≡ 0 → whole_rows (net_of table) objects ≡ true → register_code (net_of table) (kinds_in (net_of table) objects) ≡ 0 → max_record ≤ room
      → number (start_answer table objects room) ≡ 0
  -- and 61 is not the answer where as many bytes are lent
  pub start-fits : (table objects : List ℕ) (room : ℕ) → max_record ≤ room → number (start_answer table objects room) ≡ 61 → ⊥
  pub save-fits : (b : List ℕ) (room : ℕ) → max_record ≤ room → number (save_answer b room) ≡ 61 → ⊥
  pub restore-fits : (r : List ℕ) (room : ℕ) → max_record ≤ room → number (restore_answer r room) ≡ 61 → ⊥

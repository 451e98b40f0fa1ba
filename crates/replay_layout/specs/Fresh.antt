-- The record of a trail that is just started: its length, and where its bodies stand.
use Rattle.std.specs.Prelude.{ℕ, ◌+◌, ◌*◌, ◌/◌, ◌≤◌, ◌≡◌, List, length}
use Rattle.net.specs.Net.{Net}
use Rattle.replay.specs.Limits.{record_head, head_words}
use Rattle.replay.specs.Record.{counts_size}
use Rattle.replay.specs.Register.{row_bytes, kinds_in, position_bytes}
use Rattle.replay_layout.specs.declared.Layout.{Layout}

-- a register of whole rows, at most 1,024
pub record Registered (N : Net) (register : List ℕ) : Type 0 where
  pub whole : length register ≡ row_bytes N * length (kinds_in N register)
  pub few : length (kinds_in N register) ≤ 1024

-- bytes of the record, by those of the table and by the register
abbrev pub fresh_bytes : Net → ℕ → List ℕ → ℕ
fresh_bytes N table register = record_head + table + length register + position_bytes (length (kinds_in N register)) + 4 * counts_size N + 4 * (N.places * N.places)

-- where the bodies stand, by how many numbers the table has and by the register
abbrev pub fresh_layout : Net → ℕ → List ℕ → Layout
fresh_layout N table register = record {
  register = head_words + table;
  positions = head_words + table + length register / 4;
  counts = head_words + table + length register / 4 + position_bytes (length (kinds_in N register)) / 4;
  pairs = head_words + table + length register / 4 + position_bytes (length (kinds_in N register)) / 4 + counts_size N;
  objects = length (kinds_in N register);
  places = N.places;
}

-- What starting asks of the loaded words, the table's bytes and the register's bytes.
use Rattle.std.specs.Prelude.{ℕ, ◌+◌, ◌%◌, ◌≡◌, List, [], ◌∷◌, length}
use Rattle.net.specs.Held.{net_in, Tabled}
use Rattle.replay.specs.Limits.{record_head}
use Rattle.replay.specs.Register.{row_bytes}

-- the words hold the net of the table file, which loads; the register has whole rows
pub record Startable (t table objects : List ℕ) : Type 0 where
  pub tabled : Tabled t table
  pub whole : length objects % row_bytes (net_in t) ≡ 0

-- the five contents pairs, by how many bytes table, register, positions, counts and jumps take
abbrev pub contents_of : ℕ → ℕ → ℕ → ℕ → ℕ → List ℕ
contents_of table register positions counts pairs =
    record_head ∷ table
    ∷ (record_head + table) ∷ register
    ∷ (record_head + table + register) ∷ positions
    ∷ (record_head + table + register + positions) ∷ counts
    ∷ (record_head + table + register + positions + counts) ∷ pairs ∷ []

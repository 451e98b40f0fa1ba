-- A trail that a call can be put to: the loaded words and the record's bytes belong together. And a register of known kinds.
use Rattle.std.specs.Prelude.{ℕ, ◌%◌, ◌<◌, ◌≡◌, List, length, get_or}
use Rattle.net.specs.Net.{Net}
use Rattle.net.specs.Held.{net_in, Held}
use Rattle.replay.specs.Record.{table_in, Intact}
use Rattle.replay.specs.Calls.{net_at}

-- The words w hold the net of the record b, and b is the record of a sound state: none of 41, 42 and 44 to 47 applies to it.
-- That its table loads (not 43) is not said, and not needed: w hold a net that loading promises, and it is the table's.
pub record Ready (w b : List ℕ) : Type 0 where
  pub held : Held w
  pub net : net_in w ≡ net_at b
  pub intact : Intact (net_at b) b
  pub whole : length (table_in b) % 4 ≡ 0

-- the kinds of a register's objects are all known
pub record KnownKinds (N : Net) (ks : List ℕ) : Type 0 where
  pub kind : (o : ℕ) → o < length ks → get_or ks o 0 < N.kinds

-- Taking up a record into lent bytes, and what holds of it and of the work words after the steps of its check.
use Rattle.std.specs.Prelude.{ℕ, ◌≤◌, Bool, true, ◌≡◌, List, [], ◌∷◌, ◌++◌, length, ltb, eqb}
use Rattle.words.specs.Lists.{pick, over}
use Rattle.words.specs.Refusals.{first}
use Rattle.words.specs.Words.{bodies_of, ends_at}
use Rattle.net.specs.Table.{load_code}
use Rattle.net.specs.Held.{net_in, Held}
use Rattle.replay.specs.Record.{table_in}
use Rattle.replay.specs.Calls.{net_at}
use Rattle.checkpoint.specs.Restore.{restore_tests}
use Rattle.replay.specs.Limits.{max_record, record_bodies}

-- none of 41 and 42 applies to the record b
pub record Framed (b : List ℕ) : Type 0 where
  pub size-ge : 40 ≤ length b
  pub size-le : length b ≤ max_record
  pub laid : ends_at (length b) (bodies_of record_bodies b) ≡ true

-- none of 41 to 43 applies to it, and the words w hold its net
pub record Opened (b w : List ℕ) : Type 0 where
  pub framed : Framed b
  pub loads : load_code (table_in b) ≡ 0
  pub held : Held w
  pub net : net_in w ≡ net_at b

-- 41 to 47; 61: the lent part, of `room` bytes, is shorter than the record r
abbrev pub take_tests : List ℕ → ℕ → List (Bool × ℕ)
take_tests r room = restore_tests r ++ ((ltb room (length r), 61) ∷ [])

unfoldable pub take_code : List ℕ → ℕ → ℕ
take_code r room = first (take_tests r room)

-- the lent bytes after the record r is taken up into them
unfoldable pub take_bytes : List ℕ → List ℕ → List ℕ
take_bytes r lent = pick (eqb (take_code r (length lent)) 0) (over r lent) lent

-- What moving an object does to a record, as a list of four-byte numbers, and what it asks of the record.
use Rattle.std.specs.Prelude.{ℕ, ◌+◌, ◌≤◌, ◌<◌, List, length, get_or, set, eqb}
use Rattle.words.specs.Lists.{pick}
use Rattle.replay_layout.specs.declared.Layout.{Layout}
use Rattle.replay_layout.specs.Offsets.{place_at, pair_at}
use Rattle.replay.specs.Limits.{max_words}

-- number i is d more
abbrev pub raise : List ℕ → ℕ → ℕ → List ℕ
raise w i d = set w i (get_or w i 0 + d)

-- object o is sought on place `inp`: how many jumps lead it there, 1, and 0 where it stands there
abbrev pub jumps_to : Layout → ℕ → ℕ → List ℕ → ℕ
jumps_to l o inp w = pick (eqb (get_or w (place_at l o) 0) inp) 0 1

-- the jump is counted at its pair, and the object is left on place `out`
unfoldable pub go_words : Layout → ℕ → ℕ → ℕ → List ℕ → List ℕ
go_words l o inp out w = set (raise w (pair_at l (get_or w (place_at l o) 0) inp) (jumps_to l o inp w)) (place_at l o) out

-- number i can be d more
pub record CanAdd (i d : ℕ) (w : List ℕ) : Type 0 where
  pub inside : i < length w
  pub room : get_or w i 0 + d < 4294967296

-- an object can be moved
pub record CanMove (l : Layout) (o inp : ℕ) (w : List ℕ) : Type 0 where
  pub size : length w ≤ max_words
  pub place : place_at l o < length w
  pub pair : CanAdd (pair_at l (get_or w (place_at l o) 0) inp) 1 w

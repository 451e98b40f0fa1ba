-- The checkpoint (desk record) as bytes: contents, then table, register, positions, counts and jumps without gaps.
use Rattle.std.specs.Prelude.{ℕ, ◌+◌, ◌*◌, ◌/◌, ◌≤◌, ◌≡◌, List, [], ◌∷◌, ◌++◌, length, take, drop}
use Rattle.words.specs.Words.{word, words_of, bytes_of}
use Rattle.net.specs.Net.{Net}
use Rattle.replay.specs.Limits.{record_head}
use Rattle.replay.specs.State.{State, state_from}
use Rattle.replay.specs.Sound.{Sound}
use Rattle.net.specs.Limits.{max_table}

-- two lists by turns
abbrev pub interleave : List ℕ → List ℕ → List ℕ
interleave [] ys = []
interleave (x ∷ xs) [] = []
interleave (x ∷ xs) (y ∷ ys) = x ∷ y ∷ interleave xs ys

-- Register and positions: one row for each object, its kind; its place
abbrev pub register_body : State → List ℕ
register_body d = d.kinds

abbrev pub positions_body : State → List ℕ
positions_body d = d.places

-- Counts: closed, accepted events, closing jumps, then one row for each activity: FIRED, JUMPS
abbrev pub counts : State → List ℕ
counts d = d.closed ∷ d.events ∷ d.closing ∷ interleave d.fired d.jumps

abbrev pub counts_size : Net → ℕ
counts_size N = 3 + 2 * N.acts

-- of a table, given by its bytes, and a state
module _ (table : List ℕ) (d : State) where
  -- where the bodies behind the table start, and where the last one ends
  abbrev pub kinds_at : ℕ
  kinds_at = record_head + length table

  abbrev pub places_at : ℕ
  places_at = kinds_at + 4 * length (register_body d)

  abbrev pub counts_at : ℕ
  counts_at = places_at + 4 * length (positions_body d)

  abbrev pub pairs_at : ℕ
  pairs_at = counts_at + 4 * length (counts d)

  abbrev pub record_size : ℕ
  record_size = pairs_at + 4 * length d.pairs

  -- the five pairs (start, length): table, register, positions, counts, jumps
  abbrev pub contents : List ℕ
  contents = record_head ∷ length table ∷ kinds_at ∷ 4 * length (register_body d) ∷ places_at ∷ 4 * length (positions_body d) ∷ counts_at ∷ 4 * length (counts d) ∷ pairs_at ∷ 4 * length d.pairs ∷ []

  -- the record's bytes
  unfoldable pub encode : List ℕ
  encode = bytes_of contents ++ (table ++ (bytes_of (register_body d) ++ (bytes_of (positions_body d) ++ (bytes_of (counts d) ++ bytes_of d.pairs))))

  -- the record as numbers, of a table of whole numbers
  abbrev pub record_words : List ℕ
  record_words = contents ++ (words_of table ++ (register_body d ++ (positions_body d ++ (counts d ++ d.pairs))))

-- the n numbers from byte i on
unfoldable pub words_from : List ℕ → ℕ → ℕ → List ℕ
words_from b i n = take n (words_of (drop i b))

-- the table's bytes in a record
unfoldable pub table_in : List ℕ → List ℕ
table_in b = take (word b 4) (drop (word b 0) b)

-- the state in a record of the net N
unfoldable pub state_in : Net → List ℕ → State
state_in N b = state_from (words_from b (word b 8) (word b 12 / 4)) (words_from b (word b 16) (word b 20 / 4))
    (words_from b (word b 24) (counts_size N)) (words_from b (word b 32) (N.places * N.places))

-- the bytes are a record of the net N: written by `encode` from a sound state and a table of a length that loads
pub record Intact (N : Net) (b : List ℕ) : Type 0 where
  pub bytes : b ≡ encode (table_in b) (state_in N b)
  pub sound : Sound N (state_in N b)
  pub table-size : length (table_in b) ≤ max_table

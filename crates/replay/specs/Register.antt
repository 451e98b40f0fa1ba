-- The rows of the objects, in the order of their numbers: a register's, each the object's kind, and those of the positions, each its
-- place. How wide a row is stands here; in code it stands in `replay_rows`.
use Rattle.std.specs.Prelude.{ℕ, ◌*◌, ◌%◌, Bool, List, length, eqb}
use Rattle.words.specs.Words.{words_of}
use Rattle.net.specs.Net.{Net}

-- numbers and bytes of a register's row
abbrev pub row_size : Net → ℕ
row_size N = 1

abbrev pub row_bytes : Net → ℕ
row_bytes N = 4 * row_size N

-- bytes of the longest register that is taken
abbrev pub max_register : Net → ℕ
max_register N = 1024 * row_bytes N

-- n bytes are whole rows; these bytes are
abbrev pub whole_body : Net → ℕ → Bool
whole_body N n = eqb (n % row_bytes N) 0

abbrev pub whole_rows : Net → List ℕ → Bool
whole_rows N s = whole_body N (length s)

-- where object o's kind stands among a register's numbers
abbrev pub kind_index : Net → ℕ → ℕ
kind_index N o = o

-- the kinds of the objects
abbrev pub kinds_in : Net → List ℕ → List ℕ
kinds_in N s = words_of s

-- bytes of the positions of n objects, where object o's place stands among their numbers, and the places in them
abbrev pub position_bytes : ℕ → ℕ
position_bytes n = 4 * n

abbrev pub place_index : ℕ → ℕ
place_index o = o

abbrev pub places_in : List ℕ → List ℕ
places_in s = words_of s

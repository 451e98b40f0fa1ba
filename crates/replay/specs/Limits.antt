-- The sizes of the trail: its record's numbers and bytes.
use Rattle.std.specs.Prelude.{ℕ, ◌*◌}

-- bodies of a desk record; bytes and numbers of its contents, a pair for each
abbrev pub record_bodies : ℕ
record_bodies = 5

abbrev pub record_head : ℕ
record_head = 8 * record_bodies

abbrev pub head_words : ℕ
head_words = 2 * record_bodies

-- numbers of the longest desk record
abbrev pub max_words : ℕ
max_words = 7461

-- bytes of the longest desk record
abbrev pub max_record : ℕ
max_record = 4 * max_words

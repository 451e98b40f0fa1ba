-- The sizes of the net: a table's bytes, and the words that loading fills.
use Rattle.std.specs.Prelude.{ℕ}

-- bytes of the longest route table
abbrev pub max_table : ℕ
max_table = 4704

-- words of a loaded net
abbrev pub net_words : ℕ
net_words = 1684

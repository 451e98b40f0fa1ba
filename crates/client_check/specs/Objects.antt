-- The objects that a list in bytes names.
use Rattle.std.specs.Prelude.{ℕ, ◌%◌, List, length, replicate, eqb, leb}
use Rattle.words.specs.Lists.{pick, both}
use Rattle.words.specs.Words.{words_of}

-- the list's numbers; nine, which is more than any activity takes and so gives 24, where it is of no whole rows or has over
-- eight
unfoldable pub objects_in : List ℕ → List ℕ
objects_in s = pick (both (eqb (length s % 4) 0) (leb (length s) 32)) (words_of s) (replicate 9 0)

-- The whole numbers of each line, as bytes.
use Rattle.std.specs.Prelude.{ℕ, List}
use Rattle.words.specs.Words.{bytes_of}
use Rattle.report.specs.TrailRows.{trail_row, place_row, act_row, pair_row}

unfoldable pub trail_numbers : List ℕ → List ℕ
trail_numbers b = bytes_of (trail_row b)

unfoldable pub place_numbers : List ℕ → ℕ → List ℕ
place_numbers b q = bytes_of (place_row b q)

unfoldable pub act_numbers : List ℕ → ℕ → List ℕ
act_numbers b a = bytes_of (act_row b a)

unfoldable pub pair_numbers : List ℕ → ℕ → ℕ → List ℕ
pair_numbers b x y = bytes_of (pair_row b x y)

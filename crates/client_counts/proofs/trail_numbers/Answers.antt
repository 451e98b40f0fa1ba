-- The numbers that were read are written. Assumes nothing.
use Prim.Native.Nat.{ℕ}
use mathlib.Core.Path.{refl}
use mathlib.Core.List.{List, [], ◌∷◌}
use lib.ListN.{get_or}
use Rattle.words.specs.Words.{bytes_of}
use Rattle.client_counts.specs.Numbers.{trail_numbers}
use Rattle.report.proofs.TrailLaws.{row_written}
use Rattle.client_counts.proofs.trail_numbers.Goals as goal

pub returns : goal.returns
unfolding trail_numbers
returns c = row_written (λ (xs : List ℕ). bytes_of (get_or xs 0 0 ∷ get_or xs 1 0 ∷ get_or xs 2 0 ∷ get_or xs 3 0 ∷ [])) tt (refl, c.trail_row.ensures) c.write_row.ensures

-- An unknown number is refused, and else the numbers that were read are written. Assumes nothing.
use Prim.Native.Nat.{ℕ}
use mathlib.Core.List.{List, [], ◌∷◌}
use native.Mathlib.Omega.{arith}
use lib.ListN.{get_or}
use Rattle.words.specs.Words.{bytes_of}
use Rattle.client_counts.specs.Numbers.{pair_numbers}
use Rattle.report.proofs.TrailLaws.{line_refused, row_written}
use Rattle.client_counts.proofs.pair_numbers.Goals as goal

pub returns-in_err-from : goal.returns-in_err-from
returns-in_err-from c = line_refused _ _ _ _ _ c.from_residual.ensures.1 c.in_err-from.ensures

pub returns : goal.returns
unfolding pair_numbers
returns c = row_written (λ (xs : List ℕ). bytes_of (get_or xs 0 0 ∷ get_or xs 1 0 ∷ get_or xs 2 0 ∷ [])) (omega arith, (omega arith, tt)) c.in_ok-from.ensures c.write_row.ensures

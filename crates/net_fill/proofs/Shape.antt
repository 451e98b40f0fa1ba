-- What a table's bytes hold to which none of 1 to 3 applies. Assumes nothing.
use Prim.Native.Nat.{ℕ}
use mathlib.Core.Path.{◌≡◌}
use mathlib.Core.List.{List}
use native.Mathlib.Omega.{arith}
use Rattle.words.specs.Refusals.{first}
use Rattle.words.proofs.Refusals.{none-apply}
use Rattle.words.proofs.Words.{length-words}
use Rattle.net.specs.Table.{shape_tests}
use Rattle.net.proofs.Bodies.{Shaped, shaped}

pub shaped-by : (b : List ℕ) → first (shape_tests b) ≡ 0 → Shaped b
shaped-by b z = shaped b (none-apply (shape_tests b) (omega arith) z)

pub ruleset shape = (shaped-by)

pub ruleset lengths = (length-words)

-- The sum is that of the definition. Assumes nothing.
use Prim.Native.Nat.{◌*◌}
use mathlib.Core.Path.{ap}
use native.Mathlib.Omega.{arith}
use Rattle.report_parts.specs.Parts.{lines_on}
use Rattle.report_parts.proofs.line_count.Goals as goal

pub returns : goal.returns
unfolding lines_on
returns c = omega (arith, c.places-places.ensures, c.acts-acts.ensures, ap (λ n. n * n) c.places-places.ensures)

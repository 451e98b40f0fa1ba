-- How many numbers of arcs there are at most. Assumes nothing.
use Prim.Native.Nat.{ℕ, ◌≤◌}
use mathlib.Core.List.{List}
use native.Mathlib.Omega.{arith}
use lib.ListN.{length}
use Rattle.net.specs.Held.{counts_in, Sized}
use Rattle.net.proofs.Views.{counts-length}

pub few_counts : (w : List ℕ) → Sized w → length (counts_in w) ≤ 64
few_counts w S = omega (arith, counts-length w S, S.acts)

-- What words hold to which none of 3 to 7 applies. Assumes nothing.
use Prim.Native.Nat.{ℕ}
use mathlib.Core.Bool.{false}
use mathlib.Core.Path.{◌≡◌}
use mathlib.Core.List.{List}
use native.Mathlib.Omega.{arith}
use Rattle.words.specs.Lists.{any, pair_up}
use Rattle.words.proofs.Lists.{is_eq}
use Rattle.words.proofs.Refusals.{none-apply}
use Rattle.net.specs.Table.{bad_arc}
use Rattle.net.specs.Held.{arcs_in, net_in}
use Rattle.net.specs.Ruled.{front_tests, Fronted, Ruled}

-- words to which neither 3 to 6 nor 7 applies
pub ruled-by : (w : List ℕ) → Fronted w → any (bad_arc (net_in w)) (pair_up (arcs_in w)) ≡ false → Ruled w
ruled-by w F a =
    let t = none-apply (front_tests w) (omega arith) F.none in
    record { sized = F.sized; places = t.0; ends = t.1.0; counts = t.1.1.0; sum = is_eq _ _ t.1.1.1.0; arcs-few = F.arcs-few; arcs = a }

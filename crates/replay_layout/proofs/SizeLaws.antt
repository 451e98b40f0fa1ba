-- How many activities and places a loaded net has at most. Assumes nothing.
use Prim.Native.Nat.{ℕ, ◌*◌, ◌≤◌}
use mathlib.Core.List.{List}
use native.Mathlib.Nat.{mul-le-mul}
use Rattle.net.specs.Held.{net_in, Held}
use Rattle.net.proofs.HeldLaws.{held-loaded}

pub few_acts : (w : List ℕ) → Held w → (net_in w).acts ≤ 64
few_acts w h = (held-loaded w h).acts-le

pub few_pairs : (w : List ℕ) → Held w → (net_in w).places * (net_in w).places ≤ 4096
few_pairs w h = mul-le-mul (held-loaded w h).places-le (held-loaded w h).places-le

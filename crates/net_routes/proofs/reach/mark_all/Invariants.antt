-- What is left of 64 passes. Assumes nothing.
use Prim.Native.Nat.{◌-◌}
use mathlib.Core.Path.{◌≡◌}
use Rattle.words.specs.Lists.{pair_up}
use Rattle.net.specs.Table.{passes}
use Rattle.net.specs.Held.{arcs_in}
use Rattle.net_routes.proofs.reach.mark_all.Given as goal

abbrev pub invariant-loop : goal.invariant-loop
invariant-loop l = let xs = pair_up (arcs_in l.w.sized.words.now) in passes (64 - l.counter) xs l.m ≡ passes 64 xs l.initial.m

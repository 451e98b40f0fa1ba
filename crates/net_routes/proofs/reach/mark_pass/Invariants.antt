-- What is left of the pass, from the marks so far. Assumes nothing.
use mathlib.Core.Path.{◌≡◌}
use mathlib.Core.Bool.{false}
use lib.ListN.{drop}
use Rattle.words.specs.Lists.{pair_up}
use Rattle.net.specs.Table.{pass}
use Rattle.net.specs.Held.{arcs_in}
use Rattle.net_routes.proofs.reach.mark_pass.Given as goal

abbrev pub invariant-loop-j : goal.invariant-loop-j
invariant-loop-j l = let xs = pair_up (arcs_in l.w.sized.words.now) in
    (pass (drop l.j xs) l.m ≡ pass xs l.initial.m) × (l.more ≡ false → l.m ≡ l.initial.m)

-- The sources of the first k kinds are marked. Assumes nothing.
use mathlib.Core.Path.{◌≡◌}
use Rattle.net.specs.Held.{net_in}
use Rattle.net.specs.Ruled.{marks_to}
use Rattle.net_routes.proofs.reach.mark_sources.Given as goal

abbrev pub invariant-loop-k : goal.invariant-loop-k
invariant-loop-k l = l.m ≡ marks_to (net_in l.w.sized.words.now) l.k l.initial.m

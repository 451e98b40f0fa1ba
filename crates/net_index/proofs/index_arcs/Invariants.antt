-- What is left to store after a activities, whose arcs are `from`; the words that are read stay. Assumes nothing.
use Prim.Native.Nat.{ℕ, ◌+◌, ◌*◌}
use mathlib.Core.Path.{◌≡◌}
use lib.ListN.{get_or, drop}
use Rattle.words.specs.Lists.{pair_up, parts, total}
use Rattle.net.specs.Held.{net_in, counts_in, arcs_in, index_rows}
use Rattle.net_index.proofs.Indexed.{Same}
use Rattle.net_index.proofs.index_arcs.Given as goal

abbrev pub invariant-loop-a : goal.invariant-loop-a
invariant-loop-a l =
    (l.from + total (λ (n : ℕ). n) (drop l.a (counts_in l.initial.t)) ≡ get_or l.initial.t 3 0)
    × (index_rows (net_in l.initial.t).kind_of (1172 + 8 * l.a) (parts (drop l.a (counts_in l.initial.t)) (drop l.from (pair_up (arcs_in l.initial.t)))) l.t ≡ index_rows (net_in l.initial.t).kind_of 1172 (parts (counts_in l.initial.t) (pair_up (arcs_in l.initial.t))) l.initial.t)
    × Same l.t l.initial.t

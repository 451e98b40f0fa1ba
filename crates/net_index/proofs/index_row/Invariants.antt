-- What is left to store after i arcs; the words that are read stay. Assumes nothing.
use mathlib.Core.Path.{◌≡◌}
use lib.ListN.{take, drop}
use Rattle.words.specs.Lists.{pair_up}
use Rattle.net.specs.Held.{net_in, arcs_in, index_row}
use Rattle.net_index.proofs.Indexed.{Same}
use Rattle.net_index.proofs.index_row.Given as goal

abbrev pub invariant-loop-i : goal.invariant-loop-i
invariant-loop-i l =
    (index_row (net_in l.initial.t).kind_of l.base (drop l.i (take l.n (drop l.from (pair_up (arcs_in l.initial.t))))) l.t ≡ index_row (net_in l.initial.t).kind_of l.base (take l.n (drop l.from (pair_up (arcs_in l.initial.t)))) l.initial.t) × Same l.t l.initial.t

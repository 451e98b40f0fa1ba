-- The kinds seen so far and those left clash exactly where a kind stands twice. Assumes nothing.
use Prim.Native.Nat.{ℕ}
use mathlib.Core.Path.{◌≡◌}
use mathlib.Core.List.{List}
use lib.ListN.{take, drop}
use Rattle.words.specs.Lists.{twice, pair_up}
use Rattle.words.proofs.Search.{clashes}
use Rattle.net.specs.Net.{kinds_of}
use Rattle.net.specs.Held.{net_in, arcs_in}
use Rattle.net_routes.proofs.kinds.two_in_row.Given as goal

-- the kinds of the n arcs from arc `from` on
abbrev pub row_kinds : List ℕ → ℕ → ℕ → List ℕ
row_kinds w from n = kinds_of (net_in w) (take n (drop from (pair_up (arcs_in w))))

abbrev pub invariant-loop-i : goal.invariant-loop-i
invariant-loop-i l = let ks = row_kinds l.w.sized.words.now l.from l.n in clashes l.seen (drop l.i ks) ≡ twice ks

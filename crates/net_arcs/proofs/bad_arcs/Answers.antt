-- The chain goes over all arcs. Assumes nothing.
use Prim.Native.Nat.{ℕ}
use mathlib.Core.List.{List}
use mathlib.Core.Path.{◌∙◌}
use native.Mathlib.Omega.{arith}
use lib.ListN.{length, get_or}
use borrow.Author.Tests.{tests}
use Rattle.std.proofs.Common.{rules}
use Rattle.std.proofs.lemmas.Iterator.{YieldsList-from_range}
use Rattle.std.proofs.lemmas.Iterator.Search.{any_from_yields_List}
use Rattle.words.specs.Lists.{pair_up}
use Rattle.net.specs.Net.{Arc}
use Rattle.net.specs.Table.{bad_arc}
use Rattle.net.specs.Held.{net_in, arcs_in}
use Rattle.words.proofs.Chains.{any_at-is}
use Rattle.net.proofs.Views.{arcs-length}
use Rattle.net_arcs.proofs.bad_arcs.Goals as goal

pub returns : goal.returns
returns c =
    let w : List ℕ = c.args.w.words.now in
    let xs : List Arc = pair_up (arcs_in w) in
    any_from_yields_List (λ (j : ℕ). bad_arc (net_in w) (get_or xs j (0, 0))) _ _ _ c.any.ensures.ran (YieldsList-from_range 0 (length xs) (length xs) (search (rules, arcs-length w c.args.w.sized c.requires.bounded)) (omega arith)) (λ x b q k. search (rules, tests))
    ∙ any_at-is (bad_arc (net_in w)) (0, 0) xs

-- The chain goes over the numbers of arcs of all activities. Assumes nothing.
use Prim.Native.Nat.{ℕ}
use mathlib.Core.List.{List}
use mathlib.Core.Path.{◌∙◌}
use borrow.Author.Tests.{tests}
use Rattle.std.proofs.Common.{rules}
use Rattle.std.proofs.lemmas.Iterator.{YieldsList-from_slice}
use Rattle.std.proofs.lemmas.Iterator.Search.{any_from_yields_List}
use Rattle.net.specs.Table.{bad_count}
use Rattle.words.proofs.Chains.{any-is}
use Rattle.net_arcs.proofs.bad_counts.Goals as goal

pub returns : goal.returns
returns c =
    let xs : List ℕ = c.counts.result.now in
    rw (← c.counts.ensures) (any_from_yields_List bad_count _ _ _ c.any.ensures.ran (YieldsList-from_slice xs cc) (λ x b q k. search (rules, tests)) ∙ any-is bad_count xs)

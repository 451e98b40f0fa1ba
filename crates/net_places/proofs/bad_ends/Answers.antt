-- The chain goes over all kinds. Assumes nothing.
use Prim.Native.Nat.{ℕ}
use mathlib.Core.List.{List}
use mathlib.Core.Path.{◌∙◌}
use native.Mathlib.Omega.{arith}
use borrow.Author.Tests.{tests}
use Rattle.std.proofs.Common.{rules}
use Rattle.std.proofs.lemmas.Iterator.{YieldsList-from_range}
use Rattle.std.proofs.lemmas.Iterator.Search.{any_from_yields_List}
use Rattle.net.specs.Table.{bad_ends}
use Rattle.net.specs.Held.{net_in}
use Rattle.words.proofs.Chains.{any_to-is}
use Rattle.net_places.proofs.bad_ends.Goals as goal

pub returns : goal.returns
returns c =
    let w : List ℕ = c.args.w.words.now in
    let n : ℕ = (net_in w).kinds in
    any_from_yields_List (bad_ends (net_in w)) _ _ _ c.any.ensures.ran (YieldsList-from_range 0 n n (search rules) (omega arith)) (λ x b q k. search (rules, tests)) ∙ any_to-is (bad_ends (net_in w)) n

-- The chain goes over the kinds of all places. Assumes nothing.
use Prim.Native.Nat.{ℕ}
use mathlib.Core.List.{List}
use mathlib.Core.Path.{◌∙◌}
use lib.Dec.{leb}
use borrow.Author.Tests.{tests}
use Rattle.std.proofs.Common.{rules}
use Rattle.std.proofs.lemmas.Iterator.{YieldsList-from_slice}
use Rattle.std.proofs.lemmas.Iterator.Search.{any_from_yields_List}
use Rattle.words.proofs.Chains.{any-is}
use Rattle.net_places.proofs.unknown_kind.Goals as goal

pub returns : goal.returns
returns c =
    let xs : List ℕ = c.args.places.now in
    any_from_yields_List (leb c.args.kinds) _ _ _ c.any.ensures.ran (YieldsList-from_slice xs cc) (λ x b q k. search (rules, tests)) ∙ any-is (leb c.args.kinds) xs

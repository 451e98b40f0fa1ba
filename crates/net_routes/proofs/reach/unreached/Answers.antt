-- The chain goes over all kinds; the marks say of each sink whether its own source reaches it. Assumes nothing.
use Prim.Native.Nat.{ℕ}
use mathlib.Core.Bool.{Bool, not}
use mathlib.Core.List.{List}
use mathlib.Core.Path.{◌≡◌, ap, ◌∙◌}
use native.Mathlib.Omega.{arith}
use lib.Dec.{eqb}
use lib.ListN.{get_or, replicate}
use borrow.Author.Tests.{tests}
use Rattle.std.proofs.Common.{rules}
use Rattle.std.proofs.iter.Serving.{serving}
use Rattle.std.proofs.lemmas.Iterator.{YieldsList-from_range}
use Rattle.std.proofs.lemmas.Iterator.Search.{any_from_yields_List}
use Rattle.words.specs.Lists.{pair_up}
use Rattle.net.specs.Table.{passes, marked}
use Rattle.net.specs.Held.{net_in, arcs_in}
use Rattle.net.specs.Ruled.{source_marks}
use Rattle.words.proofs.Chains.{any_to-is, any_to-same}
use Rattle.net_routes.proofs.RuledWords.{sink-small, sink-marked}
use Rattle.net_routes.proofs.reach.unreached.Goals as goal

pub any-requires-clause-callable : goal.any-requires-clause-callable
any-requires-clause-callable c = grind (serving, arith, sink-small _ c.args.w.ruled)

pub returns : goal.returns
returns c =
    let w : List ℕ = c.args.w.sized.words.now in
    let n : ℕ = (net_in w).kinds in
    let m : List ℕ = c.mark_all.new.m in
    let marks-are : m ≡ passes 64 (pair_up (arcs_in w)) (source_marks (net_in w) (replicate 64 0)) = c.mark_all.ensures ∙ ap (passes 64 (pair_up (arcs_in w))) c.mark_sources.ensures in
    let unmarked : ℕ → Bool = λ k. not (eqb (get_or m ((net_in w).sink k) 0) 1) in
    any_from_yields_List unmarked _ _ _ c.any.ensures.ran (YieldsList-from_range 0 n n (search rules) (omega arith)) (λ x b q k. search (rules, tests))
    ∙ any_to-is unmarked n
    ∙ any_to-same n unmarked (λ (k : ℕ). not (marked (net_in w).places (pair_up (arcs_in w)) ((net_in w).source k) ((net_in w).sink k))) (λ k h. ap not (sink-marked w c.args.w.ruled m marks-are k h))

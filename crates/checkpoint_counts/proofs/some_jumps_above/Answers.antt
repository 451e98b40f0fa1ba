-- There are at most 64 activities, of 8 arcs each, and all their counts are there. Assumes nothing.
use Rattle.std.proofs.Common.{ℕ, Bool, ◌*◌, get_or, length, ltb, arith, rules, tests, refl, ◌∙◌}
use Rattle.std.proofs.lemmas.Iterator.{serves_from_Range, YieldsList-from_range}
use Rattle.std.proofs.lemmas.Iterator.Search.{any_from_yields_List}
use Rattle.words.specs.Words.{words_of}
use Rattle.net.specs.Held.{net_in}
use Rattle.net.proofs.HeldLaws.{held-loaded}
use Rattle.replay_layout.specs.Offsets.{fired_index, jumps_index}
use Rattle.words.proofs.Chains.{any_to-is}
use Rattle.checkpoint_counts.proofs.some_jumps_above.Goals as goal

pub any-requires-clause-callable : goal.any-requires-clause-callable
any-requires-clause-callable c =
    let L = held-loaded c.args.net.now.words.now c.args.net.now.held in
    let few = L.acts-le in
    let arcs = L.arcs-le in
    serves_from_Range (λ x q h. search (rules, tests)) (λ x a b. search (rules, arith))

pub returns : goal.returns
returns c =
    let N = net_in c.args.net.now.words.now in
    let over : ℕ → Bool = λ a. ltb (get_or (words_of c.args.cs.now) (fired_index a) 0 * length (N.arcs a)) (get_or (words_of c.args.cs.now) (jumps_index a) 0) in
    any_from_yields_List over _ _ c.any.result c.any.ensures.ran (YieldsList-from_range 0 c.acts.result N.acts refl (omega arith)) (λ x b q k. search (rules, tests))
    ∙ any_to-is over N.acts

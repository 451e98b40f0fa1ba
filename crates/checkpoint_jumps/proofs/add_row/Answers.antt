-- Each turn adds one column's count. Assumes nothing.
use Rattle.std.proofs.Common.{◌≡◌, ◌+◌, ◌*◌, ℕ, eqb, get_or, arith, ap, ◌∙◌}
use Rattle.words.specs.Lists.{pick}
use Rattle.words.specs.Words.{words_of}
use Rattle.words.proofs.Sums.{sum_to-more}
use Rattle.net.specs.Held.{net_in}
use Rattle.checkpoint_jumps.specs.Sums.{pair_in, foreign_in}
use Rattle.checkpoint_jumps.proofs.Adding.{pass-turn, pick-le}
use Rattle.checkpoint_jumps.proofs.Bounds.{few_places}
use Rattle.checkpoint_jumps.proofs.add_row.Goals as goal

pub loop-y-preserved : goal.loop-y-preserved
loop-y-preserved c =
    let a = c.args in
    let l = c.loop-y in
    let w = a.net.now.words.now in
    let N = net_in w in
    let P = few_places w a.net.now.held in
    let value-is : c.from-v.result ≡ pair_in N a.js.now a.x l.y = c.from-v.ensures ∙ c.get_word-in-loop-y.ensures ∙ ap (λ (n : ℕ). get_or (words_of a.js.now) (a.x * n + l.y) 0) c.places-n.ensures in
    let foreign-is : c.foreign_count-off.result ≡ foreign_in N a.js.now a.x c.kind_of-k.result l.y = c.foreign_count-off.ensures ∙ ap (pick (eqb c.kind_of-k.result (N.kind_of l.y)) 0) value-is in (
      pass-turn a.into.now (pair_in N a.js.now a.x) _ l.into l.y _ l.invariant.0 (omega arith) (omega arith) (omega (arith, c.requires.at_most.at l.y (omega arith), l.invariant.0.left l.y (omega arith))),
      omega (arith, sum_to-more l.y (foreign_in N a.js.now a.x c.kind_of-k.result)),
      omega (arith, c.foreign_count-off.ensures, pick-le (eqb c.kind_of-k.result (N.kind_of l.y)) c.from-v.result),
    )

-- Each object adds one to its sink; the close takes every object. Assumes nothing.
use Rattle.std.proofs.Common.{◌≡◌, ℕ, List, eqb, get_or, length, arith, ap, ◌∙◌}
use Rattle.words.specs.Lists.{one, sum_to}
use Rattle.words.specs.Words.{words_of}
use Rattle.words.proofs.Sums.{sum_to-more}
use Rattle.net.specs.Held.{net_in}
use Rattle.checkpoint_jumps.proofs.Adding.{added-same, added_then}
use Rattle.checkpoint_jumps.proofs.Bounds.{few_places, sink_place, known_kind, few_objects}
use Rattle.checkpoint_jumps.proofs.Taking.{sink-added, sinks-most, sinks-all}
use Rattle.checkpoint_jumps.proofs.CountedBodies.take_sinks.Goals as goal

pub overflow_add-taken : goal.overflow_add-taken
overflow_add-taken c =
    let s = c.args.self.now in
    let w = s.net.words.now in
    let N = net_in w in
    let K : List ℕ = words_of s.register.now in
    let q : ℕ = c.sink-q.result in
    let h = sink_place w s.net.held c.wide.result (omega (arith, known_kind N K s.counted.register c.loop-i.i)) in
    omega (arith, c.loop-i.invariant.at q (omega arith), c.requires.at_most.at q (omega arith), sinks-most N K q c.loop-i.i, few_objects N K s.counted.register)

pub loop-i-preserved : goal.loop-i-preserved
loop-i-preserved c =
    let s = c.args.self.now in
    let w = s.net.words.now in
    let N = net_in w in
    let K : List ℕ = words_of s.register.now in
    let l = c.loop-i in
    let h = sink_place w s.net.held c.wide.result (omega (arith, known_kind N K s.counted.register l.i)) in
    let e : c.sink-q.result ≡ N.sink (get_or K l.i 0) = c.sink-q.ensures ∙ ap N.sink (c.wide.ensures ∙ c.kind.ensures) in
    added_then l.invariant (sink-added N (get_or K l.i 0) l.taken c.sink-q.result _ e (omega (arith, l.invariant.size, c.requires.at_most.size, few_places w s.net.held)) (omega arith)) (λ q g. omega (arith, sum_to-more l.i (λ (o : ℕ). one (eqb q (N.sink (get_or K o 0))))))

pub returns : goal.returns
returns c =
    let s = c.args.self.now in
    let N = net_in s.net.words.now in
    let K : List ℕ = words_of s.register.now in
    let e : c.loop-i.i ≡ length K = omega arith in
    added-same c.loop-i.invariant (λ q h. ap (λ (i : ℕ). sum_to i (λ (o : ℕ). one (eqb q (N.sink (get_or K o 0))))) e ∙ sinks-all N K q)

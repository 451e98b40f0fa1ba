-- The sums after both takings are TAKEN of each place. Assumes nothing.
use Rattle.std.proofs.Common.{ℕ, ltb, take, arith, ap, sym, ◌∙◌}
use Rattle.std.specs.List.{list_any, zip}
use Rattle.std.proofs.lemmas.List.{length-take-le}
use Rattle.net.specs.Held.{net_in}
use Rattle.checkpoint_jumps.proofs.Adding.{zeros-most}
use Rattle.checkpoint_jumps.proofs.Bounds.{few_places}
use Rattle.checkpoint_jumps.proofs.Jumping.{taken-above}
use Rattle.checkpoint_jumps.proofs.CountedBodies.above_taken.Goals as goal

pub take_inputs-requires : goal.take_inputs-requires
take_inputs-requires c = record { at_most = zeros-most (net_in c.args.self.now.net.words.now).places 0 }

pub slice_bounds-above-end : goal.slice_bounds-above-end
slice_bounds-above-end c =
    let net = c.args.self.now.net in
    sym (length-take-le c.places-n.result c.take_closed.new.taken (omega (arith, few_places net.words.now net.held, c.take_closed.ensures.size, c.take_inputs.ensures.still_at_most.size)))

pub returns : goal.returns
returns c =
    let s = c.args.self.now in
    let w = s.net.words.now in
    c.above.ensures
    ∙ ap (λ (n : ℕ). list_any (λ (p : ℕ × ℕ). ltb p.0 p.1) (zip (take n c.take_closed.new.taken) (take n c.args.into.now))) c.places-n.ensures
    ∙ taken-above (net_in w) s.register.now s.counts.now c.take_inputs.new.taken c.take_closed.new.taken c.take_inputs.ensures.added c.take_closed.ensures c.args.into.now (few_places w s.net.held) (omega arith)

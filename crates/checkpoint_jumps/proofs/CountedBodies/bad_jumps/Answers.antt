-- Where the length is right, each count is there; the tests are listed one behind the other. Assumes nothing.
use Rattle.std.proofs.Common.{length, arith, tests, refl}
use Rattle.words.proofs.Words.{length-words}
use Rattle.net.specs.Held.{net_in}
use Rattle.checkpoint_jumps.proofs.Adding.{zeros-most, sum-fits}
use Rattle.checkpoint_jumps.proofs.Bounds.{few_places}
use Rattle.checkpoint_jumps.proofs.Jumping.{jumps-hit}
use Rattle.checkpoint_jumps.proofs.CountedBodies.bad_jumps.Goals as goal

pub add_rows-requires : goal.add_rows-requires
add_rows-requires c =
    record { sized = omega (arith, length-words c.args.js.now); at_most = zeros-most (net_in c.args.self.now.net.words.now).places 0 }

pub sum_row-requires : goal.sum_row-requires
sum_row-requires c =
    let net = c.args.self.now.net in
    let few = few_places net.words.now net.held in
    record { fits = rw c.places.ensures (omega (arith, sum-fits c.add_rows.ensures.still_at_most few)) }

pub returns-then-add_rows-ne0 : goal.returns-then-add_rows-ne0
returns-then-add_rows-ne0 c =
    let s = c.args.self.now in
    let w = s.net.words.now in
    let N = net_in w in
    let e = jumps-hit N s.register.now s.counts.now c.args.js.now (length c.args.js.now) c.add_rows.new.into N.places N.acts refl refl (few_places w s.net.held) c.add_rows.ensures.added (omega arith) in
    grind (arith, tests)

pub returns-then-sum_row-jumps : goal.returns-then-sum_row-jumps
returns-then-sum_row-jumps c =
    let s = c.args.self.now in
    let w = s.net.words.now in
    let e = jumps-hit (net_in w) s.register.now s.counts.now c.args.js.now (length c.args.js.now) c.add_rows.new.into _ _ c.places.ensures c.acts.ensures (few_places w s.net.held) c.add_rows.ensures.added (omega arith) in
    grind (arith, tests)

pub returns-else-sum_row-jumps : goal.returns-else-sum_row-jumps
returns-else-sum_row-jumps c =
    let s = c.args.self.now in
    let w = s.net.words.now in
    let e = jumps-hit (net_in w) s.register.now s.counts.now c.args.js.now (length c.args.js.now) c.add_rows.new.into _ _ c.places.ensures c.acts.ensures (few_places w s.net.held) c.add_rows.ensures.added (omega arith) in
    grind (arith, tests)

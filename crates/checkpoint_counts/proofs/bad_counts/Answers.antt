-- Where the length is right, each number read is there; the tests are listed one behind the other. Assumes nothing.
use Rattle.std.proofs.Common.{length, arith, tests}
use Rattle.words.proofs.Words.{length-words}
use Rattle.net.specs.Held.{net_in}
use Rattle.net.proofs.HeldLaws.{held-loaded}
use Rattle.replay.specs.Register.{kinds_in}
use Rattle.replay.proofs.Accepted.{closers-length}
use Rattle.checkpoint_counts.proofs.Counting.{counts-hit}
use Rattle.checkpoint_counts.proofs.bad_counts.Goals as goal

pub get_word-closed-requires : goal.get_word-closed-requires
get_word-closed-requires c = omega (arith, length-words c.args.cs.now)

pub get_word-events-requires : goal.get_word-events-requires
get_word-events-requires c = omega (arith, length-words c.args.cs.now)

pub sum_every-requires : goal.sum_every-requires
sum_every-requires c = omega (arith, length-words c.args.cs.now, (held-loaded c.args.net.now.words.now c.args.net.now.held).acts-le)

pub some_jumps_above-requires : goal.some_jumps_above-requires
some_jumps_above-requires c = record { sized = omega (arith, length-words c.args.cs.now) }

pub get_word-requires : goal.get_word-requires
get_word-requires c = omega (arith, length-words c.args.cs.now)

pub returns-then-some_jumps_above : goal.returns-then-some_jumps_above
returns-then-some_jumps_above c =
    let e = counts-hit (net_in c.args.net.now.words.now) c.args.ks.now c.args.cs.now (length c.args.cs.now) (omega arith) in
    grind (arith, tests)

pub returns-else-some_jumps_above : goal.returns-else-some_jumps_above
returns-else-some_jumps_above c =
    let e = counts-hit (net_in c.args.net.now.words.now) c.args.ks.now c.args.cs.now (length c.args.cs.now) (omega arith) in
    let o = closers-length (kinds_in (net_in c.args.net.now.words.now) c.args.ks.now) in
    grind (arith, tests)

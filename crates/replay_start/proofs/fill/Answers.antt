-- The five bodies fill the bytes. Assumes nothing.
use native.Mathlib.Omega.{arith}
use borrow.Author.Rules.{rules}
use Rattle.words.specs.Words.{words_of}
use Rattle.words.proofs.Words.{length-words}
use Rattle.replay_start.proofs.StartLaws.{table-few, register-rows, kinds-known, fits, stored, record_is}
use Rattle.replay_start.proofs.fill.Goals as goal

pub layout-lay-requires : goal.layout-lay-requires
layout-lay-requires c = record { bounded = (omega (arith, table-few _ _ _ c.args.bodies.now.startable c.requires.registered), register-rows _ _ _ c.args.bodies.now.startable c.requires.registered) }

pub put_contents-requires : goal.put_contents-requires
put_contents-requires c =
    let f = fits _ _ _ c.args.bodies.now.startable c.requires.registered c.layout-lay.result c.layout-lay.ensures in record {
      head_room = omega (arith, f, length-words c.args.out.now, c.requires.exact);
      bounded = omega (arith, f, c.position_bytes-positions.ensures, c.counts_bytes-counts.ensures.1, c.pairs_bytes-pairs.ensures.1);
    }

pub copy_words-requires : goal.copy_words-requires
copy_words-requires c =
    let f = fits _ _ _ c.args.bodies.now.startable c.requires.registered c.layout-lay.result c.layout-lay.ensures in
    omega (arith, f, length-words c.put_contents.new.out, length-words c.args.bodies.now.tabled.table.now, c.put_contents.auto.out, c.requires.exact)

pub copy_words-requires-2 : goal.copy_words-requires-2
copy_words-requires-2 c =
    let f = fits _ _ _ c.args.bodies.now.startable c.requires.registered c.layout-lay.result c.layout-lay.ensures in
    omega (arith, f, length-words c.copy_words.new.out, c.copy_words.auto, c.put_contents.auto.out, c.requires.exact)

pub put_sources-requires : goal.put_sources-requires
put_sources-requires c =
    let f = fits _ _ _ c.args.bodies.now.startable c.requires.registered c.layout-lay.result c.layout-lay.ensures in record {
      room = omega (arith, f, length-words c.copy_words-2.new.out, c.copy_words-2.auto, c.copy_words.auto, c.put_contents.auto.out, c.requires.exact);
    }

pub invariant_of-register : goal.invariant_of-register
invariant_of-register c = record { known = kinds-known _ _ _ c.args.bodies.now.startable c.requires.registered }

pub put_zeros-requires : goal.put_zeros-requires
put_zeros-requires c =
    let f = fits _ _ _ c.args.bodies.now.startable c.requires.registered c.layout-lay.result c.layout-lay.ensures in
    omega (arith, f, length-words c.put_sources.new.out, c.put_sources.auto, c.copy_words-2.auto, c.copy_words.auto, c.put_contents.auto.out, c.requires.exact, c.counts_bytes-counts.ensures.0, c.pairs_bytes-pairs.ensures.0)

pub returns : goal.returns
returns c =
    let f = fits _ _ _ c.args.bodies.now.startable c.requires.registered c.layout-lay.result c.layout-lay.ensures in
    let n = c.counts_bytes-counts in let q = c.pairs_bytes-pairs in let p = c.position_bytes-positions in
    record_is _ _ _ c.args.bodies.now.startable c.requires.registered c.put_zeros.new.out
    (omega (arith, c.put_zeros.auto.out, c.put_sources.auto, c.copy_words-2.auto, c.copy_words.auto, c.put_contents.auto.out, c.requires.exact))
    c.copy_words.ensures.bytes
    (λ i. search rules)
    (rw (c.put_zeros.ensures, c.put_sources.ensures, c.copy_words-2.ensures.after, c.copy_words.ensures.after, c.put_contents.ensures)
    (stored _ _ _ c.args.bodies.now.startable c.requires.registered (words_of c.args.out.now) p.result n.result q.result (omega (arith, p.ensures, f)) n.ensures.0 q.ensures.0 c.layout-lay.result f (omega (arith, f, length-words c.args.out.now, c.requires.exact))))

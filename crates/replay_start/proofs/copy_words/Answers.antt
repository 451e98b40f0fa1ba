-- A number more; past the last, nothing is left to store. Assumes nothing.
use Prim.Native.Nat.{◌+◌}
use mathlib.Core.Path.{sym, ◌∙◌}
use native.Mathlib.Omega.{arith}
use native.Mathlib.Nat.{add_assoc}
use Rattle.words.specs.Words.{words_of}
use Rattle.words.proofs.Words.{length-words}
use Rattle.words.proofs.Stores.{store-more, store-end}
use Rattle.replay_start.proofs.copy_words.Goals as goal

pub overflow_add-base : goal.overflow_add-base
overflow_add-base c = omega (arith, length-words c.args.out.now, length-words c.args.s.now)

pub get_word-requires : goal.get_word-requires
get_word-requires c = omega (arith, length-words c.args.s.now)

pub put_word-requires : goal.put_word-requires
put_word-requires c = omega (arith, length-words c.args.out.now, length-words c.loop-i.out, length-words c.args.s.now)

pub loop-i-preserved : goal.loop-i-preserved
loop-i-preserved c =
    let l = c.loop-i in
    let a = c.args in (
      omega (arith, c.put_word.auto.s, l.invariant.0),
      rw (← add_assoc, c.put_word.ensures.words, c.get_word.ensures)
          (store-more (words_of l.out) (words_of a.s.now) (a.base + l.i) l.i (omega (arith, length-words a.s.now, c.loop-i-test.true)) ∙ l.invariant.1),
    )

pub returns-clause-after : goal.returns-clause-after
returns-clause-after c =
    let l = c.loop-i in
    let a = c.args in
    sym (store-end (words_of l.out) (words_of a.s.now) (a.base + l.i) l.i (omega (arith, length-words a.s.now, c.loop-i-test.false))) ∙ l.invariant.1

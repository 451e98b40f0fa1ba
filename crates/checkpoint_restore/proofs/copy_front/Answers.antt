-- At the end no byte is left to store. Assumes nothing.
use mathlib.Core.Path.{sym, ◌∙◌}
use Rattle.words.proofs.Stores.{store-end}
use Rattle.words.proofs.Over.{sets_over}
use Rattle.checkpoint_restore.proofs.copy_front.Goals as goal

pub returns : goal.returns
returns c =
    let l = c.loop-i in
    let a = c.args in
    sym (store-end l.to a.from.now l.i l.i c.loop-i-test.false) ∙ l.invariant.1 ∙ sets_over a.from.now a.to.now c.requires

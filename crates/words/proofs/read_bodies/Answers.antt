-- The goals of `read_bodies`, from what Invariants says of its loop. Assumes nothing.
use mathlib.Core.Path.{refl, sym, ◌∙◌}
use native.Mathlib.Nat.{sub-zero}
use Rattle.words.specs.Words.{bodies_of}
use Rattle.words.proofs.Words.{bodies-more, bodies-gap, bodies-end}
use Rattle.words.proofs.read_bodies.Goals as goal

pub loop-i-init : goal.loop-i-init
unfolding bodies_of
loop-i-init c = rw sub-zero refl

pub returns-then-from-end : goal.returns-then-from-end
returns-then-from-end c =
    let l = c.loop-i in
    bodies-gap _ _ _ _ c.loop-i-test.true (λ e. c.if-from-end.true (c.from.ensures ∙ c.word_at.ensures ∙ e)) ∙ l.invariant

pub loop-i-preserved : goal.loop-i-preserved
loop-i-preserved c = rw (c.from-end.ensures, c.word_at-in-loop-i.ensures) (bodies-more _ _ _ _ c.loop-i-test.true (sym (c.from.ensures ∙ c.word_at.ensures) ∙ c.if-from-end.false) ∙ c.loop-i.invariant)

pub returns : goal.returns
returns c = bodies-end _ _ _ _ c.loop-i-test.false ∙ c.loop-i.invariant

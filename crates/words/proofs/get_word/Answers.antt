-- Number i stands at byte 4 * i. Assumes nothing.
use native.Mathlib.Omega.{arith}
use mathlib.Core.Path.{◌∙◌}
use Rattle.words.proofs.Words.{room, words-get}
use Rattle.words.proofs.get_word.Goals as goal

pub overflow_mul-i : goal.overflow_mul-i
overflow_mul-i c = omega (arith, room _ _ c.requires)

pub word_at-requires : goal.word_at-requires
word_at-requires c = omega (arith, room _ _ c.requires)

pub returns : goal.returns
returns c = c.word_at.ensures ∙ words-get _ _ c.requires

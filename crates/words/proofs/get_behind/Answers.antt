-- `words::get_behind` meets its contract, by the part that it reads. Assumes nothing.
use mathlib.Core.Path.{◌∙◌}
use native.Mathlib.Omega.{arith}
use Rattle.words.proofs.Behind.{part_in, part-has, part-get}
use Rattle.words.proofs.get_behind.Goals as goal

pub overflow_mul-from : goal.overflow_mul-from
overflow_mul-from c = omega (arith, part_in c.args.s.now c.args.base c.args.i c.requires)

pub slice_bounds-get_word-count : goal.slice_bounds-get_word-count
slice_bounds-get_word-count c = part_in c.args.s.now c.args.base c.args.i c.requires

pub slice_bounds-get_word-start : goal.slice_bounds-get_word-start
slice_bounds-get_word-start c = part_in c.args.s.now c.args.base c.args.i c.requires

pub get_word-requires : goal.get_word-requires
get_word-requires c = part-has c.args.s.now c.args.base c.args.i c.requires

pub returns : goal.returns
returns c = c.get_word.ensures ∙ part-get c.args.s.now c.args.base c.args.i c.requires

-- `words::put_behind` meets its contract, by the part that it writes. Assumes nothing.
use native.Mathlib.Omega.{arith}
use Rattle.words.proofs.Behind.{part_in, part-has, part-put}
use Rattle.words.proofs.put_behind.Goals as goal

pub overflow_mul-start : goal.overflow_mul-start
overflow_mul-start c = omega (arith, part_in c.args.s.now c.args.base c.args.i c.requires)

pub slice_bounds-put_word-count : goal.slice_bounds-put_word-count
slice_bounds-put_word-count c = part_in c.args.s.now c.args.base c.args.i c.requires

pub slice_bounds-put_word-start : goal.slice_bounds-put_word-start
slice_bounds-put_word-start c = part_in c.args.s.now c.args.base c.args.i c.requires

pub put_word-requires : goal.put_word-requires
put_word-requires c = part-has c.args.s.now c.args.base c.args.i c.requires

pub returns : goal.returns
returns c = part-put c.args.s.now c.args.base c.args.i c.requires c.args.x _ (omega arith) c.put_word.ensures

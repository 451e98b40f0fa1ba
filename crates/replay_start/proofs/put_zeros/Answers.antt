-- The bytes of the numbers are 0. Assumes nothing.
use native.Mathlib.Omega.{arith}
use Rattle.words.proofs.Words.{length-words}
use Rattle.replay_start.proofs.CopyLaws.{zeros-copied}
use Rattle.replay_start.proofs.put_zeros.Goals as goal

pub overflow_mul-base : goal.overflow_mul-base
overflow_mul-base c = omega (arith, length-words c.args.out.now)

pub overflow_add-base : goal.overflow_add-base
overflow_add-base c = omega (arith, length-words c.args.out.now)

pub overflow_mul-base-2 : goal.overflow_mul-base-2
overflow_mul-base-2 c = omega (arith, length-words c.args.out.now)

pub slice_bounds-fill-end : goal.slice_bounds-fill-end
slice_bounds-fill-end c = omega (arith, length-words c.args.out.now)

pub returns : goal.returns
returns c = zeros-copied c.args.out.now c.fill.new.self c.args.base c.args.n _ (omega arith) c.requires (c.fill.ensures.after (λ y e. e))

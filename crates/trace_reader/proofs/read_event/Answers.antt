-- The objects are at most 8, and the activity is known. Assumes nothing.
use mathlib.Core.Path.{◌∙◌}
use native.Mathlib.Omega.{arith}
use Rattle.trace_reader.proofs.ReadLaws.{objects_few}
use Rattle.trace_reader.proofs.read_event.Goals as goal

pub refuse_objects-requires : goal.refuse_objects-requires
refuse_objects-requires c = record { bounded = (objects_few _ _ _ c.requires.ready _ (c.wide.ensures ∙ c.word_at.ensures), omega (arith, c.requires.ready.act)) }

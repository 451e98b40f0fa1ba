-- The invariant: what is still to be written, over the bytes as they are now, is all the fields over the bytes at entry.
-- Assumes nothing.
use Prim.Native.Nat.{◌+◌}
use mathlib.Core.Path.{◌≡◌}
use lib.ListN.{length, drop}
use Rattle.words.specs.Lists.{over}
use Rattle.lines.specs.Lines.{fields_text}
use Rattle.words.proofs.Over.{over_at}
use Rattle.lines.proofs.put_fields.Given as goal

abbrev pub invariant-loop-f : goal.invariant-loop-f
invariant-loop-f l = record {
  room : l.at + length (fields_text (drop l.f-index l.fs)) ≡ length (fields_text l.fs);
  whole : over_at l.at (fields_text (drop l.f-index l.fs)) l.out ≡ over (fields_text l.fs) l.initial.out;
}

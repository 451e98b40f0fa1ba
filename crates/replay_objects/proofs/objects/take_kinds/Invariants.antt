-- What is left to find after i objects: 25, else 26, else what was found before. Assumes nothing.
use Prim.Native.Nat.{◌≤◌}
use mathlib.Core.Path.{◌≡◌}
use lib.ListN.{drop}
use lib.Seq.{sets}
use Rattle.words.specs.Words.{words_of}
use Rattle.net.specs.Held.{net_in}
use Rattle.replay.specs.Register.{kinds_in}
use Rattle.replay.specs.Plain.{object_kinds}
use Rattle.replay_objects.proofs.ObjectLaws.{kinds_left}
use Rattle.replay_objects.proofs.objects.take_kinds.Given as goal

abbrev pub invariant-loop-i : goal.invariant-loop-i
invariant-loop-i l =
    (kinds_left (net_in l.register.net.words.now) (kinds_in (net_in l.register.net.words.now) l.register.bytes.now) l.act (drop l.i (words_of l.objs)) l.foreign ≡ kinds_left (net_in l.register.net.words.now) (kinds_in (net_in l.register.net.words.now) l.register.bytes.now) l.act (words_of l.objs) 0)
    × (l.foreign ≤ l.i)
    × (sets l.kinds l.i (object_kinds (kinds_in (net_in l.register.net.words.now) l.register.bytes.now) (drop l.i (words_of l.objs))) ≡ sets l.initial.kinds 0 (object_kinds (kinds_in (net_in l.register.net.words.now) l.register.bytes.now) (words_of l.objs)))

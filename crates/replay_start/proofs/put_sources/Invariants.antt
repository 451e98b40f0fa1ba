-- What is left to store after o objects. Assumes nothing.
use mathlib.Core.Path.{◌≡◌}
use lib.ListN.{length, drop}
use lib.Seq.{sets}
use Rattle.words.specs.Words.{words_of}
use mathlib.Core.List.{map}
use Rattle.net.specs.Held.{net_in}
use Rattle.replay.specs.Register.{kinds_in}
use Rattle.replay_layout.specs.Offsets.{place_at}
use Rattle.replay_start.proofs.put_sources.Given as goal

abbrev pub invariant-loop-o : goal.invariant-loop-o
invariant-loop-o l = (length l.out ≡ length l.initial.out) × (sets (words_of l.out) (place_at l.lay l.o) (drop l.o (map (net_in l.register.net.words.now).source (kinds_in (net_in l.register.net.words.now) l.register.bytes.now))) ≡ sets (words_of l.initial.out) l.lay.positions (map (net_in l.register.net.words.now).source (kinds_in (net_in l.register.net.words.now) l.register.bytes.now)))

-- What is left to search after o objects. Assumes nothing.
use Prim.Native.Nat.{ℕ}
use mathlib.Core.Path.{◌≡◌}
use lib.Dec.{leb}
use lib.ListN.{drop}
use Rattle.words.specs.Lists.{any}
use Rattle.net.specs.Held.{net_in}
use Rattle.replay.specs.Register.{kinds_in}
use Rattle.replay_objects.proofs.register.unknown_kind.Given as goal

abbrev pub invariant-loop-o : goal.invariant-loop-o
invariant-loop-o l = any (λ (k : ℕ). leb (net_in l.net.words.now).kinds k) (drop l.o (kinds_in (net_in l.net.words.now) l.register)) ≡ any (λ (k : ℕ). leb (net_in l.net.words.now).kinds k) (kinds_in (net_in l.net.words.now) l.register)

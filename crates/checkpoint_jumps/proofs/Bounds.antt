-- How much a loaded net has, and where its arcs and sinks lead. Assumes nothing.
use Prim.Native.Nat.{ℕ, ◌≤◌, ◌<◌}
use mathlib.Core.Bool.{true}
use mathlib.Core.Path.{◌≡◌}
use mathlib.Core.List.{List}
use lib.ListN.{length, get_or}
use Rattle.words.proofs.Lists.{All-at}
use Rattle.net.specs.Net.{Net, takes, input_of}
use Rattle.net.specs.Held.{net_in, Held}
use Rattle.net.proofs.HeldLaws.{held-loaded, arc-in}
use Rattle.replay.specs.Plain.{register_code}
use Rattle.replay.proofs.Accepted.{registered}

module _ (w : List ℕ) (H : Held w) where
  pub few_places : (net_in w).places ≤ 64
  few_places = (held-loaded w H).places-le

  pub few_acts : (net_in w).acts ≤ 64
  few_acts = (held-loaded w H).acts-le

  pub few_kinds : (net_in w).kinds ≤ 8
  few_kinds = (held-loaded w H).kinds-le

  pub input_place : (a k : ℕ) → a < (net_in w).acts → takes (net_in w) a k ≡ true → input_of (net_in w) a k < (net_in w).places
  input_place a k h e = (arc-in w H a k h e).inp

  pub sink_place : (k : ℕ) → k < (net_in w).kinds → (net_in w).sink k < (net_in w).places
  sink_place = (held-loaded w H).sink-in

-- the kind of an object, and how many objects there are
module _ (N : Net) (ks : List ℕ) (z : register_code N ks ≡ 0) where
  pub known_kind : (o : ℕ) → o < length ks → get_or ks o 0 < N.kinds
  known_kind = All-at (λ (k : ℕ). k < N.kinds) 0 ks (registered N ks z).kinds

  pub few_objects : length ks ≤ 1024
  few_objects = (registered N ks z).few

pub ruleset few = (few_places, few_acts, few_kinds)

pub ruleset arcs = (few_places, input_place)

pub ruleset sinks = (few_places, sink_place, known_kind, few_objects)

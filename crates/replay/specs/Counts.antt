-- The counts of document 01, each a count over a plain run's history. The paper's word stands in front.
use Rattle.std.specs.Prelude.{ℕ, ◌*◌, List, length, eqb}
use Rattle.words.specs.Lists.{keep, one, total, count}
use Rattle.net.specs.Net.{Net}
use Rattle.replay.specs.Plain.{Event, Hop, jumped, Plain, event_hops, close_hops, history}

module _ (N : Net) where
  -- the jumps among all hops
  abbrev pub leaps : Plain → List Hop
  leaps p = keep jumped (history N p)

  -- transfers: the objects taken, by events and at the close
  abbrev pub transfers : Plain → ℕ
  transfers p = length (history N p)

  -- jumps, over the whole run
  abbrev pub all_jumps : Plain → ℕ
  all_jumps p = length (leaps p)

  -- TAKEN of a place: the objects taken from it
  abbrev pub consumed : Plain → ℕ → ℕ
  consumed p q = count (λ (h : Hop). eqb q h.to) (history N p)

  -- IN of a place: the jumps into it
  abbrev pub jumps_in : Plain → ℕ → ℕ
  jumps_in p q = count (λ (h : Hop). eqb q h.to) (leaps p)

  -- OUT of a place: the jumps out of it
  abbrev pub jumps_out : Plain → ℕ → ℕ
  jumps_out p q = count (λ (h : Hop). eqb q h.from) (leaps p)

  -- the jump count of an ordered pair of places
  abbrev pub pair_jumps : Plain → ℕ → ℕ → ℕ
  pair_jumps p x y = total (λ (h : Hop). one (eqb x h.from) * one (eqb y h.to)) (leaps p)

  -- FIRED of an activity: its accepted events
  abbrev pub fired : Plain → ℕ → ℕ
  fired p a = count (λ (e : Event). eqb a e.act) p.events

  -- MOVED of an activity: FIRED times its arcs
  abbrev pub moved : Plain → ℕ → ℕ
  moved p a = fired p a * length (N.arcs a)

  -- JUMPS of an activity: the jumps in its events
  abbrev pub jumps : Plain → ℕ → ℕ
  jumps p a = count (λ (h : Hop). eqb a h.act) (keep jumped (event_hops N p))

  -- closing jumps
  abbrev pub closing_jumps : Plain → ℕ
  closing_jumps p = length (keep jumped (close_hops N p))

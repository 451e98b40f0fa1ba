-- What is claimed of the replay, beside the contracts: its stored counts (demand 2), what an event and a close do at once, that
-- the order of an event's objects is free, and that no count of jumps exceeds what it is a part of. They are proved in
-- `proofs/Theorems.antt`, `Order.antt` and `Within.antt`.
use Rattle.std.specs.Prelude.{ℕ, ◌+◌, ◌-◌, ◌≤◌, ◌<◌, false, ◌≡◌, List, ◌∷◌, map, length, get_or}
use Rattle.words.specs.Lists.{All, has}
use Rattle.net.specs.Net.{Net}
use Rattle.replay.specs.Plain.{Event, Leg, Hop, Plain, hops, walked, closers, legs, endings, positions, ask_event}
use Rattle.replay.specs.Counts.{transfers, all_jumps, consumed, jumps_in, jumps_out, pair_jumps, fired, moved, jumps, closing_jumps}
use Rattle.replay.specs.Permitted.{Leaves}
use Rattle.replay.specs.State.{State, answer_s, ask_s, stored_consumed, stored_pair, stored_jumps_in, stored_jumps_out, stored_moved, stored_jumps, stored_transfers}
use Rattle.replay.specs.Calls.{ask_code, ask_bytes}

-- every place and count that the state d stores or gives is that of the plain run p
pub record Agrees (N : Net) (d : State) (p : Plain) : Type 0 where
  pub kinds-are : d.kinds ≡ p.kinds
  pub places-are : d.places ≡ positions N p
  pub closed_is : d.closed ≡ p.closed
  pub events-are : d.events ≡ length p.events
  pub closing-are : d.closing ≡ closing_jumps N p
  pub all-jumps-are : stored_jumps N d ≡ all_jumps N p
  pub transfers-are : stored_transfers N d ≡ transfers N p
  pub consumed-is : (q : ℕ) → q < N.places → stored_consumed N d q ≡ consumed N p q
  pub jumps-in-are : (q : ℕ) → q < N.places → stored_jumps_in N d q ≡ jumps_in N p q
  pub jumps-out-are : (q : ℕ) → q < N.places → stored_jumps_out N d q ≡ jumps_out N p q
  pub pair-jumps-are : (x y : ℕ) → x < N.places → y < N.places → stored_pair N d x y ≡ pair_jumps N p x y
  pub fired-is : (a : ℕ) → a < N.acts → get_or d.fired a 0 ≡ fired N p a
  pub moved-is : (a : ℕ) → a < N.acts → stored_moved N d a ≡ moved N p a
  pub jumps-are : (a : ℕ) → a < N.acts → get_or d.jumps a 0 ≡ jumps N p a

-- the hop of a leg whose object is judged by the places `ps`
abbrev pub judged : List ℕ → Leg → Hop
judged ps l = record { act = l.act; from = get_or ps l.obj 0; to = l.inp }

-- an event on the places `ps` (001, Algorithm 1: all jumps, then the move): each object is judged by the places at the
-- event's entry, and is left on the activity's output place, jumped or not; no other object moves
pub record EventAtOnce (N : Net) (ks ps : List ℕ) (e : Event) : Type 0 where
  pub at_entry : hops ps (legs N ks e) ≡ map (judged ps) (legs N ks e)
  pub leaves : Leaves N ks ps e (walked ps (legs N ks e))

-- a close: each object that it takes is judged by the places at the close's entry, and is left on its kind's sink; no other
-- object moves
pub record CloseAtOnce (N : Net) (ks ps : List ℕ) : Type 0 where
  pub at_entry : hops ps (endings N ks) ≡ map (judged ps) (endings N ks)
  pub size : length (walked ps (endings N ks)) ≡ length ps
  pub own : All (λ (o : ℕ). get_or (walked ps (endings N ks)) o 0 ≡ N.sink (get_or ks o 0)) (closers ks)
  pub others : (o : ℕ) → has o (closers ks) ≡ false → get_or (walked ps (endings N ks)) o 0 ≡ get_or ps o 0

-- the second list has the elements of the first in another order, or the same
pub data Permuted {A : Type 0} : List A → List A → Type 0 where
  same : {xs : List A} → Permuted xs xs
  swap : {x y : A} {xs : List A} → Permuted (x ∷ y ∷ xs) (y ∷ x ∷ xs)
  cons : {x : A} {xs ys : List A} → Permuted xs ys → Permuted (x ∷ xs) (x ∷ ys)
  then : {xs ys zs : List A} → Permuted xs ys → Permuted ys zs → Permuted xs zs

-- The event of activity a is the same with the objects `os` as with `qs`, accepted or refused: to every state, in the answer
-- and in the state after it, and to every trail, whatever its bytes, in the answer's number and in the bytes after it.
pub record SameEvent (a : ℕ) (os qs : List ℕ) : Type 0 where
  pub answer : (N : Net) (d : State) → answer_s N d (ask_event a os) ≡ answer_s N d (ask_event a qs)
  pub state : (N : Net) (d : State) → ask_s N d (ask_event a os) ≡ ask_s N d (ask_event a qs)
  pub code : (b : List ℕ) → ask_code b (ask_event a os) ≡ ask_code b (ask_event a qs)
  pub bytes : (b : List ℕ) → ask_bytes b (ask_event a os) ≡ ask_bytes b (ask_event a qs)

-- the jumps are a part of the transfers, so that 1 - jumps/transfers (FIT) is a difference that is not cut off at 0
pub record PartOf (jumps transfers : ℕ) : Type 0 where
  pub at_most : jumps ≤ transfers
  pub uncut : (transfers - jumps) + jumps ≡ transfers

-- so over the whole trail, for each place (IN of TAKEN) and for each activity (JUMPS of MOVED)
pub record JumpsWithin (N : Net) (d : State) : Type 0 where
  pub of-trail : PartOf (stored_jumps N d) (stored_transfers N d)
  pub of-place : (q : ℕ) → q < N.places → PartOf (stored_jumps_in N d q) (stored_consumed N d q)
  pub of-act : (a : ℕ) → a < N.acts → PartOf (get_or d.jumps a 0) (stored_moved N d a)

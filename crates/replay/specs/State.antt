-- What a replay stores, and its step. That the stored counts are the plain run's is proved, not said here.
use Rattle.std.specs.Prelude.{ℕ, suc, ◌+◌, ◌*◌, List, [], ◌∷◌, map, length, get_or, set, drop, replicate, eqb}
use Rattle.words.specs.Lists.{pick, keep, one, total, sum_to}
use Rattle.words.specs.Refusals.{first}
use Rattle.net.specs.Net.{Net, Arc}
use Rattle.replay.specs.Plain.{Event, Ask, event, close, Plain, Leg, Hop, jumped, hops, walked, closers, closer_kinds, legs, endings, begins, refusal, close_tests, event_hops, close_hops, history, positions}

-- one more at index i
abbrev pub bump : List ℕ → ℕ → List ℕ
bump l i = set l i (suc (get_or l i 0))

-- one more at each of the indices, as often as it stands there
abbrev pub tally : List ℕ → List ℕ → List ℕ
tally l [] = l
tally l (c ∷ cs) = tally (bump l c) cs

-- the trail: kind and place of each object, closed (1 or 0), accepted events, closing jumps, FIRED and JUMPS of each
-- activity, the jump count of each pair of places, row by row
pub record State : Type 0 where
  pub kinds : List ℕ
  pub places : List ℕ
  pub closed : ℕ
  pub events : ℕ
  pub closing : ℕ
  pub fired : List ℕ
  pub jumps : List ℕ
  pub pairs : List ℕ

-- The state d with one part changed. A state is written out part by part in this file alone: here, at a start, from a plain
-- run, and from a record's numbers.
abbrev pub with_places : State → List ℕ → State
with_places d x = record { kinds = d.kinds; places = x; closed = d.closed; events = d.events; closing = d.closing; fired = d.fired; jumps = d.jumps; pairs = d.pairs }

abbrev pub with_closed : State → ℕ → State
with_closed d x = record { kinds = d.kinds; places = d.places; closed = x; events = d.events; closing = d.closing; fired = d.fired; jumps = d.jumps; pairs = d.pairs }

abbrev pub with_events : State → ℕ → State
with_events d x = record { kinds = d.kinds; places = d.places; closed = d.closed; events = x; closing = d.closing; fired = d.fired; jumps = d.jumps; pairs = d.pairs }

abbrev pub with_closing : State → ℕ → State
with_closing d x = record { kinds = d.kinds; places = d.places; closed = d.closed; events = d.events; closing = x; fired = d.fired; jumps = d.jumps; pairs = d.pairs }

abbrev pub with_fired : State → List ℕ → State
with_fired d x = record { kinds = d.kinds; places = d.places; closed = d.closed; events = d.events; closing = d.closing; fired = x; jumps = d.jumps; pairs = d.pairs }

abbrev pub with_jumps : State → List ℕ → State
with_jumps d x = record { kinds = d.kinds; places = d.places; closed = d.closed; events = d.events; closing = d.closing; fired = d.fired; jumps = x; pairs = d.pairs }

abbrev pub with_pairs : State → List ℕ → State
with_pairs d x = record { kinds = d.kinds; places = d.places; closed = d.closed; events = d.events; closing = d.closing; fired = d.fired; jumps = d.jumps; pairs = x }

-- the numbers with even and with odd index
abbrev pub evens : List ℕ → List ℕ
evens [] = []
evens (x ∷ []) = x ∷ []
evens (x ∷ y ∷ r) = x ∷ evens r

abbrev pub odds : List ℕ → List ℕ
odds [] = []
odds (x ∷ []) = []
odds (x ∷ y ∷ r) = y ∷ odds r

-- a state by the numbers of a record's four bodies behind the table: register, positions, counts, jumps
abbrev pub state_from : List ℕ → List ℕ → List ℕ → List ℕ → State
state_from ks ps cs js = record {
  kinds = ks;
  places = ps;
  closed = get_or cs 0 0;
  events = get_or cs 1 0;
  closing = get_or cs 2 0;
  fired = evens (drop 3 cs);
  jumps = odds (drop 3 cs);
  pairs = js;
}

-- the jumps of legs that are walked from the state d on
abbrev pub leaps_of : State → List Leg → List Hop
leaps_of d ls = keep jumped (hops d.places ls)

-- jumps counted beside their pairs: an event's at its activity, the close's as closing jumps
abbrev pub act_jumps : State → List Hop → State
act_jumps d hs = with_jumps d (tally d.jumps (map (λ (h : Hop). h.act) hs))

abbrev pub close_jumps : State → List Hop → State
close_jumps d hs = with_closing d (d.closing + length hs)

module _ (N : Net) where
  -- the index of an ordered pair of places, and of a hop's
  abbrev pub pair_index : ℕ → ℕ → ℕ
  pair_index x y = x * N.places + y

  abbrev pub hop_index : Hop → ℕ
  hop_index h = pair_index h.from h.to

  -- the step of an event and of the close, over their legs: the places are walked, and the jumps are counted at their pairs,
  -- and by `own`
  abbrev pub after_legs : (State → List Hop → State) → State → List Leg → State
  after_legs own d ls = own (with_pairs (with_places d (walked d.places ls)) (tally d.pairs (map hop_index (leaps_of d ls)))) (leaps_of d ls)

  -- an accepted event: its legs, and it is counted itself
  abbrev pub after_event : State → Event → State
  after_event d e = with_fired (with_events (after_legs act_jumps d (legs N d.kinds e)) (suc d.events)) (bump d.fired e.act)

  -- an accepted close: its legs, with their jumps counted from 0 on, and the trail is closed
  abbrev pub after_close : State → State
  after_close d = with_closed (after_legs close_jumps (with_closing d 0) (endings N d.kinds)) 1

  -- a started replay
  abbrev pub start_state : List ℕ → State
  start_state ks = record {
    kinds = ks;
    places = begins N ks;
    closed = 0;
    events = 0;
    closing = 0;
    fired = replicate N.acts 0;
    jumps = replicate N.acts 0;
    pairs = replicate (N.places * N.places) 0;
  }

  -- answer and step, as of the plain run
  abbrev pub answer_s : State → Ask → ℕ
  answer_s d (event e) = refusal N d.kinds d.closed d.events e
  answer_s d close = first (close_tests d.closed)

  abbrev pub accept_s : State → Ask → State
  accept_s d (event e) = after_event d e
  accept_s d close = after_close d

  abbrev pub ask_s : State → Ask → State
  ask_s d q = pick (eqb (answer_s d q) 0) (accept_s d q) d

  abbrev pub run_s : State → List Ask → State
  run_s d [] = d
  run_s d (q ∷ qs) = run_s (ask_s d q) qs

  abbrev pub answers_s : State → List Ask → List ℕ
  answers_s d [] = []
  answers_s d (q ∷ qs) = answer_s d q ∷ answers_s (ask_s d q) qs

  -- what a replay stores of a plain run
  abbrev pub state_of : Plain → State
  state_of p = record {
    kinds = p.kinds;
    places = positions N p;
    closed = p.closed;
    events = length p.events;
    closing = length (keep jumped (close_hops N p));
    fired = tally (replicate N.acts 0) (map (λ (e : Event). e.act) p.events);
    jumps = tally (replicate N.acts 0) (map (λ (h : Hop). h.act) (keep jumped (event_hops N p)));
    pairs = tally (replicate (N.places * N.places) 0) (map hop_index (keep jumped (history N p)));
  }

  -- how many arcs of activity a have the input place q
  abbrev pub inputs : ℕ → ℕ → ℕ
  inputs q a = total (λ (x : Arc). one (eqb q x.0)) (N.arcs a)

  -- how many objects of these kinds have the sink q
  abbrev pub sunk_on : List ℕ → ℕ → ℕ
  sunk_on ks q = total (λ (k : ℕ). one (eqb q (N.sink k))) ks

  -- The counts that are worked out from the stored ones. TAKEN of a place:
  abbrev pub stored_consumed : State → ℕ → ℕ
  stored_consumed d q = sum_to N.acts (λ (a : ℕ). get_or d.fired a 0 * inputs q a) + d.closed * sunk_on (closer_kinds d.kinds) q

  -- the jump count of a pair
  abbrev pub stored_pair : State → ℕ → ℕ → ℕ
  stored_pair d x y = get_or d.pairs (pair_index x y) 0

  -- IN and OUT of a place
  abbrev pub stored_jumps_in : State → ℕ → ℕ
  stored_jumps_in d q = sum_to N.places (λ (x : ℕ). stored_pair d x q)

  abbrev pub stored_jumps_out : State → ℕ → ℕ
  stored_jumps_out d q = sum_to N.places (λ (y : ℕ). stored_pair d q y)

  -- MOVED of an activity
  abbrev pub stored_moved : State → ℕ → ℕ
  stored_moved d a = get_or d.fired a 0 * length (N.arcs a)

  -- jumps and transfers over the whole trail
  abbrev pub stored_jumps : State → ℕ
  stored_jumps d = sum_to N.acts (λ (a : ℕ). get_or d.jumps a 0) + d.closing

  abbrev pub stored_transfers : State → ℕ
  stored_transfers d = sum_to N.acts (λ (a : ℕ). stored_moved d a) + d.closed * length (closers d.kinds)

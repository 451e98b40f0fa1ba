-- The plain run (document 01 "Replaying"; 001, Algorithm 1): the kinds of the objects, the accepted events in order, and
-- whether it is closed. Nothing else is kept: all that a run shows is computed from these.
use Rattle.std.specs.Prelude.{ℕ, Bool, not, List, [], ◌∷◌, ◌++◌, map, length, get_or, set, ltb, leb, eqb}
use Rattle.words.specs.Lists.{pick, any, twice, upto}
use Rattle.words.specs.Refusals.{first}
use Rattle.net.specs.Net.{Net, takes, input_of, output_of}

-- an event: its activity and its objects
pub record Event : Type 0 where
  pub act : ℕ
  pub objs : List ℕ

abbrev pub event_of : ℕ → List ℕ → Event
event_of a os = record { act = a; objs = os }

-- What one object has to do: it is sought on place `inp` and left on place `out`. `act` is the activity; the number of
-- activities, which is none of them, where the object is taken at the close.
pub record Leg : Type 0 where
  pub act : ℕ
  pub obj : ℕ
  pub inp : ℕ
  pub out : ℕ

-- What came of it, a transfer: the object stood on `from` and was taken from `to`.
pub record Hop : Type 0 where
  pub act : ℕ
  pub from : ℕ
  pub to : ℕ

-- the object was not where it was sought: it jumped
abbrev pub jumped : Hop → Bool
jumped h = not (eqb h.from h.to)

-- 001, Algorithm 1, leg by leg from the places `ps` on: the hops, and the places after them
abbrev pub hops : List ℕ → List Leg → List Hop
hops ps [] = []
hops ps (l ∷ ls) = record { act = l.act; from = get_or ps l.obj 0; to = l.inp } ∷ hops (set ps l.obj l.out) ls

abbrev pub walked : List ℕ → List Leg → List ℕ
walked ps [] = ps
walked ps (l ∷ ls) = walked (set ps l.obj l.out) ls

-- the kinds of some objects
abbrev pub object_kinds : List ℕ → List ℕ → List ℕ
object_kinds ks os = map (λ (o : ℕ). get_or ks o 0) os

-- who is taken at the close, by the register: every object; and their kinds
abbrev pub closers : List ℕ → List ℕ
closers ks = upto (length ks) 0

abbrev pub closer_kinds : List ℕ → List ℕ
closer_kinds ks = object_kinds ks (closers ks)

-- a net, and the kind of each object (the register)
module _ (N : Net) (ks : List ℕ) where
  -- an event's legs, object by object
  abbrev pub leg : ℕ → ℕ → Leg
  leg a o = record { act = a; obj = o; inp = input_of N a (get_or ks o 0); out = output_of N a (get_or ks o 0) }

  abbrev pub legs : Event → List Leg
  legs e = map (leg e.act) e.objs

  -- the close's legs: each object that is taken is taken from its sink, and stays there
  abbrev pub ending : ℕ → Leg
  ending o = record { act = N.acts; obj = o; inp = N.sink (get_or ks o 0); out = N.sink (get_or ks o 0) }

  abbrev pub endings : List Leg
  endings = map ending (closers ks)

  -- where the objects stand at the start
  abbrev pub begins : List ℕ
  begins = map N.source ks

  -- the events' hops from the places `ps` on, and the places after them
  abbrev pub course : List ℕ → List Event → List Hop
  course ps [] = []
  course ps (e ∷ es) = hops ps (legs e) ++ course (walked ps (legs e)) es

  abbrev pub after : List ℕ → List Event → List ℕ
  after ps [] = ps
  after ps (e ∷ es) = after (walked ps (legs e)) es

-- The refusals of an event, group by group. 21 and 22: by the closed flag and the number of accepted events
abbrev pub trail_tests : ℕ → ℕ → List (Bool × ℕ)
trail_tests closed events = (not (eqb closed 0), 21) ∷ (leb 1000000 events, 22) ∷ []

-- 23 and 24: by the activity and the number of objects
abbrev pub activity_tests : Net → ℕ → ℕ → List (Bool × ℕ)
activity_tests N a n = (leb N.acts a, 23) ∷ (not (eqb n (length (N.arcs a))), 24) ∷ []

-- 25 and 26, each for any of the objects: by the register `ks`, the activity and the objects
abbrev pub known_tests : Net → List ℕ → ℕ → List ℕ → List (Bool × ℕ)
known_tests N ks a os = (any (λ (o : ℕ). leb (length ks) o) os, 25) ∷ (any (λ (k : ℕ). not (takes N a k)) (object_kinds ks os), 26) ∷ []

-- 27: by the register and the objects
abbrev pub same_kind_tests : List ℕ → List ℕ → List (Bool × ℕ)
same_kind_tests ks os = (twice (object_kinds ks os), 27) ∷ []

-- 25 to 27
abbrev pub object_tests : Net → List ℕ → ℕ → List ℕ → List (Bool × ℕ)
object_tests N ks a os = known_tests N ks a os ++ same_kind_tests ks os

-- 21 to 27, in the paper's order
abbrev pub event_tests : Net → List ℕ → ℕ → ℕ → Event → List (Bool × ℕ)
event_tests N ks closed events e = trail_tests closed events ++ (activity_tests N e.act (length e.objs) ++ object_tests N ks e.act e.objs)

abbrev pub refusal : Net → List ℕ → ℕ → ℕ → Event → ℕ
refusal N ks closed events e = first (event_tests N ks closed events e)

-- the refusal of a close
abbrev pub close_tests : ℕ → List (Bool × ℕ)
close_tests closed = (not (eqb closed 0), 31) ∷ []

-- the refusals of a start
abbrev pub register_tests : Net → List ℕ → List (Bool × ℕ)
register_tests N ks = (eqb (length ks) 0, 11) ∷ (ltb 1024 (length ks), 11) ∷ (any (λ (k : ℕ). leb N.kinds k) ks, 12) ∷ []

abbrev pub register_code : Net → List ℕ → ℕ
register_code N ks = first (register_tests N ks)

-- a state of the plain run; `closed` is 1 once closed, else 0
pub record Plain : Type 0 where
  pub kinds : List ℕ
  pub events : List Event
  pub closed : ℕ

-- what a run is fed
pub data Ask : Type 0 where
  event : Event → Ask
  close : Ask

-- the event of an activity and its objects, put to a run or a trail
abbrev pub ask_event : ℕ → List ℕ → Ask
ask_event a os = event (event_of a os)

abbrev pub start : List ℕ → Plain
start ks = record { kinds = ks; events = []; closed = 0 }

-- the run p with one part changed: the accepted events, the closed flag
abbrev pub with_accepted : Plain → List Event → Plain
with_accepted p x = record { kinds = p.kinds; events = x; closed = p.closed }

abbrev pub with_flag : Plain → ℕ → Plain
with_flag p x = record { kinds = p.kinds; events = p.events; closed = x }

-- what an accepted event or close does
abbrev pub accept : Plain → Ask → Plain
accept p (event e) = with_accepted p (p.events ++ e ∷ [])
accept p close = with_flag p 1

module _ (N : Net) where
  -- the first refusal that applies; 0 where none does
  abbrev pub answer : Plain → Ask → ℕ
  answer p (event e) = refusal N p.kinds p.closed (length p.events) e
  answer p close = first (close_tests p.closed)

  -- a refused one changes nothing
  abbrev pub ask : Plain → Ask → Plain
  ask p q = pick (eqb (answer p q) 0) (accept p q) p

  -- the state after a list of events and closes, and the answers to them
  abbrev pub run : Plain → List Ask → Plain
  run p [] = p
  run p (q ∷ qs) = run (ask p q) qs

  abbrev pub answers : Plain → List Ask → List ℕ
  answers p [] = []
  answers p (q ∷ qs) = answer p q ∷ answers (ask p q) qs

  -- the hops of the events, and where the objects stand after them
  abbrev pub event_hops : Plain → List Hop
  event_hops p = course N p.kinds (begins N p.kinds) p.events

  abbrev pub stand : Plain → List ℕ
  stand p = after N p.kinds (begins N p.kinds) p.events

  -- the hops of the close, where there was one
  abbrev pub close_hops : Plain → List Hop
  close_hops p = pick (eqb p.closed 0) [] (hops (stand p) (endings N p.kinds))

  -- all hops, in order
  abbrev pub history : Plain → List Hop
  history p = event_hops p ++ close_hops p

  -- the place of each object
  abbrev pub positions : Plain → List ℕ
  positions p = pick (eqb p.closed 0) (stand p) (walked (stand p) (endings N p.kinds))

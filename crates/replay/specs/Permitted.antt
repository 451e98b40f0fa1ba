-- A permitted run (demand 3), said of the net alone: all objects begin at their kind's source, by moves alone each event
-- finds its objects on the activity's input places, and all that the close takes end on their sinks. It speaks of no jump; of
-- the plain run it has only what an event is and whom the close takes.
use Rattle.std.specs.Prelude.{ℕ, ◌<◌, false, ◌≡◌, List, [], ◌∷◌, length, get_or}
use Rattle.words.specs.Lists.{All, has}
use Rattle.net.specs.Net.{Net, input_of, output_of}
use Rattle.replay.specs.Plain.{Event, closers}

-- In all of these N is the net, `ks` has the kind of each object (the register) and `ps` its place.

-- where an event leaves the objects, `qs`: each of its own on the activity's output place, every other where it stood
pub record Leaves (N : Net) (ks ps : List ℕ) (e : Event) (qs : List ℕ) : Type 0 where
  pub size : length qs ≡ length ps
  pub own : All (λ (o : ℕ). get_or qs o 0 ≡ output_of N e.act (get_or ks o 0)) e.objs
  pub others : (o : ℕ) → has o e.objs ≡ false → get_or qs o 0 ≡ get_or ps o 0

-- a move (001: an activity fires): the event finds each of its objects on the activity's input place, and leaves all on `qs`
pub record Fires (N : Net) (ks ps : List ℕ) (e : Event) (qs : List ℕ) : Type 0 where
  pub found : All (λ (o : ℕ). get_or ps o 0 ≡ input_of N e.act (get_or ks o 0)) e.objs
  pub leaves : Leaves N ks ps e qs

-- a list of events that fire one after the other, up to where every object that the close takes stands on its kind's sink
pub data FiringSequence (N : Net) (ks : List ℕ) : List ℕ → List Event → Type 0 where
  ended : {ps : List ℕ} → All (λ (o : ℕ). get_or ps o 0 ≡ N.sink (get_or ks o 0)) (closers ks) → FiringSequence N ks ps []
  fired : {ps qs : List ℕ} {e : Event} {es : List Event} → Fires N ks ps e qs → FiringSequence N ks qs es → FiringSequence N ks ps (e ∷ es)

-- a permitted run that begins with the objects on `ps`, which are their kinds' sources
pub record Permitted (N : Net) (ks ps : List ℕ) (es : List Event) : Type 0 where
  pub size : length ps ≡ length ks
  pub sources : (o : ℕ) → o < length ks → get_or ps o 0 ≡ N.source (get_or ks o 0)
  pub fires : FiringSequence N ks ps es

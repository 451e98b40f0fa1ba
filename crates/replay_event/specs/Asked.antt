-- What testing an event and carrying it out may rely on.
use Rattle.std.specs.Prelude.{ℕ, ◌<◌, true, ◌≡◌, List, length}
use Rattle.words.specs.Lists.{All}
use Rattle.words.specs.Words.{words_of}
use Rattle.net.specs.Net.{takes}
use Rattle.net.specs.Held.{net_in}
use Rattle.replay.specs.Plain.{object_kinds}
use Rattle.replay.specs.Calls.{state_at}
use Rattle.replay.specs.Ready.{Ready}
use Rattle.replay_layout.specs.Offsets.{layout_of}
use Rattle.replay_event.specs.declared.Asked.{Asked}

-- the trail is one that calls can be put to, and the layout is that of its record
pub record Laid (e : Asked) (b : List ℕ) : Type 0 where
  pub ready : Ready e.net.words.now b
  pub lay : e.lay ≡ layout_of (net_in e.net.words.now) b

-- and a known activity and as many objects as it has arcs
pub record Counted (e : Asked) (b : List ℕ) : Type 0 where
  pub laid : Laid e b
  pub act-in : e.act < (net_in e.net.words.now).acts
  pub size : length (words_of e.objs.now) ≡ length ((net_in e.net.words.now).arcs e.act)

-- and the objects are in the register, and the activity takes their kinds
pub record Moving (e : Asked) (b : List ℕ) : Type 0 where
  pub counted : Counted e b
  pub known : All (λ (o : ℕ). o < length (state_at b).kinds) (words_of e.objs.now)
  pub taken : All (λ (k : ℕ). takes (net_in e.net.words.now) e.act k ≡ true) (object_kinds (state_at b).kinds (words_of e.objs.now))

-- What holds of a trail that is followed.
use Rattle.std.specs.Prelude.{ℕ, ◌≡◌, List}
use denote.Struct.Props.{props}
use Rattle.net.specs.Held.{net_in}
use Rattle.replay.specs.Calls.{state_at}
use Rattle.replay.specs.Ready.{Ready}
use Rattle.replay.specs.Register.{kinds_in}
use Rattle.replay.proofs.ReadyOnce.{Ready-prop}

-- an open trail of the register, with so many events accepted
pub record Follows (t rec register : List ℕ) (accepted : ℕ) : Type 0 where
  pub ready : Ready t rec
  pub kinds : (state_at rec).kinds ≡ kinds_in (net_in t) register
  pub still_open : (state_at rec).closed ≡ 0
  pub events : (state_at rec).events ≡ accepted

-- it is one in one way alone, so that a ghost field can hold it
pub Follows-prop : (t rec register : List ℕ) (accepted : ℕ) → IsProp (Follows t rec register accepted)
Follows-prop t rec register accepted = hlevel (Ready-prop, props)

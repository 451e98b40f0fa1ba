-- The states that none of 44 to 47 refuses, also those that no trail could have written.
use Rattle.std.specs.Prelude.{ℕ, ◌*◌, ◌≤◌, ◌<◌, ◌⊎◌, ◌≡◌, List, length, get_or}
use Rattle.words.specs.Lists.{All, sum_to}
use Rattle.net.specs.Net.{Net}
use Rattle.replay.specs.Plain.{closers}
use Rattle.replay.specs.State.{State, stored_consumed, stored_pair, stored_jumps_in, stored_moved, stored_jumps}

-- each object stands on one place, of its own kind
pub record OnKind (N : Net) (ks ps : List ℕ) : Type 0 where
  pub size : length ps ≡ length ks
  pub at : (o : ℕ) → o < length ks → (get_or ps o 0 < N.places) × (N.kind_of (get_or ps o 0) ≡ get_or ks o 0)

pub record Sound (N : Net) (d : State) : Type 0 where
  -- not 44
  pub some : 0 < length d.kinds
  pub few : length d.kinds ≤ 1024
  pub kinds : All (λ (k : ℕ). k < N.kinds) d.kinds
  -- not 45
  pub on : OnKind N d.kinds d.places
  pub sunk : d.closed ≡ 1 → All (λ (o : ℕ). get_or d.places o 0 ≡ N.sink (get_or d.kinds o 0)) (closers d.kinds)
  -- not 46
  pub fired-size : length d.fired ≡ N.acts
  pub jumps-size : length d.jumps ≡ N.acts
  pub flag : d.closed ≤ 1
  pub events : d.events ≤ 1000000
  pub fired-sum : sum_to N.acts (λ (a : ℕ). get_or d.fired a 0) ≡ d.events
  pub jumps-le : (a : ℕ) → a < N.acts → get_or d.jumps a 0 ≤ stored_moved N d a
  pub closing-le : d.closing ≤ length (closers d.kinds)
  pub closing-open : d.closed ≡ 0 → d.closing ≡ 0
  -- not 47
  pub pairs-size : length d.pairs ≡ N.places * N.places
  pub pair-none : (x y : ℕ) → x < N.places → y < N.places → (x ≡ y) ⊎ (N.kind_of x ≡ N.kind_of y → ⊥) → stored_pair N d x y ≡ 0
  pub pair-sum : sum_to (N.places * N.places) (λ (i : ℕ). get_or d.pairs i 0) ≡ stored_jumps N d
  pub in-le : (q : ℕ) → q < N.places → stored_jumps_in N d q ≤ stored_consumed N d q

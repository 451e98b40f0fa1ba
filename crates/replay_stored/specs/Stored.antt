-- Where the numbers of a trail's record stand, by its layout, and how large each can be.
use Rattle.std.specs.Prelude.{◌≡◌, ℕ, ◌≤◌, ◌<◌, List, length, get_or}
use Rattle.words.specs.Words.{words_of}
use Rattle.net.specs.Held.{net_in}
use Rattle.replay.specs.Limits.{max_words}
use Rattle.replay.specs.State.{stored_pair}
use Rattle.replay.specs.Calls.{state_at}
use Rattle.replay_layout.specs.declared.Layout.{Layout}
use Rattle.replay_layout.specs.Offsets.{kind_at, closed_at, events_at, closing_at, fired_at, jumps_at, pair_at}

-- number i of the bytes is there, and is x
pub record At (b : List ℕ) (i x : ℕ) : Type 0 where
  pub there : i < length (words_of b)
  pub small : i ≤ max_words
  pub is : get_or (words_of b) i 0 ≡ x

-- number i of the bytes is there, is x, and is at most m
pub record AtMost (b : List ℕ) (i x m : ℕ) : Type 0 where
  pub at : At b i x
  pub few : x ≤ m

-- each stored number stands where the layout says
pub record Stored (w b : List ℕ) (l : Layout) : Type 0 where
  pub closed : AtMost b (closed_at l) (state_at b).closed 1
  pub events : At b (events_at l) (state_at b).events
  pub closing : AtMost b (closing_at l) (state_at b).closing 1024
  pub objects : l.objects ≡ length (state_at b).kinds
  pub objects_few : length (state_at b).kinds ≤ 1024
  pub kind : (o : ℕ) → o < length (state_at b).kinds → At b (kind_at (net_in w) l o) (get_or (state_at b).kinds o 0)
  pub kind_known : (o : ℕ) → o < length (state_at b).kinds → get_or (state_at b).kinds o 0 < (net_in w).kinds
  pub fired : (a : ℕ) → a < (net_in w).acts → AtMost b (fired_at l a) (get_or (state_at b).fired a 0) 1000000
  pub jumps : (a : ℕ) → a < (net_in w).acts → AtMost b (jumps_at l a) (get_or (state_at b).jumps a 0) 8000000
  pub pair : (x y : ℕ) → x < (net_in w).places → y < (net_in w).places → AtMost b (pair_at l x y) (stored_pair (net_in w) (state_at b) x y) 8001024

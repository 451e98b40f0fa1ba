-- Reading counts from a trail's bytes: what each reader gives, and the paper's number and values for each of its cases.
use Rattle.std.specs.Prelude.{ℕ, Bool, List, [], ◌∷◌, Option, None, Some, length, get_or, leb}
use Rattle.words.specs.Lists.{pick}
use Rattle.words.specs.Refusals.{first}
use Rattle.replay.specs.State.{stored_consumed, stored_pair, stored_jumps_in, stored_jumps_out, stored_moved, stored_jumps, stored_transfers}
use Rattle.replay.specs.Calls.{net_at, state_at}
use Rattle.replay_counts.specs.declared.PlaceCounts.{PlaceCounts}
use Rattle.replay_counts.specs.declared.ActCounts.{ActCounts}
use Rattle.replay_counts.specs.declared.TrailCounts.{TrailCounts}

-- 51: an unknown place. 52: an unknown activity.
abbrev pub place_tests : List ℕ → ℕ → List (Bool × ℕ)
place_tests b q = (leb (net_at b).places q, 51) ∷ []

abbrev pub act_tests : List ℕ → ℕ → List (Bool × ℕ)
act_tests b a = (leb (net_at b).acts a, 52) ∷ []

abbrev pub pair_tests : List ℕ → ℕ → ℕ → List (Bool × ℕ)
pair_tests b x y = (leb (net_at b).places x, 51) ∷ (leb (net_at b).places y, 51) ∷ []

unfoldable pub place_code : List ℕ → ℕ → ℕ
place_code b q = first (place_tests b q)

unfoldable pub act_code : List ℕ → ℕ → ℕ
act_code b a = first (act_tests b a)

unfoldable pub pair_code : List ℕ → ℕ → ℕ → ℕ
pair_code b x y = first (pair_tests b x y)

-- the number of each answer, 0 where there are counts
abbrev pub place_read_code : Option PlaceCounts → ℕ
place_read_code None = 51
place_read_code (Some v) = 0

abbrev pub act_read_code : Option ActCounts → ℕ
act_read_code None = 52
act_read_code (Some v) = 0

abbrev pub pair_read_code : Option ℕ → ℕ
pair_read_code None = 51
pair_read_code (Some v) = 0

-- a place: TAKEN, IN, OUT
unfoldable pub place_read : List ℕ → ℕ → Option PlaceCounts
place_read b q = pick (leb (net_at b).places q) None (Some (record {
  consumed = stored_consumed (net_at b) (state_at b) q;
  jumps_in = stored_jumps_in (net_at b) (state_at b) q;
  jumps_out = stored_jumps_out (net_at b) (state_at b) q;
}))

-- an activity: FIRED, MOVED, JUMPS
unfoldable pub act_read : List ℕ → ℕ → Option ActCounts
act_read b a = pick (leb (net_at b).acts a) None (Some (record {
  fired = get_or (state_at b).fired a 0;
  moved = stored_moved (net_at b) (state_at b) a;
  jumps = get_or (state_at b).jumps a 0;
}))

-- an ordered pair of places
unfoldable pub pair_read : List ℕ → ℕ → ℕ → Option ℕ
pair_read b x y = pick (leb (net_at b).places x) None (pick (leb (net_at b).places y) None (Some (stored_pair (net_at b) (state_at b) x y)))

-- the whole trail
unfoldable pub trail_read : List ℕ → TrailCounts
trail_read b = record {
  objects = length (state_at b).kinds;
  events = (state_at b).events;
  jumps = stored_jumps (net_at b) (state_at b);
  transfers = stored_transfers (net_at b) (state_at b);
}

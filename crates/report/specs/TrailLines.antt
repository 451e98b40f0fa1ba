-- The lines of a trail, by the net and the state that its bytes hold.
use Rattle.std.specs.Prelude.{ℕ, List, length, get_or}
use Rattle.replay.specs.State.{stored_consumed, stored_pair, stored_jumps_in, stored_jumps_out, stored_moved, stored_jumps, stored_transfers}
use Rattle.replay.specs.Calls.{net_at, state_at}
use Rattle.report_lines.specs.ReportLines.{trail_line, place_line, act_line, jump_line}

unfoldable pub trail_line_at : List ℕ → List ℕ
trail_line_at b =
    trail_line (length (state_at b).kinds) (state_at b).events (stored_jumps (net_at b) (state_at b)) (stored_transfers (net_at b) (state_at b))

-- place q
unfoldable pub place_line_at : List ℕ → ℕ → List ℕ
place_line_at b q =
    place_line q (stored_consumed (net_at b) (state_at b) q) (stored_jumps_in (net_at b) (state_at b) q) (stored_jumps_out (net_at b) (state_at b) q)

-- activity a
unfoldable pub act_line_at : List ℕ → ℕ → List ℕ
act_line_at b a =
    act_line a (get_or (state_at b).fired a 0) (stored_moved (net_at b) (state_at b) a) (get_or (state_at b).jumps a 0)

-- the pair of the places x and y
unfoldable pub jump_line_at : List ℕ → ℕ → ℕ → List ℕ
jump_line_at b x y = jump_line x y (stored_pair (net_at b) (state_at b) x y)

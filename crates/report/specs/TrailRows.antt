-- The numbers of each line of a trail, by the net and the state that its bytes hold, and what reading them gives.
use Rattle.std.specs.Prelude.{ℕ, Bool, ◌≡◌, Result, MatchResult, List, [], ◌∷◌, length, get_or}
use Rattle.words.specs.Refusals.{first}
use Rattle.replay.specs.State.{stored_consumed, stored_pair, stored_jumps_in, stored_jumps_out, stored_moved, stored_jumps, stored_transfers}
use Rattle.replay.specs.Calls.{net_at, state_at}
use Rattle.lines.specs.Answer.{line_error_code}
use Rattle.lines.specs.declared.LineError.{LineError}

-- register size, events, jumps, transfers
abbrev pub trail_row : List ℕ → List ℕ
trail_row b =
    length (state_at b).kinds ∷ (state_at b).events ∷ stored_jumps (net_at b) (state_at b) ∷ stored_transfers (net_at b) (state_at b) ∷ []

-- place q: its number, TAKEN, IN, OUT
abbrev pub place_row : List ℕ → ℕ → List ℕ
place_row b q =
    q ∷ stored_consumed (net_at b) (state_at b) q ∷ stored_jumps_in (net_at b) (state_at b) q ∷ stored_jumps_out (net_at b) (state_at b) q ∷ []

-- activity a: its number, FIRED, MOVED, JUMPS
abbrev pub act_row : List ℕ → ℕ → List ℕ
act_row b a =
    a ∷ get_or (state_at b).fired a 0 ∷ stored_moved (net_at b) (state_at b) a ∷ get_or (state_at b).jumps a 0 ∷ []

-- the pair of the places x and y: both, and their jump count
abbrev pub pair_row : List ℕ → ℕ → ℕ → List ℕ
pair_row b x y = x ∷ y ∷ stored_pair (net_at b) (state_at b) x y ∷ []

-- the row, or the refusal whose number the tests give
abbrev pub Reads : List (Bool × ℕ) → List ℕ → Result (List ℕ) LineError → Type 0
Reads tests row r = MatchResult r (λ xs. (first tests ≡ 0) × (xs ≡ row)) (λ e. first tests ≡ line_error_code e)

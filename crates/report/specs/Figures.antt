-- FIT as the three kinds of line show it (A.7). Proved in `proofs/FiguresHold.antt`.
use Rattle.std.specs.Prelude.{ℕ, zero, suc, ◌+◌, ◌*◌, ◌-◌, ◌≤◌, ◌<◌, Bool, ◌≡◌, Some, None, List, [], ◌∷◌, eqb, get_or}
use Rattle.words.specs.Lists.{pick, either}
use Rattle.replay.specs.State.{stored_consumed, stored_jumps_in, stored_moved, stored_jumps, stored_transfers}
use Rattle.replay.specs.Calls.{net_at, state_at}
use Rattle.fitness.specs.Fitness.{thousandths, fitness_text}
use Rattle.fitness.specs.Rounding.{Rounded}
use Rattle.report.specs.TrailLines.{trail_line_at, place_line_at, act_line_at}

-- a space or a line feed, which end a piece of a line
abbrev pub ends : ℕ → Bool
ends c = either (eqb c 32 ∷ eqb c 10 ∷ [])

-- the piece of a line with this number, from 0 on
abbrev pub piece_at : ℕ → List ℕ → List ℕ
piece_at k [] = []
piece_at zero (c ∷ cs) = pick (ends c) [] (c ∷ piece_at zero cs)
piece_at (suc k) (c ∷ cs) = pick (eqb c 32) (piece_at k cs) (piece_at (suc k) cs)

-- FIT on a line that has one: behind the line's word and four numbers
abbrev pub figure_of : List ℕ → List ℕ
figure_of line = piece_at 5 line

-- the figure read back, digit by digit: `0.667` is 667 thousandths
abbrev pub in_thousandths : List ℕ → ℕ
in_thousandths f = 1000 * (get_or f 0 0 - 48) + (100 * (get_or f 2 0 - 48) + (10 * (get_or f 3 0 - 48) + (get_or f 4 0 - 48)))

-- the line shows FIT of so many jumps in so many transfers: `-` where there are none, else a figure that, read back, is rounded as A.7
-- asks. The jumps are a part of the transfers, so that the difference in `Rounded` is not cut off at 0.
pub record ShowsFitness (line : List ℕ) (jumps transfers : ℕ) : Type 0 where
  pub part : jumps ≤ transfers
  pub none : transfers ≡ 0 → figure_of line ≡ fitness_text None
  pub some : 1 ≤ transfers → figure_of line ≡ fitness_text (Some (thousandths jumps transfers))
  pub rounded : 1 ≤ transfers → Rounded (in_thousandths (figure_of line)) jumps transfers

-- so does every line of the trail in the bytes b: of the trail by its jumps and transfers, of a place by IN and TAKEN, of an activity
-- by JUMPS and MOVED
pub record LinesRounded (b : List ℕ) : Type 0 where
  pub trail : ShowsFitness (trail_line_at b) (stored_jumps (net_at b) (state_at b)) (stored_transfers (net_at b) (state_at b))
  pub place : (q : ℕ) → q < (net_at b).places → ShowsFitness (place_line_at b q) (stored_jumps_in (net_at b) (state_at b) q) (stored_consumed (net_at b) (state_at b) q)
  pub act : (a : ℕ) → a < (net_at b).acts → ShowsFitness (act_line_at b a) (get_or (state_at b).jumps a 0) (stored_moved (net_at b) (state_at b) a)

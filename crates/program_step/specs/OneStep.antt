-- One step of carrying out a trail file's events, at a spot.
use Rattle.std.specs.Prelude.{ℕ, ◌+◌, ◌*◌, Bool, true, false, List, length}
use Rattle.net.specs.Net.{Net}
use Rattle.replay.specs.Plain.{event}
use Rattle.replay.specs.Calls.{ask_bytes}
use Rattle.trace_reader.specs.Answers.{EventRead, Answer}
use Rattle.trace_reader.specs.Trace.{read_from}
use Rattle.trace_reader.specs.Followed.{by_found}

-- where the reading stands: byte `from` of a window is byte `at` of the events body, and `accepted` events are accepted
pub record Spot : Type 0 where
  pub from : ℕ
  pub at : ℕ
  pub accepted : ℕ

-- how it goes on: once it is over, `code` is the number of the refusal, or 0 at the end of the body
pub record Outcome : Type 0 where
  pub spot : Spot
  pub over : Bool
  pub code : ℕ

-- the outcome behind an event that is accepted, and where reading stops
abbrev pub behind : Spot → EventRead → Outcome
behind s r = record {
  spot = record { from = s.from + 8 + 4 * length r.event.objs; at = r.next; accepted = s.accepted + 1 };
  over = false;
  code = 0;
}

abbrev pub stops : Spot → ℕ → Outcome
stops s c = record { spot = s; over = true; code = c }

-- what an answer of the reader leaves of the trail, and the outcome
abbrev pub trail_after : List ℕ → Answer → List ℕ
trail_after trail a = by_found a (λ (r : EventRead). ask_bytes trail (event r.event)) (λ (c : ℕ). trail)

abbrev pub outcome_after : Spot → Answer → Outcome
outcome_after s a = by_found a (behind s) (stops s)

-- the net, the kind of each object, the bytes b with which the file ends, and the length of the events body
module _ (N : Net) (ks b : List ℕ) (body : ℕ) where
  -- one step at a spot of b: the trail's bytes after it, and how it goes on
  unfoldable pub step_trail : List ℕ → Spot → List ℕ
  step_trail trail s = trail_after trail (read_from N ks s.accepted b s.from body s.at)

  unfoldable pub step_outcome : Spot → Outcome
  step_outcome s = outcome_after s (read_from N ks s.accepted b s.from body s.at)

-- What of a trail that is followed its contracts name, and what a result says of how it goes on.
use Rattle.std.specs.Prelude.{ℕ, ◌+◌, ◌≡◌, true, false, List, Option, Some, None, Result, Ok, Err, length}
use Rattle.net.specs.Net.{Net}
use Rattle.net.specs.Held.{net_in}
use Rattle.replay.specs.Register.{kinds_in}
use Rattle.trace_reader.specs.Answers.{trace_error_code}
use Rattle.trace_reader.specs.declared.TraceError.{TraceError}
use Rattle.program_step.specs.OneStep.{Spot, Outcome}
use Rattle.program_step.specs.declared.Following.{Following}

-- the net, and the kind of each object
abbrev pub followed_net : Following → Net
followed_net f = net_in f.register.now.net.words.now

abbrev pub followed_kinds : Following → List ℕ
followed_kinds f = kinds_in (followed_net f) f.register.now.bytes.now

-- the trail in the same bytes, the same register and body: what a step leaves as it is
abbrev pub SameTrail : Following → Following → Type 0
SameTrail f g =
    (g.rec.ghost_name ≡ f.rec.ghost_name)
    × (length g.rec.now ≡ length f.rec.now)
    × (g.register ≡ f.register)
    × (g.body ≡ f.body)

-- where reading stands, if it goes on at byte `from` of a window
abbrev pub spot_at : ℕ → Following → Spot
spot_at from f = record { from = from; at = f.at; accepted = f.accepted }

-- what is found from byte `from` of a window on: an event or several of so many bytes, the end of the body, or a refusal
abbrev pub outcome_of : ℕ → Following → Result (Option ℕ) TraceError → Outcome
outcome_of from f (Ok (Some n)) = record { spot = spot_at (from + n) f; over = false; code = 0 }
outcome_of from f (Ok None) = record { spot = spot_at from f; over = true; code = 0 }
outcome_of from f (Err e) = record { spot = spot_at from f; over = true; code = trace_error_code e }

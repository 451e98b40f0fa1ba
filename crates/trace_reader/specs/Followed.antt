-- What comes of a trail file's events: each one that the reader hands out is put to the trail, until the body ends or one is
-- refused.
use Rattle.std.specs.Prelude.{ℕ, zero, suc, ◌+◌, ◌-◌, ◌*◌, List, [], ◌∷◌, length, Some, None, Ok, Err, eqb}
use Rattle.words.specs.Lists.{pick}
use Rattle.net.specs.Net.{Net}
use Rattle.replay.specs.Plain.{Event, event, close}
use Rattle.replay.specs.Calls.{ask_bytes}
use Rattle.trace_reader.specs.Answers.{EventRead, Answer}
use Rattle.trace_reader.specs.Trace.{read_from}

-- the trail's bytes, how many events are accepted, and the number of the refusal, 0 at the body's end
pub record Followed : Type 0 where
  pub trail : List ℕ
  pub accepted : ℕ
  pub code : ℕ

-- what is left of the trail then: it is closed where no event was refused
unfoldable pub closed_after : Followed → List ℕ
closed_after d = pick (eqb d.code 0) (ask_bytes d.trail close) d.trail

-- by what is found: an event, of which more is computed only then; or the end (0) or a refusal with its number
abbrev pub by_found {ℓ} : {A : Type ℓ} → Answer → (EventRead → A) → (ℕ → A) → A
by_found (Ok (Some r)) read stop = read r
by_found (Ok None) read stop = stop 0
by_found (Err c) read stop = stop c

-- the net, the kind of each object, the bytes b with which the file ends, and the length of the events body
module _ (N : Net) (ks b : List ℕ) (body : ℕ) where
  -- what comes of at most so many events, from position `at` of the body on, which is byte `from` of b; n are accepted before
  unfoldable pub followed : ℕ → List ℕ → ℕ → ℕ → ℕ → Followed
  followed zero trail from at n = record { trail = trail; accepted = n; code = 0 }
  followed (suc turns) trail from at n =
      by_found (read_from N ks n b from body at)
      (λ (r : EventRead). followed turns (ask_bytes trail (event r.event)) (from + 8 + 4 * length r.event.objs) r.next (n + 1))
      (λ (c : ℕ). record { trail = trail; accepted = n; code = c })

  -- the events that are handed out
  unfoldable pub handed_out : ℕ → ℕ → ℕ → ℕ → List Event
  handed_out zero from at n = []
  handed_out (suc turns) from at n =
      by_found (read_from N ks n b from body at)
      (λ (r : EventRead). r.event ∷ handed_out turns (from + 8 + 4 * length r.event.objs) r.next (n + 1))
      (λ (c : ℕ). [])

  -- all events: 22 ends them behind 1,000,000, so that there are enough turns
  unfoldable pub final : List ℕ → ℕ → ℕ → ℕ → Followed
  final trail from at n = followed (1000001 - n) trail from at n

  unfoldable pub events_read : ℕ → List Event
  events_read from = handed_out 1000001 from 0 0

-- The answer to an event as document 01's number.
use Rattle.std.specs.Prelude.{ℕ, Result}
use Rattle.words.specs.Refusals.{answer_code}
use Rattle.replay_objects.specs.ObjectAnswers.{object_error_code}
use Rattle.replay_event.specs.declared.EventError.{EventError}
use Rattle.replay_event.specs.declared.EventError.TheVariants.{Closed, Full, Activity, Number, Objects}

abbrev pub event_error_code : EventError → ℕ
event_error_code Closed = 21
event_error_code Full = 22
event_error_code Activity = 23
event_error_code Number = 24
event_error_code (Objects e) = object_error_code e

-- 0 where the event was carried out
abbrev pub event_answer_code : Result Unit EventError → ℕ
event_answer_code = answer_code event_error_code

-- The paper's number, and the values, for each answer of the reader.
use Rattle.std.specs.Prelude.{ℕ, Option, Some, None, Result, Ok, Err, eqb}
use Rattle.words.specs.Lists.{pick}
use Rattle.words.specs.Refusals.{answer_code}
use Rattle.words.specs.Words.{words_of}
use Rattle.replay.specs.Plain as plain
use Rattle.replay_objects.specs.ObjectAnswers.{object_error_code}
use Rattle.trace_reader.specs.declared.event.Event.{Event}
use Rattle.trace_reader.specs.declared.Read.{Read}
use Rattle.trace_reader.specs.declared.TraceError.{TraceError}
use Rattle.trace_reader.specs.declared.TraceError.TheVariants.{Contents, Events, Full, Activity, Number, Object}

-- the number of each refusal
abbrev pub trace_error_code : TraceError → ℕ
trace_error_code Contents = 71
trace_error_code Events = 73
trace_error_code Full = 22
trace_error_code Activity = 23
trace_error_code Number = 24
trace_error_code (Object e) = object_error_code e

-- 0 where no test applies
abbrev pub trace_answer_code : Result Unit TraceError → ℕ
trace_answer_code = answer_code trace_error_code

-- 0 for an event and for the end of the body, else the refusal's number
abbrev pub read_answer_code : Result (Option Read) TraceError → ℕ
read_answer_code = answer_code trace_error_code

-- the event whose objects are in bytes
abbrev pub event_in : Event → plain.Event
event_in e = plain.event_of e.activity (words_of e.objects.now)

-- an event, and the position behind it
pub record EventRead : Type 0 where
  pub event : plain.Event
  pub next : ℕ

-- what is found at a position: an event, the end of the body, or the number of a refusal
abbrev pub Answer : Type 0
Answer = Result (Option EventRead) ℕ

-- what is found, with numbers in the place of bytes and of the refusal
abbrev pub numbered : Result (Option Read) TraceError → Answer
numbered (Ok (Some r)) = Ok (Some (record { event = event_in r.event; next = r.next.at }))
numbered (Ok None) = Ok None
numbered (Err e) = Err (trace_error_code e)

-- the answer where the refusal's number is 0, else that refusal
abbrev pub unless : ℕ → Answer → Answer
unless c a = pick (eqb c 0) a (Err c)

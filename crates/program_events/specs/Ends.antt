-- What an outcome says of all events of a trail file, and what is to be printed at their end.
use Rattle.std.specs.Prelude.{ℕ, ◌+◌, List, length, eqb, Result, Ok, Err}
use Rattle.words.specs.Lists.{pick}
use Rattle.net.specs.Net.{Net}
use Rattle.trace_reader.specs.Answers.{trace_answer_code}
use Rattle.trace_reader.specs.declared.TraceError.{TraceError}
use Rattle.trace_reader.specs.Followed.{Followed, closed_after, final}
use Rattle.program_output.specs.declared.Refused.{Refused}
use Rattle.program_step.specs.declared.Following.{Following}
use Rattle.program_step.specs.OneStep.{Outcome}

-- what is to be printed at the end: the report of the trail that is left, or the refusal with the events accepted before it
unfoldable pub ending_after : Followed → Result ℕ Refused
ending_after d = pick (eqb d.code 0) (Ok (length (closed_after d))) (Err (record { code = d.code; events = d.accepted }))

-- what an outcome that is over says
abbrev pub left_by : List ℕ → Outcome → Followed
left_by trail r = record { trail = trail; accepted = r.spot.accepted; code = r.code }

-- what comes of all events where reading stands as the outcome says, in a window that begins at byte i of b
unfoldable pub goes_on : (N : Net) (ks b : List ℕ) (body : ℕ) → ℕ → List ℕ → Outcome → Followed
goes_on N ks b body i trail r = pick r.over (left_by trail r) (final N ks b body trail (i + r.spot.from) r.spot.at r.spot.accepted)

-- what is left of a trail that is followed where all events were put to it, or where one is refused
abbrev pub left_of : Following → Result Unit TraceError → Followed
left_of f r = record { trail = f.rec.now; accepted = f.accepted; code = trace_answer_code r }

-- the refusal with the events accepted before it, if there is one
abbrev pub refused_by : Followed → Result Unit Refused
refused_by d = pick (eqb d.code 0) (Ok tt) (Err (record { code = d.code; events = d.accepted }))

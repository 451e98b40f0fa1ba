-- What the program ends with: the text of each case, and what printing asks of the lent bytes.
use Rattle.std.specs.Prelude.{ℕ, ◌≤◌, List, length, take, Result, Ok, Err}
use Rattle.replay.specs.Ready.{Ready}
use Rattle.report_lines.specs.ReportLines.{refused_line}
use Rattle.report.specs.Report.{report_at}
use Rattle.program_output.specs.declared.Refused.{Refused}

-- a refusal of so many before any event
abbrev pub at_once : ℕ → Refused
at_once code = record { code = code; events = 0 }

-- the line of a refusal, by its number and the events accepted before it
abbrev pub refusal_text : Refused → List ℕ
refusal_text r = refused_line r.code r.events

-- the text, where b are the bytes lent for the trail: the report of the trail in the first n of them, or the line of a refusal
abbrev pub ending_text : Result ℕ Refused → List ℕ → List ℕ
ending_text (Ok n) b = report_at (take n b)
ending_text (Err r) b = refusal_text r

-- a trail that is to be reported stands in the lent bytes b, and the words w hold its net
abbrev pub Printable : List ℕ → List ℕ → Result ℕ Refused → Type 0
Printable w b (Ok n) = (n ≤ length b) × Ready w (take n b)
Printable w b (Err r) = Unit

-- What the program prints (document 01 "Trail file, program, sheet"), by the bytes of the table file and of the trail file. What the
-- program's functions give back has this text, for a trail file of which the bytes that they were handed are the front
-- (`FromFile`), and `print` of `program_output` writes it, or says that not all of it was written. That standard input is that file,
-- and that standard output gets what is written, no contract can say: it is tested.
use Rattle.std.specs.Prelude.{ℕ, ◌+◌, ◌≡◌, List, [], ◌∷◌, ◌++◌, map, eqb}
use Rattle.words.specs.Lists.{pick}
use Rattle.words.specs.Words.{word}
use Rattle.net.specs.Table.{net_of, load_code}
use Rattle.replay.specs.Plain.{Event, event, close, start, run}
use Rattle.report_lines.specs.ReportLines.{refused_line}
use Rattle.report.specs.Figures.{LinesRounded}
use Rattle.report.specs.Report.{report_of, report_at}
use Rattle.trace_header.specs.Opening.{register_of, trace_code}
use Rattle.trace_reader.specs.Followed.{Followed, closed_after}
use Rattle.trace_reader.specs.AllEvents.{read, came}

-- once the events are read: the report of the closed trail, or the refusal of an event with the events accepted before it
unfoldable pub events_text : Followed → List ℕ
events_text d = pick (eqb d.code 0) (report_at (closed_after d)) (refused_line d.code d.accepted)

module _ (table f : List ℕ) where
  -- the events of the trail file f, and what comes of them on a started trail
  abbrev pub read_in : List Event
  read_in = read table (register_of (net_of table) f) f (word f 12) (16 + word f 4)

  abbrev pub came_of : Followed
  came_of = came table (register_of (net_of table) f) f (word f 12) (16 + word f 4)

  -- the table's refusals come first, then those of opening the trail file, then the events'
  unfoldable pub program_text : List ℕ
  program_text =
      pick (eqb (load_code table) 0)
      (pick (eqb (trace_code (net_of table) f) 0) (events_text came_of) (refused_line (trace_code (net_of table) f) 0))
      (refused_line (load_code table) 0)

  -- What is claimed of it: where nothing is refused, it is the report of the plain run over the file's events and a close,
  abbrev pub PrintsPlain : Type 0
  PrintsPlain = load_code table ≡ 0 → trace_code (net_of table) f ≡ 0 → came_of.code ≡ 0
      → program_text ≡ report_of (net_of table) (run (net_of table) (start (register_of (net_of table) f)) (map event read_in ++ close ∷ []))

  -- and the report of a trail on whose lines FIT is rounded as A.7 asks.
  abbrev pub PrintsRounded : Type 0
  PrintsRounded = load_code table ≡ 0 → trace_code (net_of table) f ≡ 0 → came_of.code ≡ 0
      → (program_text ≡ report_at (closed_after came_of)) × LinesRounded (closed_after came_of)

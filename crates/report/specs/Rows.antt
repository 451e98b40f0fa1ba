-- Document 01's report (sheet) for T4, T13 and where FIT stands, and a longest line, as rows: what a definition gives, and the text
-- that it is to be.
use Rattle.std.specs.Prelude.{ℕ, ◌≡◌, List, [], ◌∷◌}
use Prim.Native.String.{String}
use Rattle.words.specs.Lists.{All}
use Rattle.replay.specs.Plain.{close, start, run, ask_event}
use Rattle.replay.specs.Rows.{M, three}
use Rattle.text.specs.Text.{ascii}
use Rattle.fitness.specs.Fitness.{fitness, fitness_text}
use Rattle.report_lines.specs.ReportLines.{trail_line, place_line, act_line, jump_line}
use Rattle.report.specs.Figures.{figure_of}
use Rattle.report.specs.Report.{report_of}

pub record Row : Type 0 where
  pub gives : List ℕ
  pub text : String

-- the report for T4, with a pair of places that has no jumps, whose line is nothing
unfoldable pub lines : List Row
lines =
    record { gives = trail_line 3 5 1 10; text = "trail 3 5 1 10 0.900\n" }
    ∷ record { gives = place_line 0 1 0 0; text = "place 0 1 0 0 1.000\n" }
    ∷ record { gives = place_line 1 3 0 0; text = "place 1 3 0 0 1.000\n" }
    ∷ record { gives = place_line 2 1 0 0; text = "place 2 1 0 0 1.000\n" }
    ∷ record { gives = place_line 3 1 0 1; text = "place 3 1 0 1 1.000\n" }
    ∷ record { gives = place_line 4 2 1 0; text = "place 4 2 1 0 0.500\n" }
    ∷ record { gives = place_line 5 2 0 0; text = "place 5 2 0 0 1.000\n" }
    ∷ record { gives = act_line 0 1 1 0; text = "act 0 1 1 0 1.000\n" }
    ∷ record { gives = act_line 1 1 1 0; text = "act 1 1 1 0 1.000\n" }
    ∷ record { gives = act_line 2 2 4 1; text = "act 2 2 4 1 0.750\n" }
    ∷ record { gives = act_line 3 1 1 0; text = "act 3 1 1 0 1.000\n" }
    ∷ record { gives = jump_line 3 4 1; text = "jump 3 4 1\n" }
    ∷ record { gives = jump_line 4 3 0; text = "" }
    ∷ []

-- a longest line: 1,024 objects, 1,000,000 events of eight objects and a close, where each object jumps each time
unfoldable pub longest : List Row
longest = record { gives = trail_line 1024 1000000 8001024 8001024; text = "trail 1024 1000000 8001024 8001024 0.000\n" } ∷ []

-- T13 with A.7's middle figure; no jump, a half that would be 1.000, halves that go up, all jumps, and FIT where the divisor is 0
unfoldable pub rounding : List Row
rounding =
    record { gives = fitness_text (fitness 4 10); text = "0.600" }
    ∷ record { gives = fitness_text (fitness 1 3); text = "0.667" }
    ∷ record { gives = fitness_text (fitness 1 100000); text = "0.999" }
    ∷ record { gives = fitness_text (fitness 0 100000); text = "1.000" }
    ∷ record { gives = fitness_text (fitness 1 2000); text = "0.999" }
    ∷ record { gives = fitness_text (fitness 3 2000); text = "0.999" }
    ∷ record { gives = fitness_text (fitness 5 2000); text = "0.998" }
    ∷ record { gives = fitness_text (fitness 1 16); text = "0.938" }
    ∷ record { gives = fitness_text (fitness 3 3); text = "0.000" }
    ∷ record { gives = fitness_text (fitness 0 0); text = "-" }
    ∷ []

-- where FIT stands on the three kinds of line
unfoldable pub figures : List Row
figures =
    record { gives = figure_of (trail_line 3 5 1 10); text = "0.900" }
    ∷ record { gives = figure_of (place_line 4 2 1 0); text = "0.500" }
    ∷ record { gives = figure_of (place_line 4 0 0 0); text = "-" }
    ∷ record { gives = figure_of (act_line 2 2 4 1); text = "0.750" }
    ∷ []

-- the whole report of T4, from its events and its close on table M
unfoldable pub whole : List Row
whole =
    record {
      gives = report_of M (run M (start three) (ask_event 0 (0 ∷ []) ∷ ask_event 1 (1 ∷ []) ∷ ask_event 2 (0 ∷ 1 ∷ []) ∷ ask_event 2 (0 ∷ 2 ∷ []) ∷ ask_event 3 (0 ∷ []) ∷ close ∷ []));
      text = "trail 3 5 1 10 0.900\nplace 0 1 0 0 1.000\nplace 1 3 0 0 1.000\nplace 2 1 0 0 1.000\nplace 3 1 0 1 1.000\nplace 4 2 1 0 0.500\nplace 5 2 0 0 1.000\nact 0 1 1 0 1.000\nact 1 1 1 0 1.000\nact 2 2 4 1 0.750\nact 3 1 1 0 1.000\njump 3 4 1\n";
    }
    ∷ []

-- the claim: each row gives its text
abbrev pub RowsHold : List Row → Type 0
RowsHold rows = All (λ (r : Row). r.gives ≡ ascii r.text) rows

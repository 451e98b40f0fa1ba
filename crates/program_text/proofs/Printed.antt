-- Where nothing is refused, the program's text is the report of the plain run over the file's events and a close, and FIT is rounded on
-- its lines. Assumes nothing.
use Prim.Native.Nat.{ℕ, ◌+◌}
use mathlib.Core.Path.{◌≡◌, refl, ap, sym, subst, ◌∙◌}
use mathlib.Core.List.{List, [], ◌∷◌, ◌++◌, map}
use native.Mathlib.Omega.{arith}
use borrow.Author.Tests.{eq-eqb}
use Rattle.words.specs.Words.{word}
use Rattle.words.proofs.Refusals.{none-apply, none-split, first-zero}
use Rattle.net.specs.Net.{Net, Loaded}
use Rattle.net.specs.Table.{net_of, load_code}
use Rattle.net.proofs.Promise.{promise}
use Rattle.replay.specs.Plain.{Ask, event, close, register_tests, register_code, start, run}
use Rattle.replay.specs.State.{State, state_of}
use Rattle.replay.specs.Sound.{Sound}
use Rattle.replay.specs.Record.{encode}
use Rattle.replay.specs.Calls.{net_at, state_at}
use Rattle.replay.specs.Claims.{Agrees}
use Rattle.replay.proofs.Records.{net-at, state-at}
use Rattle.replay.proofs.Theorems.{sound-reached, counts-agree}
use Rattle.report.specs.Figures.{LinesRounded}
use Rattle.report.specs.Report.{report_of, report_at}
use Rattle.report.proofs.FiguresHold.{lines-rounded}
use Rattle.report.proofs.ReportLaws.{report-agrees}
use Rattle.trace_header.specs.Opening.{shape_tests, register_of, trace_code}
use Rattle.trace_reader.specs.Followed.{closed_after}
use Rattle.trace_reader.proofs.Runs.{plain-run}
use Rattle.program_text.specs.Program.{read_in, came_of, events_text, program_text, PrintsPlain, PrintsRounded}

module _ (table f : List ℕ) (good : load_code table ≡ 0) (opens : trace_code (net_of table) f ≡ 0) where
  abbrev N : Net
  N = net_of table

  abbrev ks : List ℕ
  ks = register_of (net_of table) f

  L : Loaded N
  L = promise table good

  registers : register_code N ks ≡ 0
  unfolding trace_code
  registers =
      first-zero (register_tests N ks)
      (none-split (shape_tests N f) (register_tests N ks) (none-apply (shape_tests N f ++ register_tests N ks) (omega arith) opens)).1

  -- the record of a plain run, what holds of the net and the state in it, and its report
  module _ (qs : List Ask) where
    abbrev d : State
    d = state_of N (run N (start ks) qs)

    abbrev made : List ℕ
    made = encode table d

    sound : Sound N d
    sound = sound-reached N L ks registers qs

    held : (P : Net → State → Type 0) → P N d → P (net_at made) (state_at made)
    held P p =
        subst (λ (e : State). P (net_at made) e) (sym (state-at table good d sound))
        (subst (λ (n : Net). P n d) (sym (net-at table good d sound)) p)

    reported : report_at made ≡ report_of N (run N (start ks) qs)
    reported =
        report-agrees made (run N (start ks) qs) (held (λ n e. Agrees n e (run N (start ks) qs)) (counts-agree N L ks registers qs))
        ∙ ap (λ (n : Net). report_of n (run N (start ks) qs)) (net-at table good d sound)

    rounded : LinesRounded made
    rounded = lines-rounded made (held Sound sound)

  module _ (z : (came_of table f).code ≡ 0) where
    abbrev asks : List Ask
    asks = map event (read_in table f) ++ close ∷ []

    printed : program_text table f ≡ report_at (closed_after (came_of table f))
    unfolding program_text events_text
    printed = rw (eq-eqb (load_code table) 0 good, eq-eqb (trace_code N f) 0 opens, eq-eqb (came_of table f).code 0 z) refl

    closed : closed_after (came_of table f) ≡ made asks
    closed = (plain-run table ks f (word f 12) (16 + word f 4) good registers).closed z

    plain : program_text table f ≡ report_of N (run N (start ks) asks)
    plain = printed ∙ ap report_at closed ∙ reported asks

    nearest : LinesRounded (closed_after (came_of table f))
    nearest = subst LinesRounded (sym closed) (rounded asks)

pub prints-plain : (table f : List ℕ) → PrintsPlain table f
prints-plain table f good opens z = plain table f good opens z

pub prints-rounded : (table f : List ℕ) → PrintsRounded table f
prints-rounded table f good opens z = (printed table f good opens z, nearest table f good opens z)

-- No line has more than 41 bytes, so that as many bytes have room for a line. Assumes nothing.
use Prim.Native.Nat.{ℕ, zero, suc, ◌*◌, ◌-◌, ◌/◌, ◌%◌, ◌≤◌, ◌<◌}
use mathlib.Core.Bool.{Bool, true, false}
use mathlib.Core.Path.{◌≡◌, refl, subst}
use mathlib.Core.List.{List}
use native.Mathlib.Omega.{arith}
use lib.Dec.{ltb}
use lib.ListN.{length}
use borrow.Author.Tests.{ltb-true, ltb-false}
use Rattle.words.specs.Lists.{pick}
use Rattle.net.specs.Net.{Net, Loaded}
use Rattle.replay.specs.Calls.{net_at, state_at}
use Rattle.replay.specs.Ready.{Ready}
use Rattle.replay_layout.proofs.RecordLaws.{ready-loaded}
use Rattle.report.specs.TrailLines.{place_line_at, act_line_at, jump_line_at}
use Rattle.report.specs.Lengths.{max_line, LinesFit}
use Rattle.report.proofs.PairIndex.{row_lt, column-lt}
use Rattle.report.proofs.LengthLaws.{lines_fit}
use Rattle.report_parts.specs.Parts.{lines_on, lines_in, line_at, fits}
use Rattle.report_parts.proofs.PutLaws.{fits_more}

module _ (w b : List ℕ) (R : Ready w b) where
  abbrev N : Net
  N = net_at b

  abbrev F : LinesFit b
  unfolding state_at
  F = lines_fit b (subst Loaded R.net (ready-loaded w b R)) R.intact.sound

  pub lines-short : (i : ℕ) → i < lines_in b → length (line_at b i) ≤ max_line
  unfolding lines_on line_at
  lines-short zero h = F.trail
  lines-short (suc i) h = go (ltb i N.places) (ltb (i - N.places) N.acts) refl refl
    where
      go : (s t : Bool) → ltb i N.places ≡ s → ltb (i - N.places) N.acts ≡ t
          → length (pick s (place_line_at b i) (pick t (act_line_at b (i - N.places)) (jump_line_at b ((i - N.places - N.acts) / N.places) ((i - N.places - N.acts) % N.places)))) ≤ max_line
      go true t e f = F.place i (ltb-true i N.places e)
      go false true e f = F.act (i - N.places) (ltb-true (i - N.places) N.acts f)
      go false false e f =
          let k = i - N.places - N.acts in
          let l : k < N.places * N.places = omega (arith, ltb-false i N.places e, ltb-false (i - N.places) N.acts f) in
          F.jump (k / N.places) (k % N.places) (row_lt N.places k l) (column-lt N.places k l)

  -- so one line fits at least
  pub some_fits : (i room : ℕ) → i < lines_in b → max_line ≤ room → 0 < fits b i room
  some_fits i room h l = let s = lines-short i h in omega (arith, fits_more b i room h (omega arith))

-- The lines that the calls from C write show FIT rounded as A.7 asks. Assumes nothing.
use Prim.Native.Nat.{ℕ, ◌≤◌, ◌<◌}
use mathlib.Core.Bool.{Bool}
use mathlib.Core.Path.{◌≡◌, sym, subst, ◌∙◌}
use mathlib.Core.List.{List, [], ◌∷◌, ◌++◌}
use native.Mathlib.Omega.{arith}
use native.Mathlib.Decide.{ℕ_discrete}
use lib.ListN.{length, drop}
use lib.Seq.{take-append_seam}
use lib.Dec.{ltb, leb}
use borrow.Author.Tests.{eq-eqb, ne_eqb, leb-false}
use Rattle.words.specs.Lists.{All, over}
use Rattle.words.proofs.Lists.{All-append}
use Rattle.words.proofs.Refusals.{first-le, none-apply}
use Rattle.replay.specs.Calls.{net_at, state_at}
use Rattle.replay_counts.specs.Reads.{place_tests, act_tests}
use Rattle.checkpoint.specs.Restore.{restore_code}
use Rattle.checkpoint.proofs.Restored.{restored-sound}
use Rattle.lines.specs.Answer.{line_code}
use Rattle.report.specs.TrailLines.{trail_line_at, place_line_at, act_line_at}
use Rattle.report.specs.Figures.{ShowsFitness, LinesRounded}
use Rattle.report.proofs.FiguresHold.{lines-rounded}
use Rattle.client_answers.specs.Answers.{number}
use Rattle.client_calls.specs.Writing.{write_answer, write_leaves}
use Rattle.client_calls.specs.Figures.{written_by, FiguresFromC}
use Rattle.client_calls.proofs.Numbers.{front-is}
use Rattle.client_calls.proofs.MaxRecordHolds.{restore-few}

-- a call that writes x and is taken: none of 41 to 47 applies, none of its own numbers does, and what it wrote is x
module _ (b : List ℕ) (tests : List (Bool × ℕ)) (x lent : List ℕ) (few : All (λ (t : Bool × ℕ). t.1 ≤ 61) tests) (taken : number (write_answer b tests x lent) ≡ 0) where
  line-few : line_code tests x lent ≤ 61
  unfolding line_code
  line-few = first-le 61 (tests ++ ((ltb (length lent) (length x), 61) ∷ [])) (All-append (λ (t : Bool × ℕ). t.1 ≤ 61) tests ((ltb (length lent) (length x), 61) ∷ []) few (omega arith, tt))

  none : (restore_code b ≡ 0) × (line_code tests x lent ≡ 0)
  unfolding write_answer
  none = go (ℕ_discrete (restore_code b) 0)
    where
      go : Dec (restore_code b ≡ 0) → (restore_code b ≡ 0) × (line_code tests x lent ≡ 0)
      go (yes z) = (z, omega (arith, line-few, rw (eq-eqb (restore_code b) 0 z) at taken))
      go (no n) = absurd (omega (arith, restore-few b, rw (ne_eqb (restore_code b) 0 n) at taken))

  written : written_by b tests x lent ≡ x
  unfolding write_answer write_leaves
  written = rw (eq-eqb (restore_code b) 0 none.0, none.1) (front-is (length x) (over x lent) ∙ take-append_seam x (drop (length x) lent))

  rounded : LinesRounded b
  unfolding net_at state_at
  rounded = lines-rounded b (restored-sound b none.0)

  shown : {jumps transfers : ℕ} → ShowsFitness x jumps transfers → ShowsFitness (written_by b tests x lent) jumps transfers
  shown {jumps} {transfers} s = subst (λ (l : List ℕ). ShowsFitness l jumps transfers) (sym written) s

-- the place and the activity are known
known : (n q k : ℕ) (x lent : List ℕ) → 0 < k → line_code ((leb n q, k) ∷ []) x lent ≡ 0 → q < n
unfolding line_code
known n q k x lent p e = leb-false n q (none-apply ((leb n q, k) ∷ (ltb (length lent) (length x), 61) ∷ []) (p, (omega arith, tt)) e).0

pub figures-from-c : FiguresFromC
figures-from-c = record {
  trail-line = λ b lent e. shown b [] (trail_line_at b) lent tt e (rounded b [] (trail_line_at b) lent tt e).trail;
  place-line = λ b q lent e.
      let ts = place_tests b q in
      let x = place_line_at b q in
      shown b ts x lent (omega arith, tt) e
      ((rounded b ts x lent (omega arith, tt) e).place q (known (net_at b).places q 51 x lent (omega arith) (none b ts x lent (omega arith, tt) e).1));
  act-line = λ b a lent e.
      let ts = act_tests b a in
      let x = act_line_at b a in
      shown b ts x lent (omega arith, tt) e
      ((rounded b ts x lent (omega arith, tt) e).act a (known (net_at b).acts a 52 x lent (omega arith) (none b ts x lent (omega arith, tt) e).1));
}

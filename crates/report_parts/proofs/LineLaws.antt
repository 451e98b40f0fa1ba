-- Which line of the report has which number, and the line of a known place, activity or pair. Assumes nothing.
use Prim.Native.Nat.{ℕ, zero, suc, ◌+◌, ◌*◌, ◌-◌, ◌/◌, ◌%◌, ◌≤◌, ◌<◌}
use mathlib.Core.Bool.{Bool}
use mathlib.Core.Path.{◌≡◌, refl, ap, ◌∙◌}
use mathlib.Core.List.{List, [], ◌∷◌}
use native.Mathlib.Nat.{mul-le-mul}
use native.Mathlib.Omega.{arith}
use lib.Dec.{ltb}
use lib.ListN.{length}
use borrow.Author.Tests.{lt-ltb, le-ltb, lt-leb}
use Rattle.words.specs.Lists.{All}
use Rattle.words.specs.Refusals.{first}
use Rattle.words.proofs.Refusals.{first_then}
use Rattle.net.specs.Net.{Net}
use Rattle.net.specs.Held.{net_in, Held}
use Rattle.net.proofs.HeldLaws.{held-loaded}
use Rattle.replay.specs.Calls.{net_at}
use Rattle.replay.specs.Ready.{Ready}
use Rattle.replay_counts.specs.Reads.{place_tests, act_tests, pair_tests}
use Rattle.lines.specs.Answer.{line_code, Writes}
use Rattle.std.specs.Prelude.{Result}
use Rattle.lines.specs.declared.LineError.{LineError}
use Rattle.lines.proofs.LineLaws.{same_line}
use Rattle.report.specs.TrailLines.{trail_line_at, place_line_at, act_line_at}
use Rattle.report.specs.Report.{pair_line_at}
use Rattle.report.proofs.PairIndex.{some-place}
use Rattle.report_parts.specs.Parts.{lines_on, lines_in, line_at}

-- a loaded net has at most 64 places and 64 activities
module _ (w : List ℕ) (H : Held w) (n : ℕ) where
  pub places_few : n ≡ (net_in w).places → n ≤ 64
  places_few e = omega (arith, (held-loaded w H).places-le, e)

  pub acts_few : n ≡ (net_in w).acts → n ≤ 64
  acts_few e = omega (arith, (held-loaded w H).acts-le, e)

pub pairs_few : (n : ℕ) → n ≤ 64 → n * n ≤ 4096
pairs_few n h = mul-le-mul h h

-- those of the words are the record's
module _ (w b : List ℕ) (R : Ready w b) (p : ℕ) (e : p ≡ (net_in w).places) where
  pub places_in : p ≡ (net_at b).places
  places_in = e ∙ ap (λ (N : Net). N.places) R.net

  module _ (a : ℕ) (f : a ≡ (net_in w).acts) where
    pub acts_in : a ≡ (net_at b).acts
    acts_in = f ∙ ap (λ (N : Net). N.acts) R.net

    -- a line that is no trail's, place's or activity's is a pair's
    module _ (i : ℕ) (known : i < lines_in b) (not-trail : i ≡ 0 → ⊥) (not-place : p ≤ i - 1) (not-act : a ≤ i - 1 - p) where
      pub pair-index : i - 1 - p - a < p * p
      unfolding lines_on
      pair-index = omega (arith, known, places_in, acts_in, ap (λ (n : ℕ). n * n) places_in, not-act, not-place, not-trail)

      pub has_place : 0 < p
      has_place = some-place p (i - 1 - p - a) pair-index

module _ (b : List ℕ) where
  pub line-trail : (i : ℕ) → i ≡ 0 → trail_line_at b ≡ line_at b i
  unfolding line_at
  line-trail i e = rw e refl

  pub line-place : (i q : ℕ) → i ≡ 1 + q → q < (net_at b).places → place_line_at b q ≡ line_at b i
  unfolding line_at
  line-place zero q e h = absurd (omega arith)
  line-place (suc i) q e h = let s : i ≡ q = omega arith in rw (s, lt-ltb q (net_at b).places h) refl

  pub line-act : (i a : ℕ) → i ≡ 1 + (net_at b).places + a → a < (net_at b).acts → act_line_at b a ≡ line_at b i
  unfolding line_at
  line-act zero a e h = absurd (omega arith)
  line-act (suc i) a e h =
      let s : i - (net_at b).places ≡ a = omega arith in
      rw (le-ltb i (net_at b).places (omega arith), s, lt-ltb a (net_at b).acts h) refl

  pub line-pair : (i k : ℕ) → i ≡ 1 + (net_at b).places + (net_at b).acts + k
      → pair_line_at b (k / (net_at b).places, k % (net_at b).places) ≡ line_at b i
  unfolding line_at
  line-pair zero k e = absurd (omega arith)
  line-pair (suc i) k e =
      let s : i - (net_at b).places - (net_at b).acts ≡ k = omega arith in
      rw (le-ltb i (net_at b).places (omega arith), le-ltb (i - (net_at b).places) (net_at b).acts (omega arith), s) refl

-- a line behind tests of which none applies
known : {tests : List (Bool × ℕ)} {line line' lent : List ℕ} {r : Result ℕ LineError} {left : List ℕ} → first tests ≡ 0 → All (λ (t : Bool × ℕ). 0 < t.1) tests → line ≡ line'
    → Writes tests line lent r left → Writes [] line' lent r left
unfolding line_code
known {tests} {line} {line'} {lent} {r} {left} e p s w =
    let f = first_then tests ((ltb (length lent) (length line), 61) ∷ []) e p in
    same_line s (record { code = w.code ∙ f; size = rw f at w.size; few = w.few; bytes = rw f at w.bytes })

module _ (b : List ℕ) {line line' lent : List ℕ} {r : Result ℕ LineError} {left : List ℕ} where
  pub known-place : (q : ℕ) → q < (net_at b).places → line ≡ line' → Writes (place_tests b q) line lent r left → Writes [] line' lent r left
  known-place q h = known (rw (lt-leb (net_at b).places q h)) (omega arith, tt)

  pub known-act : (a : ℕ) → a < (net_at b).acts → line ≡ line' → Writes (act_tests b a) line lent r left → Writes [] line' lent r left
  known-act a h = known (rw (lt-leb (net_at b).acts a h)) (omega arith, tt)

  pub known-pair : (x y : ℕ) → x < (net_at b).places → y < (net_at b).places → line ≡ line' → Writes (pair_tests b x y) line lent r left → Writes [] line' lent r left
  known-pair x y h k = known (rw (lt-leb (net_at b).places x h, lt-leb (net_at b).places y k)) (omega arith, (omega arith, tt))

-- The report is its lines one behind the other, and so it is the parts that fit a buffer, one behind the other. Assumes nothing.
use Prim.Native.Nat.{ℕ, zero, suc, ◌+◌, ◌*◌, ◌-◌, ◌/◌, ◌%◌, ◌<◌, ◌≤◌}
use mathlib.Core.Bool.{Bool, true, false}
use mathlib.Core.Path.{◌≡◌, refl, ap, sym, ◌∙◌}
use mathlib.Core.List.{List, [], ◌∷◌, ◌++◌, map, append-nil, append_assoc}
use native.Mathlib.Omega.{arith}
use lib.Dec.{ltb}
use borrow.Author.Tests.{ltb-true, ltb-false}
use Rattle.words.specs.Lists.{upto}
use Rattle.replay.specs.Calls.{net_at}
use Rattle.replay.specs.Ready.{Ready}
use Rattle.replay.specs.Rows.{pairs_below}
use Rattle.report.specs.TrailLines.{trail_line_at, place_line_at, act_line_at}
use Rattle.report.specs.Report.{text_of, pair_line_at, report_at}
use Rattle.report.specs.Lengths.{max_line}
use Rattle.report.proofs.ReportLaws.{joined}
use Rattle.report_parts.specs.Parts.{lines_on, lines_in, line_at, lines_from, fits, part_from, parts_from}
use Rattle.report_parts.proofs.LineLaws.{line-trail, line-place, line-act, line-pair}
use Rattle.report_parts.proofs.PutLaws.{fits_le}
use Rattle.report_parts.proofs.SizeLaws.{some_fits}

-- texts of numbers, of numbers that are d higher, of images, and one behind the other
text-shift : (f g : ℕ → List ℕ) (d n i j : ℕ) → j ≡ d + i → ((k l : ℕ) → l ≡ d + k → k < i + n → g k ≡ f l) → text_of f (upto n j) ≡ text_of g (upto n i)
text-shift f g d zero i j e h = refl
text-shift f g d (suc n) i j e h =
    joined (sym (h i j e (omega arith))) (text-shift f g d n (suc i) (suc j) (omega arith) (λ k l q m. h k l q (omega arith)))

text-map : (f : ℕ × ℕ → List ℕ) (g : ℕ → ℕ × ℕ) (xs : List ℕ) → text_of f (map g xs) ≡ text_of (λ (i : ℕ). f (g i)) xs
text-map f g [] = refl
text-map f g (x ∷ xs) = ap (λ (l : List ℕ). f (g x) ++ l) (text-map f g xs)

text-join : (f : ℕ → List ℕ) (m n s i j : ℕ) → s ≡ m + n → j ≡ m + i → text_of f (upto s i) ≡ text_of f (upto m i) ++ text_of f (upto n j)
text-join f zero n s i j e k = let d : s ≡ n = omega arith in let l : i ≡ j = omega arith in rw (d, l)
text-join f (suc m) n zero i j e k = absurd (omega arith)
text-join f (suc m) n (suc s) i j e k = rw append_assoc (ap (λ (l : List ℕ). f i ++ l) (text-join f m n s (suc i) j (omega arith) (omega arith)))

module _ (b : List ℕ) where
  -- lines behind lines
  pub lines_join : (m n i : ℕ) → lines_from b (m + n) i ≡ lines_from b m i ++ lines_from b n (m + i)
  lines_join m n i = text-join (line_at b) m n (m + n) i (m + i) refl refl

  abbrev P : ℕ
  P = (net_at b).places

  abbrev A : ℕ
  A = (net_at b).acts

  first-line : lines_from b 1 0 ≡ trail_line_at b
  first-line = append-nil (line_at b 0) ∙ sym (line-trail b 0 refl)

  place-lines : (j : ℕ) → j ≡ 1 → lines_from b P j ≡ text_of (place_line_at b) (upto P 0)
  place-lines j e = text-shift (line_at b) (place_line_at b) 1 P 0 j (omega arith) (λ k l q h. line-place b l k q (omega arith))

  act-lines : (j : ℕ) → j ≡ 1 + P → lines_from b A j ≡ text_of (act_line_at b) (upto A 0)
  act-lines j e = text-shift (line_at b) (act_line_at b) (1 + P) A 0 j (omega arith) (λ k l q h. line-act b l k q (omega arith))

  pair-lines : (j : ℕ) → j ≡ 1 + P + A → lines_from b (P * P) j ≡ text_of (pair_line_at b) (pairs_below P)
  pair-lines j e =
      text-shift (line_at b) (λ (k : ℕ). pair_line_at b (k / P, k % P)) (1 + P + A) (P * P) 0 j (omega arith) (λ k l q h. line-pair b l k q)
      ∙ sym (text-map (pair_line_at b) (λ (i : ℕ). (i / P, i % P)) (upto (P * P) 0))

  -- the report is all its lines
  pub report-lines : report_at b ≡ lines_from b (lines_in b) 0
  unfolding report_at lines_on
  report-lines =
      sym (lines_join (1 + P + A) (P * P) 0
      ∙ joined (lines_join (1 + P) A 0 ∙ joined (lines_join 1 P 0 ∙ joined first-line (place-lines (1 + 0) refl)) (act-lines (1 + P + 0) (omega arith)))
      (pair-lines (1 + P + A + 0) (omega arith))
      ∙ simp append_assoc)

-- parts with room for a line are the whole report, one behind the other
module _ (w b : List ℕ) (R : Ready w b) (room : ℕ) (h : max_line ≤ room) where
  parts_from_lem : (times i : ℕ) → i ≤ lines_in b → lines_in b - i ≤ times → parts_from b room times i ≡ lines_from b (lines_in b - i) i
  unfolding part_from
  parts_from_lem zero i l t = let z : lines_in b - i ≡ 0 = omega arith in rw z
  parts_from_lem (suc times) i l t =
      let n = fits b i room in
      let m : n ≤ lines_in b - i = fits_le b i room in
      let s : n + (lines_in b - (i + n)) ≡ lines_in b - i = omega arith in
      let c : n + i ≡ i + n = omega arith in
      ap (λ (r : List ℕ). lines_from b n i ++ r) (parts_from_lem times (i + n) (omega arith) (go n (ltb i (lines_in b)) refl (some_fits w b R i room)) ∙ ap (lines_from b (lines_in b - (i + n))) (sym c))
      ∙ sym (lines_join b n (lines_in b - (i + n)) i)
      ∙ ap (λ (k : ℕ). lines_from b k i) s
    where
      go : (n : ℕ) (t : Bool) → ltb i (lines_in b) ≡ t → (i < lines_in b → max_line ≤ room → 0 < n) → lines_in b - (i + n) ≤ times
      go n true e f = omega (arith, f (ltb-true i (lines_in b) e) h)
      go n false e f = omega (arith, ltb-false i (lines_in b) e)

  pub parts_are : parts_from b room (lines_in b) 0 ≡ report_at b
  parts_are =
      let z : lines_in b - 0 ≡ lines_in b = omega arith in
      parts_from_lem (lines_in b) 0 (omega arith) (omega arith) ∙ ap (λ (n : ℕ). lines_from b n 0) z ∙ sym (report-lines b)

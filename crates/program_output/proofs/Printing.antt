-- What is printed, part by part, is the report. Assumes nothing.
use Prim.Native.Nat.{ℕ, ◌+◌, ◌≤◌}
use mathlib.Core.Path.{◌≡◌, ap, sym, subst, ◌∙◌}
use mathlib.Core.List.{List, ◌++◌}
use native.Mathlib.Omega.{arith}
use lib.ListN.{length, take, drop}
use lib.Seq.{take-append_seam}
use Rattle.std.specs.Prelude.{Option}
use Rattle.std.specs.Io.KnownBytes.{Appends}
use Rattle.std.proofs.KnownBytes.{Appends-trans}
use Rattle.report.specs.Report.{report_at}
use Rattle.report_parts.specs.Parts.{lines_in, lines_from, fits, part_from, Puts}
use Rattle.report_parts.specs.declared.Part.{Part}
use Rattle.report_parts.proofs.PartLaws.{lines_join, report-lines}
use Rattle.report_parts.proofs.PutLaws.{fits_le}

-- what a writer holds: first `start`, and `old` once the lines up to line i are printed
module _ (b : List ℕ) (start old : Option (List ℕ)) (i : ℕ) (printed : Appends start old (lines_from b i 0)) where
  -- a part more
  pub printed-part : (lent : List ℕ) (r : Part) (left : List ℕ) → Puts b i lent r left → (new : Option (List ℕ)) → Appends old new (take r.size left) → Appends start new (lines_from b r.next 0)
  unfolding part_from
  printed-part lent r left p new w =
      let n : ℕ = fits b i (length lent) in
      let z : i + 0 ≡ i = omega arith in
      let t : take r.size left ≡ lines_from b n i = rw (p.size, p.bytes) (take-append_seam (lines_from b n i) (drop (length (lines_from b n i)) lent)) in
      let e : lines_from b i 0 ++ take r.size left ≡ lines_from b r.next 0 =
      ap (λ (l : List ℕ). lines_from b i 0 ++ l) (t ∙ ap (lines_from b n) (sym z)) ∙ sym (lines_join b i n 0) ∙ ap (λ (k : ℕ). lines_from b k 0) (sym p.next) in
      subst (Appends start new) e (Appends-trans start old new (lines_from b i 0) (take r.size left) printed w)

  -- all lines
  pub printed-all : i ≡ lines_in b → Appends start old (report_at b)
  printed-all e = subst (Appends start old) (ap (λ (k : ℕ). lines_from b k 0) e ∙ sym (report-lines b)) printed

-- no part goes past the last line
pub part-within : (b : List ℕ) (i : ℕ) (lent : List ℕ) (r : Part) (left : List ℕ) → Puts b i lent r left → i ≤ lines_in b → r.next ≤ lines_in b
part-within b i lent r left p h = omega (arith, p.next, fits_le b i (length lent))

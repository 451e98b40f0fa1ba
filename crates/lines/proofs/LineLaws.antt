-- Laws of lines: the fields one by one, the length of a line, and a line written into a lent part. Assumes nothing.
use mathlib.Core.Path.{◌≡◌, refl, ap, sym, subst, ◌∙◌}
use mathlib.Core.Bool.{Bool}
use mathlib.Core.List.{List, [], ◌∷◌, ◌++◌}
use Prim.Native.Nat.{ℕ, ◌+◌, ◌*◌, ◌≤◌, ◌<◌, min}
use Rattle.std.specs.Prelude.{sum_by}
use Rattle.std.proofs.lemmas.List.Sums.{sum_by-cons}
use native.Mathlib.Numerals.{add-one}
use native.Mathlib.Omega.{arith}
use lib.ListN.{length, get_or, drop, length-append, drop_of_length-le}
use lib.Seq.{drop-cons}
use lib.Dec.{ltb}
use borrow.Author.Tests.{lt-ltb, le-ltb, ne_eqb}
use Rattle.words.specs.Lists.{All, over}
use Rattle.words.specs.Refusals.{first}
use Rattle.words.proofs.Refusals.{first_then, first-stays}
use Rattle.text.specs.Fields.{word_text, field_text}
use Rattle.lines.specs.Lines.{fields_text, line_of}
use Rattle.lines.specs.Answer.{line_answer_code, size_of, line_code, Writes}
use Rattle.text.specs.declared.field.Word.{Word}
use Rattle.text.specs.declared.field.Field.{Field}
use Rattle.text.specs.declared.field.Field.TheVariants.{Nothing}
use Rattle.std.specs.Prelude.{Result, Ok, Err}
use Rattle.lines.specs.declared.LineError.{LineError}
use Rattle.lines.specs.declared.LineError.TheVariants.{NoRoom}

-- the fields from number i on: field i, and the others; past the last one the line feed
pub fields-step : (fs : List Field) (i : ℕ) → i < length fs → fields_text (drop i fs) ≡ field_text (get_or fs i Nothing) ++ fields_text (drop (i + 1) fs)
fields-step fs i h = rw (add-one, drop-cons fs i Nothing)

pub fields-step-length : (fs : List Field) (i : ℕ) → i < length fs
    → length (fields_text (drop i fs)) ≡ length (field_text (get_or fs i Nothing)) + length (fields_text (drop (i + 1) fs))
fields-step-length fs i h =
    ap length (fields-step fs i h) ∙ length-append (field_text (get_or fs i Nothing)) (fields_text (drop (i + 1) fs))

pub fields-end : (fs : List Field) (i : ℕ) → length fs ≤ i → fields_text (drop i fs) ≡ 10 ∷ []
fields-end fs i h = ap fields_text (drop_of_length-le fs h)

pub line-length : (w : Word) (fs : List Field) → length (line_of w fs) ≡ length (word_text w) + length (fields_text fs)
unfolding line_of
line-length w fs = length-append (word_text w) (fields_text fs)

pub same_line : {tests : List (Bool × ℕ)} {line line' lent : List ℕ} {r : Result ℕ LineError} {left : List ℕ} → line ≡ line'
    → Writes tests line lent r left → Writes tests line' lent r left
same_line {tests} {line} {line'} {lent} {r} {left} e w = subst (λ (l : List ℕ). Writes tests l lent r left) e w

-- the ways in which writing a line ends
module _ (line lent : List ℕ) where
  pub no_room : length lent < length line → Writes [] line lent (Err NoRoom) lent
  unfolding line_code
  no_room h =
      let t = lt-ltb (length lent) (length line) h in
      record { code = rw t; size = rw t; few = omega arith; bytes = rw t }

  pub with-room : (n : ℕ) (left : List ℕ) → length line ≤ length lent → n ≡ length line → n ≤ 113 → left ≡ over line lent
      → Writes [] line lent (Ok n) left
  unfolding line_code
  with-room n left h e m l =
      let t = le-ltb (length lent) (length line) h in
      record { code = rw t; size = rw t e; few = m; bytes = rw t l }

  pub refused : (tests : List (Bool × ℕ)) (r : Result ℕ LineError) → line_answer_code r ≡ first tests → 0 < line_answer_code r → size_of r ≡ 0
      → Writes tests line lent r lent
  unfolding line_code
  refused tests r e p s =
      let f = first-stays tests ((ltb (length lent) (length line), 61) ∷ []) (λ z. omega (arith, e, z)) in
      let t = ne_eqb (line_code tests line lent) 0 (λ z. omega (arith, e, f, z)) in
      record { code = e ∙ sym f; size = rw t s; few = omega arith; bytes = rw t }

  pub passed : (tests : List (Bool × ℕ)) (r : Result ℕ LineError) (left : List ℕ) → first tests ≡ 0 → All (λ (t : Bool × ℕ). 0 < t.1) tests
      → Writes [] line lent r left → Writes tests line lent r left
  unfolding line_code
  passed tests r left e p w =
      let f = first_then tests ((ltb (length lent) (length line), 61) ∷ []) e p in
      record { code = rw f w.code; size = rw f w.size; few = w.few; bytes = rw f w.bytes }

-- the fields' lengths, and the line feed
pub fields_sum : (fs : List Field) → length (fields_text fs) ≡ sum_by (λ (f : Field). length (field_text f)) fs + 1
fields_sum [] = refl
fields_sum (f ∷ fs) = omega (arith, length-append (field_text f) (fields_text fs), sum_by-cons (λ (f : Field). length (field_text f)) f fs, fields_sum fs)

-- what is summed up, where each field has at most 21 bytes
pub short_sum : (fs : List Field) → sum_by (λ (f : Field). min 21 (length (field_text f))) fs ≤ 21 * length fs
short_sum [] = omega arith
short_sum (f ∷ fs) = omega (arith, sum_by-cons (λ (f : Field). min 21 (length (field_text f))) f fs, short_sum fs)

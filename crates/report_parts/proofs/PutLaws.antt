-- Lines put into a lent part one behind the other. Assumes nothing.
use Prim.Native.Nat.{ℕ, zero, suc, ◌+◌, ◌-◌, ◌≤◌, ◌<◌}
use mathlib.Core.Bool.{Bool, true, false}
use mathlib.Core.Path.{◌≡◌, refl, ap, ap₂, sym, ◌∙◌}
use mathlib.Core.List.{List, [], ◌++◌}
use native.Mathlib.Numerals.{add-one}
use native.Mathlib.Omega.{arith}
use lib.Dec.{eqb, ltb}
use lib.ListN.{length, take, drop, take-append-drop, length-append, length-drop}
use borrow.Author.Tests.{lt-ltb, le-ltb, ltb-true, ltb-false}
use Rattle.words.specs.Lists.{pick, over}
use Rattle.words.proofs.Over.{over_at, part, part-back, from_start, behind, length-over_at}
use Rattle.lines.specs.declared.LineError.TheVariants.{UnknownPlace, UnknownActivity, NoRoom}
use Rattle.lines.specs.Answer.{line_error_code, line_answer_code, size_of, line_code, Writes}
use Rattle.std.specs.Prelude.{Result}
use Rattle.lines.specs.declared.LineError.{LineError}
use Rattle.report_parts.specs.Parts.{lines_in, line_at, lines_from, fitting, fits, part_from, Puts}

-- no refusal has the number 0
pub error_code : (e : LineError) → line_error_code e ≡ 0 → ⊥
error_code UnknownPlace z = omega arith
error_code UnknownActivity z = omega arith
error_code NoRoom z = omega arith

-- a line that was written, and one that was not
module _ {line lent : List ℕ} {r : Result ℕ LineError} {left : List ℕ} (w : Writes [] line lent r left) where
  wrote : line_answer_code r ≡ 0 → (length line ≤ length lent) × (size_of r ≡ length line) × (left ≡ over line lent)
  unfolding line_code
  wrote e = go (ltb (length lent) (length line)) (ltb-false _ _) w.code w.size w.bytes
    where
      go : (t : Bool) → (t ≡ false → length line ≤ length lent) → line_answer_code r ≡ pick t 61 0 → size_of r ≡ pick (eqb (pick t 61 0) 0) (length line) 0
          → left ≡ pick (eqb (pick t 61 0) 0) (over line lent) lent → (length line ≤ length lent) × (size_of r ≡ length line) × (left ≡ over line lent)
      go true h c s l = absurd (omega arith)
      go false h c s l = (h refl, s, l)

  left_out : (line_answer_code r ≡ 0 → ⊥) → (length lent < length line) × (left ≡ lent)
  unfolding line_code
  left_out n = go (ltb (length lent) (length line)) (ltb-true _ _) w.code w.bytes
    where
      go : (t : Bool) → (t ≡ true → length lent < length line) → line_answer_code r ≡ pick t 61 0 → left ≡ pick (eqb (pick t 61 0) 0) (over line lent) lent
          → (length lent < length line) × (left ≡ lent)
      go true h c l = (h refl, l)
      go false h c l = absurd (n c)

-- the lines from line i on in so many bytes
module _ (b : List ℕ) (i room : ℕ) where
  -- past the last line
  fits-end : lines_in b ≤ i → fits b i room ≡ 0
  unfolding fits
  fits-end h = go (lines_in b - i) (omega arith)
    where
      go : (left : ℕ) → left ≡ 0 → fitting b left i room ≡ 0
      go zero e = refl
      go (suc left) e = absurd (omega arith)

  -- where line i does not fit
  fits-none : room < length (line_at b i) → fits b i room ≡ 0
  unfolding fits
  fits-none h = go (lines_in b - i)
    where
      go : (left : ℕ) → fitting b left i room ≡ 0
      go zero = refl
      go (suc left) = rw (lt-ltb room (length (line_at b i)) h) refl

  -- where it does
  pub fits_more : i < lines_in b → length (line_at b i) ≤ room → fits b i room ≡ suc (fits b (suc i) (room - length (line_at b i)))
  unfolding fits
  fits_more h l = go (lines_in b - i) (lines_in b - suc i) (omega arith)
    where
      go : (left m : ℕ) → left ≡ suc m → fitting b left i room ≡ suc (fitting b m (suc i) (room - length (line_at b i)))
      go left m e = rw (e, le-ltb room (length (line_at b i)) l) refl

  pub fits_le : fits b i room ≤ lines_in b - i
  unfolding fits
  fits_le = go (lines_in b - i) i room
    where
      go : (left i room : ℕ) → fitting b left i room ≤ left
      go zero i room = omega arith
      go (suc left) i room = step (ltb room (length (line_at b i))) (go left (suc i) (room - length (line_at b i)))
        where
          step : {k : ℕ} (t : Bool) → k ≤ left → pick t 0 (suc k) ≤ suc left
          step true h = omega arith
          step false h = omega arith

  -- they take no more than there is room for
  pub part-fits : length (part_from b i room) ≤ room
  unfolding part_from fits
  part-fits = go (lines_in b - i) i room
    where
      go : (left i room : ℕ) → length (lines_from b (fitting b left i room) i) ≤ room
      go zero i room = omega arith
      go (suc left) i room = step (ltb room (length (line_at b i))) refl _ (go left (suc i) (room - length (line_at b i)))
        where
          step : (t : Bool) → ltb room (length (line_at b i)) ≡ t → (m : ℕ) → length (lines_from b m (suc i)) ≤ room - length (line_at b i)
              → length (lines_from b (pick t 0 (suc m)) i) ≤ room
          step true e m h = omega arith
          step false e m h = omega (arith, length-append (line_at b i) (lines_from b m (suc i)), ltb-false room (length (line_at b i)) e)

  part_none : fits b i room ≡ 0 → part_from b i room ≡ []
  unfolding part_from
  part_none e = ap (λ (n : ℕ). lines_from b n i) e

  part-more : i < lines_in b → length (line_at b i) ≤ room → part_from b i room ≡ line_at b i ++ part_from b (suc i) (room - length (line_at b i))
  unfolding part_from
  part-more h l = ap (λ (n : ℕ). lines_from b n i) (fits_more h l)

-- the lines from line `from` on are put up to line i, which is to start at byte `at`: what is still to be put completes them
pub record Putting (b : List ℕ) (from : ℕ) (lent : List ℕ) (i at : ℕ) (out : List ℕ) : Type 0 where
  pub same : length out ≡ length lent
  pub inside : at ≤ length lent
  pub next : i + fits b i (length lent - at) ≡ from + fits b from (length lent)
  pub size : at + length (part_from b i (length lent - at)) ≡ length (part_from b from (length lent))
  pub bytes : over_at at (part_from b i (length lent - at)) out ≡ over (part_from b from (length lent)) lent

module _ (b : List ℕ) (from : ℕ) (lent : List ℕ) where
  pub putting : Putting b from lent from 0 lent
  putting =
      let z : length lent - 0 ≡ length lent = omega arith in
      record {
        same = refl;
        inside = omega arith;
        next = rw z;
        size = rw z (omega arith);
        bytes = rw z (from_start (part_from b from (length lent)) lent);
      }

  module _ (i at : ℕ) (out : List ℕ) (P : Putting b from lent i at out) where
    -- line i is written behind the others
    more : (m : ℕ) (out' : List ℕ) → i < lines_in b → length (line_at b i) ≤ length lent - at → m ≡ at + length (line_at b i)
        → out' ≡ over_at at (line_at b i) out → Putting b from lent (i + 1) m out'
    more m out' h l e q =
        let line = line_at b i in
        let rest = part_from b (i + 1) (length lent - m) in
        let room : length lent - at - length line ≡ length lent - m = omega arith in
        let f : fits b i (length lent - at) ≡ suc (fits b (i + 1) (length lent - m)) =
        fits_more b i (length lent - at) h l ∙ ap₂ (λ (j k : ℕ). suc (fits b j k)) (sym (add-one i)) room in
        let p : part_from b i (length lent - at) ≡ line ++ rest =
        part-more b i (length lent - at) h l ∙ ap₂ (λ (j k : ℕ). line ++ part_from b j k) (sym (add-one i)) room in
        let end : m ≤ length out = omega (arith, P.same, P.inside) in
        record {
          same = ap length q ∙ length-over_at at line out (omega arith) ∙ P.same;
          inside = omega (arith, P.inside);
          next = omega (arith, f, P.next);
          size = omega (arith, ap length p, length-append line rest, P.size);
          bytes = ap (over_at m rest) q ∙ behind at m line rest out e end ∙ ap (λ (x : List ℕ). over_at at x out) (sym p) ∙ P.bytes;
        }

    -- no line fits any more
    all : (out' : List ℕ) → fits b i (length lent - at) ≡ 0 → out' ≡ over_at at [] out → Puts b from lent (record { next = i; size = at }) out'
    all out' e q =
        let p = part_none b i (length lent - at) e in
        record {
          next = omega (arith, P.next);
          size = omega (arith, P.size, ap length p);
          bytes = q ∙ ap (λ (x : List ℕ). over_at at x out) (sym p) ∙ P.bytes;
        }

    -- past the last line
    pub put-end : lines_in b ≤ i → Puts b from lent (record { next = i; size = at }) out
    unfolding over_at
    put-end h = all out (fits-end b i (length lent - at) h) (sym (take-append-drop at out))

    -- the part behind the lines is lent to line i
    module _ (r : Result ℕ LineError) (left : List ℕ) (w : Writes [] (line_at b i) (take (length out - at) (drop at out)) r left) where
      room : length (take (length out - at) (drop at out)) ≡ length lent - at
      room = ap length (part out at) ∙ length-drop at out ∙ ap (λ (n : ℕ). n - at) P.same

      pub put-line : i < lines_in b → line_answer_code r ≡ 0 → (n : ℕ) → n ≡ size_of r
          → Putting b from lent (i + 1) (at + n) (take at out ++ (left ++ drop (length out - at) (drop at out)))
      put-line h e n q =
          let v = wrote w e in
          more (at + n) _ h (omega (arith, v.0, room)) (omega (arith, v.1)) (part-back out at (line_at b i) left v.2)

      pub put-no-line : (line_answer_code r ≡ 0 → ⊥)
          → Puts b from lent (record { next = i; size = at }) (take at out ++ (left ++ drop (length out - at) (drop at out)))
      put-no-line n =
          let v = left_out w n in
          all _ (fits-none b i (length lent - at) (omega (arith, v.0, room))) (part-back out at [] left v.1)

-- Every line of a sound state that has a FIT shows it rounded as A.7 asks, also where no trail wrote the state. Assumes nothing.
use Prim.Native.Nat.{ℕ, zero, suc, ◌+◌, ◌/◌, ◌%◌, ◌≤◌, ◌<◌}
use Rattle.std.specs.Prelude.{Option, Some, None}
use mathlib.Core.Bool.{Bool, true, false}
use mathlib.Core.Path.{◌≡◌, refl, ap, sym, subst, ◌∙◌}
use mathlib.Core.List.{List, [], ◌∷◌, ◌++◌}
use native.Mathlib.Omega.{arith}
use lib.Dec.{ltb}
use borrow.Author.Tests.{eq-eqb, ne_eqb}
use Rattle.words.specs.Lists.{All, pick}
use Rattle.words.proofs.Lists.{All-append}
use Rattle.replay.specs.Sound.{Sound}
use Rattle.replay.specs.Claims.{PartOf}
use Rattle.replay.specs.Calls.{net_at, state_at}
use Rattle.replay.proofs.Within.{jumps-within}
use Rattle.fitness.specs.Fitness.{thousandths, fitness, fitness_text}
use Rattle.fitness.specs.Rounding.{Rounded}
use Rattle.fitness.proofs.RoundingLaws.{thousandths-rounded}
use Rattle.text.specs.Decimal.{digits_in, decimal}
use Rattle.text.specs.Fields.{word_text}
use Rattle.text.specs.declared.field.Word.{Word}
use Rattle.text.specs.declared.field.Word.TheVariants.{Trail, Place, Act, Jump, Refused}
use Rattle.text.specs.declared.field.Field.{Field}
use Rattle.text.specs.declared.field.Field.TheVariants as field
use Rattle.lines.specs.Lines.{fields_text, line_of}
use Rattle.report.specs.TrailLines.{trail_line_at, place_line_at, act_line_at}
use Rattle.report.specs.Figures.{ends, piece_at, figure_of, in_thousandths, ShowsFitness, LinesRounded}

-- no byte of a word, a number or FIT is a space or a line feed
abbrev Dark : List ℕ → Type 0
Dark xs = All (λ (c : ℕ). 32 < c) xs

word-dark : (w : Word) → Dark (word_text w)
word-dark Trail = omega arith
word-dark Place = omega arith
word-dark Act = omega arith
word-dark Jump = omega arith
word-dark Refused = omega arith

digits-dark : (f n : ℕ) → Dark (digits_in f n)
digits-dark zero n = tt
digits-dark (suc f) n = go (ltb n 10) (digits-dark f (n / 10))
  where
    go : (t : Bool) → Dark (digits_in f (n / 10)) → Dark (pick t ((48 + n) ∷ []) (digits_in f (n / 10) ++ ((48 + n % 10) ∷ [])))
    go true d = (omega arith, tt)
    go false d = All-append (λ (c : ℕ). 32 < c) (digits_in f (n / 10)) ((48 + n % 10) ∷ []) d (omega arith, tt)

number-dark : (n : ℕ) → Dark (decimal n)
unfolding decimal
number-dark n = digits-dark (suc n) n

fitness-dark : (f : Option ℕ) → Dark (fitness_text f)
fitness-dark None = omega arith
fitness-dark (Some n) = omega arith

-- a piece that is passed over, and the piece that is asked for
skip : (k : ℕ) (xs ys : List ℕ) → Dark xs → piece_at (suc k) (xs ++ (32 ∷ ys)) ≡ piece_at k ys
skip k [] ys d = refl
skip k (x ∷ xs) ys d = rw (ne_eqb x 32 (λ e. omega arith)) (skip k xs ys d.1)

take-piece : (xs : List ℕ) (c : ℕ) (ys : List ℕ) → Dark xs → ends c ≡ true → piece_at 0 (xs ++ (c ∷ ys)) ≡ xs
take-piece [] c ys d e = rw e refl
take-piece (x ∷ xs) c ys d e =
    rw (ne_eqb x 32 (λ e. omega arith), ne_eqb x 10 (λ e. omega arith)) (ap (λ (l : List ℕ). x ∷ l) (take-piece xs c ys d.1 e))

-- whatever fields follow it
before-fields : (xs : List ℕ) (fs : List Field) → Dark xs → piece_at 0 (xs ++ fields_text fs) ≡ xs
before-fields xs [] d = take-piece xs 10 [] d refl
before-fields xs (field.Nothing ∷ fs) d = before-fields xs fs d
before-fields xs (field.Number n ∷ fs) d = take-piece xs 32 _ d refl
before-fields xs (field.Fitness jumps transfers ∷ fs) d = take-piece xs 32 _ d refl

-- a line of four numbers, FIT and other fields, if there are any
figure-is : (w : Word) (a b c d jumps transfers : ℕ) (fs : List Field)
    → figure_of (line_of w (field.Number a ∷ field.Number b ∷ field.Number c ∷ field.Number d ∷ field.Fitness jumps transfers ∷ fs)) ≡ fitness_text (fitness jumps transfers)
unfolding line_of
figure-is w a b c d jumps transfers fs =
    skip 4 (word_text w) _ (word-dark w)
    ∙ skip 3 (decimal a) _ (number-dark a)
    ∙ skip 2 (decimal b) _ (number-dark b)
    ∙ skip 1 (decimal c) _ (number-dark c)
    ∙ skip 0 (decimal d) _ (number-dark d)
    ∙ before-fields (fitness_text (fitness jumps transfers)) fs (fitness-dark (fitness jumps transfers))

-- thousandths that are written and read back
read_back : (n : ℕ) → in_thousandths (fitness_text (Some n)) ≡ n
read_back n = omega arith

shows : {line : List ℕ} {jumps transfers : ℕ} → PartOf jumps transfers → figure_of line ≡ fitness_text (fitness jumps transfers) → ShowsFitness line jumps transfers
unfolding fitness
shows {line} {jumps} {transfers} P e = record {
  part = P.at_most;
  none = none;
  some = some;
  rounded = λ h.
      subst (λ (n : ℕ). Rounded n jumps transfers) (sym (read_back (thousandths jumps transfers)) ∙ ap in_thousandths (sym (some h)))
      (thousandths-rounded jumps transfers h P.at_most);
}
  where
    none : transfers ≡ 0 → figure_of line ≡ fitness_text None
    none z = e ∙ rw (eq-eqb transfers 0 z)

    some : 1 ≤ transfers → figure_of line ≡ fitness_text (Some (thousandths jumps transfers))
    some h = e ∙ rw (ne_eqb transfers 0 (λ z. omega arith))

pub lines-rounded : (b : List ℕ) → Sound (net_at b) (state_at b) → LinesRounded b
unfolding trail_line_at place_line_at act_line_at
lines-rounded b S =
    let W = jumps-within (net_at b) (state_at b) S in
    record {
      trail = shows W.of-trail (figure-is Trail _ _ _ _ _ _ _);
      place = λ q h. shows (W.of-place q h) (figure-is Place _ _ _ _ _ _ _);
      act = λ a h. shows (W.of-act a h) (figure-is Act _ _ _ _ _ _ _);
    }

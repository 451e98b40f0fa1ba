-- The answer of writing on a lent trail, by what came of its check. Assumes nothing.
use Prim.Native.Nat.{ℕ}
use mathlib.Core.Bool.{Bool}
use mathlib.Core.Path.{◌≡◌, ◌∙◌}
use mathlib.Core.List.{List}
use Rattle.lines.specs.Answer.{line_answer_code, size_of, Writes}
use Rattle.std.specs.Prelude.{Result}
use Rattle.lines.specs.declared.LineError.{LineError}
use Rattle.client_answers.specs.Answers.{packed}
use Rattle.client_check.specs.Checked.{Checked}
use Rattle.client_check.proofs.Checks.{stop-answer, stop-bytes, go-answer, go-bytes}
use Rattle.client_calls.specs.Writing.{write_answer, write_leaves}

module _ (b w : List ℕ) (r : ℕ) (C : Checked b w r) (tests : List (Bool × ℕ)) (x lent : List ℕ) where
  -- the trail is refused
  pub write-stops : (r ≡ 0 → ⊥) → (r ≡ write_answer b tests x lent) × (lent ≡ write_leaves b tests x lent)
  unfolding write_answer write_leaves
  write-stops n = (stop-answer b w r C n _, stop-bytes b w r C n _ lent)

  -- the trail is taken
  pub write_goes : r ≡ 0 → (a : Result ℕ LineError) (left : List ℕ) (n : ℕ) → Writes tests x lent a left → n ≡ packed (line_answer_code a) (size_of a)
      → (n ≡ write_answer b tests x lent) × (left ≡ write_leaves b tests x lent)
  unfolding write_answer write_leaves
  write_goes z a left n W e = (cc (W.code, W.size, e) ∙ go-answer b w r C z _, W.bytes ∙ go-bytes b w r C z _ lent)

-- FIT has at most 1,000 thousandths; the digits of a digit code, and five bytes over the start of lent bytes. Assumes nothing.
use mathlib.Core.Path.{◌≡◌}
use mathlib.Core.List.{List, [], ◌∷◌}
use Rattle.std.specs.Prelude.{Some}
use Prim.Native.Nat.{ℕ, ◌+◌, ◌*◌, ◌/◌, ◌%◌, ◌≤◌, ◌<◌}
use native.Mathlib.Omega.{arith}
use lib.ListN.{length, set}
use Rattle.words.specs.Lists.{over}
use Rattle.words.proofs.Over.{sets_over}
use Rattle.digits.specs.Code.{digit_code, hundreds, tens, units}
use Rattle.fitness.specs.Fitness.{thousandths, fitness}
use Rattle.fitness.proofs.RoundingLaws.{most-le}

pub thousandths_le : (jumps transfers n : ℕ) → fitness jumps transfers ≡ Some n → n ≤ 1000
unfolding fitness thousandths
thousandths_le jumps transfers n e = grind (arith, most-le)

pub five : (a b c d e : ℕ) (xs : List ℕ) → 5 ≤ length xs → set (set (set (set (set xs 0 a) 1 b) 2 c) 3 d) 4 e ≡ over (a ∷ b ∷ c ∷ d ∷ e ∷ []) xs
five a b c d e xs h = sets_over (a ∷ b ∷ c ∷ d ∷ e ∷ []) xs h

-- three bytes packed into one number come back out of it
middle : (a b c : ℕ) → b < 256 → c < 256 → (a * 65536 + b * 256 + c) / 256 % 256 ≡ b
middle a b c h k =
    let q : (a * 65536 + b * 256 + c) / 256 ≡ a * 256 + b = omega arith in
    rw q (omega arith)

module _ (n : ℕ) (h : n < 1000) where
  pub code-hundreds : digit_code n / 65536 ≡ hundreds n
  code-hundreds = omega arith

  pub code-tens : digit_code n / 256 % 256 ≡ tens n
  code-tens = middle (hundreds n) (tens n) (units n) (omega arith) (omega arith)

  pub code-units : digit_code n % 256 ≡ units n
  code-units = omega arith

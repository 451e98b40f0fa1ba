-- FIT: 1 - jumps/transfers in thousandths, to the nearest one, and how it is written.
use Rattle.std.specs.Prelude.{ℕ, ◌+◌, ◌*◌, ◌-◌, ◌/◌, ◌%◌, min, Option, Some, None, List, [], ◌∷◌, eqb}
use Rattle.words.specs.Lists.{pick}
use Rattle.digits.specs.Code.{hundreds, tens, units}

-- the thousandth nearest to 1 - jumps/transfers, a half going up, where there are transfers
abbrev pub nearest : ℕ → ℕ → ℕ
nearest jumps transfers = (2000 * (transfers - jumps) + transfers) / (2 * transfers)

-- the most that is shown: 1.000 where there is no jump, 0.999 with one or more
abbrev pub most_shown : ℕ → ℕ
most_shown jumps = pick (eqb jumps 0) 1000 999

-- the thousandths that are shown, where there are transfers
unfoldable pub thousandths : ℕ → ℕ → ℕ
thousandths jumps transfers = min (most_shown jumps) (nearest jumps transfers)

-- none where the divisor is 0
unfoldable pub fitness : ℕ → ℕ → Option ℕ
fitness jumps transfers = pick (eqb transfers 0) None (Some (thousandths jumps transfers))

-- `-`, or one digit, a point and the three digits of the thousandths
abbrev pub fitness_text : Option ℕ → List ℕ
fitness_text None = 45 ∷ []
fitness_text (Some n) = (48 + n / 1000) ∷ 46 ∷ hundreds (n % 1000) ∷ tens (n % 1000) ∷ units (n % 1000) ∷ []

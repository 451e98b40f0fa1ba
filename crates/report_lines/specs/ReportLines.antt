-- The lines of the report (the sheet), by their numbers.
use Rattle.std.specs.Prelude.{ℕ, List, [], ◌∷◌, eqb}
use Rattle.words.specs.Lists.{pick}
use Rattle.text.specs.declared.field.Word.TheVariants.{Trail, Place, Act, Jump, Refused}
use Rattle.text.specs.declared.field.Field.TheVariants.{Number, Fitness}
use Rattle.lines.specs.Lines.{line_of}

-- `trail`: register size, events, jumps, transfers, FIT
abbrev pub trail_line : ℕ → ℕ → ℕ → ℕ → List ℕ
trail_line objects events jumps transfers =
    line_of Trail (Number objects ∷ Number events ∷ Number jumps ∷ Number transfers ∷ Fitness jumps transfers ∷ [])

-- `place`: number, TAKEN, IN, OUT, FIT
abbrev pub place_line : ℕ → ℕ → ℕ → ℕ → List ℕ
place_line place consumed jumps_in jumps_out =
    line_of Place (Number place ∷ Number consumed ∷ Number jumps_in ∷ Number jumps_out ∷ Fitness jumps_in consumed ∷ [])

-- `act`: number, FIRED, MOVED, JUMPS, FIT
abbrev pub act_line : ℕ → ℕ → ℕ → ℕ → List ℕ
act_line act fired moved jumps =
    line_of Act (Number act ∷ Number fired ∷ Number moved ∷ Number jumps ∷ Fitness jumps moved ∷ [])

-- `jump`: from, to, count; nothing at all for a count of 0
abbrev pub jump_line : ℕ → ℕ → ℕ → List ℕ
jump_line from to count = pick (eqb count 0) [] (line_of Jump (Number from ∷ Number to ∷ Number count ∷ []))

-- `refused`: the number of the refusal, and the events accepted before it
abbrev pub refused_line : ℕ → ℕ → List ℕ
refused_line code events = line_of Refused (Number code ∷ Number events ∷ [])

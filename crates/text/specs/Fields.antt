-- The words that lines begin with, and their fields.
use Rattle.std.specs.Prelude.{ℕ, List, [], ◌∷◌}
use Rattle.text.specs.Text.{ascii}
use Rattle.text.specs.Decimal.{decimal}
use Rattle.fitness.specs.Fitness.{fitness, fitness_text}
use Rattle.text.specs.declared.field.Word.{Word}
use Rattle.text.specs.declared.field.Word.TheVariants.{Trail, Place, Act, Jump, Refused}
use Rattle.text.specs.declared.field.Field.{Field}
use Rattle.text.specs.declared.field.Field.TheVariants.{Nothing, Number, Fitness}

abbrev pub word_text : Word → List ℕ
word_text Trail = ascii "trail"
word_text Place = ascii "place"
word_text Act = ascii "act"
word_text Jump = ascii "jump"
word_text Refused = ascii "refused"

-- a field behind one space; a field that is left out is nothing at all
abbrev pub field_text : Field → List ℕ
field_text Nothing = []
field_text (Number n) = 32 ∷ decimal n
field_text (Fitness jumps transfers) = 32 ∷ fitness_text (fitness jumps transfers)

-- A line: a word, then fields, each behind one space, then a line feed.
use Rattle.std.specs.Prelude.{ℕ, List, [], ◌∷◌, ◌++◌}
use Rattle.text.specs.Fields.{word_text, field_text}
use Rattle.text.specs.declared.field.Word.{Word}
use Rattle.text.specs.declared.field.Field.{Field}

-- the fields of a line, and the line feed that ends it
abbrev pub fields_text : List Field → List ℕ
fields_text [] = 10 ∷ []
fields_text (f ∷ fs) = field_text f ++ fields_text fs

unfoldable pub line_of : Word → List Field → List ℕ
line_of w fs = word_text w ++ fields_text fs

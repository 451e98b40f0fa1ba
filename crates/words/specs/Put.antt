-- What writing one number into bytes leaves.
use Rattle.std.specs.Prelude.{ℕ, ◌*◌, ◌≡◌, List, [], ◌∷◌, set}
use Rattle.std.proofs.lemmas.List.Edits.{sets}
use Rattle.words.specs.Words.{words_of, bytes_of}

-- `after` is `before` with x for number i: said of the bytes, and of the numbers that they hold
pub record Put (before : List ℕ) (i x : ℕ) (after : List ℕ) : Type 0 where
  pub bytes : after ≡ sets before (4 * i) (bytes_of (x ∷ []))
  pub words : words_of after ≡ set (words_of before) i x

-- Numbers in files: four bytes each, least significant first (document 01 "The route table file"),
-- and the layout that table, record and trail file share: contents pairs, then bodies without gaps.
use Rattle.std.specs.Prelude.{ℕ, zero, suc, ◌+◌, ◌*◌, ◌/◌, ◌%◌, Bool, false, List, [], ◌∷◌, get_or, take, drop, eqb, Option, Some, None}
use Rattle.words.specs.Lists.{pick}

-- the number that four bytes hold
abbrev pub joined : ℕ → ℕ → ℕ → ℕ → ℕ
joined a b c d = a + 256 * b + 65536 * c + 16777216 * d

-- the number whose first byte is byte i of b
unfoldable pub word : List ℕ → ℕ → ℕ
word b i = joined (get_or b i 0) (get_or b (i + 1) 0) (get_or b (i + 2) 0) (get_or b (i + 3) 0)

-- the n numbers from byte i on
abbrev pub words_at : List ℕ → ℕ → ℕ → List ℕ
words_at b i zero = []
words_at b i (suc n) = word b i ∷ words_at b (i + 4) n

-- the numbers that the bytes hold, from the first byte on; up to three bytes at the end are in none
unfoldable pub words_of : List ℕ → List ℕ
words_of [] = []
words_of (a ∷ []) = []
words_of (a ∷ (b ∷ [])) = []
words_of (a ∷ (b ∷ (c ∷ []))) = []
words_of (a ∷ (b ∷ (c ∷ (d ∷ r)))) = joined a b c d ∷ words_of r

-- the bytes that hold the numbers
unfoldable pub bytes_of : List ℕ → List ℕ
bytes_of [] = []
bytes_of (w ∷ ws) = w % 256 ∷ (w / 256 % 256 ∷ (w / 65536 % 256 ∷ (w / 16777216 % 256 ∷ bytes_of ws)))

-- Contents: pairs (start, length), the first at byte i. The n bodies follow one another from byte `at` on:
-- where the last one ends, or `None` where one starts elsewhere than where the one before ends.
unfoldable pub bodies_from : List ℕ → ℕ → ℕ → ℕ → Option ℕ
bodies_from b i at zero = Some at
bodies_from b i at (suc n) = pick (eqb (word b i) at) (bodies_from b (i + 8) (at + word b (i + 4)) n) None

-- the n bodies of a file that begins with their contents
unfoldable pub bodies_of : ℕ → List ℕ → Option ℕ
bodies_of n b = bodies_from b 0 (8 * n) n

-- the bodies have no gap and end at byte e
abbrev pub ends_at : ℕ → Option ℕ → Bool
ends_at e None = false
ends_at e (Some at) = eqb at e

-- the numbers of body i, for bodies of whole numbers
unfoldable pub body_of : List ℕ → ℕ → List ℕ
body_of b i = take (word b (8 * i + 4) / 4) (drop (word b (8 * i) / 4) (words_of b))

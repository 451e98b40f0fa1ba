-- The loaded net in lent words: what loading leaves there, and the net that such words hold.
use Rattle.std.specs.Prelude.{ℕ, ◌+◌, ◌*◌, ◌/◌, ◌≤◌, ◌≡◌, List, [], ◌∷◌, length, get_or, set, take, drop, replicate, eqb}
use Rattle.std.proofs.lemmas.List.Edits.{sets}
use Rattle.words.specs.Lists.{pick, pair_up, parts}
use Rattle.words.specs.Words.{word, body_of}
use Rattle.net.specs.Net.{Net, Arc}
use Rattle.net.specs.Table.{net_from, net_of, load_code}
use Rattle.net.specs.Limits.{net_words}

-- Words 0 to 3: how many kinds, places, activities, arcs. Then the table's four bodies, each with room for the most
-- that it can have: from word 4, 20, 84 and 148. From word 1172 on eight words an activity, one a kind.
unfoldable pub ends_in : List ℕ → List ℕ
ends_in w = take (2 * get_or w 0 0) (drop 4 w)

unfoldable pub places_in : List ℕ → List ℕ
places_in w = take (get_or w 1 0) (drop 20 w)

unfoldable pub counts_in : List ℕ → List ℕ
counts_in w = take (get_or w 2 0) (drop 84 w)

unfoldable pub arcs_in : List ℕ → List ℕ
arcs_in w = take (2 * get_or w 3 0) (drop 148 w)

-- the net that loaded words hold
unfoldable pub net_in : List ℕ → Net
net_in w = net_from (ends_in w) (places_in w) (counts_in w) (arcs_in w)

-- an arc in one number; never 0
abbrev pub pack : Arc → ℕ
pack x = x.0 + 256 * x.1 + 65536

-- the look-up words of one activity: each arc at its kind
abbrev pub index_row : (ℕ → ℕ) → ℕ → List Arc → List ℕ → List ℕ
index_row kind_of base [] w = w
index_row kind_of base (x ∷ xs) w = index_row kind_of base xs (set w (base + kind_of x.0) (pack x))

abbrev pub index_rows : (ℕ → ℕ) → ℕ → List (List Arc) → List ℕ → List ℕ
index_rows kind_of base [] w = w
index_rows kind_of base (r ∷ rs) w = index_rows kind_of (base + 8) rs (index_row kind_of base r w)

-- the sizes and the first three bodies in words; n is how many arcs the fourth one has
unfoldable pub front_words : List ℕ → List ℕ → List ℕ → ℕ → List ℕ
front_words ends places counts n =
    sets (sets (sets (sets (replicate net_words 0) 0 (length ends / 2 ∷ length places ∷ length counts ∷ n ∷ [])) 4 ends) 20 places) 84 counts

-- the words of the four bodies
unfoldable pub body_words : List ℕ → List ℕ → List ℕ → List ℕ → List ℕ
body_words ends places counts arcs = sets (front_words ends places counts (length arcs / 2)) 148 arcs

-- what loading the bytes b leaves in lent words: it writes all of them
unfoldable pub loaded_words : List ℕ → List ℕ
loaded_words b =
    index_rows (λ (p : ℕ). get_or (body_of b 1) p 0) 1172 (parts (body_of b 2) (pair_up (body_of b 3)))
    (body_words (body_of b 0) (body_of b 1) (body_of b 2) (body_of b 3))

-- the words w with the sizes and the first three bodies of the bytes b in front
unfoldable pub front_over : List ℕ → List ℕ → List ℕ
front_over b w =
    sets (sets (sets (sets w 0 (word b 4 / 8 ∷ word b 12 / 4 ∷ word b 20 / 4 ∷ word b 28 / 8 ∷ [])) 4 (body_of b 0)) 20 (body_of b 1)) 84 (body_of b 2)

-- the lent words after a call of loading: unchanged where the table is refused
unfoldable pub after_load : List ℕ → List ℕ → List ℕ
after_load b w = pick (eqb (load_code b) 0) (loaded_words b) w

-- a table that loads, and that left the words
pub record LoadedFrom (w : List ℕ) : Type 0 where
  pub table : List ℕ
  pub taken : load_code table ≡ 0
  pub words : w ≡ loaded_words table

-- the words are what loading some table leaves: there is such a table, and which one does not matter
pub record Held (w : List ℕ) : Type 0 where
  pub some : ∥ LoadedFrom w ∥₁

-- the words hold the net of a table file that loads
pub record Tabled (w table : List ℕ) : Type 0 where
  pub held : Held w
  pub net : net_in w ≡ net_of table
  pub taken : load_code table ≡ 0

-- words that hold no more kinds, places and activities than test 3 allows
pub record Sized (w : List ℕ) : Type 0 where
  pub size : length w ≡ net_words
  pub kinds : get_or w 0 0 ≤ 8
  pub places : get_or w 1 0 ≤ 64
  pub acts : get_or w 2 0 ≤ 64

-- What the program prints for document 01's T4, and where the table, the trail file or an event is refused, as rows.
use Rattle.std.specs.Prelude.{ℕ, ◌≡◌, List, [], ◌∷◌, take}
use Prim.Native.String.{String}
use Rattle.words.specs.Lists.{All}
use Rattle.words.specs.Words.{bytes_of}
use Rattle.net.specs.Rows.{table_m}
use Rattle.text.specs.Text.{ascii}
use Rattle.program_text.specs.Program.{program_text}

-- a trail file of a script and two sheets: contents, register, events
unfoldable pub trail_of : ℕ → List ℕ → List ℕ
trail_of body events = bytes_of (16 ∷ 12 ∷ 28 ∷ body ∷ 0 ∷ 1 ∷ 1 ∷ events)

-- T4's events: 0[0], 1[1], 2[0,1], 2[0,2], 3[0]
unfoldable pub fourth : List ℕ
fourth = 0 ∷ 1 ∷ 0 ∷ 1 ∷ 1 ∷ 1 ∷ 2 ∷ 2 ∷ 0 ∷ 1 ∷ 2 ∷ 2 ∷ 0 ∷ 2 ∷ 3 ∷ 1 ∷ 0 ∷ []

pub record Row : Type 0 where
  pub table : List ℕ
  pub trail : List ℕ
  pub text : String

unfoldable pub rows : List Row
rows =
    -- T4
    record {
      table = table_m;
      trail = trail_of 68 fourth;
      text = "trail 3 5 1 10 0.900\nplace 0 1 0 0 1.000\nplace 1 3 0 0 1.000\nplace 2 1 0 0 1.000\nplace 3 1 0 1 1.000\nplace 4 2 1 0 0.500\nplace 5 2 0 0 1.000\nact 0 1 1 0 1.000\nact 1 1 1 0 1.000\nact 2 2 4 1 0.750\nact 3 1 1 0 1.000\njump 3 4 1\n";
    }
    -- the table before the trail; no register; its third event cut short
    ∷ record { table = take 31 table_m; trail = []; text = "refused 1 0\n" }
    ∷ record { table = table_m; trail = []; text = "refused 71 0\n" }
    ∷ record { table = table_m; trail = trail_of 36 fourth; text = "refused 73 2\n" }
    ∷ []

-- the claim: each row's text is printed
abbrev pub RowsHold : Type 0
RowsHold = All (λ (r : Row). program_text r.table r.trail ≡ ascii r.text) rows

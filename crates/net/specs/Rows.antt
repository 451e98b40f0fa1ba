-- T1 and T2 as rows, and tables to which several numbers apply: a table, and the number that loading it gives.
use Rattle.std.specs.Prelude.{ℕ, ◌≡◌, List, [], ◌∷◌, ◌++◌, take}
use Rattle.std.proofs.lemmas.List.Edits.{sets}
use Rattle.words.specs.Lists.{All}
use Rattle.words.specs.Words.{bytes_of}
use Rattle.net.specs.Table.{load_code}

-- table M of document 01, "Trails counted by hand": its numbers, and the file
abbrev pub numbers_m : List ℕ
numbers_m =
    32 ∷ 16 ∷ 48 ∷ 24 ∷ 72 ∷ 16 ∷ 88 ∷ 40
    ∷ 0 ∷ 2 ∷ 3 ∷ 5
    ∷ 0 ∷ 0 ∷ 0 ∷ 1 ∷ 1 ∷ 1
    ∷ 1 ∷ 1 ∷ 2 ∷ 1
    ∷ 0 ∷ 1 ∷ 3 ∷ 4 ∷ 1 ∷ 1 ∷ 4 ∷ 5 ∷ 1 ∷ 2 ∷ []

unfoldable pub table_m : List ℕ
table_m = bytes_of numbers_m

pub record Row : Type 0 where
  pub table : List ℕ
  pub code : ℕ

-- T1 and T2
unfoldable pub rows : List Row
rows =
    record { table = table_m; code = 0 }
    ∷ record { table = take 31 table_m; code = 1 }
    ∷ []

-- table M with a fault for 9; with one for 8 and one for 9; and so on
abbrev pub fault9 : List ℕ
fault9 = sets numbers_m 31 (1 ∷ [])

abbrev pub fault8 : List ℕ
fault8 = sets fault9 28 (1 ∷ 1 ∷ [])

abbrev pub fault7 : List ℕ
fault7 = sets fault8 23 (6 ∷ [])

abbrev pub fault6 : List ℕ
fault6 = sets fault7 21 (2 ∷ [])

abbrev pub fault5 : List ℕ
fault5 = sets fault6 9 (6 ∷ [])

abbrev pub fault4 : List ℕ
fault4 = sets fault5 13 (2 ∷ [])

-- of several numbers that apply, the first is given
unfoldable pub order_rows : List Row
order_rows =
    record { table = bytes_of fault4; code = 4 }
    ∷ record { table = bytes_of fault5; code = 5 }
    ∷ record { table = bytes_of fault6; code = 6 }
    ∷ record { table = bytes_of fault7; code = 7 }
    ∷ record { table = bytes_of fault8; code = 8 }
    ∷ record { table = bytes_of fault9; code = 9 }
    ∷ []

-- the claim
abbrev pub RowsHold : Type 0
RowsHold = All (λ (r : Row). load_code r.table ≡ r.code) (rows ++ order_rows)

-- The paper's number for each refusal of loading, and for each answer.
use Rattle.std.specs.Prelude.{ℕ, Result}
use Rattle.words.specs.Refusals.{answer_code}
use Rattle.net.specs.declared.LoadError.{LoadError}
use Rattle.net.specs.declared.LoadError.TheVariants.{Length, Layout, Size, PlaceKind, Ends, Arcs, ArcPlaces, TwoOfKind, Unreached}

abbrev pub load_error_code : LoadError → ℕ
load_error_code Length = 1
load_error_code Layout = 2
load_error_code Size = 3
load_error_code PlaceKind = 4
load_error_code Ends = 5
load_error_code Arcs = 6
load_error_code ArcPlaces = 7
load_error_code TwoOfKind = 8
load_error_code Unreached = 9

-- 0 where the table is taken
abbrev pub load_answer_code : Result Unit LoadError → ℕ
load_answer_code = answer_code load_error_code

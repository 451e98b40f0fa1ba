-- Opening a trail file (document 01 "Trail file, program, sheet"): contents of two pairs, register and events, then the bodies.
use Rattle.std.specs.Prelude.{ℕ, ◌+◌, Bool, not, List, [], ◌∷◌, ◌++◌, length, take, drop, ltb, eqb, Option, Some, None}
use Rattle.words.specs.Lists.{pick}
use Rattle.words.specs.Refusals.{first}
use Rattle.words.specs.Words.{word}
use Rattle.net.specs.Net.{Net}
use Rattle.replay.specs.Plain.{register_tests}
use Rattle.replay.specs.Register.{max_register, whole_body, kinds_in}
use Rattle.trace_header.specs.declared.Bodies.{Bodies}

-- 71 by the first 16 bytes: too few of them, where the bodies start, a register of no whole rows
abbrev pub contents_tests : Net → List ℕ → List (Bool × ℕ)
contents_tests N b =
    (ltb (length b) 16, 71)
    ∷ (not (eqb (word b 0) 16), 71)
    ∷ (not (eqb (word b 8) (16 + word b 4)), 71)
    ∷ (not (whole_body N (word b 4)), 71)
    ∷ []

-- the lengths of the two bodies, by the first 16 bytes
unfoldable pub contents_of : Net → List ℕ → Option Bodies
contents_of N b = pick (eqb (first (contents_tests N b)) 0) (Some (record { register = word b 4; events = word b 12 })) None

-- the paper's number: 71 for broken contents
abbrev pub contents_code : Option Bodies → ℕ
contents_code None = 71
contents_code (Some bodies) = 0

-- 71 in any of its causes: the last is a register that the file's end cuts short
abbrev pub shape_tests : Net → List ℕ → List (Bool × ℕ)
shape_tests N f = contents_tests N f ++ (ltb (length f) (16 + word f 4), 71) ∷ []

-- the kind of each object
unfoldable pub register_of : Net → List ℕ → List ℕ
register_of N f = kinds_in N (take (word f 4) (drop 16 f))

-- opening a trail file: 71, then 11 and 12
unfoldable pub trace_code : Net → List ℕ → ℕ
trace_code N f = first (shape_tests N f ++ register_tests N (register_of N f))

-- the same for contents that are not broken: 71 and 11 by how many bytes the register claims and how many are there,
-- then 11 and 12 on its kinds
unfoldable pub open_code : Net → ℕ → ℕ → List ℕ → ℕ
open_code N claimed there ks = first ((ltb there claimed, 71) ∷ (ltb (max_register N) claimed, 11) ∷ register_tests N ks)

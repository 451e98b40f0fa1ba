-- The tests of a read in the parts in which they are made, and what each part may rely on.
use Rattle.std.specs.Prelude.{ℕ, ◌+◌, ◌*◌, ◌≤◌, ◌<◌, Bool, List, [], ◌∷◌, ◌++◌, length, ltb}
use Rattle.words.specs.Refusals.{first}
use Rattle.words.specs.Words.{word, words_at}
use Rattle.net.specs.Net.{Net}
use Rattle.replay.specs.Plain.{trail_tests, activity_tests, object_tests}
use Rattle.trace_reader.specs.Answers.{Answer, unless}
use Rattle.trace_reader.specs.Trace.{event_found, read_from}

-- 23, 24, and the objects in body and file
abbrev pub count_tests : Net → List ℕ → ℕ → ℕ → List (Bool × ℕ)
count_tests N w body at =
    activity_tests N (word w 0) (word w 4)
    ++ (ltb body (at + 8 + 4 * word w 4), 73)
    ∷ (ltb (length w) (8 + 4 * word w 4), 73)
    ∷ []

-- all before the objects; 21 is for a closed trail and never applies
abbrev pub front_tests : Net → ℕ → List ℕ → ℕ → ℕ → List (Bool × ℕ)
front_tests N accepted w body at =
    (ltb body at, 73)
    ∷ (ltb body (at + 8), 73)
    ∷ (ltb (length w) 8, 73)
    ∷ trail_tests 0 accepted
    ++ count_tests N w body at

-- an event in the window w whose numbers are all there, of a known activity, with as many objects as it has arcs
pub record Ready (N : Net) (w : List ℕ) (at : ℕ) : Type 0 where
  pub act : word w 0 < N.acts
  pub few : word w 4 ≤ 8
  pub room : 8 + 4 * word w 4 ≤ length w
  pub fits : at + 8 + 4 * word w 4 ≤ 18446744073709551615

-- the event at the front of the window w, or 25, 26 or 27
unfoldable pub objects_found : Net → List ℕ → List ℕ → ℕ → Answer
objects_found N ks w at = unless (first (object_tests N ks (word w 0) (words_at w 8 (word w 4)))) (event_found w 0 at)

-- reading in a file whose register claims `claimed` bytes: 71 where they are not all there
unfoldable pub body_read : Net → List ℕ → ℕ → List ℕ → ℕ → ℕ → ℕ → Answer
body_read N ks accepted f claimed body at =
    unless (first ((ltb (length f) (16 + claimed), 71) ∷ [])) (read_from N ks accepted f (16 + claimed + at) body at)

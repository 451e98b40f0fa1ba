-- The four bodies behind a record's table, by their bytes.
use Rattle.std.specs.Prelude.{ℕ, Bool, List}
use Rattle.words.specs.Lists.{any}
use Rattle.words.specs.Words.{words_of}
use Rattle.net.specs.Net.{Net}
use Rattle.replay.specs.Register.{kinds_in, places_in}
use Rattle.replay.specs.State.{State, state_from}

-- the state in the bodies of register, positions, counts and jumps, of the table's net
abbrev pub body_state : Net → List ℕ → List ℕ → List ℕ → List ℕ → State
body_state N ks ps cs js = state_from (kinds_in N ks) (places_in ps) (words_of cs) (words_of js)

-- one of the tests holds
abbrev pub hit : List (Bool × ℕ) → Bool
hit ts = any (λ (t : Bool × ℕ). t.0) ts

-- Test 45 of one object.
use Rattle.std.specs.Prelude.{ℕ, Bool, not, [], ◌∷◌, leb, eqb}
use Rattle.words.specs.Lists.{either, both}
use Rattle.net.specs.Net.{Net}

-- of kind k on place p: the place is unknown, of another kind, or not the sink in a closed trail
abbrev pub bad_position : Net → Bool → ℕ → ℕ → Bool
bad_position N closed k p = either (leb N.places p ∷ not (eqb (N.kind_of p) k) ∷ both closed (not (eqb p (N.sink k))) ∷ [])

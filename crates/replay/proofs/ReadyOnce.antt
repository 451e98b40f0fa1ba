-- A trail that a call can be put to is one in one way alone, so that a ghost field can hold that it is. Assumes nothing.
use Prim.Native.Nat.{ℕ}
use mathlib.Core.List.{List, [], ◌∷◌}
use denote.Struct.Props.{props}
use Rattle.words.specs.Lists.{All}
use Rattle.replay.specs.Ready.{Ready}

pub All-prop : {A : Type 0} (P : A → Type 0) (xs : List A) → ((x : A) → IsProp (P x)) → IsProp (All P xs)
All-prop P [] h = hlevel
All-prop P (x ∷ xs) h = let rest : IsProp (All P xs) = All-prop P xs h in let front : IsProp (P x) = h x in hlevel (rest, front)

pub Ready-prop : (w b : List ℕ) → IsProp (Ready w b)
Ready-prop w b = hlevel (All-prop, props)

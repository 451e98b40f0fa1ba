-- A register that neither 11 nor 12 refuses is taken. Assumes nothing.
use Prim.Native.Nat.{ℕ}
use mathlib.Core.Bool.{Bool, true, false}
use mathlib.Core.Path.{◌≡◌, refl}
use mathlib.Core.List.{List}
use lib.Dec.{eqb, ltb, leb}
use lib.ListN.{length}
use Rattle.words.specs.Lists.{pick, any}
use Rattle.net.specs.Net.{Net}
use Rattle.replay.specs.Plain.{register_code}

abbrev given : Bool → Bool → Bool → ℕ
given a b c = pick a 11 (pick b 11 (pick c 12 0))

by_tests : (a b c : Bool) → (given a b c ≡ 11 → ⊥) → (given a b c ≡ 12 → ⊥) → given a b c ≡ 0
by_tests true b c f g = absurd (f refl)
by_tests false true c f g = absurd (f refl)
by_tests false false true f g = absurd (g refl)
by_tests false false false f g = refl

pub register-taken : (N : Net) (ks : List ℕ) → (register_code N ks ≡ 11 → ⊥) → (register_code N ks ≡ 12 → ⊥) → register_code N ks ≡ 0
register-taken N ks = by_tests (eqb (length ks) 0) (ltb 1024 (length ks)) (any (λ (k : ℕ). leb N.kinds k) ks)

-- What the contracts of reading say of a count of bytes.
use Rattle.std.specs.Prelude.{ℕ, ◌≡◌, ◌≤◌, List, Option, length, take}
use Rattle.std.specs.Io.KnownBytes.{Consumes}

-- `&xs[..n]` is in bounds and has n bytes. The second part follows from the first, and spares a caller's `&buf[..n]` a proof.
abbrev pub IsPrefixLen : ℕ → List ℕ → Type 0
IsPrefixLen n xs = (n ≤ length xs) × (n ≡ length (take n xs))

-- known bytes lose n from their front
abbrev pub Passes : Option (List ℕ) → Option (List ℕ) → ℕ → Type 0
Passes old new n = (bs : List ℕ) × Consumes old new bs × (length bs ≡ n)

-- Numbers written into lent bytes one behind the other. Assumes nothing.
use Prim.Native.Nat.{ℕ, suc, ◌+◌, ◌*◌, ◌<◌}
use mathlib.Core.Path.{◌≡◌, refl}
use mathlib.Core.List.{List}
use native.Mathlib.Numerals.{add-one}
use native.Mathlib.Omega.{arith}
use lib.ListN.{length, get_or, drop}
use lib.Seq.{drop-cons, sets}
use Rattle.words.specs.Words.{bytes_of}
use Rattle.words.specs.Put.{Put}

-- number i of the row is put, and those behind it are left
pub put_next : (row out after : List ℕ) (i : ℕ) → i < length row → Put out i (get_or row i 0) after
    → sets after (4 * (i + 1)) (bytes_of (drop (i + 1) row)) ≡ sets out (4 * i) (bytes_of (drop i row))
unfolding bytes_of
put_next row out after i h p =
    let place : 4 * (i + 1) ≡ suc (suc (suc (suc (4 * i)))) = omega arith in
    rw (p.bytes, place, add-one, drop-cons row i 0 h) refl

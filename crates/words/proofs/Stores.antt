-- A run of stores from word `base` on: what is left of it after i stores. Assumes nothing.
use Prim.Native.Nat.{ℕ, ◌+◌, ◌≤◌, ◌<◌}
use native.Mathlib.Numerals.{add-one}
use mathlib.Core.Path.{◌≡◌}
use mathlib.Core.List.{List}
use lib.ListN.{length, get_or, set, drop, drop_of_length-le}
use lib.Seq.{sets, drop-cons}

module _ (w vs : List ℕ) (at i : ℕ) where
  pub store-more : i < length vs → sets (set w at (get_or vs i 0)) (at + 1) (drop (i + 1) vs) ≡ sets w at (drop i vs)
  store-more h = rw (add-one, add-one, drop-cons vs i 0 h)

  pub store-end : length vs ≤ i → sets w at (drop i vs) ≡ w
  store-end h = rw (drop_of_length-le vs h)

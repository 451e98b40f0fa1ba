-- Lent bytes after a save or a restore: as they were, or with the record in front. Assumes nothing.
use Prim.Native.Nat.{ℕ, ◌≤◌, ◌<◌}
use mathlib.Core.Path.{◌≡◌, refl}
use mathlib.Core.List.{List}
use lib.ListN.{length, take, drop}
use lib.Seq.{take-append_seam}
use borrow.Author.Tests.{eq-eqb, lt-ltb, le-ltb}
use Rattle.words.specs.Lists.{over}
use Rattle.checkpoint.specs.Calls.{save_code, save_bytes}
use Rattle.checkpoint.specs.Take.{take_code, take_bytes}

-- a save, with too little room and with enough
module _ (b lent : List ℕ) where
  pub save_short : length lent < length b → save_code b (length lent) ≡ 61
  unfolding save_code
  save_short h = rw (lt-ltb _ _ h) refl

  pub save_fits : length b ≤ length lent → save_code b (length lent) ≡ 0
  unfolding save_code
  save_fits h = rw (le-ltb _ _ h) refl

  pub short_bytes : length lent < length b → save_bytes b lent ≡ lent
  unfolding save_bytes
  short_bytes h = rw (save_short h) refl

  pub fit_bytes : length b ≤ length lent → save_bytes b lent ≡ over b lent
  unfolding save_bytes
  fit_bytes h = rw (save_fits h) refl

pub ruleset saves = (save_short, save_fits, short_bytes, fit_bytes)

pub saved-front : (b lent : List ℕ) → save_code b (length lent) ≡ 0 → take (length b) (save_bytes b lent) ≡ b
unfolding save_bytes
saved-front b lent z = rw (eq-eqb (save_code b (length lent)) 0 z) (take-append_seam b (drop (length b) lent))

pub restored-front : (r lent : List ℕ) → take_code r (length lent) ≡ 0 → take (length r) (take_bytes r lent) ≡ r
unfolding take_bytes
restored-front r lent z = rw (eq-eqb (take_code r (length lent)) 0 z) (take-append_seam r (drop (length r) lent))

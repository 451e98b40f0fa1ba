-- The part of a file that a window holds, and that steps in it change nothing of what comes of all the file's events.
use Rattle.std.specs.Prelude.{ℕ, ◌+◌, ◌-◌, ◌≤◌, ◌<◌, false, ◌≡◌, List, length, take, drop}
use Rattle.net.specs.Net.{Net}
use Rattle.program_step.specs.OneStep.{Spot, Outcome}
use Rattle.trace_reader.specs.Followed.{Followed, final}
use Rattle.program_events.specs.Ends.{goes_on}

-- w is the part of the file f from byte i on, and its last where a step is made with fewer than 40 bytes left
pub record Window (w : List ℕ) (least : ℕ) (f : List ℕ) (i : ℕ) : Type 0 where
  pub part : w ≡ take (length w) (drop i f)
  pub last : least < 40 → i + length w ≡ length f

-- the first n bytes of buf are the part of f from byte i on, and its last where they do not fill buf
pub record Filled (buf : List ℕ) (n : ℕ) (f : List ℕ) (i : ℕ) : Type 0 where
  pub part : take n buf ≡ take n (drop i f)
  pub last : n < length buf → i + n ≡ length f

-- What comes of all events of a file that the window is a part of, from the trail and the spot s on, comes of them also
-- where the trail `left` stands as the outcome r says.
pub record Kept (N : Net) (ks : List ℕ) (body : ℕ) (PartOf : List ℕ → ℕ → Type 0) (trail : List ℕ) (s : Spot) (left : List ℕ) (r : Outcome) : Type 0 where
  pub same : (f : List ℕ) (i : ℕ) → PartOf f i → final N ks f body trail (i + s.from) s.at s.accepted ≡ goes_on N ks f body i left r

-- The bytes that were read first, into room for so many, are the front of f, and all of it where they do not fill the room.
pub record Begins (front : List ℕ) (room : ℕ) (f : List ℕ) : Type 0 where
  pub part : take (length front) f ≡ front
  pub last : length front < room → f ≡ front

-- What comes of all events of some file is as P says. The file begins with the body, and the bytes that were read first are its
-- front. What follows them no contract can say: it is what is read later.
pub record OfSomeFile (N : Net) (ks : List ℕ) (body : ℕ) (trail front : List ℕ) (room : ℕ) (P : Followed → Type 0) : Type 0 where
  pub file : List ℕ
  pub begins : Begins front room file
  pub came : P (final N ks file body trail 0 0 0)

-- Unless it is over, fewer than `least` of the `size` bytes are left, and where there were as many at the spot s an event was accepted.
pub record Through (size least : ℕ) (s : Spot) (r : Outcome) : Type 0 where
  pub rest : r.over ≡ false → size - r.spot.from < least
  pub more : r.over ≡ false → least ≤ size - s.from → s.accepted < r.spot.accepted

-- The same of n bytes in a buffer of `size`: it is over where they do not fill it.
pub record Turned (size n : ℕ) (s : Spot) (r : Outcome) : Type 0 where
  pub full : r.over ≡ false → n ≡ size
  pub more : r.over ≡ false → 40 ≤ n - s.from → s.accepted < r.spot.accepted

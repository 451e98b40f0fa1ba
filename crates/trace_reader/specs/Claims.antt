-- What is claimed of a read: an event handed out is one that a replay accepts, and 40 bytes at the position are enough.
use Rattle.std.specs.Prelude.{ℕ, ◌+◌, ◌*◌, ◌≤◌, ◌≡◌, List, length, take, drop, Some, Ok}
use Rattle.words.specs.Words.{word}
use Rattle.net.specs.Net.{Net}
use Rattle.replay.specs.Plain.{refusal}
use Rattle.trace_reader.specs.Answers.{EventRead}
use Rattle.trace_reader.specs.Trace.{read_from, read_at}

-- What holds of an event, read at byte `from` of `size` bytes: none of 21 to 27 applies to it on an open
-- trail, the next position is behind it and inside the body, and its bytes are there.
pub record Handed (N : Net) (ks : List ℕ) (accepted size from body at : ℕ) (r : EventRead) : Type 0 where
  pub taken : refusal N ks 0 accepted r.event ≡ 0
  pub next : r.next ≡ at + 8 + 4 * length r.event.objs
  pub few : length r.event.objs ≤ 8
  pub inside : r.next ≤ body
  pub there : from + 8 + 4 * length r.event.objs ≤ size

-- the event handed out
abbrev pub HandedOut : Net → Type 0
HandedOut N = (ks : List ℕ) (accepted : ℕ) (f : List ℕ) (at : ℕ) (r : EventRead) → read_at N ks accepted f at ≡ Ok (Some r)
    → Handed N ks accepted (length f) (16 + word f 4 + at) (word f 12) at r

-- the window: reading in w is reading in b at byte `from` where the first 40 bytes there, or all there are, are the same
abbrev pub WindowEnough : Net → Type 0
WindowEnough N = (ks : List ℕ) (accepted : ℕ) (w b : List ℕ) (from : ℕ) → take 40 w ≡ take 40 (drop from b) → (body at : ℕ)
    → read_from N ks accepted w 0 body at ≡ read_from N ks accepted b from body at

-- Where the parts of a desk record stand, by its contents, counted in four-byte numbers. Each offset is said here alone.
use Rattle.std.specs.Prelude.{ℕ, ◌+◌, ◌*◌, ◌/◌, List}
use Rattle.words.specs.Words.{word}
use Rattle.net.specs.Net.{Net}
use Rattle.replay.specs.Register.{row_bytes, kind_index, place_index}
use Rattle.replay_layout.specs.declared.Layout.{Layout}

-- the starts of the bodies behind the table, the number of objects, and the net's number of places
unfoldable pub layout_of : Net → List ℕ → Layout
layout_of N b = record {
  register = word b 8 / 4;
  positions = word b 16 / 4;
  counts = word b 24 / 4;
  pairs = word b 32 / 4;
  objects = word b 12 / row_bytes N;
  places = N.places;
}

-- object o's row of the register and of the positions: its kind, and its place
abbrev pub kind_at : Net → Layout → ℕ → ℕ
kind_at N l o = l.register + kind_index N o

abbrev pub place_at : Layout → ℕ → ℕ
place_at l o = l.positions + place_index o

-- in the counts: FIRED and JUMPS of activity a, behind closed, accepted events and closing jumps
abbrev pub fired_index : ℕ → ℕ
fired_index a = 3 + 2 * a

abbrev pub jumps_index : ℕ → ℕ
jumps_index a = 4 + 2 * a

-- the counts: closed, accepted events, closing jumps, then FIRED and JUMPS of each activity
abbrev pub closed_at : Layout → ℕ
closed_at l = l.counts

abbrev pub events_at : Layout → ℕ
events_at l = l.counts + 1

abbrev pub closing_at : Layout → ℕ
closing_at l = l.counts + 2

abbrev pub fired_at : Layout → ℕ → ℕ
fired_at l a = l.counts + fired_index a

abbrev pub jumps_at : Layout → ℕ → ℕ
jumps_at l a = l.counts + jumps_index a

-- the jump count from place x to place y
abbrev pub pair_at : Layout → ℕ → ℕ → ℕ
pair_at l x y = l.pairs + (x * l.places + y)

-- The stored numbers of a trail's bytes: where each one stands, and how large it can be. Assumes nothing.
use Prim.Native.Nat.{ℕ, ◌+◌, ◌*◌, ◌<◌}
use mathlib.Core.Path.{◌≡◌, ap, sym, subst, ◌∙◌}
use mathlib.Core.List.{List}
use native.Mathlib.Omega.{arith}
use lib.ListN.{length, get_or}
use lib.Arith.{digits_lt}
use Rattle.words.specs.Words.{words_of}
use Rattle.words.proofs.Lists.{All-at}
use Rattle.net.specs.Net.{Net}
use Rattle.net.specs.Held.{net_in}
use Rattle.replay_layout.specs.declared.Layout.{Layout}
use Rattle.replay_stored.specs.Stored.{At, Stored}
use Rattle.replay_layout.specs.Offsets.{layout_of, kind_at, closed_at, events_at, closing_at, fired_at, jumps_at, pair_at}
use Rattle.replay.specs.State.{State, stored_pair}
use Rattle.replay.specs.Record.{record_words, table_in}
use Rattle.replay.specs.Calls.{state_at}
use Rattle.replay.specs.Ready.{Ready}
use Rattle.replay.proofs.Accepted.{closers-length}
use Rattle.replay.proofs.Encode.{fired-le, jumps-le, pairs-le}
use Rattle.replay_layout.proofs.RecordLaws.{Placed, record-size, record-few, get-kind, get-closed, get-events, get-closing, get-fired, get-jumps, get-pair, ready-loaded, ready-sound, ready_words, ready-placed}

module _ (w b : List ℕ) (R : Ready w b) where
  abbrev N : Net
  N = net_in w

  abbrev d : State
  d = state_at b

  module _ (l : Layout) (e : l ≡ layout_of (net_in w) b) where
    placed : Placed N (table_in b) l d
    placed = subst (λ (l : Layout). Placed N (table_in b) l d) (sym e) (ready-placed w b R)

    at : (i x : ℕ) → i < l.pairs + l.places * l.places → get_or (record_words (table_in b) d) i 0 ≡ x → At b i x
    at i x h q =
        let s : length (words_of b) ≡ l.pairs + l.places * l.places = ap length (ready_words w b R) ∙ record-size N (table_in b) l d placed in
        record {
          there = omega arith;
          small = omega (arith, record-size N (table_in b) l d placed, record-few N (table_in b) l d placed);
          is = ap (λ (v : List ℕ). get_or v i 0) (ready_words w b R) ∙ q;
        }

    pub has-kind : (o : ℕ) → o < length d.kinds → At b (kind_at N l o) (get_or d.kinds o 0)
    has-kind o h =
        let o-in : o < l.objects = omega (arith, placed.kinds-size) in
        at (kind_at N l o) (get_or d.kinds o 0) (omega (arith, placed.positions-at, placed.counts-at, placed.pairs-at)) (get-kind N (table_in b) l d placed o o-in)

    pub has-pair : (x y : ℕ) → x < N.places → y < N.places → At b (pair_at l x y) (stored_pair N d x y)
    has-pair x y hx hy =
        let p : l.places ≡ N.places = placed.places-are in
        let x-in : x < l.places = omega arith in
        let y-in : y < l.places = omega arith in
        at (pair_at l x y) (stored_pair N d x y) (omega (arith, digits_lt x-in y-in)) (get-pair N (table_in b) l d placed x y)

    pub are-stored : Stored w b l
    are-stored =
        let L = ready-loaded w b R in
        let S = ready-sound w b R in
        record {
          closed = record { at = at (closed_at l) d.closed (omega (arith, placed.pairs-at)) (get-closed N (table_in b) l d placed); few = S.flag };
          events = at (events_at l) d.events (omega (arith, placed.pairs-at)) (get-events N (table_in b) l d placed);
          closing = record {
            at = at (closing_at l) d.closing (omega (arith, placed.pairs-at)) (get-closing N (table_in b) l d placed);
            few = omega (arith, S.closing-le, closers-length d.kinds, S.few);
          };
          objects = sym placed.kinds-size;
          objects_few = S.few;
          kind = has-kind;
          kind_known = All-at (λ (k : ℕ). k < N.kinds) 0 d.kinds S.kinds;
          fired = λ a h. record {
            at = at (fired_at l a) (get_or d.fired a 0) (omega (arith, placed.pairs-at)) (get-fired N (table_in b) l d placed a h);
            few = fired-le N L d S a h;
          };
          jumps = λ a h. record {
            at = at (jumps_at l a) (get_or d.jumps a 0) (omega (arith, placed.pairs-at)) (get-jumps N (table_in b) l d placed a h);
            few = jumps-le N L d S a h;
          };
          pair = λ x y hx hy. record { at = has-pair x y hx hy; few = pairs-le N L d S (x * N.places + y) (digits_lt hx hy) };
        }

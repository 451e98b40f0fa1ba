-- Document 01's trails T3, T4 and T6 to T10 on table M, and two with two jumps in one event, as rows with one claim for all.
use Rattle.std.specs.Prelude.{ℕ, ◌*◌, ◌/◌, ◌%◌, not, ◌≡◌, List, [], ◌∷◌, map, length, get_or, eqb}
use Rattle.words.specs.Lists.{All, keep, upto}
use Rattle.net.specs.Net.{Net}
use Rattle.replay.specs.Plain.{Event, Ask, event, close, Plain, start, run, answers, positions, ask_event}
use Rattle.replay.specs.Permitted.{Permitted}
use Rattle.replay.specs.Counts.{transfers, all_jumps, consumed, jumps_in, jumps_out, pair_jumps, fired, moved, jumps}

-- table M as a net: kind 0 script on places 0 to 2, kind 1 sheet on places 3 to 5
unfoldable pub M : Net
M = record {
  kinds = 2;
  places = 6;
  acts = 4;
  kind_of = λ (p : ℕ). get_or (0 ∷ 0 ∷ 0 ∷ 1 ∷ 1 ∷ 1 ∷ []) p 0;
  source = λ (k : ℕ). get_or (0 ∷ 3 ∷ []) k 0;
  sink = λ (k : ℕ). get_or (2 ∷ 5 ∷ []) k 0;
  arcs = λ (a : ℕ). get_or (((0, 1) ∷ []) ∷ ((3, 4) ∷ []) ∷ ((1, 1) ∷ (4, 5) ∷ []) ∷ ((1, 2) ∷ []) ∷ []) a [];
}

-- what a run shows: the answers and the objects' places; over the whole trail events, jumps, transfers; of each place
-- TAKEN, IN, OUT; of each activity FIRED, MOVED, JUMPS; of each pair of places with a jump from, to, count
pub record Shown : Type 0 where
  pub answered : List ℕ
  pub stands : List ℕ
  pub trail : List ℕ
  pub of_places : List (List ℕ)
  pub of_acts : List (List ℕ)
  pub of_pairs : List (List ℕ)

-- the pairs of numbers below n, row by row
abbrev pub pairs_below : ℕ → List (ℕ × ℕ)
pairs_below n = map (λ (i : ℕ). (i / n, i % n)) (upto (n * n) 0)

abbrev pub shown : Net → List ℕ → List Ask → Shown
shown N ks qs = let p : Plain = run N (start ks) qs in record {
  answered = answers N (start ks) qs;
  stands = positions N p;
  trail = length p.events ∷ all_jumps N p ∷ transfers N p ∷ [];
  of_places = map (λ (q : ℕ). consumed N p q ∷ jumps_in N p q ∷ jumps_out N p q ∷ []) (upto N.places 0);
  of_acts = map (λ (a : ℕ). fired N p a ∷ moved N p a ∷ jumps N p a ∷ []) (upto N.acts 0);
  of_pairs = map (λ (x : ℕ × ℕ). x.0 ∷ x.1 ∷ pair_jumps N p x.0 x.1 ∷ []) (keep (λ (x : ℕ × ℕ). not (eqb (pair_jumps N p x.0 x.1) 0)) (pairs_below N.places));
}

-- a row: the objects' kinds, the events and closes, and what they are to show
pub record Row : Type 0 where
  pub kinds : List ℕ
  pub asks : List Ask
  pub shows : Shown

-- a script and two sheets
abbrev pub three : List ℕ
three = 0 ∷ 1 ∷ 1 ∷ []

-- T7: the award's objects in either order do the same
abbrev pub awarded : List ℕ → Row
awarded os = record {
  kinds = three;
  asks = ask_event 0 (0 ∷ []) ∷ ask_event 1 (1 ∷ []) ∷ ask_event 2 os ∷ [];
  shows = record {
    answered = 0 ∷ 0 ∷ 0 ∷ [];
    stands = 1 ∷ 5 ∷ 3 ∷ [];
    trail = 3 ∷ 0 ∷ 4 ∷ [];
    of_places = (1 ∷ 0 ∷ 0 ∷ []) ∷ (1 ∷ 0 ∷ 0 ∷ []) ∷ (0 ∷ 0 ∷ 0 ∷ []) ∷ (1 ∷ 0 ∷ 0 ∷ []) ∷ (1 ∷ 0 ∷ 0 ∷ []) ∷ (0 ∷ 0 ∷ 0 ∷ []) ∷ [];
    of_acts = (1 ∷ 1 ∷ 0 ∷ []) ∷ (1 ∷ 1 ∷ 0 ∷ []) ∷ (1 ∷ 2 ∷ 0 ∷ []) ∷ (0 ∷ 0 ∷ 0 ∷ []) ∷ [];
    of_pairs = [];
  };
}

-- two objects jump in one event: the award right after the start, with its objects in either order
abbrev pub both_jump : List ℕ → Row
both_jump os = record {
  kinds = three;
  asks = ask_event 2 os ∷ close ∷ [];
  shows = record {
    answered = 0 ∷ 0 ∷ [];
    stands = 2 ∷ 5 ∷ 5 ∷ [];
    trail = 1 ∷ 4 ∷ 5 ∷ [];
    of_places = (0 ∷ 0 ∷ 1 ∷ []) ∷ (1 ∷ 1 ∷ 1 ∷ []) ∷ (1 ∷ 1 ∷ 0 ∷ []) ∷ (0 ∷ 0 ∷ 2 ∷ []) ∷ (1 ∷ 1 ∷ 0 ∷ []) ∷ (2 ∷ 1 ∷ 0 ∷ []) ∷ [];
    of_acts = (0 ∷ 0 ∷ 0 ∷ []) ∷ (0 ∷ 0 ∷ 0 ∷ []) ∷ (1 ∷ 2 ∷ 2 ∷ []) ∷ (0 ∷ 0 ∷ 0 ∷ []) ∷ [];
    of_pairs = (0 ∷ 1 ∷ 1 ∷ []) ∷ (1 ∷ 2 ∷ 1 ∷ []) ∷ (3 ∷ 4 ∷ 1 ∷ []) ∷ (3 ∷ 5 ∷ 1 ∷ []) ∷ [];
  };
}

abbrev pub rows : List Row
rows =
    -- T3
    record {
      kinds = three;
      asks = ask_event 0 (0 ∷ []) ∷ ask_event 1 (1 ∷ []) ∷ ask_event 2 (0 ∷ 1 ∷ []) ∷ ask_event 1 (2 ∷ []) ∷ ask_event 2 (0 ∷ 2 ∷ []) ∷ ask_event 3 (0 ∷ []) ∷ close ∷ [];
      shows = record {
        answered = 0 ∷ 0 ∷ 0 ∷ 0 ∷ 0 ∷ 0 ∷ 0 ∷ [];
        stands = 2 ∷ 5 ∷ 5 ∷ [];
        trail = 6 ∷ 0 ∷ 11 ∷ [];
        of_places = (1 ∷ 0 ∷ 0 ∷ []) ∷ (3 ∷ 0 ∷ 0 ∷ []) ∷ (1 ∷ 0 ∷ 0 ∷ []) ∷ (2 ∷ 0 ∷ 0 ∷ []) ∷ (2 ∷ 0 ∷ 0 ∷ []) ∷ (2 ∷ 0 ∷ 0 ∷ []) ∷ [];
        of_acts = (1 ∷ 1 ∷ 0 ∷ []) ∷ (2 ∷ 2 ∷ 0 ∷ []) ∷ (2 ∷ 4 ∷ 0 ∷ []) ∷ (1 ∷ 1 ∷ 0 ∷ []) ∷ [];
        of_pairs = [];
      };
    }
    -- T4, with the paper's sheet
    ∷ record {
      kinds = three;
      asks = ask_event 0 (0 ∷ []) ∷ ask_event 1 (1 ∷ []) ∷ ask_event 2 (0 ∷ 1 ∷ []) ∷ ask_event 2 (0 ∷ 2 ∷ []) ∷ ask_event 3 (0 ∷ []) ∷ close ∷ [];
      shows = record {
        answered = 0 ∷ 0 ∷ 0 ∷ 0 ∷ 0 ∷ 0 ∷ [];
        stands = 2 ∷ 5 ∷ 5 ∷ [];
        trail = 5 ∷ 1 ∷ 10 ∷ [];
        of_places = (1 ∷ 0 ∷ 0 ∷ []) ∷ (3 ∷ 0 ∷ 0 ∷ []) ∷ (1 ∷ 0 ∷ 0 ∷ []) ∷ (1 ∷ 0 ∷ 1 ∷ []) ∷ (2 ∷ 1 ∷ 0 ∷ []) ∷ (2 ∷ 0 ∷ 0 ∷ []) ∷ [];
        of_acts = (1 ∷ 1 ∷ 0 ∷ []) ∷ (1 ∷ 1 ∷ 0 ∷ []) ∷ (2 ∷ 4 ∷ 1 ∷ []) ∷ (1 ∷ 1 ∷ 0 ∷ []) ∷ [];
        of_pairs = (3 ∷ 4 ∷ 1 ∷ []) ∷ [];
      };
    }
    -- T6
    ∷ record {
      kinds = 0 ∷ [];
      asks = close ∷ [];
      shows = record {
        answered = 0 ∷ [];
        stands = 2 ∷ [];
        trail = 0 ∷ 1 ∷ 1 ∷ [];
        of_places = (0 ∷ 0 ∷ 1 ∷ []) ∷ (0 ∷ 0 ∷ 0 ∷ []) ∷ (1 ∷ 1 ∷ 0 ∷ []) ∷ (0 ∷ 0 ∷ 0 ∷ []) ∷ (0 ∷ 0 ∷ 0 ∷ []) ∷ (0 ∷ 0 ∷ 0 ∷ []) ∷ [];
        of_acts = (0 ∷ 0 ∷ 0 ∷ []) ∷ (0 ∷ 0 ∷ 0 ∷ []) ∷ (0 ∷ 0 ∷ 0 ∷ []) ∷ (0 ∷ 0 ∷ 0 ∷ []) ∷ [];
        of_pairs = (0 ∷ 2 ∷ 1 ∷ []) ∷ [];
      };
    }
    -- T7
    ∷ awarded (0 ∷ 1 ∷ [])
    ∷ awarded (1 ∷ 0 ∷ [])
    -- T8 to T10
    ∷ record {
      kinds = three;
      asks = ask_event 0 (0 ∷ []) ∷ ask_event 1 (1 ∷ []) ∷ ask_event 2 (1 ∷ 0 ∷ []) ∷ ask_event 2 (1 ∷ 2 ∷ []) ∷ ask_event 2 (0 ∷ []) ∷ ask_event 3 (1 ∷ []) ∷ ask_event 4 (0 ∷ []) ∷ ask_event 2 (0 ∷ 3 ∷ []) ∷ close ∷ close ∷ ask_event 0 (0 ∷ []) ∷ [];
      shows = record {
        answered = 0 ∷ 0 ∷ 0 ∷ 27 ∷ 24 ∷ 26 ∷ 23 ∷ 25 ∷ 0 ∷ 31 ∷ 21 ∷ [];
        stands = 2 ∷ 5 ∷ 5 ∷ [];
        trail = 3 ∷ 2 ∷ 7 ∷ [];
        of_places = (1 ∷ 0 ∷ 0 ∷ []) ∷ (1 ∷ 0 ∷ 1 ∷ []) ∷ (1 ∷ 1 ∷ 0 ∷ []) ∷ (1 ∷ 0 ∷ 1 ∷ []) ∷ (1 ∷ 0 ∷ 0 ∷ []) ∷ (2 ∷ 1 ∷ 0 ∷ []) ∷ [];
        of_acts = (1 ∷ 1 ∷ 0 ∷ []) ∷ (1 ∷ 1 ∷ 0 ∷ []) ∷ (1 ∷ 2 ∷ 0 ∷ []) ∷ (0 ∷ 0 ∷ 0 ∷ []) ∷ [];
        of_pairs = (1 ∷ 2 ∷ 1 ∷ []) ∷ (3 ∷ 5 ∷ 1 ∷ []) ∷ [];
      };
    }
    -- a miscount that was met: one jump per event where two objects jumped
    ∷ both_jump (0 ∷ 1 ∷ [])
    ∷ both_jump (1 ∷ 0 ∷ [])
    ∷ []

-- the claim: on the net N, each row shows what it is to show
abbrev pub RowsHold : Net → Type 0
RowsHold N = All (λ (r : Row). shown N r.kinds r.asks ≡ r.shows) rows

-- the rows of T3 and T4, and a row's events
abbrev pub third : Row
third = get_or rows 0 (awarded [])

abbrev pub fourth : Row
fourth = get_or rows 1 (awarded [])

abbrev pub events_of : List Ask → List Event
events_of [] = []
events_of (event e ∷ qs) = e ∷ events_of qs
events_of (close ∷ qs) = events_of qs

-- the claim: from the sources, a script's and two sheets', T3's events are a permitted run and T4's are not
abbrev pub PermittedRows : Net → Type 0
PermittedRows N = Permitted N three (0 ∷ 3 ∷ 3 ∷ []) (events_of third.asks) × (Permitted N three (0 ∷ 3 ∷ 3 ∷ []) (events_of fourth.asks) → ⊥)

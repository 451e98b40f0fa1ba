-- Document 01's trails T1 to T10 as rows with one claim for all, computed over the bytes of tables and records.
use Rattle.std.specs.Prelude.{ℕ, not, ◌≡◌, List, [], ◌∷◌, ◌++◌, map, get_or, take, drop, eqb}
use Rattle.words.specs.Lists.{All, keep, upto}
use Rattle.net.specs.Net.{Net}
use Rattle.net.specs.Table.{net_of, load_code}
use Rattle.net.specs.Rows.{table_m}
use Rattle.net.specs.Rows as T
use Rattle.replay.specs.State.{State, stored_consumed, stored_pair, stored_jumps_in, stored_jumps_out, stored_moved, stored_jumps, stored_transfers}
use Rattle.replay.specs.Calls.{net_at, state_at, start_record}
use Rattle.replay.specs.Rows.{Shown, shown, pairs_below}
use Rattle.replay.specs.Rows as R
use Rattle.checkpoint.specs.Calls.{Call, asks, save, restore, calls, told, saves}
use Rattle.replay.specs.Limits.{max_record}

-- what a trail stores and gives, beside its answers: in the order of the plain run's `shown`
abbrev pub shown_from : Net → State → List ℕ → Shown
shown_from N d answered = record {
  answered = answered;
  stands = d.places;
  trail = d.events ∷ stored_jumps N d ∷ stored_transfers N d ∷ [];
  of_places = map (λ (q : ℕ). stored_consumed N d q ∷ stored_jumps_in N d q ∷ stored_jumps_out N d q ∷ []) (upto N.places 0);
  of_acts = map (λ (a : ℕ). get_or d.fired a 0 ∷ stored_moved N d a ∷ get_or d.jumps a 0 ∷ []) (upto N.acts 0);
  of_pairs = map (λ (x : ℕ × ℕ). x.0 ∷ x.1 ∷ stored_pair N d x.0 x.1 ∷ []) (keep (λ (x : ℕ × ℕ). not (eqb (stored_pair N d x.0 x.1) 0)) (pairs_below N.places));
}

abbrev pub shown_by : List ℕ → List ℕ → Shown
shown_by b answered = shown_from (net_at b) (state_at b) answered

-- A row: a table and the number that loading it gives; a trail on table M; or such a trail, put down after n of its calls
-- and taken up in another trail, just started with the objects `ks`.
pub data Row : Type 0 where
  loads : T.Row → Row
  replays : R.Row → Row
  resumes : ℕ → List ℕ → R.Row → Row

-- a freshly started trail on table M, and the calls of a row
abbrev pub begun : List ℕ → List ℕ
begun ks = start_record table_m ks

abbrev pub listed : R.Row → List Call
listed r = map asks r.asks

-- the record that the row's trail writes after n of its calls
abbrev pub saved_after : ℕ → R.Row → List ℕ
saved_after n r = get_or (saves (begun r.kinds) (take n (listed r) ++ save max_record ∷ [])) 0 []

-- the calls that restore it and go on
abbrev pub goes_on : ℕ → R.Row → List Call
goes_on n r = restore max_record (saved_after n r) ∷ drop n (listed r)

-- the row holds: of the plain run and of the bytes
abbrev pub Holds : Row → Type 0
Holds (loads r) = load_code r.table ≡ r.code
Holds (replays r) =
    (shown (net_of table_m) r.kinds r.asks ≡ r.shows)
    × (shown_by (calls (begun r.kinds) (listed r)) (told (begun r.kinds) (listed r)) ≡ r.shows)
Holds (resumes n ks r) =
    shown_by (calls (begun ks) (goes_on n r)) (told (begun r.kinds) (take n (listed r)) ++ told (begun ks) (goes_on n r)) ≡ r.shows

-- T1 and T2; T5, which is T4 taken up where a script alone was just started; T3, T4, T6 to T10, and two jumps in one event
abbrev pub rows : List Row
rows = map loads T.rows ++ (resumes 3 (0 ∷ []) R.fourth ∷ map replays R.rows)

-- the claim
abbrev pub RowsHold : Type 0
RowsHold = All Holds rows

-- The record of a started trail is one to which calls can be put, and fits the longest record's room. Assumes nothing.
use Prim.Native.Nat.{ℕ, ◌%◌, ◌≤◌}
use mathlib.Core.Path.{◌≡◌, ap, sym, ◌∙◌}
use mathlib.Core.List.{List}
use lib.ListN.{length, take, drop}
use lib.Seq.{take-append_seam}
use borrow.Author.Tests.{eq-eqb}
use Rattle.net.specs.Table.{net_of}
use Rattle.net.proofs.Promise.{table-size}
use Rattle.replay.specs.Plain.{register_code}
use Rattle.replay.specs.Register.{kinds_in}
use Rattle.replay.specs.Calls.{state_at, start_record, start_code, start_bytes}
use Rattle.replay.specs.Ready.{Ready}
use Rattle.replay.proofs.Encode.{encode-le}
use Rattle.replay.proofs.Records.{table_at, net-at, state-at, intact-at}
use Rattle.replay_start.specs.Startable.{Startable}
use Rattle.replay_start.proofs.StartLaws.{begun, loaded, sound, table-few}
use Rattle.replay.specs.Limits.{max_record}

module _ (t table objects : List ℕ) (S : Startable t table objects) (ok : register_code (net_of table) (kinds_in (net_of table) objects) ≡ 0) where
  pub start_fits : length (start_record table (kinds_in (net_of table) objects)) ≤ max_record
  unfolding start_record
  start_fits = encode-le (net_of table) (loaded t table objects S ok) table (begun table objects) (sound t table objects S ok) (table-few t table objects S ok)

  pub ready-start : Ready t (start_record table (kinds_in (net_of table) objects))
  unfolding start_record
  ready-start = let d = begun table objects in let good = S.tabled.taken in record {
    held = S.tabled.held;
    net = S.tabled.net ∙ sym (net-at table good d (sound t table objects S ok));
    intact = intact-at table good d (sound t table objects S ok);
    whole = ap (λ (l : List ℕ). length l % 4) (table_at table good d (sound t table objects S ok)) ∙ (table-size table good).2;
  }

  pub state-start : state_at (start_record table (kinds_in (net_of table) objects)) ≡ begun table objects
  unfolding start_record
  state-start = state-at table S.tabled.taken (begun table objects) (sound t table objects S ok)

-- a start that is not refused leaves the record in front of the lent bytes
pub start-front : (table ks lent : List ℕ) → start_code table ks (length lent) ≡ 0 → take (length (start_record table ks)) (start_bytes table ks lent) ≡ start_record table ks
unfolding start_bytes
start-front table ks lent e = rw (eq-eqb (start_code table ks (length lent)) 0 e) (take-append_seam (start_record table ks) (drop (length (start_record table ks)) lent))

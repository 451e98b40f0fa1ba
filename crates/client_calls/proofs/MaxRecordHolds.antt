-- No record is longer than CONFORM_MAX_RECORD. Assumes nothing.
use Prim.Native.Nat.{ℕ, ◌≤◌}
use mathlib.Core.Bool.{Bool, true, false}
use mathlib.Core.Path.{◌≡◌, sym, ◌∙◌}
use mathlib.Core.List.{List, [], ◌∷◌}
use native.Mathlib.Omega.{arith}
use native.Mathlib.Decide.{ℕ_discrete}
use lib.ListN.{length}
use lib.Dec.{ltb, eqb}
use borrow.Author.Tests.{eq-eqb, ne_eqb, le-ltb}
use Rattle.words.specs.Lists.{pick}
use Rattle.words.proofs.Refusals.{first-le, first_then, first-stays}
use Rattle.net.specs.Table.{net_of, load_code}
use Rattle.net_loader.proofs.LoadLaws.{code-le}
use Rattle.replay.specs.Plain.{register_tests, register_code}
use Rattle.replay.specs.Register.{whole_rows, kinds_in}
use Rattle.replay.specs.Calls.{start_record, start_code}
use Rattle.checkpoint.specs.Restore.{restore_tests, restore_code}
use Rattle.checkpoint.specs.Calls.{save_code}
use Rattle.checkpoint.specs.Take.{take_code}
use Rattle.checkpoint.proofs.Restored.{restored-le}
use Rattle.checkpoint.proofs.Demands.{roomy}
use Rattle.client_answers.specs.Answers.{number, wrote}
use Rattle.client_check.specs.OnTrail.{on_trail}
use Rattle.client_calls.specs.Client.{begin_code, save_answer}
use Rattle.client_calls.specs.MaxRecord.{MaxRecord}
use Rattle.client_calls.proofs.Numbers.{start-number, start-le, restore-number}
use Rattle.replay.specs.Limits.{max_record}

pub restore-few : (b : List ℕ) → restore_code b ≤ 47
unfolding restore_code
restore-few b = first-le 47 (restore_tests b) (omega arith)

-- 61 is no answer to a call on a lent trail where it is not the call's own: 41 to 47 come before
pub own-fits : (b : List ℕ) (own : ℕ) → (restore_code b ≡ 0 → number own ≡ 61 → ⊥) → number (on_trail b own) ≡ 61 → ⊥
own-fits b own h e = go (ℕ_discrete (restore_code b) 0)
  where
    go : Dec (restore_code b ≡ 0) → ⊥
    go (yes z) = h z (rw (eq-eqb (restore_code b) 0 z) at e)
    go (no n) = omega (arith, restore-few b, rw (ne_eqb (restore_code b) 0 n) at e)

-- restoring: 41 to 47, or there is room
module _ (r : List ℕ) (room : ℕ) (h : max_record ≤ room) where
  take-fits : take_code r room ≡ 61 → ⊥
  unfolding take_code restore_code
  take-fits e = go (ℕ_discrete (restore_code r) 0)
    where
      go : Dec (restore_code r ≡ 0) → ⊥
      go (yes z) = omega (arith, roomy r room z (omega (arith, restored-le r z)))
      go (no n) = omega (arith, first-stays (restore_tests r) ((ltb room (length r), 61) ∷ []) n, restore-few r)

-- starting: the table's numbers, 11 and 12, or there is room
module _ (table ks : List ℕ) (room : ℕ) (h : max_record ≤ room) (z : load_code table ≡ 0) where
  code-taken : register_code (net_of table) ks ≡ 0 → start_code table ks room ≡ 0
  unfolding start_code
  code-taken r = first_then (register_tests (net_of table) ks) ((ltb room (length (start_record table ks)), 61) ∷ []) r (omega arith)
      ∙ rw (le-ltb room (length (start_record table ks)) (omega (arith, start-le table ks z r)))

  register-few : register_code (net_of table) ks ≤ 12
  register-few = first-le 12 (register_tests (net_of table) ks) (omega arith)

  code_fits : start_code table ks room ≡ 61 → ⊥
  unfolding start_code
  code_fits e = go (ℕ_discrete (register_code (net_of table) ks) 0)
    where
      go : Dec (register_code (net_of table) ks ≡ 0) → ⊥
      go (yes r) = omega (arith, code-taken r)
      go (no n) = omega (arith, first-stays (register_tests (net_of table) ks) ((ltb room (length (start_record table ks)), 61) ∷ []) n, register-few)

begin-taken : (table objects : List ℕ) (room : ℕ) → load_code table ≡ 0 → whole_rows (net_of table) objects ≡ true → register_code (net_of table) (kinds_in (net_of table) objects) ≡ 0 → max_record ≤ room → begin_code table objects room ≡ 0
unfolding begin_code
begin-taken table objects room z f r h = rw (eq-eqb (load_code table) 0 z, f) (code-taken table (kinds_in (net_of table) objects) room h z r)

begin-fits : (table objects : List ℕ) (room : ℕ) → max_record ≤ room → begin_code table objects room ≡ 61 → ⊥
unfolding begin_code
begin-fits table objects room h = go (ℕ_discrete (load_code table) 0) (whole_rows (net_of table) objects)
  where
    go : Dec (load_code table ≡ 0) → (u : Bool) → pick (eqb (load_code table) 0) (pick u (start_code table (kinds_in (net_of table) objects) room) 11) (load_code table) ≡ 61 → ⊥
    go (yes z) true e = code_fits table (kinds_in (net_of table) objects) room h z (rw (eq-eqb (load_code table) 0 z) at e)
    go (yes z) false e = omega (arith, rw (eq-eqb (load_code table) 0 z) at e)
    go (no n) u e = omega (arith, code-le table, rw (ne_eqb (load_code table) 0 n) at e)

-- saving: 41 to 47, or there is room
pub room-saves : (b : List ℕ) (room : ℕ) → length b ≤ room → save_code b room ≡ 0
unfolding save_code
room-saves b room h = rw (le-ltb room (length b) h)

saves-fit : (b : List ℕ) (room : ℕ) → max_record ≤ room → number (save_answer b room) ≡ 61 → ⊥
unfolding save_answer
saves-fit b room h = own-fits b (wrote (save_code b room) (length b)) (λ z e. omega (arith, e, room-saves b room (omega (arith, restored-le b z))))

pub max-record : MaxRecord
max-record = record {
  start-le = start-le;
  trail-le = restored-le;
  starts = λ table objects room z f r h. start-number table objects room ∙ begin-taken table objects room z f r h;
  start-fits = λ table objects room h e. begin-fits table objects room h (sym (start-number table objects room) ∙ e);
  save-fits = saves-fit;
  restore-fits = λ r room h e. take-fits r room h (sym (restore-number r room) ∙ e);
}

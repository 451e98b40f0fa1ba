-- The halves of each exported answer: its number is the call's own, and what it wrote can be cut out. Assumes nothing.
use Prim.Native.Nat.{ℕ, ◌≤◌, ◌<◌}
use mathlib.Core.Bool.{Bool, true, false}
use mathlib.Core.Path.{◌≡◌, refl, ap, sym, ◌∙◌}
use mathlib.Core.List.{List, [], ◌∷◌}
use native.Mathlib.Omega.{arith}
use native.Mathlib.Decide.{ℕ_discrete}
use lib.ListN.{length, take, drop}
use lib.Seq.{take-append_seam}
use lib.Dec.{ltb, eqb}
use borrow.Author.Tests.{eq-eqb, ne_eqb}
use Rattle.words.specs.Lists.{pick, over}
use Rattle.words.proofs.Refusals.{none-apply, none-split, first-zero, first-le}
use Rattle.net.specs.Net.{Loaded}
use Rattle.net.specs.Table.{net_of, load_code}
use Rattle.net.proofs.Promise.{promise, table-size}
use Rattle.net_loader.proofs.LoadLaws.{code-le}
use Rattle.replay.specs.Plain.{Ask, event, close, event_tests, close_tests, register_tests, register_code}
use Rattle.replay.specs.Register.{whole_rows, kinds_in}
use Rattle.replay.specs.State.{start_state}
use Rattle.replay.specs.Calls.{net_at, state_at, ask_code, ask_bytes, start_tests, start_record, start_code}
use Rattle.replay.proofs.Accepted.{registered}
use Rattle.replay.proofs.Keep.{sound-start}
use Rattle.replay.proofs.Encode.{encode-le}
use Rattle.checkpoint.specs.Restore.{restore_code}
use Rattle.checkpoint.specs.Calls.{save_tests, save_code, save_bytes}
use Rattle.checkpoint.specs.Take.{take_tests, take_code, take_bytes}
use Rattle.checkpoint_restore.proofs.Lent.{saved-front, restored-front}
use Rattle.client_answers.specs.Answers.{packed, number, second, wrote}
use Rattle.client_calls.specs.Client.{begin_code, start_answer, start_leaves, ask_answer, ask_leaves, restore_answer, save_answer, save_leaves}
use Rattle.replay.specs.Limits.{max_record}

number_is : (n s : ℕ) → n ≤ 61 → number (packed n s) ≡ n
number_is n s h = omega arith

-- the front of lent bytes that an answer cuts out
pub front-is : (n : ℕ) (lent : List ℕ) → take (second (packed 0 n)) lent ≡ take n lent
front-is n lent = let e : second (packed 0 n) ≡ n = omega arith in ap (λ (n : ℕ). take n lent) e

-- an event, a close
ask-le : (b : List ℕ) (q : Ask) → ask_code b q ≤ 31
unfolding ask_code
ask-le b (event e) = first-le 31 (event_tests (net_at b) (state_at b).kinds (state_at b).closed (state_at b).events e) (omega arith)
ask-le b close = first-le 31 (close_tests (state_at b).closed) (omega arith)

-- calls on a trail to which none of 41 to 47 applies
module _ (b : List ℕ) (z : restore_code b ≡ 0) where
  pub ask-answer : (q : Ask) → ask_answer b q ≡ packed (ask_code b q) 0
  unfolding ask_answer
  ask-answer q = rw (eq-eqb (restore_code b) 0 z) refl

  pub ask-number : (q : Ask) → number (ask_answer b q) ≡ ask_code b q
  ask-number q = ap number (ask-answer q) ∙ number_is (ask_code b q) 0 (omega (arith, ask-le b q))

  pub ask-few : (q : Ask) → number (ask_answer b q) < 41
  ask-few q = omega (arith, ask-number q, ask-le b q)

  pub ask-leaves : (q : Ask) → ask_leaves b q ≡ ask_bytes b q
  unfolding ask_leaves
  ask-leaves q = rw (eq-eqb (restore_code b) 0 z) refl

  pub save-answer : (room : ℕ) → save_answer b room ≡ wrote (save_code b room) (length b)
  unfolding save_answer
  save-answer room = rw (eq-eqb (restore_code b) 0 z) refl

  save-le : (room : ℕ) → save_code b room ≤ 61
  unfolding save_code
  save-le room = first-le 61 (save_tests b room) (omega arith)

  pub save-number : (room : ℕ) → number (save_answer b room) ≡ save_code b room
  save-number room = ap number (save-answer room) ∙ number_is (save_code b room) _ (save-le room)

  -- the record that a save wrote is the trail
  pub save-front : (lent : List ℕ) → save_code b (length lent) ≡ 0 → take (second (save_answer b (length lent))) (save_leaves b lent) ≡ b
  unfolding save_leaves
  save-front lent e = rw (save-answer (length lent), e, eq-eqb (restore_code b) 0 z) (front-is (length b) (save_bytes b lent) ∙ saved-front b lent e)

-- restoring any bytes
module _ (r : List ℕ) where
  take-le : (room : ℕ) → take_code r room ≤ 61
  unfolding take_code
  take-le room = first-le 61 (take_tests r room) (omega arith)

  pub restore-number : (room : ℕ) → number (restore_answer r room) ≡ take_code r room
  unfolding restore_answer
  restore-number room = number_is (take_code r room) _ (take-le room)

  -- what a restore wrote is the record
  pub restore-front : (lent : List ℕ) → take_code r (length lent) ≡ 0 → take (second (restore_answer r (length lent))) (take_bytes r lent) ≡ r
  unfolding restore_answer
  restore-front lent e = rw e (front-is (length r) (take_bytes r lent) ∙ restored-front r lent e)

-- starting
module _ (table objects : List ℕ) (room : ℕ) where
  begin-le : begin_code table objects room ≤ 61
  unfolding begin_code start_code
  begin-le = go (eqb (load_code table) 0) (whole_rows (net_of table) objects) (first-le 61 (start_tests table (kinds_in (net_of table) objects) room) (omega arith)) (code-le table)
    where
      go : (t u : Bool) {n m : ℕ} → n ≤ 61 → m ≤ 9 → pick t (pick u n 11) m ≤ 61
      go true true h k = h
      go true false h k = omega arith
      go false u h k = omega arith

  pub start-number : number (start_answer table objects room) ≡ begin_code table objects room
  unfolding start_answer
  start-number = number_is (begin_code table objects room) _ begin-le

-- the register that starting takes, and the length of the record that it writes
module _ (table ks : List ℕ) where
  pub registers : (room : ℕ) → start_code table ks room ≡ 0 → register_code (net_of table) ks ≡ 0
  unfolding start_code
  registers room z = first-zero (register_tests (net_of table) ks)
      (none-split (register_tests (net_of table) ks) ((ltb room (length (start_record table ks)), 61) ∷ []) (none-apply (start_tests table ks room) (omega arith) z)).0

  pub start-le : load_code table ≡ 0 → register_code (net_of table) ks ≡ 0 → length (start_record table ks) ≤ max_record
  unfolding start_record
  start-le z r = let L : Loaded (net_of table) = promise table z in
      encode-le (net_of table) L table (start_state (net_of table) ks) (sound-start (net_of table) L ks (registered (net_of table) ks r)) (table-size table z).1

-- a start that is taken: the table loads, the register is taken, and what it wrote is their record
module _ (table objects lent : List ℕ) (z : number (start_answer table objects (length lent)) ≡ 0) where
  begun : begin_code table objects (length lent) ≡ 0
  begun = sym (start-number table objects (length lent)) ∙ z

  tests : (load_code table ≡ 0) × (start_code table (kinds_in (net_of table) objects) (length lent) ≡ 0)
  unfolding begin_code
  tests = go (ℕ_discrete (load_code table) 0) (whole_rows (net_of table) objects) begun
    where
      go : Dec (load_code table ≡ 0) → (u : Bool) → pick (eqb (load_code table) 0) (pick u (start_code table (kinds_in (net_of table) objects) (length lent)) 11) (load_code table) ≡ 0
          → (load_code table ≡ 0) × (start_code table (kinds_in (net_of table) objects) (length lent) ≡ 0)
      go (yes e) true h = (e, rw (eq-eqb (load_code table) 0 e) at h)
      go (yes e) false h = absurd (omega (arith, rw (eq-eqb (load_code table) 0 e) at h))
      go (no e) u h = absurd (e (rw (ne_eqb (load_code table) 0 e) at h))

  pub start-loads : load_code table ≡ 0
  start-loads = tests.0

  pub start-registers : register_code (net_of table) (kinds_in (net_of table) objects) ≡ 0
  start-registers = registers table (kinds_in (net_of table) objects) (length lent) tests.1

  pub start-front : take (second (start_answer table objects (length lent))) (start_leaves table objects lent) ≡ start_record table (kinds_in (net_of table) objects)
  unfolding start_answer start_leaves
  start-front = let R : List ℕ = start_record table (kinds_in (net_of table) objects) in rw begun (front-is (length R) (over R lent) ∙ take-append_seam R (drop (length R) lent))

-- Demand 3, whole: one claim over any list of calls. Assumes nothing.
use Prim.Native.Nat.{ℕ, ◌≤◌, ◌<◌}
use mathlib.Core.Bool.{Bool, true, false}
use mathlib.Core.Logic.{◌⊎◌, inl, inr, ◌↔◌}
use mathlib.Core.Option.{Option, none, some}
use mathlib.Core.Path.{◌≡◌, refl, ap, ap₂, sym, ◌∙◌, subst}
use mathlib.Core.List.{List, [], ◌∷◌, ◌++◌, map}
use native.Mathlib.Omega.{arith}
use lib.ListN.{length, get_or}
use lib.Dec.{ltb, eqb}
use borrow.Author.Tests.{eq-eqb, ne_eqb, le-ltb}
use Rattle.words.specs.Lists.{pick, All}
use Rattle.words.proofs.Lists.{All-to}
use Rattle.words.proofs.Refusals.{first_then}
use Rattle.net.proofs.Promise.{promise}
use Rattle.net.specs.Net.{Net, Loaded}
use Rattle.net.specs.Table.{net_of, load_code}
use Rattle.replay.specs.Plain.{Ask, Plain, register_code, begins, start, answer, accept, ask, run, answers}
use Rattle.replay.specs.Counts.{all_jumps}
use Rattle.replay.specs.Permitted.{Permitted}
use Rattle.replay.specs.State.{State, state_of, stored_jumps}
use Rattle.replay.specs.Sound.{Sound}
use Rattle.replay.specs.Record.{encode, table_in, Intact}
use Rattle.replay.specs.Claims.{Agrees}
use Rattle.replay.specs.Calls.{net_at, state_at, ask_code, ask_bytes, start_record}
use Rattle.replay.proofs.Records.{table_at, net-at, state-at, intact-at, code_at, step-at, sound-at}
use Rattle.replay.proofs.Theorems.{sound-reached, counts-agree, no-jump-iff-permitted}
use Rattle.checkpoint.specs.Restore.{restore_tests, restore_code}
use Rattle.checkpoint.specs.Take.{take_code}
use Rattle.checkpoint.specs.Calls.{Call, asks, save, restore, save_code, call_code, call_bytes, calls, told, saves, asked}
use Rattle.checkpoint.specs.Demand.{Fair, FairList, plain_record, plain_saves, plain, Demand3}
use Rattle.checkpoint.proofs.Restored.{restore-intact, intact-restores, stays-intact, table_stays, net-stays}

-- a refused call changes nothing
pub unchanged : (b : List ℕ) (c : Call) → (call_code b c ≡ 0 → ⊥) → call_bytes b c ≡ b
unfolding ask_bytes
unchanged b (asks q) n = rw (ne_eqb (ask_code b q) 0 n) refl
unchanged b (save room) n = refl
unchanged b (restore room r) n = rw (ne_eqb (take_code r room) 0 n) refl

-- with room for it, a record to which none of 41 to 47 applies is taken
pub roomy : (r : List ℕ) (room : ℕ) → restore_code r ≡ 0 → length r ≤ room → take_code r room ≡ 0
unfolding take_code restore_code
roomy r room z h = first_then (restore_tests r) ((ltb room (length r), 61) ∷ []) z (omega arith) ∙ rw (le-ltb room (length r) h)

-- it is the trail then, whatever trail stood there before
pub restored-trail : (r : List ℕ) → restore_code r ≡ 0 → (b : List ℕ) (room : ℕ) → length r ≤ room → call_bytes b (restore room r) ≡ r
restored-trail r z b room h = rw (eq-eqb (take_code r room) 0 (roomy r room z h)) refl

-- Which lists are fair. Restoring the trail's own record is, where it is the last that was written: that of starting too.
pub fair-own : (b : List ℕ) (room : ℕ) (cs : List Call) → Fair (some b) b cs → Fair (some b) b (restore room b ∷ cs)
fair-own b room cs f = (inl refl, go (eqb (take_code b room) 0))
  where
    go : (t : Bool) → Fair (some b) (pick t b b) cs
    go true = f
    go false = f

-- So is a save followed at once by a restore of it, wherever it stands.
pub fair-return : (b : List ℕ) (last : Option (List ℕ)) (room again : ℕ) (cs : List Call) → length b ≤ room → Fair (some b) b cs → Fair last b (save room ∷ restore again b ∷ cs)
unfolding save_code
fair-return b last room again cs h f = rw (le-ltb room (length b) h) (fair-own b again cs f)

-- Events and closes are fair, and what stands behind them decides.
pub fair-asks : (qs : List Ask) (b : List ℕ) (last : Option (List ℕ)) (cs : List Call)
    → ((last : Option (List ℕ)) → Fair last (calls b (map asks qs)) cs) → Fair last b (map asks qs ++ cs)
fair-asks [] b last cs h = h last
fair-asks (q ∷ qs) b last cs h = fair-asks qs (ask_bytes b q) _ cs h

pub fair-alone : (qs : List Ask) (b : List ℕ) (last : Option (List ℕ)) → Fair last b (map asks qs)
fair-alone [] b last = tt
fair-alone (q ∷ qs) b last = fair-alone qs (ask_bytes b q) _

-- A list that restores the record that starting wrote, feeds qs, saves, restores and feeds rs is one that demand 3 speaks of.
module _ (table ks : List ℕ) (qs rs : List Ask) (room : ℕ) where
  abbrev b : List ℕ
  b = start_record table ks

  abbrev halfway : List ℕ
  halfway = calls b (map asks qs)

  abbrev goes_on : List Call
  goes_on = map asks rs

  abbrev resumes : List Call
  resumes = save room ∷ restore room halfway ∷ goes_on

  pub fair-resumed : length halfway ≤ room → FairList table ks (restore room b ∷ map asks qs ++ resumes)
  fair-resumed h =
      fair-own b room (map asks qs ++ resumes)
      (fair-asks qs b (some b) resumes (λ last. fair-return halfway last room room goes_on h (fair-alone rs halfway (some halfway))))

-- Every event and close keeps a record such that none of 41 to 47 applies to it, also one that no trail could have written.
pub restores-stay : (b : List ℕ) → ((i : ℕ) → get_or b i 0 < 256) → restore_code b ≡ 0 → (q : Ask) → restore_code (ask_bytes b q) ≡ 0
unfolding net_at
restores-stay b small z q =
    let r = restore-intact b small z in
    let L : Loaded (net_at b) = promise (table_in b) r.0 in
    let e : net_at (ask_bytes b q) ≡ net_at b = net-stays b L r.1 q in
    intact-restores (ask_bytes b q) (subst Loaded (sym e) L) (ap load_code (table_stays b L r.1 q) ∙ r.0)
    (subst (λ (n : Net). Intact n (ask_bytes b q)) (sym e) (stays-intact b L r.1 q))

module _ (table : List ℕ) (good : load_code table ≡ 0) where
  abbrev N : Net
  N = net_of table

  L : Loaded N
  L = promise table good

  pub restores-at : (d : State) → Sound N d → restore_code (encode table d) ≡ 0
  restores-at d S =
      let e = net-at table good d S in
      intact-restores (encode table d) (subst Loaded (sym e) L) (ap load_code (table_at table good d S) ∙ good) (intact-at table good d S)

  -- what the list leaves of the trail b, which stores the plain run p
  record Same (b : List ℕ) (p : Plain) (cs : List Call) : Type 0 where
    bytes : calls b cs ≡ plain_record table (run N p (asked cs))
    answers-are : told b cs ≡ answers N p (asked cs)
    records : saves b cs ≡ plain_saves table p cs
    taken : All (λ (r : List ℕ). restore_code r ≡ 0) (saves b cs)

  -- the record last written, where no event or close was accepted since, is the trail's
  abbrev pub Last : Option (List ℕ) → List ℕ → Type 0
  Last last b = (last ≡ none) ⊎ (last ≡ some b)

  pub last-ask : (q : Ask) (last : Option (List ℕ)) (p : Plain) → Sound N (state_of N p) → Last last (plain_record table p)
      → Last (pick (eqb (ask_code (plain_record table p) q) 0) none last) (plain_record table (ask N p q))
  last-ask q last p S l = rw (code_at table good p S q) (go (eqb (answer N p q) 0))
    where
      go : (t : Bool) → Last (pick t none last) (plain_record table (pick t (accept p q) p))
      go true = inl refl
      go false = l

  pub last-save : (t : Bool) (last : Option (List ℕ)) (b : List ℕ) → Last last b → Last (pick t (some b) last) b
  last-save true last b l = inr refl
  last-save false last b l = l

  -- a fair restore leaves the trail as it is
  pub back : (room : ℕ) (r : List ℕ) (last : Option (List ℕ)) (b : List ℕ) → Last last b → (last ≡ some r) ⊎ (take_code r room ≡ 0 → ⊥) → call_bytes b (restore room r) ≡ b
  back room r last b l (inr n) = unchanged b (restore room r) n
  back room r last b (inl m) (inl e) = let z : ◌≡◌ {A = ℕ} 0 1 = cc in absurd (omega arith)
  back room r last b (inr m) (inl e) = let f : r ≡ b = cc in go (eqb (take_code r room) 0) f
    where
      go : (t : Bool) → r ≡ b → pick t r b ≡ b
      go true f = f
      go false f = refl

  -- the records that a save adds
  wrote : (t : Bool) (b : List ℕ) (p : Plain) (cs : List Call) → restore_code b ≡ 0 → b ≡ plain_record table p → Same b p cs
      → (pick t (b ∷ saves b cs) (saves b cs) ≡ pick t (plain_record table p ∷ plain_saves table p cs) (plain_saves table p cs))
      × All (λ (r : List ℕ). restore_code r ≡ 0) (pick t (b ∷ saves b cs) (saves b cs))
  wrote true b p cs z e s = (ap₂ (λ (r : List ℕ) (l : List (List ℕ)). r ∷ l) e s.records, (z, s.taken))
  wrote false b p cs z e s = (s.records, s.taken)

  same : (cs : List Call) (last : Option (List ℕ)) (p : Plain) → Sound N (state_of N p) → Last last (plain_record table p) → Fair last (plain_record table p) cs → Same (plain_record table p) p cs
  same [] last p S l f = record { bytes = refl; answers-are = refl; records = refl; taken = tt }
  same (asks q ∷ cs) last p S l f =
      let e = step-at table good p S q in
      let last' : Option (List ℕ) = pick (eqb (ask_code (plain_record table p) q) 0) none last in
      let s : Same (ask_bytes (plain_record table p) q) (ask N p q) cs = subst (λ (b : List ℕ). Same b (ask N p q) cs) (sym e)
      (same cs last' (ask N p q) (sound-at table good p S q) (last-ask q last p S l) (subst (λ (b : List ℕ). Fair last' b cs) e f)) in
      record { bytes = s.bytes; answers-are = ap₂ (λ (n : ℕ) (l : List ℕ). n ∷ l) (code_at table good p S q) s.answers-are; records = s.records; taken = s.taken }
  same (save room ∷ cs) last p S l f =
      let b : List ℕ = plain_record table p in
      let t : Bool = eqb (save_code b room) 0 in
      let s : Same b p cs = same cs (pick t (some b) last) p S (last-save t last b l) f in
      let w = wrote t b p cs (restores-at (state_of N p) S) refl s in
      record { bytes = s.bytes; answers-are = s.answers-are; records = w.0; taken = w.1 }
  same (restore room r ∷ cs) last p S l f =
      let b : List ℕ = plain_record table p in
      let e = back room r last b l f.0 in
      let s : Same (call_bytes b (restore room r)) p cs = subst (λ (b : List ℕ). Same b p cs) (sym e) (same cs last p S l (subst (λ (b : List ℕ). Fair last b cs) e f.1)) in
      record { bytes = s.bytes; answers-are = s.answers-are; records = s.records; taken = s.taken }

pub demand-three : (table ks : List ℕ) → load_code table ≡ 0 → register_code (net_of table) ks ≡ 0 → (cs : List Call) → FairList table ks cs → Demand3 table ks cs
unfolding start_record
demand-three table ks good ok cs fair = record {
  answers = s.answers-are;
  bytes = s.bytes;
  table_kept = ap table_in s.bytes ∙ table_at table good (state_of (net_of table) p) S;
  agrees = subst (λ (d : State). Agrees (net_of table) d p) (sym stored_is) (counts-agree (net_of table) (L table good) ks ok (asked cs));
  records = s.records;
  taken = s.taken;
  resumed = All-to (λ (r : List ℕ). restore_code r ≡ 0) (λ (r : List ℕ). (b : List ℕ) (room : ℕ) → length r ≤ room → call_bytes b (restore room r) ≡ r) restored-trail (saves (plain_record table (start ks)) cs) s.taken;
  unchanged = unchanged;
  no_jump = subst (λ (d : State). d.closed ≡ 1 → stored_jumps (net_of table) d ≡ 0 ↔ Permitted (net_of table) ks (begins (net_of table) ks) p.events) (sym stored_is) fit;
}
  where
    p : Plain
    p = plain table ks cs

    s : Same table good (plain_record table (start ks)) (start ks) cs
    s = same table good cs (some (plain_record table (start ks))) (start ks) (sound-reached (net_of table) (L table good) ks ok []) (inr refl) fair

    S : Sound (net_of table) (state_of (net_of table) p)
    S = sound-reached (net_of table) (L table good) ks ok (asked cs)

    stored_is : state_at (calls (plain_record table (start ks)) cs) ≡ state_of (net_of table) p
    stored_is = ap state_at s.bytes ∙ state-at table good (state_of (net_of table) p) S

    jumps-are : stored_jumps (net_of table) (state_of (net_of table) p) ≡ all_jumps (net_of table) p
    jumps-are = (counts-agree (net_of table) (L table good) ks ok (asked cs)).all-jumps-are

    fit : p.closed ≡ 1 → stored_jumps (net_of table) (state_of (net_of table) p) ≡ 0 ↔ Permitted (net_of table) ks (begins (net_of table) ks) p.events
    fit c = let r = no-jump-iff-permitted (net_of table) (L table good) ks ok (asked cs) c in (λ z. r.0 (sym jumps-are ∙ z), λ t. jumps-are ∙ r.1 t)

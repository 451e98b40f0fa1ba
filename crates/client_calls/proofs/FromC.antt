-- Demand 3 of the functions that C calls, whole: one claim over any list of calls. Assumes nothing.
use Prim.Native.Nat.{ℕ, ◌≤◌, ◌<◌}
use mathlib.Core.Bool.{Bool, true, false}
use mathlib.Core.Logic.{◌⊎◌, inl, inr}
use mathlib.Core.Option.{Option, none, some}
use mathlib.Core.Path.{◌≡◌, refl, ap, ap₂, sym, subst, ◌∙◌}
use mathlib.Core.List.{List, [], ◌∷◌, map}
use native.Mathlib.Omega.{arith}
use native.Mathlib.Decide.{ℕ_discrete}
use lib.ListN.{length}
use lib.Dec.{ltb, eqb}
use borrow.Author.Tests.{eqb-false, eq-eqb, ne_eqb}
use Rattle.words.specs.Lists.{pick, All}
use Rattle.words.proofs.Lists.{All-to}
use Rattle.words.proofs.Refusals.{first_then}
use Rattle.net.specs.Net.{Net}
use Rattle.net.specs.Table.{net_of, load_code}
use Rattle.net.proofs.Promise.{promise}
use Rattle.replay.specs.Plain as P
use Rattle.replay.specs.Plain.{Ask, Plain, start, ask, run, register_code, ask_event}
use Rattle.replay.specs.Register.{kinds_in}
use Rattle.replay.specs.State.{state_of}
use Rattle.replay.specs.Sound.{Sound}
use Rattle.replay.specs.Calls.{ask_code, ask_bytes, start_record}
use Rattle.replay.proofs.Records.{code_at, step-at, sound-at}
use Rattle.replay.proofs.Theorems.{sound-reached}
use Rattle.replay_close.specs.Answers.{ask_close}
use Rattle.checkpoint.specs.Restore.{restore_tests, restore_code}
use Rattle.checkpoint.specs.Take.{take_code, take_bytes}
use Rattle.checkpoint.specs.Calls.{save_code, save_bytes, call_bytes, saves, asked}
use Rattle.checkpoint.specs.Calls as list
use Rattle.checkpoint.specs.Demand.{plain_record, plain_saves, Demand3}
use Rattle.checkpoint.specs.Demand as Demand
use Rattle.checkpoint.proofs.Demands.{Last, restores-at, last-ask, last-save, back, demand-three}
use Rattle.client_answers.specs.Answers.{packed, number}
use Rattle.client_check.specs.Objects.{objects_in}
use Rattle.client_calls.specs.Client.{start_answer, ask_answer, ask_leaves, restore_answer, save_answer, save_leaves}
use Rattle.client_calls.specs.CallList.{Call, event, close, save, restore, taken, wrote_by, next, Given, answers, trail, written, Fair, Undamaged, meant, plain_answers, started_by, FairList, FromC}
use Rattle.client_calls.proofs.MaxRecordHolds.{room-saves}
use Rattle.client_calls.proofs.Numbers.{ask-answer, ask-number, ask-few, ask-leaves, save-answer, save-number, save-front, restore-number, restore-front, start-loads, start-registers, start-front}

-- a restore does to the trail what it does in demand 3
module _ (b r lent : List ℕ) where
  restore-taken : taken b (restore r lent) ≡ eqb (take_code r (length lent)) 0
  restore-taken = ap (λ (n : ℕ). eqb n 0) (restore-number r (length lent))

  restore-next : next b (restore r lent) ≡ call_bytes b (list.restore (length lent) r)
  restore-next = rw restore-taken (go (ℕ_discrete (take_code r (length lent)) 0))
    where
      go : Dec (take_code r (length lent) ≡ 0) → pick (eqb (take_code r (length lent)) 0) (wrote_by b (restore r lent)) b ≡ pick (eqb (take_code r (length lent)) 0) r b
      go (yes z) = ap (λ (x : List ℕ). pick (eqb (take_code r (length lent)) 0) x b) (restore-front r lent z)
      go (no n) = rw (ne_eqb (take_code r (length lent)) 0 n)

  refused : taken b (restore r lent) ≡ false → take_code r (length lent) ≡ 0 → ⊥
  refused e = eqb-false (take_code r (length lent)) 0 (sym restore-taken ∙ e)

  given : (last : Option (List ℕ)) → Given last b (restore r lent) → (last ≡ some r) ⊎ (take_code r (length lent) ≡ 0 → ⊥)
  given last (inl e) = inl e
  given last (inr e) = inr (refused e)

-- of a trail to which none of 41 to 47 applies
module _ (b : List ℕ) (z : restore_code b ≡ 0) where
  -- what is made of the record that a save wrote is made of the trail
  save-made : (A : Type 0) (f : List ℕ → A) (x : A) (lent : List ℕ) → pick (taken b (save lent)) (f (wrote_by b (save lent))) x ≡ pick (eqb (save_code b (length lent)) 0) (f b) x
  save-made A f x lent = ap (λ (n : ℕ). pick (eqb n 0) (f (wrote_by b (save lent))) x) (save-number b z (length lent)) ∙ go (ℕ_discrete (save_code b (length lent)) 0)
    where
      go : Dec (save_code b (length lent) ≡ 0) → pick (eqb (save_code b (length lent)) 0) (f (wrote_by b (save lent))) x ≡ pick (eqb (save_code b (length lent)) 0) (f b) x
      go (yes e) = ap (λ (r : List ℕ). pick (eqb (save_code b (length lent)) 0) (f r) x) (save-front b z lent e)
      go (no n) = rw (ne_eqb (save_code b (length lent)) 0 n)

  -- 0 or 61
  sixty : (t : Bool) → (pick t 61 0 < 41) ⊎ (47 < pick t 61 0)
  sixty true = inr (omega arith)
  sixty false = inl (omega arith)

  save-own : (room : ℕ) → (number (save_answer b room) < 41) ⊎ (47 < number (save_answer b room))
  unfolding save_code
  save-own room = rw (save-number b z room) (sixty (ltb room (length b)))

  restore-own : (room : ℕ) → (number (restore_answer b room) < 41) ⊎ (47 < number (restore_answer b room))
  unfolding take_code restore_code
  restore-own room = rw (restore-number b room, first_then (restore_tests b) ((ltb room (length b), 61) ∷ []) z (omega arith)) (sixty (ltb room (length b)))

-- a refused call changes nothing
ask-unchanged : (b : List ℕ) (q : Ask) → eqb (number (ask_answer b q)) 0 ≡ false → ask_leaves b q ≡ b
unfolding ask_leaves ask_bytes
ask-unchanged b q e = go (ℕ_discrete (restore_code b) 0)
  where
    go : Dec (restore_code b ≡ 0) → pick (eqb (restore_code b) 0) (ask_bytes b q) b ≡ b
    go (yes z) = rw (eq-eqb (restore_code b) 0 z, ← ask-number b z q, e) refl
    go (no n) = rw (ne_eqb (restore_code b) 0 n) refl

unchanged : (b : List ℕ) (c : Call) → taken b c ≡ false → next b c ≡ b
unchanged b (event act objects) e = ask-unchanged b (ask_event act (objects_in objects)) e
unchanged b close e = ask-unchanged b ask_close e
unchanged b (save lent) e = refl
unchanged b (restore r lent) e = rw e refl

save-unchanged : (b lent : List ℕ) → taken b (save lent) ≡ false → save_leaves b lent ≡ lent
unfolding save_leaves save_bytes
save-unchanged b lent e = go (ℕ_discrete (restore_code b) 0)
  where
    go : Dec (restore_code b ≡ 0) → pick (eqb (restore_code b) 0) (save_bytes b lent) lent ≡ lent
    go (yes z) = rw (eq-eqb (restore_code b) 0 z, ← save-number b z (length lent), e) refl
    go (no n) = rw (ne_eqb (restore_code b) 0 n) refl

restore-unchanged : (b r lent : List ℕ) → taken b (restore r lent) ≡ false → take_bytes r lent ≡ lent
unfolding take_bytes
restore-unchanged b r lent e = rw (sym (restore-taken b r lent) ∙ e) refl

module _ (table : List ℕ) (good : load_code table ≡ 0) where
  abbrev N : Net
  N = net_of table

  -- what the list does to the trail b, which stores the plain run p and last wrote the record `last`
  record Kept (last : Option (List ℕ)) (b : List ℕ) (p : Plain) (cs : List Call) : Type 0 where
    fair : Demand.Fair last b (map meant cs)
    answers-are : answers b cs ≡ plain_answers table p cs
    bytes : trail b cs ≡ plain_record table (run N p (asked (map meant cs)))
    undamaged : Undamaged b cs
    records : written b cs ≡ plain_saves table p (map meant cs)

  -- what an event or a close answers and leaves, and the list behind it
  module _ (q : Ask) (cs : List Call) (last : Option (List ℕ)) (p : Plain) (S : Sound N (state_of N p)) where
    abbrev b : List ℕ
    b = plain_record table p

    z : restore_code b ≡ 0
    z = restores-at table good (state_of N p) S

    abbrev after : Option (List ℕ)
    after = pick (eqb (ask_code b q) 0) none last

    ask-is : ask_answer b q ≡ packed (P.answer N p q) 0
    ask-is = ask-answer b z q ∙ ap (λ (n : ℕ). packed n 0) (code_at table good p S q)

    left_is : ask_leaves b q ≡ plain_record table (ask N p q)
    left_is = ask-leaves b z q ∙ step-at table good p S q

    fair-on : Fair (pick (eqb (number (ask_answer b q)) 0) none last) (ask_leaves b q) cs → Fair after (plain_record table (ask N p q)) cs
    fair-on f = subst (λ (x : List ℕ). Fair after x cs) left_is (subst (λ (n : ℕ). Fair (pick (eqb n 0) none last) (ask_leaves b q) cs) (ask-number b z q) f)

    on : Kept after (plain_record table (ask N p q)) (ask N p q) cs → Kept after (ask_leaves b q) (ask N p q) cs
    on = subst (λ (x : List ℕ). Kept after x (ask N p q) cs) (sym left_is)

    fair-meant : Kept after (ask_leaves b q) (ask N p q) cs → Demand.Fair after (ask_bytes b q) (map meant cs)
    fair-meant s = subst (λ (x : List ℕ). Demand.Fair after x (map meant cs)) (ask-leaves b z q) s.fair

  kept : (cs : List Call) (last : Option (List ℕ)) (p : Plain) → Sound N (state_of N p) → Last table good last (plain_record table p)
      → Fair last (plain_record table p) cs → Kept last (plain_record table p) p cs
  kept [] last p S l f = record { fair = tt; answers-are = refl; bytes = refl; undamaged = tt; records = refl }
  kept (event act objects ∷ cs) last p S l f =
      let q : Ask = ask_event act (objects_in objects) in
      let s = on q cs last p S (kept cs (after q cs last p S) (ask N p q) (sound-at table good p S q) (last-ask table good q last p S l) (fair-on q cs last p S f.1)) in
      record { fair = fair-meant q cs last p S s; answers-are = ap₂ (λ (n : ℕ) (l : List ℕ). n ∷ l) (ask-is q cs last p S) s.answers-are; bytes = s.bytes; undamaged = (λ t. inl (ask-few (b q cs last p S) (z q cs last p S) q), s.undamaged); records = s.records }
  kept (close ∷ cs) last p S l f =
      let q : Ask = ask_close in
      let s = on q cs last p S (kept cs (after q cs last p S) (ask N p q) (sound-at table good p S q) (last-ask table good q last p S l) (fair-on q cs last p S f.1)) in
      record { fair = fair-meant q cs last p S s; answers-are = ap₂ (λ (n : ℕ) (l : List ℕ). n ∷ l) (ask-is q cs last p S) s.answers-are; bytes = s.bytes; undamaged = (λ t. inl (ask-few (b q cs last p S) (z q cs last p S) q), s.undamaged); records = s.records }
  kept (save lent ∷ cs) last p S l f =
      let c : List ℕ = plain_record table p in
      let y : restore_code c ≡ 0 = restores-at table good (state_of N p) S in
      let t : Bool = eqb (save_code c (length lent)) 0 in
      let e : pick (taken c (save lent)) (some (wrote_by c (save lent))) last ≡ pick t (some c) last = save-made c y (Option (List ℕ)) (λ (r : List ℕ). some r) last lent in
      let s : Kept (pick t (some c) last) c p cs = kept cs (pick t (some c) last) p S (last-save table good t last c l) (subst (λ (o : Option (List ℕ)). Fair o c cs) e f.1) in
      record {
        fair = s.fair;
        answers-are = ap₂ (λ (n : ℕ) (l : List ℕ). n ∷ l) (save-answer c y (length lent)) s.answers-are;
        bytes = s.bytes;
        undamaged = (λ t. save-own c y (length lent), s.undamaged);
        records = save-made c y (List (List ℕ)) (λ (r : List ℕ). r ∷ written c cs) (written c cs) lent ∙ ap (λ (l : List (List ℕ)). pick t (c ∷ l) l) s.records;
      }
  kept (restore r lent ∷ cs) last p S l f =
      let c : List ℕ = plain_record table p in
      let y : restore_code c ≡ 0 = restores-at table good (state_of N p) S in
      let g = given c r lent last f.0 in
      let e : call_bytes c (list.restore (length lent) r) ≡ c = back table good (length lent) r last c l g in
      let n : next c (restore r lent) ≡ c = restore-next c r lent ∙ e in
      let s : Kept last c p cs = kept cs last p S l (subst (λ (x : List ℕ). Fair last x cs) n f.1) in
      let k : Kept last (next c (restore r lent)) p cs = subst (λ (x : List ℕ). Kept last x p cs) (sym n) s in
      record {
        fair = (g, subst (λ (x : List ℕ). Demand.Fair last x (map meant cs)) (sym e) s.fair);
        answers-are = ap (λ (l : List ℕ). restore_answer r (length lent) ∷ l) k.answers-are;
        bytes = k.bytes;
        undamaged = (λ o. subst (λ (x : List ℕ). (number (restore_answer x (length lent)) < 41) ⊎ (47 < number (restore_answer x (length lent)))) (sym o) (restore-own c y (length lent)), k.undamaged);
        records = k.records;
      }

-- Restoring the trail's own record is fair where it is the last that was written, as that of starting is; so is a save followed
-- at once by a restore of what it wrote.
module _ (b : List ℕ) (cs : List Call) (f : Fair (some b) b cs) where
  pub fair-own : (lent : List ℕ) → Fair (some b) b (restore b lent ∷ cs)
  fair-own lent = (inl refl, subst (λ (x : List ℕ). Fair (some b) x cs) (sym (restore-next b b lent ∙ back-own (eqb (take_code b (length lent)) 0))) f)
    where
      back-own : (t : Bool) → pick t b b ≡ b
      back-own true = refl
      back-own false = refl

  pub fair-return : (last : Option (List ℕ)) (lent again : List ℕ) → restore_code b ≡ 0 → length b ≤ length lent
      → Fair last b (save lent ∷ restore (wrote_by b (save lent)) again ∷ cs)
  fair-return last lent again z h =
      let e = room-saves b (length lent) h in
      rw (save-front b z lent e, save-number b z (length lent), e) (tt, fair-own again)

-- a record that is the trail once it is restored: in demand 3, and by the function that C calls
abbrev Returns : List ℕ → Type 0
Returns r = (b : List ℕ) (room : ℕ) → length r ≤ room → call_bytes b (list.restore room r) ≡ r

abbrev Resumes : List ℕ → Type 0
Resumes r = (b lent : List ℕ) → length r ≤ length lent → next b (restore r lent) ≡ r

-- The hypotheses are that conform_start is taken, and that each restore gets what the demand allows.
pub from-c : (table objects lent : List ℕ) (cs : List Call) → number (start_answer table objects (length lent)) ≡ 0 → FairList table objects lent cs → FromC table objects lent cs
unfolding start_record
from-c table objects lent cs z f = record {
  answers-are = rw e k.answers-are;
  bytes = rw e k.bytes;
  undamaged = rw e k.undamaged;
  records = w;
  resumed = subst (λ (rs : List (List ℕ)). All Resumes rs) (D.records ∙ sym w) (All-to Returns Resumes (λ r h b lent f. restore-next b r lent ∙ h b (length lent) f) (saves (start_record table (kinds_in (net_of table) objects)) (map meant cs)) D.resumed);
  unchanged = unchanged;
  save-unchanged = save-unchanged;
  restore-unchanged = restore-unchanged;
  demand = D;
}
  where
    good : load_code table ≡ 0
    good = start-loads table objects lent z

    ok : register_code (net_of table) (kinds_in (net_of table) objects) ≡ 0
    ok = start-registers table objects lent z

    e : started_by table objects lent ≡ start_record table (kinds_in (net_of table) objects)
    e = start-front table objects lent z

    k : Kept table good (some (start_record table (kinds_in (net_of table) objects))) (start_record table (kinds_in (net_of table) objects)) (start (kinds_in (net_of table) objects)) cs
    k = kept table good cs (some (start_record table (kinds_in (net_of table) objects))) (start (kinds_in (net_of table) objects)) (sound-reached (net_of table) (promise table good) (kinds_in (net_of table) objects) ok []) (inr refl)
        (subst (λ (x : List ℕ). Fair (some x) x cs) e f)

    D : Demand3 table (kinds_in (net_of table) objects) (map meant cs)
    D = demand-three table (kinds_in (net_of table) objects) good ok (map meant cs) k.fair

    w : written (started_by table objects lent) cs ≡ plain_saves table (start (kinds_in (net_of table) objects)) (map meant cs)
    w = rw e k.records

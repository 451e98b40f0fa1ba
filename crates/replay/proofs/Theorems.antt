-- The results by name: of every sound state, and of every run on a loaded net from a register that 11 and 12 do not refuse.
-- Assumes nothing.
use Prim.Native.Nat.{ℕ, ◌+◌, ◌*◌, ◌≤◌}
use mathlib.Core.Bool.{Bool, true, false}
use mathlib.Core.Logic.{◌↔◌}
use mathlib.Core.Path.{◌≡◌, refl, ap, sym, ◌∙◌, subst}
use mathlib.Core.List.{List, [], ◌∷◌}
use native.Mathlib.Omega.{arith}
use lib.ListN.{length}
use lib.Dec.{eqb}
use Rattle.words.specs.Lists.{pick, one, total, sum_to}
use Rattle.words.proofs.Sums.{total-length, keep-le}
use Rattle.net.specs.Net.{Net, Loaded}
use Rattle.replay.specs.Plain.{Event, Ask, event, close, Plain, Hop, jumped, begins, register_code, start, answer, accept, ask, run, answers, history, positions}
use Rattle.replay.specs.Counts.{leaps, transfers, all_jumps, consumed, jumps_in}
use Rattle.replay.specs.Permitted.{Permitted}
use Rattle.replay.specs.State.{State, start_state, answer_s, run_s, answers_s, state_of}
use Rattle.replay.specs.Sound.{OnKind, Sound}
use Rattle.replay.specs.Claims.{Agrees, EventAtOnce, CloseAtOnce}
use Rattle.replay.proofs.Accepted.{accepted, registered, closers-length}
use Rattle.replay.proofs.Entry.{event-at-once, close-at-once}
use Rattle.replay.proofs.Simulate.{run_sim, answers-sim}
use Rattle.replay.proofs.Agree.{Reached, reached-run, reached-start, pair_is, in_is, out-is, fired-is, jumps-is, consumed-is, transfers-is, transfers-by-objects, consumed-total, positions-on}
use Rattle.replay.proofs.Keep.{sound-run, all-jumps-is}
use Rattle.replay.proofs.Permit.{permitted}

-- a run keeps the register
pub run-kinds : (N : Net) (qs : List Ask) (p : Plain) → (run N p qs).kinds ≡ p.kinds
run-kinds N [] p = refl
run-kinds N (q ∷ qs) p = run-kinds N qs (ask N p q) ∙ go q (eqb (answer N p q) 0)
  where
    go : (q : Ask) (b : Bool) → (pick b (accept p q) p).kinds ≡ p.kinds
    go (event e) true = refl
    go (event e) false = refl
    go close true = refl
    go close false = refl

-- the stored state gives the plain run's answers, and is what the plain run stores
pub answers_agree : (N : Net) (ks : List ℕ) (qs : List Ask) → answers_s N (start_state N ks) qs ≡ answers N (start ks) qs
answers_agree N ks qs = answers-sim N qs (start ks)

pub states-agree : (N : Net) (ks : List ℕ) (qs : List Ask) → run_s N (start_state N ks) qs ≡ state_of N (run N (start ks) qs)
states-agree N ks qs = run_sim N qs (start ks)

-- jumps never exceed transfers; IN never exceeds TAKEN
pub jumps-le-transfers : (N : Net) (p : Plain) → all_jumps N p ≤ transfers N p
jumps-le-transfers N p = omega (arith, sym (total-length (leaps N p)), keep-le jumped (λ (h : Hop). 1) (history N p), total-length (history N p))

pub jumps-in-le-consumed : (N : Net) (p : Plain) (q : ℕ) → jumps_in N p q ≤ consumed N p q
jumps-in-le-consumed N p q = keep-le jumped (λ (h : Hop). one (eqb q h.to)) (history N p)

-- of every state that none of 44 to 47 refuses, also one that no trail wrote: an accepted event, and a close, judge each object
-- by the places at their entry
pub event-judged-at-entry : (N : Net) (d : State) → Sound N d → (e : Event) → answer_s N d (event e) ≡ 0 → EventAtOnce N d.kinds d.places e
event-judged-at-entry N d S e z = event-at-once N d.kinds d.places S.on.size e (accepted N d.kinds d.closed d.events e z).fits

pub close-judged-at-entry : (N : Net) (d : State) → Sound N d → CloseAtOnce N d.kinds d.places
close-judged-at-entry N d S = close-at-once N d.kinds d.places S.on.size

module _ (N : Net) (L : Loaded N) (ks : List ℕ) (ok : register_code N ks ≡ 0) (qs : List Ask) where
  reached : Reached N (run N (start ks) qs)
  reached = reached-run N qs (start ks) (reached-start N ks (registered N ks ok))

  -- none of 44 to 47 applies to what a run stores
  pub sound-reached : Sound N (state_of N (run N (start ks) qs))
  sound-reached = sound-run N L ks (registered N ks ok) qs

  pub counts-agree : Agrees N (state_of N (run N (start ks) qs)) (run N (start ks) qs)
  counts-agree = let p : Plain = run N (start ks) qs in record {
    kinds-are = refl;
    places-are = refl;
    closed_is = refl;
    events-are = refl;
    closing-are = refl;
    all-jumps-are = all-jumps-is N L p reached sound-reached;
    transfers-are = transfers-is N L p reached;
    consumed-is = λ q h. consumed-is N L p reached q;
    jumps-in-are = in_is N L p reached;
    jumps-out-are = out-is N L p reached;
    pair-jumps-are = pair_is N L p reached;
    fired-is = fired-is N L p reached;
    moved-is = λ a h. ap (λ (n : ℕ). n * length (N.arcs a)) (fired-is N L p reached a h);
    jumps-are = jumps-is N L p reached;
  }

  pub stored-agree : Agrees N (run_s N (start_state N ks) qs) (run N (start ks) qs)
  stored-agree = subst (λ (d : State). Agrees N d (run N (start ks) qs)) (sym (states-agree N ks qs)) counts-agree

  -- transfers: the objects summed over the accepted events, and once closed those that the close takes, the register's size
  pub transfers-are : transfers N (run N (start ks) qs) ≡ total (λ (e : Event). length e.objs) (run N (start ks) qs).events + (run N (start ks) qs).closed * length ks
  transfers-are = let p : Plain = run N (start ks) qs in subst (λ (l : List ℕ). transfers N (run N (start ks) qs) ≡ total (λ (e : Event). length e.objs) (run N (start ks) qs).events + (run N (start ks) qs).closed * length l)
      (run-kinds N qs (start ks)) (transfers-by-objects N L p reached ∙ ap (λ (n : ℕ). total (λ (e : Event). length e.objs) p.events + p.closed * n) (closers-length p.kinds))

  pub closed-le : (run N (start ks) qs).closed ≤ 1
  closed-le = reached.flag

  -- TAKEN over all places adds up to the transfers
  pub consumed-sum : sum_to N.places (λ (q : ℕ). consumed N (run N (start ks) qs) q) ≡ transfers N (run N (start ks) qs)
  consumed-sum = consumed-total N L (run N (start ks) qs) reached

  -- every object stands on one place, of its own kind
  pub on-own-kind : OnKind N ks (positions N (run N (start ks) qs))
  on-own-kind = subst (λ (l : List ℕ). OnKind N l (positions N (run N (start ks) qs))) (run-kinds N qs (start ks)) (positions-on N L (run N (start ks) qs) reached)

  -- once closed, no jump exactly where the accepted events are a permitted run
  pub no-jump-iff-permitted : (run N (start ks) qs).closed ≡ 1 → all_jumps N (run N (start ks) qs) ≡ 0 ↔ Permitted N ks (begins N ks) (run N (start ks) qs).events
  no-jump-iff-permitted c = subst (λ (l : List ℕ). all_jumps N (run N (start ks) qs) ≡ 0 ↔ Permitted N l (begins N l) (run N (start ks) qs).events)
      (run-kinds N qs (start ks)) (permitted N (run N (start ks) qs) reached.fits c)

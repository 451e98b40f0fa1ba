-- The stored state answers and steps as the plain run does. Assumes nothing.
use Prim.Native.Nat.{ℕ, ◌+◌, ◌*◌}
use mathlib.Core.Bool.{Bool, true, false}
use mathlib.Core.Path.{◌≡◌, refl, ap, ap₂, sym, ◌∙◌, subst}
use mathlib.Core.List.{List, [], ◌∷◌, ◌++◌, map, append-nil, append_assoc}
use native.Mathlib.Omega.{arith}
use native.Mathlib.Numerals.{add-one}
use lib.ListN.{length, replicate, length-append}
use lib.Dec.{eqb}
use borrow.Author.Tests.{eqb-true}
use Rattle.words.specs.Lists.{pick, keep}
use Rattle.words.proofs.Lists.{keep_append, map-append}
use Rattle.net.specs.Net.{Net}
use Rattle.replay.specs.Plain.{Event, Ask, event, close, Plain, jumped, hops, walked, legs, course, after, start, with_accepted, with_flag, answer, accept, ask, run, answers, event_hops, close_hops}
use Rattle.replay.specs.State.{State, with_closing, with_pairs, tally, hop_index, state_of, after_event, after_close, answer_s, accept_s, ask_s, run_s, answers_s}
use Rattle.replay.proofs.Tally.{tally-append, jumps-append}
use Rattle.replay.proofs.Accepted.{accepted, closable}

module _ (N : Net) (ks : List ℕ) where
  after-append : (ps : List ℕ) (es : List Event) (e : Event) → after N ks ps (es ++ e ∷ []) ≡ walked (after N ks ps es) (legs N ks e)
  after-append ps [] e = refl
  after-append ps (x ∷ es) e = after-append (walked ps (legs N ks x)) es e

  course-append : (ps : List ℕ) (es : List Event) (e : Event) → course N ks ps (es ++ e ∷ []) ≡ course N ks ps es ++ hops (after N ks ps es) (legs N ks e)
  course-append ps [] e = append-nil _
  course-append ps (x ∷ es) e = simp (course-append (walked ps (legs N ks x)) es e, append_assoc)

  -- the run of these events, with this flag
  abbrev at : List Event → ℕ → Plain
  at es c = with_flag (with_accepted (start ks) es) c

  event-sim : (es : List Event) (e : Event) → after_event N (state_of N (at es 0)) e ≡ state_of N (at (es ++ e ∷ []) 0)
  event-sim es e = simp (append-nil, after-append, course-append, keep_append, map-append, tally-append, length-append, add-one) (cc (append-nil (event_hops N (at es 0))))

  close-sim : (es : List Event) → after_close N (state_of N (at es 0)) ≡ state_of N (at es 1)
  close-sim es = ap₂ (λ (n : ℕ) (js : List ℕ). with_pairs (with_closing (state_of N (at es 1)) n) js) closing pairs
    where
      closing : 0 + length (keep jumped (close_hops N (at es 1))) ≡ (state_of N (at es 1)).closing
      closing = omega arith

      pairs : tally (state_of N (at es 0)).pairs (map (hop_index N) (keep jumped (close_hops N (at es 1)))) ≡ (state_of N (at es 1)).pairs
      pairs = cc (append-nil (event_hops N (at es 0)), jumps-append N (replicate (N.places * N.places) 0) (event_hops N (at es 0)) (close_hops N (at es 1)))

-- what is accepted finds the run open
pub still_open : (N : Net) (p : Plain) (q : Ask) → answer N p q ≡ 0 → p.closed ≡ 0
still_open N p (event e) z = (accepted N p.kinds p.closed (length p.events) e z).still_open
still_open N p close z = closable p.closed z

module _ (N : Net) where
  accept-sim : (q : Ask) (p : Plain) → p.closed ≡ 0 → accept_s N (state_of N p) q ≡ state_of N (accept p q)
  accept-sim (event e) p c =
      subst (λ (z : ℕ). after_event N (state_of N (at N p.kinds p.events z)) e ≡ state_of N (at N p.kinds (p.events ++ e ∷ []) z)) (sym c) (event-sim N p.kinds p.events e)
  accept-sim close p c =
      subst (λ (z : ℕ). after_close N (state_of N (at N p.kinds p.events z)) ≡ state_of N (at N p.kinds p.events 1)) (sym c) (close-sim N p.kinds p.events)

  pub answer-sim : (p : Plain) (q : Ask) → answer_s N (state_of N p) q ≡ answer N p q
  answer-sim p (event e) = refl
  answer-sim p close = refl

  pub ask-sim : (p : Plain) (q : Ask) → ask_s N (state_of N p) q ≡ state_of N (ask N p q)
  ask-sim p q = rw (answer-sim p q) (go (eqb (answer N p q) 0) refl)
    where
      go : (b : Bool) → eqb (answer N p q) 0 ≡ b → pick b (accept_s N (state_of N p) q) (state_of N p) ≡ state_of N (pick b (accept p q) p)
      go false e = refl
      go true e = accept-sim q p (still_open N p q (eqb-true _ _ e))

  pub run_sim : (qs : List Ask) (p : Plain) → run_s N (state_of N p) qs ≡ state_of N (run N p qs)
  run_sim [] p = refl
  run_sim (q ∷ qs) p = ap (λ (d : State). run_s N d qs) (ask-sim p q) ∙ run_sim qs (ask N p q)

  pub answers-sim : (qs : List Ask) (p : Plain) → answers_s N (state_of N p) qs ≡ answers N p qs
  answers-sim [] p = refl
  answers-sim (q ∷ qs) p = ap₂ (λ (n : ℕ) (l : List ℕ). n ∷ l) (answer-sim p q) (ap (λ (d : State). answers_s N d qs) (ask-sim p q) ∙ answers-sim qs (ask N p q))

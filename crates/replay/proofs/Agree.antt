-- Each count that is stored or worked out is the plain run's. Assumes nothing.
use Prim.Native.Nat.{ℕ, zero, suc, ◌+◌, ◌*◌, ◌/◌, ◌≤◌, ◌<◌}
use mathlib.Core.Bool.{Bool, true, false}
use mathlib.Core.Path.{◌≡◌, refl, ap, sym, ◌∙◌, subst}
use mathlib.Core.List.{List, [], ◌∷◌, map}
use native.Mathlib.Omega.{arith}
use native.Mathlib.Decide.{ℕ_discrete}
use lib.Arith.{digits_div, digits_lt}
use lib.ListN.{length, get_or, length-append, length-map}
use lib.Dec.{eqb}
use borrow.Author.Tests.{eqb-true, eq-eqb, ne_eqb}
use Rattle.words.specs.Lists.{pick, All, keep, one, total, sum_to}
use Rattle.words.proofs.Lists.{All-append, All-keep}
use Rattle.words.proofs.Sums.{total-append, total-map, total-same, total-swap, total-length, sum_to-same, sum_to-at, by_value}
use Rattle.net.specs.Net.{Net, Arc, Loaded}
use Rattle.replay.specs.Plain.{Event, Ask, event, close, Plain, Hop, jumped, hops, walked, closers, closer_kinds, endings, begins, start, with_flag, answer, accept, ask, run, event_hops, stand, close_hops, history, positions}
use Rattle.replay.specs.Counts.{leaps, transfers, consumed, jumps_in, jumps_out, pair_jumps, fired, jumps}
use Rattle.replay.specs.State.{state_of, hop_index, stored_consumed, stored_pair, stored_jumps_in, stored_jumps_out, stored_transfers}
use Rattle.replay.specs.Sound.{OnKind}
use Rattle.replay.proofs.Tally.{tallied}
use Rattle.replay.proofs.Accepted.{Fitting, accepted, Registered, GoodHop, hops-good, course-good, course-sum, begins-on, endings-good, endings-sum}

-- what holds of every state that a started run reaches
pub record Reached (N : Net) (p : Plain) : Type 0 where
  pub register : Registered N p.kinds
  pub fits : All (Fitting N p.kinds) p.events
  pub few : length p.events ≤ 1000000
  pub flag : p.closed ≤ 1

module _ (N : Net) where
  reached-accept : (q : Ask) (p : Plain) → Reached N p → answer N p q ≡ 0 → Reached N (accept p q)
  reached-accept (event e) p R z = let t = accepted N p.kinds p.closed (length p.events) e z in
      record {
        register = R.register;
        fits = All-append (Fitting N p.kinds) p.events (e ∷ []) R.fits (t.fits, tt);
        few = rw length-append (omega (arith, t.few));
        flag = R.flag;
      }
  reached-accept close p R z = record { register = R.register; fits = R.fits; few = R.few; flag = omega arith }

  reached-ask : (q : Ask) (p : Plain) → Reached N p → Reached N (ask N p q)
  reached-ask q p R = go (eqb (answer N p q) 0) refl
    where
      go : (b : Bool) → eqb (answer N p q) 0 ≡ b → Reached N (pick b (accept p q) p)
      go true e = reached-accept q p R (eqb-true _ _ e)
      go false e = R

  pub reached-run : (qs : List Ask) (p : Plain) → Reached N p → Reached N (run N p qs)
  reached-run [] p R = R
  reached-run (q ∷ qs) p R = reached-run qs (ask N p q) (reached-ask q p R)

  pub reached-start : (ks : List ℕ) → Registered N ks → Reached N (start ks)
  reached-start ks r = record { register = r; fits = tt; few = omega arith; flag = omega arith }

-- the open and the closed case of a run
pub by_flag : (Q : Plain → Type 0) (p : Plain) → p.closed ≤ 1 → Q (with_flag p 0) → Q (with_flag p 1) → Q p
by_flag Q p h a b = go p.closed h refl
  where
    go : (c : ℕ) → c ≤ 1 → p.closed ≡ c → Q p
    go zero l e = subst (λ (z : ℕ). Q (with_flag p z)) (sym e) a
    go (suc zero) l e = subst (λ (z : ℕ). Q (with_flag p z)) (sym e) b
    go (suc (suc n)) l e = absurd (omega arith)

-- a pair's index tells the pair
pub index-eq : (P x y f t : ℕ) → y < P → t < P → one (eqb (x * P + y) (f * P + t)) ≡ one (eqb x f) * one (eqb y t)
index-eq P x y f t hy ht = go (ℕ_discrete x f) (ℕ_discrete y t)
  where
    go : Dec (x ≡ f) → Dec (y ≡ t) → one (eqb (x * P + y) (f * P + t)) ≡ one (eqb x f) * one (eqb y t)
    go (yes a) (yes b) = rw (eq-eqb x f a, eq-eqb y t b, eq-eqb (x * P + y) (f * P + t) (cc)) refl
    go (yes a) (no b) = rw (eq-eqb x f a, ne_eqb y t b, ne_eqb (x * P + y) (f * P + t) (λ e. b (let z : x * P ≡ f * P = cc in omega arith))) refl
    go (no a) d = rw (ne_eqb x f a, ne_eqb (x * P + y) (f * P + t) (λ e. a (sym (digits_div x hy) ∙ ap (λ (n : ℕ). n / P) e ∙ digits_div f ht))) (omega arith)

-- a jump between known places of one kind
abbrev pub Leapt : Net → Hop → Type 0
Leapt N h = GoodHop N h × (jumped h ≡ true)

module _ (N : Net) (L : Loaded N) (p : Plain) (R : Reached N p) where
  on-stand : All (GoodHop N) (event_hops N p) × OnKind N p.kinds (stand N p)
  on-stand = course-good N L p.kinds p.events (begins N p.kinds) (begins-on N L p.kinds R.register.kinds) R.fits

  on-end : All (GoodHop N) (hops (stand N p) (endings N p.kinds)) × OnKind N p.kinds (walked (stand N p) (endings N p.kinds))
  on-end = hops-good N L p.kinds (endings N p.kinds) (stand N p) on-stand.1 (endings-good N L p.kinds R.register.kinds)

  lasts-good : All (GoodHop N) (close_hops N p)
  lasts-good = by_flag (λ (p : Plain). All (GoodHop N) (close_hops N p)) p R.flag tt on-end.0

  history-good : All (GoodHop N) (history N p)
  history-good = All-append (GoodHop N) (event_hops N p) (close_hops N p) on-stand.0 lasts-good

  pub positions-on : OnKind N p.kinds (positions N p)
  positions-on = by_flag (λ (p : Plain). OnKind N p.kinds (positions N p)) p R.flag on-stand.1 on-end.1

  pub leaps-good : All (Leapt N) (leaps N p)
  leaps-good = All-keep (GoodHop N) jumped (history N p) history-good

  pub pair_is : (x y : ℕ) → x < N.places → y < N.places → stored_pair N (state_of N p) x y ≡ pair_jumps N p x y
  pair_is x y hx hy =
      tallied (map (hop_index N) (leaps N p)) (N.places * N.places) (x * N.places + y) (digits_lt hx hy)
      ∙ total-map (hop_index N) (λ (c : ℕ). one (eqb (x * N.places + y) c)) (leaps N p)
      ∙ total-same (Leapt N) _ _ (leaps N p) leaps-good (λ h g. index-eq N.places x y h.from h.to hy g.0.to_in)

  pub in_is : (q : ℕ) → q < N.places → stored_jumps_in N (state_of N p) q ≡ jumps_in N p q
  in_is q hq =
      sum_to-same N.places _ _ (λ x hx. pair_is x q hx hq)
      ∙ total-swap (λ (x : ℕ) (h : Hop). one (eqb x h.from) * one (eqb q h.to)) N.places (leaps N p)
      ∙ total-same (Leapt N) _ _ (leaps N p) leaps-good (λ h g. sum_to-at N.places h.from (λ (x : ℕ). one (eqb q h.to)) g.0.from_in)

  pub out-is : (q : ℕ) → q < N.places → stored_jumps_out N (state_of N p) q ≡ jumps_out N p q
  out-is q hq =
      sum_to-same N.places _ _ (λ y hy. pair_is q y hq hy ∙ total-same (Leapt N) _ (λ (h : Hop). one (eqb y h.to) * one (eqb q h.from)) (leaps N p) leaps-good (λ h g. omega arith))
      ∙ total-swap (λ (y : ℕ) (h : Hop). one (eqb y h.to) * one (eqb q h.from)) N.places (leaps N p)
      ∙ total-same (Leapt N) _ _ (leaps N p) leaps-good (λ h g. sum_to-at N.places h.to (λ (x : ℕ). one (eqb q h.from)) g.0.to_in)

  pub fired-is : (a : ℕ) → a < N.acts → get_or (state_of N p).fired a 0 ≡ fired N p a
  fired-is a h = tallied (map (λ (e : Event). e.act) p.events) N.acts a h ∙ total-map (λ (e : Event). e.act) (λ (c : ℕ). one (eqb a c)) p.events

  pub jumps-is : (a : ℕ) → a < N.acts → get_or (state_of N p).jumps a 0 ≡ jumps N p a
  jumps-is a h = tallied (map (λ (h : Hop). h.act) (keep jumped (event_hops N p))) N.acts a h ∙ total-map (λ (h : Hop). h.act) (λ (c : ℕ). one (eqb a c)) (keep jumped (event_hops N p))

  -- a sum over the activities of what is stored for each is one over the events
  fired-sum : (v : ℕ → ℕ) → sum_to N.acts (λ (a : ℕ). get_or (state_of N p).fired a 0 * v a) ≡ total (λ (e : Event). v e.act) p.events
  fired-sum v =
      sum_to-same N.acts _ _ (λ a h. ap (λ (n : ℕ). n * v a) (tallied (map (λ (e : Event). e.act) p.events) N.acts a h))
      ∙ sym (by_value N.acts v (map (λ (e : Event). e.act) p.events) (acts-in p.events R.fits))
      ∙ total-map (λ (e : Event). e.act) v p.events
    where
      acts-in : (es : List Event) → All (Fitting N p.kinds) es → All (λ (a : ℕ). a < N.acts) (map (λ (e : Event). e.act) es)
      acts-in [] t = tt
      acts-in (e ∷ es) t = (t.0.act-in, acts-in es t.1)

  -- what is taken by events, at the close, and in all
  moves-sum : (v : ℕ → ℕ) → total (λ (h : Hop). v h.to) (event_hops N p) ≡ total (λ (e : Event). total (λ (x : Arc). v x.0) (N.arcs e.act)) p.events
  moves-sum v = course-sum N L p.kinds R.register.kinds (λ (a t : ℕ). v t) p.events (begins N p.kinds) R.fits

  lasts-sum : (v : ℕ → ℕ) → total (λ (h : Hop). v h.to) (close_hops N p) ≡ p.closed * total (λ (k : ℕ). v (N.sink k)) (closer_kinds p.kinds)
  lasts-sum v = by_flag (λ (p : Plain). total (λ (h : Hop). v h.to) (close_hops N p) ≡ p.closed * total (λ (k : ℕ). v (N.sink k)) (closer_kinds p.kinds)) p R.flag
      (omega arith) (omega (arith, endings-sum N p.kinds v (stand N p)))

  history-sum : (v : ℕ → ℕ) → total (λ (h : Hop). v h.to) (history N p)
      ≡ sum_to N.acts (λ (a : ℕ). get_or (state_of N p).fired a 0 * total (λ (x : Arc). v x.0) (N.arcs a)) + p.closed * total (λ (k : ℕ). v (N.sink k)) (closer_kinds p.kinds)
  history-sum v = omega (arith, total-append (λ (h : Hop). v h.to) (event_hops N p) (close_hops N p), moves-sum v, fired-sum (λ (a : ℕ). total (λ (x : Arc). v x.0) (N.arcs a)), lasts-sum v)

  pub consumed-is : (q : ℕ) → stored_consumed N (state_of N p) q ≡ consumed N p q
  consumed-is q = sym (history-sum (λ (t : ℕ). one (eqb q t)))

  -- the objects that the close takes, counted
  closers-sum : p.closed * total (λ (k : ℕ). 1) (closer_kinds p.kinds) ≡ p.closed * length (closers p.kinds)
  closers-sum = ap (λ (n : ℕ). p.closed * n) (total-length (closer_kinds p.kinds) ∙ length-map (closers p.kinds) (λ (o : ℕ). get_or p.kinds o 0))

  pub transfers-is : stored_transfers N (state_of N p) ≡ transfers N p
  transfers-is = omega (
    arith,
    total-length (history N p),
    history-sum (λ (t : ℕ). 1),
    closers-sum,
    sum_to-same N.acts (λ (a : ℕ). get_or (state_of N p).fired a 0 * total (λ (x : Arc). 1) (N.arcs a)) (λ (a : ℕ). get_or (state_of N p).fired a 0 * length (N.arcs a))
        (λ a h. ap (λ (n : ℕ). get_or (state_of N p).fired a 0 * n) (total-length (N.arcs a))),
  )

  -- transfers, by the objects of the events and those that the close takes
  pub transfers-by-objects : transfers N p ≡ total (λ (e : Event). length e.objs) p.events + p.closed * length (closers p.kinds)
  transfers-by-objects = omega (
    arith,
    total-length (history N p),
    total-append (λ (h : Hop). 1) (event_hops N p) (close_hops N p),
    moves-sum (λ (t : ℕ). 1),
    lasts-sum (λ (t : ℕ). 1),
    closers-sum,
    total-same (Fitting N p.kinds) (λ (e : Event). total (λ (x : Arc). 1) (N.arcs e.act)) (λ (e : Event). length e.objs) p.events R.fits (λ e t. total-length (N.arcs e.act) ∙ sym t.size),
  )

  pub consumed-total : sum_to N.places (λ (q : ℕ). consumed N p q) ≡ transfers N p
  consumed-total = total-swap (λ (q : ℕ) (h : Hop). one (eqb q h.to)) N.places (history N p)
      ∙ total-same (GoodHop N) _ (λ (h : Hop). 1) (history N p) history-good
      (λ h g. sum_to-same N.places _ (λ (q : ℕ). one (eqb q h.to) * 1) (λ q l. omega arith) ∙ sum_to-at N.places h.to (λ (q : ℕ). 1) g.to_in)
      ∙ total-length (history N p)

-- Every event and close keeps any sound state sound, whether or not a trail could have written it. Assumes nothing.
use Prim.Native.Nat.{ℕ, ◌+◌, ◌*◌, ◌≤◌, ◌<◌}
use mathlib.Core.Bool.{Bool, true, false}
use mathlib.Core.Logic.{◌⊎◌, inl, inr}
use mathlib.Core.Path.{◌≡◌, refl, ap, sym, ◌∙◌, subst}
use mathlib.Core.List.{List, [], ◌∷◌, map}
use native.Mathlib.Omega.{arith}
use native.Mathlib.Decide.{ℕ_discrete}
use lib.Arith.{digits_lt}
use lib.ListN.{length, get_or, set, replicate, length-set, length-replicate, length-map}
use lib.Dec.{eqb}
use borrow.Author.Tests.{eqb-true, eqb-false, not-true, ne_eqb}
use Rattle.words.specs.Lists.{pick, All, keep, one, total, sum_to}
use Rattle.words.proofs.Lists.{All-to, All-map, All-keep, zeros-at}
use Rattle.words.proofs.Sums.{total-map, total-same, total-zero, total-swap, total-length, total-const, sum_to-same, sum_to-add, sum_to-at, keep-le}
use Rattle.net.specs.Net.{Net, Arc, Loaded}
use Rattle.replay.specs.Plain.{Event, Ask, event, close, Plain, Hop, jumped, hops, walked, closers, closer_kinds, leg, legs, endings, refusal, start, run}
use Rattle.replay.specs.Counts.{leaps, all_jumps}
use Rattle.replay.specs.State.{State, bump, tally, hop_index, after_event, after_close, start_state, answer_s, accept_s, ask_s, run_s, state_of, inputs, sunk_on, stored_consumed, stored_jumps_in, stored_jumps}
use Rattle.replay.specs.Sound.{OnKind, Sound}
use Rattle.replay.proofs.Tally.{bump_at, tally-at, tally-sum, tally-plain, length-tally, zeros-sum}
use Rattle.replay.proofs.Accepted.{Fitting, Accepted, accepted, closable, Registered, GoodHop, fitting-good, hops-good, event-sum, begins-on, endings-good, endings-sum}
use Rattle.replay.proofs.Entry.{all-sunk}
use Rattle.replay.proofs.Simulate.{run_sim}
use Rattle.replay.proofs.Agree.{Reached, Leapt, leaps-good, index-eq}

-- what jumps add to the counts of the pairs
module _ (N : Net) (l : List ℕ) (size : length l ≡ N.places * N.places) (hs : List Hop) (G : All (Leapt N) hs) where
  pairs-at : (x y : ℕ) → x < N.places → y < N.places
      → get_or (tally l (map (hop_index N) hs)) (x * N.places + y) 0 ≡ total (λ (h : Hop). one (eqb x h.from) * one (eqb y h.to)) hs + get_or l (x * N.places + y) 0
  pairs-at x y hx hy =
      tally-at (map (hop_index N) hs) l (x * N.places + y) (omega (arith, digits_lt hx hy))
      ∙ ap (λ (n : ℕ). n + get_or l (x * N.places + y) 0) (total-map (hop_index N) (λ (c : ℕ). one (eqb (x * N.places + y) c)) hs
      ∙ total-same (Leapt N) _ _ hs G (λ h g. index-eq N.places x y h.from h.to hy g.0.to_in))

  in-add : (q : ℕ) → q < N.places → sum_to N.places (λ (x : ℕ). get_or (tally l (map (hop_index N) hs)) (x * N.places + q) 0)
      ≡ total (λ (h : Hop). one (eqb q h.to)) hs + sum_to N.places (λ (x : ℕ). get_or l (x * N.places + q) 0)
  in-add q hq =
      sum_to-same N.places _ _ (λ x hx. pairs-at x q hx hq)
      ∙ sum_to-add N.places (λ (x : ℕ). total (λ (h : Hop). one (eqb x h.from) * one (eqb q h.to)) hs) (λ (x : ℕ). get_or l (x * N.places + q) 0)
      ∙ ap (λ (n : ℕ). n + sum_to N.places (λ (x : ℕ). get_or l (x * N.places + q) 0)) (total-swap (λ (x : ℕ) (h : Hop). one (eqb x h.from) * one (eqb q h.to)) N.places hs
      ∙ total-same (Leapt N) _ _ hs G (λ h g. sum_to-at N.places h.from (λ (x : ℕ). one (eqb q h.to)) g.0.from_in))

  codes-in : All (λ (c : ℕ). c < N.places * N.places) (map (hop_index N) hs)
  codes-in = All-map (hop_index N) (λ (c : ℕ). c < N.places * N.places) hs (All-to (Leapt N) (λ (h : Hop). hop_index N h < N.places * N.places) (λ h g. digits_lt g.0.from_in g.0.to_in) hs G)

  sum-add : sum_to (N.places * N.places) (λ (i : ℕ). get_or (tally l (map (hop_index N) hs)) i 0) ≡ length hs + sum_to (N.places * N.places) (λ (i : ℕ). get_or l i 0)
  sum-add = omega (arith, tally-plain (N.places * N.places) l (map (hop_index N) hs) size codes-in, length-map hs (hop_index N))

  none-add : (x y : ℕ) → x < N.places → y < N.places → (x ≡ y) ⊎ (N.kind_of x ≡ N.kind_of y → ⊥) → get_or l (x * N.places + y) 0 ≡ 0 → get_or (tally l (map (hop_index N) hs)) (x * N.places + y) 0 ≡ 0
  none-add x y hx hy c z = omega (
    arith,
    pairs-at x y hx hy,
    total-same (Leapt N) (λ (h : Hop). one (eqb x h.from) * one (eqb y h.to)) (λ (h : Hop). 0) hs G (λ h g. each h g (ℕ_discrete x h.from) (ℕ_discrete y h.to) c),
    total-zero hs,
  )
    where
      each : (h : Hop) → Leapt N h → Dec (x ≡ h.from) → Dec (y ≡ h.to) → (x ≡ y) ⊎ (N.kind_of x ≡ N.kind_of y → ⊥) → one (eqb x h.from) * one (eqb y h.to) ≡ 0
      each h g (no m) d c = rw (ne_eqb x h.from m) (omega arith)
      each h g (yes a) (no m) c = rw (ne_eqb y h.to m) (omega arith)
      each h g (yes a) (yes b) (inl e) = absurd (eqb-false h.from h.to (not-true _ g.1) (sym a ∙ e ∙ b))
      each h g (yes a) (yes b) (inr n) = absurd (n (ap N.kind_of a ∙ g.0.alike ∙ ap N.kind_of (sym b)))

-- the hops of an event bear its activity
act-same : (N : Net) (ks : List ℕ) (a : ℕ) (os ps : List ℕ) → All (λ (h : Hop). h.act ≡ a) (hops ps (map (leg N ks a) os))
act-same N ks a [] ps = tt
act-same N ks a (o ∷ os) ps = (refl, act-same N ks a os (set ps o (leg N ks a o).out))

module _ (N : Net) (L : Loaded N) (d : State) (S : Sound N d) where
  pub sound-event : (e : Event) → refusal N d.kinds d.closed d.events e ≡ 0 → Sound N (after_event N d e)
  sound-event e z = record {
    some = S.some;
    few = S.few;
    kinds = S.kinds;
    on = g.1;
    sunk = λ c. absurd (omega (arith, t.still_open));
    flag = S.flag;
    events = t.few;
    fired-size = length-set d.fired e.act _ ∙ S.fired-size;
    jumps-size = length-tally (map (λ (h : Hop). h.act) hs) d.jumps ∙ S.jumps-size;
    pairs-size = length-tally (map (hop_index N) hs) d.pairs ∙ S.pairs-size;
    fired-sum = omega (arith, tally-plain N.acts d.fired (e.act ∷ []) S.fired-size (T.act-in, tt), S.fired-sum);
    jumps-le = jumps-le;
    closing-le = S.closing-le;
    closing-open = S.closing-open;
    pair-none = λ x y hx hy c. none-add N d.pairs S.pairs-size hs G x y hx hy c (S.pair-none x y hx hy c);
    pair-sum = omega (arith, sum-add N d.pairs S.pairs-size hs G, S.pair-sum, tally-plain N.acts d.jumps (map (λ (h : Hop). h.act) hs) S.jumps-size acts-in, length-map hs (λ (h : Hop). h.act));
    in-le = in-le;
  }
    where
      t : Accepted N d.kinds d.closed d.events e
      t = accepted N d.kinds d.closed d.events e z

      T : Fitting N d.kinds e
      T = t.fits

      g : All (GoodHop N) (hops d.places (legs N d.kinds e)) × OnKind N d.kinds (walked d.places (legs N d.kinds e))
      g = hops-good N L d.kinds (legs N d.kinds e) d.places S.on (fitting-good N L d.kinds e T)

      hs : List Hop
      hs = keep jumped (hops d.places (legs N d.kinds e))

      G : All (Leapt N) hs
      G = All-keep (GoodHop N) jumped (hops d.places (legs N d.kinds e)) g.0

      acts-in : All (λ (a : ℕ). a < N.acts) (map (λ (h : Hop). h.act) hs)
      acts-in = All-map (λ (h : Hop). h.act) (λ (a : ℕ). a < N.acts) hs
          (All-to (λ (h : Hop). (h.act ≡ e.act) × (jumped h ≡ true)) (λ (h : Hop). h.act < N.acts) (λ h q. omega (arith, q.0, T.act-in)) hs (All-keep (λ (h : Hop). h.act ≡ e.act) jumped (hops d.places (legs N d.kinds e)) (act-same N d.kinds e.act e.objs d.places)))

      -- the event's jumps are not more than its arcs
      few : (v : ℕ → ℕ → ℕ) → total (λ (h : Hop). v h.act h.to) hs ≤ total (λ (x : Arc). v e.act x.0) (N.arcs e.act)
      few v = omega (arith, keep-le jumped (λ (h : Hop). v h.act h.to) (hops d.places (legs N d.kinds e)), event-sum N L d.kinds S.kinds v e d.places T)

      jumps-le : (a : ℕ) → a < N.acts → get_or (tally d.jumps (map (λ (h : Hop). h.act) hs)) a 0 ≤ get_or (bump d.fired e.act) a 0 * length (N.arcs a)
      jumps-le a h = go (ℕ_discrete a e.act)
        where
          F : ℕ
          F = get_or d.fired a 0

          up : get_or (bump d.fired e.act) a 0 ≡ one (eqb a e.act) + F
          up = bump_at d.fired e.act a (omega (arith, S.fired-size))

          more : get_or (tally d.jumps (map (λ (h : Hop). h.act) hs)) a 0 ≤ one (eqb a e.act) * length (N.arcs e.act) + F * length (N.arcs a)
          more = omega (
            arith,
            tally-at (map (λ (h : Hop). h.act) hs) d.jumps a (omega (arith, S.jumps-size)),
            total-map (λ (h : Hop). h.act) (λ (c : ℕ). one (eqb a c)) hs,
            few (λ (w t : ℕ). one (eqb a w)),
            total-const (one (eqb a e.act)) (N.arcs e.act),
            S.jumps-le a h,
          )

          go : Dec (a ≡ e.act) → get_or (tally d.jumps (map (λ (h : Hop). h.act) hs)) a 0 ≤ get_or (bump d.fired e.act) a 0 * length (N.arcs a)
          go (yes q) = rw up (omega (arith, more, ap (λ (b : ℕ). one (eqb a e.act) * length (N.arcs b)) q))
          go (no m) = rw up (omega (arith, more, ap (λ (b : Bool). one b * length (N.arcs e.act)) (ne_eqb a e.act m)))

      in-le : (q : ℕ) → q < N.places → stored_jumps_in N (after_event N d e) q ≤ stored_consumed N (after_event N d e) q
      in-le q h = omega (
        arith,
        in-add N d.pairs S.pairs-size hs G q h,
        S.in-le q h,
        few (λ (w t : ℕ). one (eqb q t)),
        tally-sum N.acts (inputs N q) d.fired (e.act ∷ []) S.fired-size (T.act-in, tt),
      )

  pub sound-close : d.closed ≡ 0 → Sound N (after_close N d)
  sound-close c = record {
    some = S.some;
    few = S.few;
    kinds = S.kinds;
    on = g.1;
    sunk = λ q. all-sunk N d.kinds d.places (omega (arith, S.on.size));
    flag = omega arith;
    events = S.events;
    fired-size = S.fired-size;
    jumps-size = S.jumps-size;
    pairs-size = length-tally (map (hop_index N) hs) d.pairs ∙ S.pairs-size;
    fired-sum = S.fired-sum;
    jumps-le = S.jumps-le;
    closing-le = omega (arith, sym (total-length hs), few (λ (t : ℕ). 1), total-length (closer_kinds d.kinds), length-map (closers d.kinds) (λ (o : ℕ). get_or d.kinds o 0));
    closing-open = λ q. absurd (omega arith);
    pair-none = λ x y hx hy c. none-add N d.pairs S.pairs-size hs G x y hx hy c (S.pair-none x y hx hy c);
    pair-sum = omega (arith, sum-add N d.pairs S.pairs-size hs G, S.pair-sum, S.closing-open c);
    in-le = λ q h. omega (arith, in-add N d.pairs S.pairs-size hs G q h, S.in-le q h, few (λ (t : ℕ). one (eqb q t)), ap (λ (n : ℕ). n * sunk_on N (closer_kinds d.kinds) q) c);
  }
    where
      g : All (GoodHop N) (hops d.places (endings N d.kinds)) × OnKind N d.kinds (walked d.places (endings N d.kinds))
      g = hops-good N L d.kinds (endings N d.kinds) d.places S.on (endings-good N L d.kinds S.kinds)

      hs : List Hop
      hs = keep jumped (hops d.places (endings N d.kinds))

      G : All (Leapt N) hs
      G = All-keep (GoodHop N) jumped (hops d.places (endings N d.kinds)) g.0

      few : (v : ℕ → ℕ) → total (λ (h : Hop). v h.to) hs ≤ total (λ (k : ℕ). v (N.sink k)) (closer_kinds d.kinds)
      few v = omega (arith, keep-le jumped (λ (h : Hop). v h.to) (hops d.places (endings N d.kinds)), endings-sum N d.kinds v d.places)

  sound-accept : (q : Ask) → answer_s N d q ≡ 0 → Sound N (accept_s N d q)
  sound-accept (event e) z = sound-event e z
  sound-accept close z = sound-close (closable d.closed z)

  pub sound-ask : (q : Ask) → Sound N (ask_s N d q)
  sound-ask q = go (eqb (answer_s N d q) 0) refl
    where
      go : (b : Bool) → eqb (answer_s N d q) 0 ≡ b → Sound N (pick b (accept_s N d q) d)
      go true e = sound-accept q (eqb-true _ _ e)
      go false e = S

pub sound-asks : (N : Net) → Loaded N → (qs : List Ask) (d : State) → Sound N d → Sound N (run_s N d qs)
sound-asks N L [] d S = S
sound-asks N L (q ∷ qs) d S = sound-asks N L qs (ask_s N d q) (sound-ask N L d S q)

pub sound-start : (N : Net) → Loaded N → (ks : List ℕ) → Registered N ks → Sound N (start_state N ks)
sound-start N L ks r = record {
  some = r.some;
  few = r.few;
  kinds = r.kinds;
  on = begins-on N L ks r.kinds;
  sunk = λ c. absurd (omega arith);
  flag = omega arith;
  events = omega arith;
  fired-size = length-replicate N.acts _;
  jumps-size = length-replicate N.acts _;
  pairs-size = length-replicate (N.places * N.places) _;
  fired-sum = zeros-sum N.acts N.acts (λ (i : ℕ). i);
  jumps-le = λ a h. rw (zeros-at N.acts a) (omega arith);
  closing-le = omega arith;
  closing-open = λ q. refl;
  pair-none = λ x y hx hy c. zeros-at (N.places * N.places) (x * N.places + y);
  pair-sum = omega (arith, zeros-sum (N.places * N.places) (N.places * N.places) (λ (i : ℕ). i), zeros-sum N.acts N.acts (λ (i : ℕ). i));
  in-le = λ q h. omega (arith, zeros-sum (N.places * N.places) N.places (λ (x : ℕ). x * N.places + q));
}

pub sound-run : (N : Net) → Loaded N → (ks : List ℕ) → Registered N ks → (qs : List Ask) → Sound N (state_of N (run N (start ks) qs))
sound-run N L ks r qs = subst (Sound N) (run_sim N qs (start ks)) (sound-asks N L qs (start_state N ks) (sound-start N L ks r))

-- all jumps, by the activities' and the closing ones
pub all-jumps-is : (N : Net) (L : Loaded N) (p : Plain) → Reached N p → Sound N (state_of N p) → stored_jumps N (state_of N p) ≡ all_jumps N p
all-jumps-is N L p R S = omega (
  arith,
  S.pair-sum,
  zeros-sum (N.places * N.places) (N.places * N.places) (λ (i : ℕ). i),
  sum-add N (replicate (N.places * N.places) 0) (length-replicate (N.places * N.places) 0) (leaps N p) (leaps-good N L p R),
)

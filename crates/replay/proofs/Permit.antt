-- Once closed, a run shows no jump exactly where its accepted events are a permitted run. Assumes nothing.
use Prim.Native.Nat.{ℕ, ◌+◌, ◌<◌}
use mathlib.Core.Bool.{Bool, true, false, not}
use mathlib.Core.Path.{◌≡◌, refl, sym, ◌∙◌, subst}
use mathlib.Core.Logic.{◌↔◌}
use mathlib.Core.List.{List, [], ◌∷◌, ◌++◌, map}
use native.Mathlib.Omega.{arith}
use native.Mathlib.Decide.{ℕ_discrete}
use lib.ListN.{length, get_or, length-map}
use lib.Seq.{ext_get_or}
use lib.Dec.{eqb}
use borrow.Author.Tests.{eq-eqb, ne_eqb}
use Rattle.words.specs.Lists.{All, has, keep, one, total}
use Rattle.words.proofs.Lists.{clash, All-map, All-unmap, All-zip, map_at}
use Rattle.words.proofs.Sums.{total-append, total-keep, total-length}
use Rattle.net.specs.Net.{Net, input_of}
use Rattle.replay.specs.Plain.{Event, Plain, with_flag, Leg, Hop, closers, jumped, hops, walked, leg, legs, ending, endings, course, after, begins, event_hops, stand}
use Rattle.replay.specs.Counts.{all_jumps}
use Rattle.replay.specs.Permitted.{Leaves, FiringSequence, ended, fired, Permitted}
use Rattle.replay.specs.Claims.{judged}
use Rattle.replay.proofs.Accepted.{Fitting}
use Rattle.replay.proofs.Entry.{Apart, apart-legs, apart-endings, judged-at-entry, event-at-once}

-- each leg's object stands where it is sought
abbrev InPlaces : List ℕ → List Leg → Type 0
InPlaces ps ls = All (λ (l : Leg). get_or ps l.obj 0 ≡ l.inp) ls

-- the number of jumps
abbrev leapt : List Hop → ℕ
leapt hs = total (λ (h : Hop). one (jumped h)) hs

judged-none : (ls : List Leg) (ps : List ℕ) → leapt (map (judged ps) ls) ≡ 0 ↔ InPlaces ps ls
judged-none [] ps = (λ e. tt, λ t. refl)
judged-none (l ∷ ls) ps = go (ℕ_discrete (get_or ps l.obj 0) l.inp) (judged-none ls ps)
  where
    go : Dec (get_or ps l.obj 0 ≡ l.inp) → leapt (map (judged ps) ls) ≡ 0 ↔ InPlaces ps ls
        → one (not (eqb (get_or ps l.obj 0) l.inp)) + leapt (map (judged ps) ls) ≡ 0 ↔ ((get_or ps l.obj 0 ≡ l.inp) × InPlaces ps ls)
    go (yes q) r = rw (eq-eqb (get_or ps l.obj 0) l.inp q) (λ e. (q, r.0 (omega arith)), λ t. omega (arith, r.1 t.1))
    go (no m) r = rw (ne_eqb (get_or ps l.obj 0) l.inp m) (λ e. absurd (omega arith), λ t. absurd (m t.0))

hops-none : (ls : List Leg) (ps : List ℕ) → Apart ls → leapt (hops ps ls) ≡ 0 ↔ InPlaces ps ls
hops-none ls ps a = rw (judged-at-entry ls ps a) (judged-none ls ps)

-- what all elements have, an element has
has_all : (P : ℕ → Type 0) (i : ℕ) (os : List ℕ) → has i os ≡ true → All P os → P i
has_all P i [] e a = clash (sym e)
has_all P i (o ∷ os) e a = go (ℕ_discrete i o) (has_all P i os)
  where
    go : Dec (i ≡ o) → (has i os ≡ true → All P os → P i) → P i
    go (yes q) r = subst P (sym q) a.0
    go (no m) r = r (rw (ne_eqb i o m) at e) a.1

-- an event leaves the objects in one way
leaves-once : (N : Net) (ks ps : List ℕ) (e : Event) (qs rs : List ℕ) → Leaves N ks ps e qs → Leaves N ks ps e rs → qs ≡ rs
leaves-once N ks ps e qs rs A B = ext_get_or 0 qs rs (A.size ∙ sym B.size) (λ o h. go o (has o e.objs) refl)
  where
    go : (o : ℕ) (b : Bool) → has o e.objs ≡ b → get_or qs o 0 ≡ get_or rs o 0
    go o true q = has_all (λ (o : ℕ). get_or qs o 0 ≡ get_or rs o 0) o e.objs q (All-zip _ _ _ (λ o x y. x ∙ sym y) e.objs A.own B.own)
    go o false q = A.others o q ∙ sym (B.others o q)

module _ (N : Net) (ks : List ℕ) where
  ends-none : (ps : List ℕ) → leapt (hops ps (endings N ks)) ≡ 0 ↔ All (λ (o : ℕ). get_or ps o 0 ≡ N.sink (get_or ks o 0)) (closers ks)
  ends-none ps = let h = hops-none (endings N ks) ps (apart-endings N ks) in (
    λ z. All-unmap (ending N ks) (λ (l : Leg). get_or ps l.obj 0 ≡ l.inp) (closers ks) (h.0 z),
    λ a. h.1 (All-map (ending N ks) (λ (l : Leg). get_or ps l.obj 0 ≡ l.inp) (closers ks) a),
  )

  event-none : (e : Event) (ps : List ℕ) → Fitting N ks e → leapt (hops ps (legs N ks e)) ≡ 0 ↔ All (λ (o : ℕ). get_or ps o 0 ≡ input_of N e.act (get_or ks o 0)) e.objs
  event-none e ps F = let h = hops-none (legs N ks e) ps (apart-legs N ks e.act e.objs F.once) in (
    λ z. All-unmap (leg N ks e.act) (λ (l : Leg). get_or ps l.obj 0 ≡ l.inp) e.objs (h.0 z),
    λ a. h.1 (All-map (leg N ks e.act) (λ (l : Leg). get_or ps l.obj 0 ≡ l.inp) e.objs a),
  )

  -- the jumps of the events from the places `ps` on, and of the close behind them
  abbrev leaps_from : List ℕ → List Event → ℕ
  leaps_from ps es = leapt (course N ks ps es) + leapt (hops (after N ks ps es) (endings N ks))

  first-event : (e : Event) (es : List Event) (ps : List ℕ) → leaps_from ps (e ∷ es) ≡ leapt (hops ps (legs N ks e)) + leaps_from (walked ps (legs N ks e)) es
  first-event e es ps = omega (arith, total-append (λ (h : Hop). one (jumped h)) (hops ps (legs N ks e)) (course N ks (walked ps (legs N ks e)) es))

  fires-of : (es : List Event) (ps : List ℕ) → length ps ≡ length ks → All (Fitting N ks) es → leaps_from ps es ≡ 0 → FiringSequence N ks ps es
  fires-of [] ps size T z = ended ((ends-none ps).0 (omega arith))
  fires-of (e ∷ es) ps size T z =
      let s = first-event e es ps in
      let A = (event-at-once N ks ps size e T.0).leaves in
      fired (record { found = (event-none e ps T.0).0 (omega arith); leaves = A }) (fires-of es (walked ps (legs N ks e)) (A.size ∙ size) T.1 (omega arith))

  of-fires : (es : List Event) (ps : List ℕ) → length ps ≡ length ks → All (Fitting N ks) es → FiringSequence N ks ps es → leaps_from ps es ≡ 0
  of-fires [] ps size T (ended f) = omega (arith, (ends-none ps).1 f)
  of-fires (e ∷ es) ps size T (fired {qs = qs} F r) =
      let w = leaves-once N ks ps e qs (walked ps (legs N ks e)) F.leaves (event-at-once N ks ps size e T.0).leaves in
      omega (arith, first-event e es ps, (event-none e ps T.0).1 F.found, subst (λ (x : List ℕ). leaps_from x es ≡ 0) w (of-fires es qs (F.leaves.size ∙ size) T.1 r))

  -- at the start each object stands on its kind's source
  begins-size : length (begins N ks) ≡ length ks
  begins-size = length-map ks N.source

  begins-at : (o : ℕ) → o < length ks → get_or (begins N ks) o 0 ≡ N.source (get_or ks o 0)
  begins-at o h = map_at N.source 0 0 ks o h

leap-count : (hs : List Hop) → length (keep jumped hs) ≡ leapt hs
leap-count hs = sym (total-length (keep jumped hs)) ∙ total-keep jumped (λ (h : Hop). 1) hs

pub permitted : (N : Net) (p : Plain) → All (Fitting N p.kinds) p.events → p.closed ≡ 1 → all_jumps N p ≡ 0 ↔ Permitted N p.kinds (begins N p.kinds) p.events
permitted N p T c = (
  λ z. record {
    size = begins-size N p.kinds;
    sources = begins-at N p.kinds;
    fires = fires-of N p.kinds p.events (begins N p.kinds) (begins-size N p.kinds) T (omega (arith, same));
  },
  λ P. same ∙ of-fires N p.kinds p.events (begins N p.kinds) P.size T P.fires,
)
  where
    same : all_jumps N p ≡ leaps_from N p.kinds (begins N p.kinds) p.events
    same = subst (λ (z : ℕ). all_jumps N (with_flag p z) ≡ leaps_from N p.kinds (begins N p.kinds) p.events) (sym c)
        (leap-count (event_hops N p ++ hops (stand N p) (endings N p.kinds)) ∙ total-append (λ (h : Hop). one (jumped h)) (event_hops N p) (hops (stand N p) (endings N p.kinds)))

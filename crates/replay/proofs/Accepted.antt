-- What acceptance says, what holds of the hops, and that the objects of an accepted event answer the activity's arcs one
-- by one. Assumes nothing.
use Prim.Native.Nat.{ℕ, zero, suc, ◌+◌, ◌*◌, ◌≤◌, ◌<◌}
use mathlib.Core.Bool.{Bool, true, false}
use mathlib.Core.Path.{◌≡◌, refl, ap, sym, ◌∙◌, subst}
use mathlib.Core.List.{List, [], ◌∷◌, map}
use native.Mathlib.Omega.{arith}
use native.Mathlib.Decide.{ℕ_discrete}
use lib.ListN.{length, get_or, set, length-set, length-map}
use lib.Seq.{get_or-set_same, get_or-set_other}
use lib.Dec.{eqb, leb}
use borrow.Author.Tests.{eqb-false, ltb-false, leb-false, not-false, eq-eqb, ne_eqb, le-ltb, lt-leb}
use Rattle.words.specs.Lists.{pick, All, has, twice, one, total, upto}
use Rattle.words.specs.Refusals.{first}
use Rattle.words.proofs.Lists.{pos, is_eq, clash, All-append, All-zip, All-to, All-unmap, All-map, All-at, any_none, any_false, map_at, upto-in, length-upto}
use Rattle.words.proofs.Sums.{total-append, total-map, total-same, total-length, sum_to-same, squeeze, by_value}
use Rattle.words.proofs.Refusals.{none-apply, first-zero}
use Rattle.net.specs.Net.{Net, Arc, Loaded, GoodArc, arc_kinds, takes, arc_of}
use Rattle.replay.specs.Plain.{Event, Leg, Hop, hops, walked, object_kinds, closers, closer_kinds, leg, legs, ending, endings, begins, course, after, event_tests, refusal, close_tests, register_tests, register_code}
use Rattle.replay.specs.Sound.{OnKind}

-- what acceptance says of an event
pub record Fitting (N : Net) (ks : List ℕ) (e : Event) : Type 0 where
  pub act-in : e.act < N.acts
  pub size : length e.objs ≡ length (N.arcs e.act)
  pub known : All (λ (o : ℕ). o < length ks) e.objs
  pub taken : All (λ (k : ℕ). takes N e.act k ≡ true) (object_kinds ks e.objs)
  pub once : twice (object_kinds ks e.objs) ≡ false

pub record Accepted (N : Net) (ks : List ℕ) (closed events : ℕ) (e : Event) : Type 0 where
  pub still_open : closed ≡ 0
  pub few : events < 1000000
  pub fits : Fitting N ks e

pub accepted : (N : Net) (ks : List ℕ) (closed events : ℕ) (e : Event) → refusal N ks closed events e ≡ 0 → Accepted N ks closed events e
accepted N ks closed events e z =
    let t = none-apply (event_tests N ks closed events e) (omega arith) z in
    record {
      still_open = is_eq _ _ t.0;
      few = leb-false _ _ t.1.0;
      fits = record {
        act-in = leb-false _ _ t.1.1.0;
        size = is_eq _ _ t.1.1.1.0;
        known = any_none _ _ (λ o f. leb-false _ _ f) e.objs t.1.1.1.1.0;
        taken = any_none _ _ (λ k f. not-false _ f) (object_kinds ks e.objs) t.1.1.1.1.1.0;
        once = t.1.1.1.1.1.1.0;
      };
    }

pub closable : (closed : ℕ) → first (close_tests closed) ≡ 0 → closed ≡ 0
closable closed z = is_eq _ _ (none-apply (close_tests closed) (omega arith) z).0

-- what acceptance says of a register
pub record Registered (N : Net) (ks : List ℕ) : Type 0 where
  pub some : 0 < length ks
  pub few : length ks ≤ 1024
  pub kinds : All (λ (k : ℕ). k < N.kinds) ks

pub registered : (N : Net) (ks : List ℕ) → register_code N ks ≡ 0 → Registered N ks
registered N ks z =
    let t = none-apply (register_tests N ks) (omega arith) z in
    record {
      some = pos (length ks) (eqb-false (length ks) 0 t.0);
      few = ltb-false 1024 (length ks) t.1.0;
      kinds = any_none _ (λ (k : ℕ). k < N.kinds) (λ k e. leb-false N.kinds k e) ks t.1.1.0;
    }

pub register-ok : (N : Net) (ks : List ℕ) → Registered N ks → register_code N ks ≡ 0
register-ok N ks r = first-zero (register_tests N ks) (
  ne_eqb (length ks) 0 (λ e. omega (arith, r.some)),
  (
    le-ltb 1024 (length ks) r.few,
    (any_false _ ks (All-to (λ (k : ℕ). k < N.kinds) (λ (k : ℕ). leb N.kinds k ≡ false) (λ k h. lt-leb N.kinds k h) ks r.kinds), tt),
  ),
)

-- a leg and a hop over known places of one kind
pub record GoodLeg (N : Net) (ks : List ℕ) (l : Leg) : Type 0 where
  pub obj-in : l.obj < length ks
  pub inp-in : l.inp < N.places
  pub inp-of : N.kind_of l.inp ≡ get_or ks l.obj 0
  pub out-in : l.out < N.places
  pub out_of : N.kind_of l.out ≡ get_or ks l.obj 0

pub record GoodHop (N : Net) (h : Hop) : Type 0 where
  pub from_in : h.from < N.places
  pub to_in : h.to < N.places
  pub alike : N.kind_of h.from ≡ N.kind_of h.to

has-head : (b : Bool) (r : Bool) → pick b true r ≡ true → b ≡ false → r ≡ true
has-head true r e f = cc
has-head false r e f = e

-- the arc for a kind that is taken
arc-for : (N : Net) (k : ℕ) (xs : List Arc) → All (GoodArc N) xs → has k (map (λ (x : Arc). N.kind_of x.0) xs) ≡ true
    → GoodArc N (arc_of N.kind_of k xs) × (N.kind_of (arc_of N.kind_of k xs).0 ≡ k)
arc-for N k [] a e = clash (sym e)
arc-for N k (x ∷ xs) a e = go (ℕ_discrete k (N.kind_of x.0)) (arc-for N k xs a.1)
  where
    go : Dec (k ≡ N.kind_of x.0) → (has k (map (λ (x : Arc). N.kind_of x.0) xs) ≡ true → GoodArc N (arc_of N.kind_of k xs) × (N.kind_of (arc_of N.kind_of k xs).0 ≡ k))
        → GoodArc N (arc_of N.kind_of k (x ∷ xs)) × (N.kind_of (arc_of N.kind_of k (x ∷ xs)).0 ≡ k)
    go (yes q) r = rw (eq-eqb (N.kind_of x.0) k (sym q)) (a.0, sym q)
    go (no m) r = rw (ne_eqb (N.kind_of x.0) k (λ q. m (sym q))) (r (has-head _ _ e (ne_eqb k (N.kind_of x.0) m)))

module _ (N : Net) (L : Loaded N) (ks : List ℕ) where
  legs-good : (a : ℕ) → a < N.acts → (os : List ℕ) → All (λ (o : ℕ). o < length ks) os → All (λ (k : ℕ). takes N a k ≡ true) (object_kinds ks os) → All (GoodLeg N ks) (map (leg N ks a) os)
  legs-good a h [] k t = tt
  legs-good a h (o ∷ os) k t =
      let g = arc-for N (get_or ks o 0) (N.arcs a) (L.arc-good a h) t.0 in
      (record { obj-in = k.0; inp-in = g.0.inp; inp-of = g.1; out-in = g.0.out; out_of = g.0.same ∙ g.1 }, legs-good a h os k.1 t.1)

  pub fitting-good : (e : Event) → Fitting N ks e → All (GoodLeg N ks) (legs N ks e)
  fitting-good e t = legs-good e.act t.act-in e.objs t.known t.taken

  on-set : (ps : List ℕ) (l : Leg) → OnKind N ks ps → GoodLeg N ks l → OnKind N ks (set ps l.obj l.out)
  on-set ps l K G = record {
    size = rw length-set K.size;
    at = λ o h. go o h (ℕ_discrete o l.obj);
  }
    where
      go : (o : ℕ) → o < length ks → Dec (o ≡ l.obj) → (get_or (set ps l.obj l.out) o 0 < N.places) × (N.kind_of (get_or (set ps l.obj l.out) o 0) ≡ get_or ks o 0)
      go o h (yes e) = rw (e, get_or-set_same ps l.obj l.out 0 (omega (arith, K.size, G.obj-in))) (G.out-in, G.out_of)
      go o h (no n) = rw (get_or-set_other ps l.obj o l.out 0 n) (K.at o h)

  pub hops-good : (ls : List Leg) (ps : List ℕ) → OnKind N ks ps → All (GoodLeg N ks) ls → All (GoodHop N) (hops ps ls) × OnKind N ks (walked ps ls)
  hops-good [] ps K G = (tt, K)
  hops-good (l ∷ ls) ps K G =
      let r = hops-good ls (set ps l.obj l.out) (on-set ps l K G.0) G.1 in
      let h = K.at l.obj G.0.obj-in in
      ((record { from_in = h.0; to_in = G.0.inp-in; alike = h.1 ∙ sym G.0.inp-of }, r.0), r.1)

  pub course-good : (es : List Event) (ps : List ℕ) → OnKind N ks ps → All (Fitting N ks) es → All (GoodHop N) (course N ks ps es) × OnKind N ks (after N ks ps es)
  course-good [] ps K T = (tt, K)
  course-good (e ∷ es) ps K T =
      let r = hops-good (legs N ks e) ps K (fitting-good e T.0) in
      let s = course-good es (walked ps (legs N ks e)) r.1 T.1 in
      (All-append (GoodHop N) (hops ps (legs N ks e)) (course N ks (walked ps (legs N ks e)) es) r.0 s.0, s.1)

-- how often a number stands in a list
abbrev often : ℕ → List ℕ → ℕ
often k xs = total (λ (x : ℕ). one (eqb k x)) xs

once-le : (k : ℕ) (xs : List ℕ) → twice xs ≡ false → often k xs ≤ 1
once-le k [] e = omega arith
once-le k (x ∷ xs) e = go (has x xs) (ℕ_discrete k x) refl e (once-le k xs)
  where
    absent : (z : ℕ) (ys : List ℕ) → has z ys ≡ false → often z ys ≡ 0
    absent z [] e = refl
    absent z (y ∷ ys) e = step (eqb z y) (absent z ys) e
      where
        step : (b : Bool) → (has z ys ≡ false → often z ys ≡ 0) → pick b true (has z ys) ≡ false → one b + often z ys ≡ 0
        step true r e = clash e
        step false r e = omega (arith, r e)

    go : (b : Bool) → Dec (k ≡ x) → has x xs ≡ b → pick b true (twice xs) ≡ false → (twice xs ≡ false → often k xs ≤ 1) → one (eqb k x) + often k xs ≤ 1
    go true d h e r = clash e
    go false (yes q) h e r = rw (eq-eqb k x q) (omega (arith, subst (λ (z : ℕ). often z xs ≡ 0) (sym q) (absent x xs h)))
    go false (no m) h e r = rw (ne_eqb k x m) (omega (arith, r e))

has-count : (k : ℕ) (ys : List ℕ) → has k ys ≡ true → 1 ≤ often k ys
has-count k [] e = clash (sym e)
has-count k (y ∷ ys) e = go (eqb k y) (has-count k ys) e
  where
    go : (b : Bool) → (has k ys ≡ true → 1 ≤ often k ys) → pick b true (has k ys) ≡ true → 1 ≤ one b + often k ys
    go true r e = omega arith
    go false r e = omega (arith, r e)

of-count : (P : ℕ → Type 0) (k : ℕ) (xs : List ℕ) → All P xs → 1 ≤ often k xs → P k
of-count P k [] a h = absurd (omega arith)
of-count P k (x ∷ xs) a h = go (ℕ_discrete k x) (of-count P k xs a.1)
  where
    go : Dec (k ≡ x) → (1 ≤ often k xs → P k) → P k
    go (yes q) r = rw q a.0
    go (no m) r = r (omega (arith, rw (ne_eqb k x m) at h))

-- numbers below K, none twice, each among as many others: both lists have the same totals
module _ (K : ℕ) (xs ys : List ℕ) (xk : All (λ (x : ℕ). x < K) xs) (yk : All (λ (x : ℕ). x < K) ys) (size : length xs ≡ length ys)
    (once : twice xs ≡ false) (among : All (λ (k : ℕ). has k ys ≡ true) xs) where
  at_most : (k : ℕ) → often k xs * 1 ≤ often k ys * 1
  at_most k = go (often k xs) refl (once-le k xs once)
    where
      go : (n : ℕ) → often k xs ≡ n → n ≤ 1 → n * 1 ≤ often k ys * 1
      go zero e h = omega arith
      go (suc n) e h = omega (arith, has-count k ys (of-count (λ (k : ℕ). has k ys ≡ true) k xs among (omega arith)))

  alike-count : (k : ℕ) → k < K → often k xs * 1 ≡ often k ys * 1
  alike-count = squeeze K _ _ (λ k l. at_most k) (sym (by_value K (λ (k : ℕ). 1) xs xk) ∙ total-length xs ∙ size ∙ sym (total-length ys) ∙ by_value K (λ (k : ℕ). 1) ys yk)

  same_total : (u : ℕ → ℕ) → total u xs ≡ total u ys
  same_total u = by_value K u xs xk ∙ sum_to-same K _ _ (λ k l. ap (λ (n : ℕ). n * u k) (let e = alike-count k l in omega arith)) ∙ sym (by_value K u ys yk)

-- an arc is the one for its own kind
arc-self : (kd : ℕ → ℕ) (xs : List Arc) → twice (map (λ (x : Arc). kd x.0) xs) ≡ false → All (λ (x : Arc). arc_of kd (kd x.0) xs ≡ x) xs
arc-self kd [] e = tt
arc-self kd (x ∷ xs) e = go (has (kd x.0) (map (λ (x : Arc). kd x.0) xs)) refl e (arc-self kd xs)
  where
    go : (b : Bool) → has (kd x.0) (map (λ (x : Arc). kd x.0) xs) ≡ b → pick b true (twice (map (λ (x : Arc). kd x.0) xs)) ≡ false
        → (twice (map (λ (x : Arc). kd x.0) xs) ≡ false → All (λ (y : Arc). arc_of kd (kd y.0) xs ≡ y) xs) → All (λ (y : Arc). arc_of kd (kd y.0) (x ∷ xs) ≡ y) (x ∷ xs)
    go true h e r = clash e
    go false h e r = (
      rw (eq-eqb (kd x.0) (kd x.0) refl) refl,
      All-zip (λ (y : Arc). eqb (kd x.0) (kd y.0) ≡ false) (λ (y : Arc). arc_of kd (kd y.0) xs ≡ y) (λ (y : Arc). arc_of kd (kd y.0) (x ∷ xs) ≡ y) (λ y p q. rw p q) xs
          (All-unmap (λ (x : Arc). kd x.0) (λ (k : ℕ). eqb (kd x.0) k ≡ false) xs (any_none (eqb (kd x.0)) (λ (k : ℕ). eqb (kd x.0) k ≡ false) (λ k f. f) (map (λ (x : Arc). kd x.0) xs) h)) (r e),
    )

-- the places that legs seek, hop by hop
pub hops-sum : (v : ℕ → ℕ → ℕ) (ls : List Leg) (ps : List ℕ) → total (λ (h : Hop). v h.act h.to) (hops ps ls) ≡ total (λ (l : Leg). v l.act l.inp) ls
hops-sum v [] ps = refl
hops-sum v (l ∷ ls) ps = ap (λ (n : ℕ). v l.act l.inp + n) (hops-sum v ls (set ps l.obj l.out))

module _ (N : Net) (L : Loaded N) (ks : List ℕ) (kk : All (λ (k : ℕ). k < N.kinds) ks) where
  -- what the objects of an accepted event are taken from is what the arcs take
  pub event-arcs : (e : Event) → Fitting N ks e → (v : Arc → ℕ) → total (λ (o : ℕ). v (arc_of N.kind_of (get_or ks o 0) (N.arcs e.act))) e.objs ≡ total v (N.arcs e.act)
  event-arcs e t v =
      sym (total-map (λ (o : ℕ). get_or ks o 0) u e.objs)
      ∙ same_total N.kinds (object_kinds ks e.objs) (arc_kinds N e.act) objs-in arcs-in (simp length-map t.size) t.once t.taken u
      ∙ total-map (λ (x : Arc). N.kind_of x.0) u (N.arcs e.act)
      ∙ total-same (λ (x : Arc). arc_of N.kind_of (N.kind_of x.0) (N.arcs e.act) ≡ x) _ v (N.arcs e.act) (arc-self N.kind_of (N.arcs e.act) (L.arc-once e.act t.act-in)) (λ x q. ap v q)
    where
      u : ℕ → ℕ
      u k = v (arc_of N.kind_of k (N.arcs e.act))

      objs-in : All (λ (k : ℕ). k < N.kinds) (object_kinds ks e.objs)
      objs-in = All-map (λ (o : ℕ). get_or ks o 0) (λ (k : ℕ). k < N.kinds) e.objs (All-to _ _ (λ o h. All-at (λ (k : ℕ). k < N.kinds) 0 ks kk o h) e.objs t.known)

      arcs-in : All (λ (k : ℕ). k < N.kinds) (arc_kinds N e.act)
      arcs-in = All-map (λ (x : Arc). N.kind_of x.0) (λ (k : ℕ). k < N.kinds) (N.arcs e.act) (All-to (GoodArc N) _ (λ x g. L.kind-in x.0 g.inp) (N.arcs e.act) (L.arc-good e.act t.act-in))

  -- the hops of one event, and of all, by the activities' arcs alone
  pub event-sum : (v : ℕ → ℕ → ℕ) (e : Event) (ps : List ℕ) → Fitting N ks e → total (λ (h : Hop). v h.act h.to) (hops ps (legs N ks e)) ≡ total (λ (x : Arc). v e.act x.0) (N.arcs e.act)
  event-sum v e ps t = hops-sum v (legs N ks e) ps ∙ total-map (leg N ks e.act) (λ (l : Leg). v l.act l.inp) e.objs ∙ event-arcs e t (λ (x : Arc). v e.act x.0)

  pub course-sum : (v : ℕ → ℕ → ℕ) (es : List Event) (ps : List ℕ) → All (Fitting N ks) es
      → total (λ (h : Hop). v h.act h.to) (course N ks ps es) ≡ total (λ (e : Event). total (λ (x : Arc). v e.act x.0) (N.arcs e.act)) es
  course-sum v [] ps T = refl
  course-sum v (e ∷ es) ps T =
      omega (
        arith,
        total-append (λ (h : Hop). v h.act h.to) (hops ps (legs N ks e)) (course N ks (walked ps (legs N ks e)) es),
        event-sum v e ps T.0,
        course-sum v es (walked ps (legs N ks e)) T.1,
      )

  -- the start and the close
  pub begins-on : OnKind N ks (begins N ks)
  begins-on = record { size = length-map ks N.source; at = λ o h. let k = All-at (λ (k : ℕ). k < N.kinds) 0 ks kk o h in rw (map_at N.source 0 0 ks o h) (L.source_in _ k, L.source_of _ k) }

  pub endings-good : All (GoodLeg N ks) (endings N ks)
  endings-good = go (closers ks) (upto-in (length ks) 0)
    where
      go : (os : List ℕ) → All (λ (o : ℕ). o < 0 + length ks) os → All (GoodLeg N ks) (map (ending N ks) os)
      go [] a = tt
      go (o ∷ os) a = let h : o < length ks = omega arith in let k = All-at (λ (k : ℕ). k < N.kinds) 0 ks kk o h in
          (record { obj-in = h; inp-in = L.sink-in _ k; inp-of = L.sink-of _ k; out-in = L.sink-in _ k; out_of = L.sink-of _ k }, go os a.1)

upto-shift : (f : ℕ → ℕ) (n i : ℕ) → map f (upto n (suc i)) ≡ map (λ (o : ℕ). f (suc o)) (upto n i)
upto-shift f zero i = refl
upto-shift f (suc n) i = ap (λ (l : List ℕ). f (suc i) ∷ l) (upto-shift f n (suc i))

-- every object is taken at the close: as many as the register has, with its kinds
pub closers-length : (ks : List ℕ) → length (closers ks) ≡ length ks
closers-length ks = length-upto (length ks) 0

pub closers-kinds : (ks : List ℕ) → closer_kinds ks ≡ ks
closers-kinds [] = refl
closers-kinds (k ∷ ks) = ap (λ (l : List ℕ). k ∷ l) (upto-shift (λ (o : ℕ). get_or (k ∷ ks) o 0) (length ks) 0 ∙ closers-kinds ks)

-- the hops of the close, by the sinks of the objects that it takes alone
pub endings-sum : (N : Net) (ks : List ℕ) (v : ℕ → ℕ) (ps : List ℕ) → total (λ (h : Hop). v h.to) (hops ps (endings N ks)) ≡ total (λ (k : ℕ). v (N.sink k)) (closer_kinds ks)
endings-sum N ks v ps =
    hops-sum (λ (a t : ℕ). v t) (endings N ks) ps ∙ total-map (ending N ks) (λ (l : Leg). v l.inp) (closers ks) ∙ sym (total-map (λ (o : ℕ). get_or ks o 0) (λ (k : ℕ). v (N.sink k)) (closers ks))

-- The sums of a trail's stored numbers, and how large they can be. Assumes nothing.
use Prim.Native.Nat.{ℕ, zero, suc, ◌+◌, ◌*◌, ◌≤◌, ◌<◌}
use mathlib.Core.Bool.{Bool, true, false}
use mathlib.Core.Path.{◌≡◌, refl, ap, sym, ◌∙◌}
use mathlib.Core.List.{List, [], ◌∷◌, map}
use native.Mathlib.Omega.{arith}
use native.Mathlib.Nat.{zero-add, mul-le-mul, mul-le-mul_right}
use native.Mathlib.Decide.{ℕ_discrete}
use lib.ListN.{length, get_or}
use lib.Dec.{eqb}
use borrow.Author.Tests.{eq-eqb, ne_eqb}
use Rattle.std.specs.Int.{from_bool}
use Rattle.words.specs.Lists.{pick, has, twice, one, total, sum_to}
use Rattle.words.proofs.Lists.{clash}
use Rattle.words.proofs.Sums.{sum_to-append, sum_to-same, sum_to-more, sum_to-under}
use Rattle.net.specs.Net.{Net, Arc, Loaded, takes, arc_of, input_of}
use Rattle.net.specs.Held.{net_in, Held}
use Rattle.net.proofs.HeldLaws.{held-loaded}
use Rattle.replay.specs.Plain.{closer_kinds}
use Rattle.replay.specs.State.{State, inputs, sunk_on, stored_pair, stored_moved}
use Rattle.replay.proofs.Accepted.{closers-kinds}
use Rattle.replay.specs.Calls.{state_at}
use Rattle.replay_layout.proofs.RecordLaws.{ready-loaded}
use Rattle.replay_layout.specs.Offsets.{layout_of}
use Rattle.replay_stored.specs.declared.Trail.{Trail}
use Rattle.replay_stored.specs.Stored.{Stored}
use Rattle.replay_stored.proofs.StoredLaws.{are-stored}

pub sum_step : (n : ℕ) (f : ℕ → ℕ) {s v : ℕ} → s ≡ sum_to n f → v ≡ f n → s + v ≡ sum_to (n + 1) f
sum_step n f p q = omega (arith, sum_to-more n f)

-- the sum of numbers of which none is large
sum-under : (n m : ℕ) (f : ℕ → ℕ) → ((i : ℕ) → i < n → f i ≤ m) → sum_to n f ≤ n * m
sum-under zero m f h = omega arith
sum-under (suc n) m f h = omega (arith, h n (omega arith), sum-under n m f (λ i l. h i (omega arith)))

sum-few : (n m : ℕ) (f : ℕ → ℕ) → n ≤ 64 → ((i : ℕ) → i < n → f i ≤ m) → sum_to n f ≤ 64 * m
sum-few n m f c h = omega (arith, sum-under n m f h, mul-le-mul_right m c)

-- a sum over a list by its indices
by_index : (w : ℕ → ℕ) (xs : List ℕ) → sum_to (length xs) (λ (i : ℕ). w (get_or xs i 0)) ≡ total w xs
by_index w [] = refl
by_index w (x ∷ xs) =
    let f = λ (i : ℕ). w (get_or (x ∷ xs) i 0) in
    let more : (i : ℕ) → i < length xs → f (1 + i) ≡ w (get_or xs i 0) = λ i l. let e : 1 + i ≡ suc i = omega arith in ap f e in
    let e : suc (length xs) ≡ 1 + length xs = omega arith in
    ap (λ (k : ℕ). sum_to k f) e
    ∙ omega (arith, by_index w xs, sum_to-append (length xs) 1 f, sum_to-same (length xs) (λ (i : ℕ). f (1 + i)) (λ (i : ℕ). w (get_or xs i 0)) more)

-- a test as a number
pub one_is : (b : Bool) → from_bool b ≡ one b
one_is true = refl
one_is false = refl

pub one_le : (b : Bool) → one b ≤ 1
one_le true = omega arith
one_le false = omega arith

-- How many arcs of a list have the input place q, where no two are of one kind: the one of q's kind, if it has.
module _ (kind_of : ℕ → ℕ) (q : ℕ) where
  abbrev on_one : List Arc → ℕ
  on_one xs = pick (has (kind_of q) (map (λ (x : Arc). kind_of x.0) xs)) (one (eqb q (arc_of kind_of (kind_of q) xs).0)) 0

  split : (t : Bool) {u : Bool} → pick t true u ≡ false → (t ≡ false) × (u ≡ false)
  split true h = clash h
  split false h = (refl, h)

  one_input : (xs : List Arc) → twice (map (λ (x : Arc). kind_of x.0) xs) ≡ false → total (λ (x : Arc). one (eqb q x.0)) xs ≡ on_one xs
  one_input [] h = refl
  one_input (x ∷ xs) h =
      let s = split (has (kind_of x.0) (map (λ (x : Arc). kind_of x.0) xs)) h in
      go (ℕ_discrete (kind_of q) (kind_of x.0)) s (one_input xs s.1)
    where
      go : Dec (kind_of q ≡ kind_of x.0) → (has (kind_of x.0) (map (λ (x : Arc). kind_of x.0) xs) ≡ false) × (twice (map (λ (x : Arc). kind_of x.0) xs) ≡ false)
          → total (λ (x : Arc). one (eqb q x.0)) xs ≡ on_one xs → total (λ (x : Arc). one (eqb q x.0)) (x ∷ xs) ≡ on_one (x ∷ xs)
      go (yes e) s r =
          let none : total (λ (x : Arc). one (eqb q x.0)) xs ≡ 0 = r ∙ ap (λ (t : Bool). pick t (one (eqb q (arc_of kind_of (kind_of q) xs).0)) 0) (ap (λ (k : ℕ). has k (map (λ (x : Arc). kind_of x.0) xs)) e ∙ s.0) in
          rw (eq-eqb (kind_of q) (kind_of x.0) e, eq-eqb (kind_of x.0) (kind_of q) (sym e)) (omega (arith, none))
      go (no n) s r =
          rw (ne_eqb (kind_of q) (kind_of x.0) n, ne_eqb (kind_of x.0) (kind_of q) (λ z. n (sym z)), ne_eqb q x.0 (λ z. n (ap kind_of z))) (zero-add (total (λ (x : Arc). one (eqb q x.0)) xs) ∙ r)

pub inputs-is : (N : Net) → Loaded N → (q a : ℕ) → a < N.acts → inputs N q a ≡ pick (takes N a (N.kind_of q)) (one (eqb q (input_of N a (N.kind_of q)))) 0
inputs-is N L q a h = one_input N.kind_of q (N.arcs a) (L.arc-once a h)

inputs-le : (N : Net) → Loaded N → (q a : ℕ) → a < N.acts → inputs N q a ≤ 1
inputs-le N L q a h = rw (inputs-is N L q a h) (go (takes N a (N.kind_of q)) (eqb q (input_of N a (N.kind_of q))))
  where
    go : (s t : Bool) → pick s (one t) 0 ≤ 1
    go true t = one_le t
    go false t = omega arith

-- the same of the words of a loaded net
pub kind_known : (w : List ℕ) → Held w → (q : ℕ) → q < (net_in w).places → (net_in w).kind_of q < (net_in w).kinds
kind_known w H = (held-loaded w H).kind-in

pub inputs_of : (w : List ℕ) → Held w → (q a : ℕ) → a < (net_in w).acts → inputs (net_in w) q a ≡ pick (takes (net_in w) a ((net_in w).kind_of q)) (one (eqb q (input_of (net_in w) a ((net_in w).kind_of q)))) 0
inputs_of w H = inputs-is (net_in w) (held-loaded w H)

-- MOVED: FIRED times at most 8 arcs
pub arcs_few : (w : List ℕ) → Held w → (a : ℕ) → a < (net_in w).acts → length ((net_in w).arcs a) ≤ 8
arcs_few w H a h = (held-loaded w H).arcs-le a h

pub moved_few : (f n : ℕ) → f ≤ 1000000 → n ≤ 8 → f * n ≤ 8000000
moved_few f n h g = omega (arith, mul-le-mul h g)

-- what is added up over a trail
module _ (t : Trail) where
  abbrev N : Net
  N = net_in t.net.words.now

  abbrev d : State
  d = state_at t.rec.now

  abbrev pub into : ℕ → ℕ → ℕ
  into q x = stored_pair N d x q

  abbrev pub out_of : ℕ → ℕ → ℕ
  out_of q y = stored_pair N d q y

  abbrev pub taken : ℕ → ℕ → ℕ
  taken q a = get_or d.fired a 0 * inputs N q a

  abbrev pub sunk : ℕ → ℕ → ℕ
  sunk q o = one (eqb q (N.sink (get_or d.kinds o 0)))

  abbrev pub jumps : ℕ → ℕ
  jumps a = get_or d.jumps a 0

  abbrev pub moves : ℕ → ℕ
  moves a = stored_moved N d a

  -- and how much it can be
  loaded : Loaded N
  loaded = ready-loaded t.net.words.now t.rec.now t.ready

  stored : Stored t.net.words.now t.rec.now (layout_of N t.rec.now)
  stored = are-stored t.net.words.now t.rec.now t.ready (layout_of N t.rec.now) refl

  pub into-few : (q : ℕ) → q < (net_in t.net.words.now).places → sum_to (net_in t.net.words.now).places (into q) ≤ 512065536
  into-few q h = sum-few N.places 8001024 (into q) loaded.places-le (λ x l. (stored.pair x q l h).few)

  pub out-few : (q : ℕ) → q < (net_in t.net.words.now).places → sum_to (net_in t.net.words.now).places (out_of q) ≤ 512065536
  out-few q h = sum-few N.places 8001024 (out_of q) loaded.places-le (λ y l. (stored.pair q y h l).few)

  pub taken-few : (q : ℕ) → sum_to (net_in t.net.words.now).acts (taken q) ≤ 64000000
  taken-few q = sum-few N.acts 1000000 (taken q) loaded.acts-le (λ a l. omega (arith, mul-le-mul (stored.fired a l).few (inputs-le N loaded q a l)))

  pub jumps-few : sum_to (net_in t.net.words.now).acts jumps ≤ 512000000
  jumps-few = sum-few N.acts 8000000 jumps loaded.acts-le (λ a l. (stored.jumps a l).few)

  pub moved-few : (a : ℕ) → a < (net_in t.net.words.now).acts → moves a ≤ 8000000
  moved-few a l = moved_few _ _ (stored.fired a l).few (loaded.arcs-le a l)

  pub moves-few : sum_to (net_in t.net.words.now).acts moves ≤ 512000000
  moves-few = sum-few N.acts 8000000 moves loaded.acts-le moved-few

  -- a part of a sum is no more
  pub in-few : (q : ℕ) → q < (net_in t.net.words.now).places → (i : ℕ) → i ≤ (net_in t.net.words.now).places → sum_to i (into q) ≤ 512065536
  in-few q h i l = omega (arith, sum_to-under i N.places (into q) l, into-few q h)

  pub out-part : (q : ℕ) → q < (net_in t.net.words.now).places → (i : ℕ) → i ≤ (net_in t.net.words.now).places → sum_to i (out_of q) ≤ 512065536
  out-part q h i l = omega (arith, sum_to-under i N.places (out_of q) l, out-few q h)

  pub taken-part : (q i : ℕ) → i ≤ (net_in t.net.words.now).acts → sum_to i (taken q) ≤ 64000000
  taken-part q i l = omega (arith, sum_to-under i N.acts (taken q) l, taken-few q)

  pub jumps-sum-few : (i : ℕ) → i ≤ (net_in t.net.words.now).acts → sum_to i jumps ≤ 512000000
  jumps-sum-few i l = omega (arith, sum_to-under i N.acts jumps l, jumps-few)

  pub moved-sum-few : (i : ℕ) → i ≤ (net_in t.net.words.now).acts → sum_to i moves ≤ 512000000
  moved-sum-few i l = omega (arith, sum_to-under i N.acts moves l, moves-few)

  -- the close takes every object
  pub sunk-is : (q : ℕ) → sum_to (length (state_at t.rec.now).kinds) (sunk q) ≡ sunk_on (net_in t.net.words.now) (closer_kinds (state_at t.rec.now).kinds) q
  sunk-is q = by_index (λ (k : ℕ). one (eqb q (N.sink k))) d.kinds ∙ ap (λ (ks : List ℕ). sunk_on N ks q) (sym (closers-kinds d.kinds))

  pub sunk-few : (q : ℕ) → sum_to (length (state_at t.rec.now).kinds) (sunk q) ≤ 1024
  sunk-few q = omega (arith, sum-under (length d.kinds) 1 (sunk q) (λ o l. one_le (eqb q (N.sink (get_or d.kinds o 0)))), stored.objects_few)

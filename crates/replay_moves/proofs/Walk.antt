-- One object moved in a record's numbers: what it asks, how it changes them, and the state that they hold then. Assumes nothing.
use Prim.Native.Nat.{ℕ, suc, ◌+◌, ◌*◌, ◌≤◌, ◌<◌}
use mathlib.Core.Bool.{Bool, true, false}
use mathlib.Core.Path.{◌≡◌, refl, ap, sym, ◌∙◌}
use mathlib.Core.List.{List, [], ◌∷◌}
use native.Mathlib.Omega.{arith}
use native.Mathlib.Numerals.{add-one}
use native.Mathlib.Decide.{ℕ_discrete}
use lib.Arith.{digits_lt}
use lib.ListN.{length, get_or, set, length-set}
use lib.Seq.{get_or-set_same, get_or-set_other, set-get_or, set-set, set_comm}
use lib.Dec.{eqb}
use Rattle.words.specs.Lists.{pick}
use Rattle.net.specs.Net.{Net}
use Rattle.replay.specs.Plain.{Leg, Hop, walked}
use Rattle.replay.specs.State.{State, with_places, with_closing, with_jumps, with_pairs, bump, hop_index, act_jumps, close_jumps}
use Rattle.replay.specs.Record.{record_words}
use Rattle.replay.specs.Claims.{judged}
use Rattle.replay_layout.specs.Offsets.{kind_at, place_at, closing_at, jumps_at, pair_at}
use Rattle.replay_moves.specs.Moves.{raise, jumps_to, go_words, CanAdd, CanMove}
use Rattle.replay_layout.specs.declared.Layout.{Layout}
use Rattle.replay_layout.proofs.RecordLaws.{Placed, placed_same, record-size, record-few, get-kind, get-place, get-pair, get-jumps, get-closing, put-place, put-pair, put-jumps, put-closing}
use Rattle.replay.specs.Limits.{max_words}

-- a jump from p to q is counted at the pair and at number `own`; where p is q there is none
unfoldable jump_words : Layout → ℕ → ℕ → ℕ → List ℕ → List ℕ
jump_words l own p q w = pick (eqb p q) w (bump (bump w (pair_at l p q)) own)

-- object o is sought on place `inp` and left on place `out`
unfoldable move_words : Layout → ℕ → ℕ → ℕ → ℕ → List ℕ → List ℕ
move_words l own o inp out w = set (jump_words l own (get_or w (place_at l o) 0) inp w) (place_at l o) out

-- a number raised by 0 or by 1, and two of them raised by the same
raise-none : (w : List ℕ) (i : ℕ) → raise w i 0 ≡ w
raise-none w i = let z : get_or w i 0 + 0 ≡ get_or w i 0 = omega arith in ap (set w i) z ∙ set-get_or w i 0

raised : (same : Bool) (w : List ℕ) (i : ℕ) → raise w i (pick same 0 1) ≡ pick same w (bump w i)
raised true w i = raise-none w i
raised false w i = ap (set w i) (add-one (get_or w i 0))

jump-raised : (same : Bool) (w : List ℕ) (i k : ℕ) → raise (raise w i (pick same 0 1)) k (pick same 0 1) ≡ pick same w (bump (bump w i) k)
jump-raised true w i k = ap (λ (v : List ℕ). raise v k 0) (raised true w i) ∙ raised true w k
jump-raised false w i k = ap (λ (v : List ℕ). raise v k 1) (raised false w i) ∙ raised false (bump w i) k

-- number i is raised before or after another number is raised or set, and twice or once
raise-raise : (w : List ℕ) (i k d e : ℕ) → (i ≡ k → ⊥) → raise (raise w i d) k e ≡ raise (raise w k e) i d
raise-raise w i k d e n =
    ap (λ (x : ℕ). set (raise w i d) k (x + e)) (get_or-set_other w i k (get_or w i 0 + d) 0 (λ q. n (sym q)))
    ∙ set_comm w i k (get_or w i 0 + d) (get_or w k 0 + e) n
    ∙ ap (λ (x : ℕ). set (raise w k e) i (x + d)) (sym (get_or-set_other w k i (get_or w k 0 + e) 0 n))

raise-set : (w : List ℕ) (i k d v : ℕ) → (i ≡ k → ⊥) → set (raise w i d) k v ≡ raise (set w k v) i d
raise-set w i k d v n = set_comm w i k (get_or w i 0 + d) v n ∙ ap (λ (x : ℕ). set (set w k v) i (x + d)) (sym (get_or-set_other w k i v 0 n))

raise-twice : (w : List ℕ) (i d e : ℕ) → i < length w → raise (raise w i d) i e ≡ raise w i (d + e)
raise-twice w i d e h = let z : get_or w i 0 + d + e ≡ get_or w i 0 + (d + e) = omega arith in
    ap (λ (x : ℕ). set (raise w i d) i (x + e)) (get_or-set_same w i (get_or w i 0 + d) 0 h) ∙ set-set w i (get_or w i 0 + d) (get_or w i 0 + d + e) ∙ ap (set w i) z

-- a jump counted at number `own` is one more in a sum that is added to that number later
move-later : (l : Layout) (own o inp out s : ℕ) (w : List ℕ) → own < length w → (own ≡ place_at l o → ⊥) → (own ≡ pair_at l (get_or w (place_at l o) 0) inp → ⊥)
    → move_words l own o inp out (raise w own s) ≡ raise (go_words l o inp out w) own (s + jumps_to l o inp w)
unfolding jump_words move_words go_words
move-later l own o inp out s w h n m =
    ap (λ (p : ℕ). set (jump_words l own p inp (raise w own s)) (place_at l o) out) (get_or-set_other w own (place_at l o) (get_or w own 0 + s) 0 (λ e. n (sym e)))
    ∙ ap (λ (v : List ℕ). set v (place_at l o) out)
    (sym (jump-raised (eqb (get_or w (place_at l o) 0) inp) (raise w own s) i own) ∙ ap (λ (v : List ℕ). raise v own d) (raise-raise w own i s d m) ∙ raise-twice (raise w i d) own s d (rw length-set h))
    ∙ raise-set (raise w i d) own (place_at l o) (s + d) out n
  where
    i : ℕ
    i = pair_at l (get_or w (place_at l o) 0) inp

    d : ℕ
    d = jumps_to l o inp w

length-jump : (l : Layout) (own p q : ℕ) (w : List ℕ) → length (jump_words l own p q w) ≡ length w
unfolding jump_words
length-jump l own p q w = go (eqb p q)
  where
    go : (c : Bool) → length (pick c w (bump (bump w (pair_at l p q)) own)) ≡ length w
    go true = refl
    go false = simp length-set

-- a number that a jump does not count
jump-other : (l : Layout) (own p q j : ℕ) (w : List ℕ) → (j ≡ pair_at l p q → ⊥) → (j ≡ own → ⊥) → get_or (jump_words l own p q w) j 0 ≡ get_or w j 0
unfolding jump_words
jump-other l own p q j w f g = go (eqb p q)
  where
    go : (c : Bool) → get_or (pick c w (bump (bump w (pair_at l p q)) own)) j 0 ≡ get_or w j 0
    go true = refl
    go false = get_or-set_other (bump w (pair_at l p q)) own j _ 0 g ∙ get_or-set_other w (pair_at l p q) j _ 0 f

-- a jump raises no number by more than one
bump-grows : (w : List ℕ) (i j : ℕ) → i < length w → get_or (bump w i) j 0 ≤ suc (get_or w j 0)
bump-grows w i j h = go (ℕ_discrete j i)
  where
    go : Dec (j ≡ i) → get_or (bump w i) j 0 ≤ suc (get_or w j 0)
    go (yes e) = rw e (omega (arith, get_or-set_same w i (suc (get_or w i 0)) 0 h))
    go (no m) = omega (arith, get_or-set_other w i j (suc (get_or w i 0)) 0 m)

bumps-grow : (w : List ℕ) (i k j : ℕ) → i < length w → k < length w → (k ≡ i → ⊥) → get_or (bump (bump w i) k) j 0 ≤ suc (get_or w j 0)
bumps-grow w i k j hi hk n = go (ℕ_discrete j k)
  where
    go : Dec (j ≡ k) → get_or (bump (bump w i) k) j 0 ≤ suc (get_or w j 0)
    go (yes e) = rw e (omega (arith, get_or-set_same (bump w i) k (suc (get_or (bump w i) k 0)) 0 (rw length-set hk), get_or-set_other w i k (suc (get_or w i 0)) 0 n))
    go (no m) = omega (arith, get_or-set_other (bump w i) k j (suc (get_or (bump w i) k 0)) 0 m, bump-grows w i j hi)

jump-grows : (l : Layout) (own p q j : ℕ) (w : List ℕ) → pair_at l p q < length w → own < length w → (own ≡ pair_at l p q → ⊥) → get_or (jump_words l own p q w) j 0 ≤ suc (get_or w j 0)
unfolding jump_words
jump-grows l own p q j w hp ho n = go (eqb p q)
  where
    go : (c : Bool) → get_or (pick c w (bump (bump w (pair_at l p q)) own)) j 0 ≤ suc (get_or w j 0)
    go true = omega arith
    go false = bumps-grow w (pair_at l p q) own j hp ho n

-- as many places after a walk
pub length-walked : (ls : List Leg) (ps : List ℕ) → length (walked ps ls) ≡ length ps
length-walked [] ps = refl
length-walked (l ∷ ls) ps = length-walked ls (set ps l.obj l.out) ∙ length-set ps l.obj l.out

-- the numbers w are those of the state d; every object stands on a known place, and every count is below b
pub record Walk (N : Net) (table : List ℕ) (l : Layout) (b : ℕ) (d : State) (w : List ℕ) : Type 0 where
  pub words : w ≡ record_words table d
  pub placed : Placed N table l d
  pub inside : (o : ℕ) → o < l.objects → get_or w (place_at l o) 0 < l.places
  pub room : (j : ℕ) → l.counts ≤ j → get_or w j 0 < b

module _ (N : Net) (table : List ℕ) (l : Layout) (b : ℕ) (d : State) (w : List ℕ) (W : Walk N table l b d w) where
  walk-size : length w ≡ l.pairs + l.places * l.places
  walk-size = ap length W.words ∙ record-size N table l d W.placed

  module _ (own o inp : ℕ) (low : l.counts ≤ own) (high : own < l.pairs) (known : o < l.objects) (there : inp < l.places) where
    at_in : get_or w (place_at l o) 0 * l.places + inp < l.places * l.places
    at_in = digits_lt (W.inside o known) there

    below : place_at l o < l.counts
    below = omega (arith, W.placed.counts-at)

    jumps-high : l.counts ≤ l.pairs
    jumps-high = omega (arith, W.placed.pairs-at)

    moved_inside : (out : ℕ) → out < l.places → (k : ℕ) → k < l.objects → get_or (move_words l own o inp out w) (place_at l k) 0 < l.places
    unfolding move_words
    moved_inside out h k hk = go (ℕ_discrete k o)
      where
        go : Dec (k ≡ o) → get_or (set (jump_words l own (get_or w (place_at l o) 0) inp w) (place_at l o) out) (place_at l k) 0 < l.places
        go (yes e) = rw e (rw (get_or-set_same (jump_words l own (get_or w (place_at l o) 0) inp w) (place_at l o) out 0 (rw length-jump (omega (arith, walk-size, below, jumps-high)))) h)
        go (no m) = rw (get_or-set_other (jump_words l own (get_or w (place_at l o) 0) inp w) (place_at l o) (place_at l k) out 0 (λ e. m (omega arith)))
            (rw (jump-other l own (get_or w (place_at l o) 0) inp (place_at l k) w (λ e. omega (arith, W.placed.counts-at, jumps-high)) (λ e. omega (arith, W.placed.counts-at))) (W.inside k hk))

    moved-room : (out c : ℕ) → b + 1 ≤ c → (j : ℕ) → l.counts ≤ j → get_or (move_words l own o inp out w) j 0 < c
    unfolding move_words
    moved-room out c h j k = omega (
      arith,
      get_or-set_other (jump_words l own (get_or w (place_at l o) 0) inp w) (place_at l o) j out 0 (λ e. omega (arith, below)),
      jump-grows l own (get_or w (place_at l o) 0) inp j w (omega (arith, walk-size, at_in)) (omega (arith, walk-size)) (λ e. omega arith),
      W.room j k,
    )

-- the numbers w are those of the state d once the sum s of its jumps is added to number `own`
pub record Summing (N : Net) (table : List ℕ) (l : Layout) (b own s : ℕ) (d : State) (w : List ℕ) : Type 0 where
  pub walk : Walk N table l b d (raise w own s)
  pub low : l.counts ≤ own
  pub high : own < l.pairs

-- a walk begins with nothing to add
pub sum-start : (N : Net) (table : List ℕ) (l : Layout) (b own : ℕ) (d : State) (w : List ℕ) → Walk N table l b d w → l.counts ≤ own → own < l.pairs → Summing N table l b own 0 d w
sum-start N table l b own d w W low high = record { walk = rw (raise-none w own) W; low = low; high = high }

module _ (N : Net) (table : List ℕ) (l : Layout) (b own s : ℕ) (d : State) (w : List ℕ) (S : Summing N table l b own s d w) where
  W : Walk N table l b d (raise w own s)
  W = S.walk

  size : length w ≡ l.pairs + l.places * l.places
  size = sym (length-set w own (get_or w own 0 + s)) ∙ walk-size N table l b d (raise w own s) W

  other : (j : ℕ) → (j ≡ own → ⊥) → get_or w j 0 ≡ get_or (raise w own s) j 0
  other j n = sym (get_or-set_other w own j (get_or w own 0 + s) 0 n)

  pub sum-few : length w ≤ max_words
  sum-few = omega (arith, length-set w own (get_or w own 0 + s), ap length W.words, record-few N table l d W.placed)

  -- the register's numbers
  pub register-in : (o : ℕ) → o < l.objects → kind_at N l o < length w
  register-in o h = omega (arith, size, W.placed.positions-at, W.placed.counts-at, W.placed.pairs-at)

  pub register-kind : (ks : List ℕ) → d.kinds ≡ ks → (o : ℕ) → o < l.objects → get_or w (kind_at N l o) 0 ≡ get_or ks o 0
  register-kind ks e o h =
      other (kind_at N l o) (λ q. omega (arith, S.low, W.placed.positions-at, W.placed.counts-at))
      ∙ ap (λ (v : List ℕ). get_or v (kind_at N l o) 0) W.words ∙ get-kind N table l d W.placed o h ∙ ap (λ (x : List ℕ). get_or x o 0) e

  -- the sum can be added
  pub can-add-sum : b ≤ 4294967296 → CanAdd own s w
  can-add-sum r = let h : own < length w = omega (arith, size, S.high) in record { inside = h; room = omega (arith, get_or-set_same w own (get_or w own 0 + s) 0 h, W.room own S.low) }

  -- an object can be moved, and its jump is one more in the sum
  module _ (o inp : ℕ) (known : o < l.objects) (there : inp < l.places) where
    under : place_at l o < l.counts
    under = omega (arith, W.placed.counts-at)

    pair-in : get_or w (place_at l o) 0 * l.places + inp < l.places * l.places
    pair-in = rw (other (place_at l o) (λ e. omega (arith, under, S.low))) (digits_lt (W.inside o known) there)

    pub can-move : b ≤ 4294967295 → CanMove l o inp w
    can-move r = let i = pair_at l (get_or w (place_at l o) 0) inp in record {
      size = sum-few;
      place = omega (arith, size, under, S.low, S.high);
      pair = record { inside = omega (arith, size, pair-in); room = omega (arith, other i (λ e. omega (arith, S.high)), W.room i (omega (arith, S.low, S.high))) };
    }

    move-sum : (out : ℕ) → move_words l own o inp out (raise w own s) ≡ raise (go_words l o inp out w) own (s + jumps_to l o inp w)
    move-sum out = move-later l own o inp out s w (omega (arith, size, S.high)) (λ e. omega (arith, under, S.low)) (λ e. omega (arith, S.high))

-- how jumps of activity a are counted beside their pairs, by `own`: one adds 1 to number `at`, they can be counted one by one,
-- and neither kinds nor places nor pairs have a part in it
pub record Counter (N : Net) (table : List ℕ) (l : Layout) (at a : ℕ) (own : State → List Hop → State) : Type 0 where
  pub adds : (e : State) (h : Hop) → h.act ≡ a → Placed N table l e → bump (record_words table e) at ≡ record_words table (own e (h ∷ []))
  pub keeps : (e : State) (h : Hop) → Placed N table l e → Placed N table l (own e (h ∷ []))
  pub kinds : (e : State) (h : Hop) → (own e (h ∷ [])).kinds ≡ e.kinds
  pub places : (e : State) (h : Hop) → (own e (h ∷ [])).places ≡ e.places
  pub pairs : (e : State) (h : Hop) → (own e (h ∷ [])).pairs ≡ e.pairs
  pub none : (e : State) → own e [] ≡ e
  pub next : (e : State) (ps js : List ℕ) (h : Hop) (hs : List Hop) → own (with_pairs (with_places (own e (h ∷ [])) ps) js) hs ≡ own (with_pairs (with_places e ps) js) (h ∷ hs)

-- an event's jumps, and the close's
module _ (N : Net) (table : List ℕ) (l : Layout) where
  pub act-counter : (a : ℕ) → a < N.acts → Counter N table l (jumps_at l a) a act_jumps
  act-counter a i = record {
    adds = λ e h q P. ap (λ (v : ℕ). set (record_words table e) (jumps_at l a) (suc v)) (get-jumps N table l e P a i) ∙ put-jumps N table l e P a (suc (get_or e.jumps a 0)) i
        ∙ ap (λ (c : ℕ). record_words table (with_jumps e (bump e.jumps c))) (sym q);
    keeps = λ e h P. placed_same N table l e (act_jumps e (h ∷ [])) P refl refl refl (length-set e.jumps h.act _) refl;
    kinds = λ e h. refl;
    places = λ e h. refl;
    pairs = λ e h. refl;
    none = λ e. refl;
    next = λ e ps js h hs. refl;
  }

  pub close-counter : Counter N table l (closing_at l) N.acts close_jumps
  close-counter = record {
    adds = λ e h q P. let z : suc e.closing ≡ e.closing + 1 = omega arith in
        ap (λ (v : ℕ). set (record_words table e) (closing_at l) (suc v)) (get-closing N table l e P) ∙ put-closing N table l e P (suc e.closing) ∙ ap (λ (n : ℕ). record_words table (with_closing e n)) z;
    keeps = λ e h P. placed_same N table l e (close_jumps e (h ∷ [])) P refl refl refl refl refl;
    kinds = λ e h. refl;
    places = λ e h. refl;
    pairs = λ e h. refl;
    none = λ e. let z : e.closing + 0 ≡ e.closing = omega arith in ap (with_closing e) z;
    next = λ e ps js h hs. let z : e.closing + 1 + length hs ≡ e.closing + suc (length hs) = omega arith in ap (with_closing (with_pairs (with_places e ps) js)) z;
  }

-- the state after a hop that jumps or not, and after a leg
abbrev pub jump_state : Net → (State → List Hop → State) → State → Hop → State
jump_state N own d h = pick (eqb h.from h.to) d (own (with_pairs d (bump d.pairs (hop_index N h))) (h ∷ []))

abbrev pub leg_state : Net → (State → List Hop → State) → State → Leg → State
leg_state N own d x = let j : State = jump_state N own d (judged d.places x) in with_places j (set j.places x.obj x.out)

module _ (N : Net) (table : List ℕ) (l : Layout) (at a : ℕ) (own : State → List Hop → State) (C : Counter N table l at a own) (d : State) where
  -- the kinds stay
  pub leg-kinds : (x : Leg) → (leg_state N own d x).kinds ≡ d.kinds
  leg-kinds x = go (eqb (get_or d.places x.obj 0) x.inp)
    where
      h : Hop
      h = judged d.places x

      go : (c : Bool) → (pick c d (own (with_pairs d (bump d.pairs (hop_index N h))) (h ∷ []))).kinds ≡ d.kinds
      go true = refl
      go false = C.kinds _ h

  module _ (P : Placed N table l d) where
    with_pair : (i : ℕ) → Placed N table l (with_pairs d (bump d.pairs i))
    with_pair i = placed_same N table l d (with_pairs d (bump d.pairs i)) P refl refl refl refl (length-set d.pairs i _)

    jump-placed : (h : Hop) → Placed N table l (jump_state N own d h)
    jump-placed h = go (eqb h.from h.to)
      where
        go : (c : Bool) → Placed N table l (pick c d (own (with_pairs d (bump d.pairs (hop_index N h))) (h ∷ [])))
        go true = P
        go false = C.keeps _ h (with_pair (hop_index N h))

    jump-numbers : (h : Hop) → h.act ≡ a → jump_words l at h.from h.to (record_words table d) ≡ record_words table (jump_state N own d h)
    unfolding jump_words
    jump-numbers h q = go (eqb h.from h.to)
      where
        i : ℕ
        i = hop_index N h

        pair : bump (record_words table d) (pair_at l h.from h.to) ≡ record_words table (with_pairs d (bump d.pairs i))
        pair = ap (λ (v : ℕ). set (record_words table d) (pair_at l h.from h.to) (suc v)) (get-pair N table l d P h.from h.to) ∙ put-pair N table l d P h.from h.to (suc (get_or d.pairs i 0))

        go : (c : Bool) → pick c (record_words table d) (bump (bump (record_words table d) (pair_at l h.from h.to)) at) ≡ record_words table (pick c d (own (with_pairs d (bump d.pairs i)) (h ∷ [])))
        go true = refl
        go false = ap (λ (v : List ℕ). bump v at) pair ∙ C.adds _ h q (with_pair i)

    move-numbers : (x : Leg) → x.act ≡ a → x.obj < l.objects → move_words l at x.obj x.inp x.out (record_words table d) ≡ record_words table (leg_state N own d x)
    unfolding move_words
    move-numbers x q k =
        ap (λ (p : ℕ). set (jump_words l at p x.inp (record_words table d)) (place_at l x.obj) x.out) (get-place N table l d P x.obj k)
        ∙ ap (λ (v : List ℕ). set v (place_at l x.obj) x.out) (jump-numbers (judged d.places x) q)
        ∙ put-place N table l (jump_state N own d (judged d.places x)) (jump-placed (judged d.places x)) x.obj x.out k

    leg-placed : (x : Leg) → Placed N table l (leg_state N own d x)
    leg-placed x = let h = judged d.places x in
        placed_same N table l (jump_state N own d h) (leg_state N own d x) (jump-placed h) refl (length-set (jump_state N own d h).places x.obj x.out) refl refl refl

-- the walk goes on
pub sum-turn : (N : Net) (table : List ℕ) (l : Layout) (b c at a s : ℕ) (own : State → List Hop → State) (d : State) (w : List ℕ) (x : Leg) → Summing N table l b at s d w → Counter N table l at a own
    → x.act ≡ a → x.obj < l.objects → x.inp < l.places → x.out < l.places → b + 1 ≤ c
    → Summing N table l c at (s + jumps_to l x.obj x.inp w) (leg_state N own d x) (go_words l x.obj x.inp x.out w)
sum-turn N table l b c at a s own d w x S C q known there left more =
    let v = raise w at s in let W = S.walk in
    record {
      walk = rw (← move-sum N table l b at s d w S x.obj x.inp known there x.out) (record {
        words = ap (λ (v : List ℕ). move_words l at x.obj x.inp x.out v) W.words ∙ move-numbers N table l at a own C d W.placed x q known;
        placed = leg-placed N table l at a own C d W.placed x;
        inside = moved_inside N table l b d v W at x.obj x.inp S.low S.high known there x.out left;
        room = moved-room N table l b d v W at x.obj x.inp S.low S.high known there x.out c more;
      });
      low = S.low;
      high = S.high;
    }

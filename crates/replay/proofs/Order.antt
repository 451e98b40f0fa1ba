-- The order of an event's objects is free: the answer and what is stored are the same for every order. Assumes nothing.
use Prim.Native.Nat.{ℕ, suc}
use mathlib.Core.Bool.{Bool, true, false, not}
use mathlib.Core.Path.{◌≡◌, refl, ap, ap₂, sym, ◌∙◌}
use mathlib.Core.List.{List, ◌∷◌, map}
use native.Mathlib.Decide.{ℕ_discrete}
use lib.ListN.{length, get_or, set}
use lib.Seq.{get_or-set_other, set_comm}
use lib.Dec.{eqb, leb}
use borrow.Author.Tests.{eqb-true, eq-eqb, ne_eqb}
use Rattle.words.specs.Lists.{pick, any, has, twice, keep}
use Rattle.words.proofs.Lists.{clash}
use Rattle.net.specs.Net.{Net, takes}
use Rattle.replay.specs.Plain.{Event, Hop, jumped, hops, walked, object_kinds, leg, legs, refusal, event_of, ask_event}
use Rattle.replay.specs.State.{State, bump, tally, hop_index, answer_s, accept_s, ask_s}
use Rattle.replay.specs.Record.{encode, table_in}
use Rattle.replay.specs.Calls.{net_at, state_at, ask_code, ask_bytes}
use Rattle.replay.specs.Claims.{judged, Permuted, same, swap, cons, then, SameEvent}
use Rattle.replay.proofs.Accepted.{accepted}
use Rattle.replay.proofs.Entry.{apart-legs, judged-at-entry}

-- what a permutation keeps
permuted-map : {A B : Type 0} (f : A → B) {xs ys : List A} → Permuted xs ys → Permuted (map f xs) (map f ys)
permuted-map f same = same
permuted-map f swap = swap
permuted-map f (cons p) = cons (permuted-map f p)
permuted-map f (then p q) = then (permuted-map f p) (permuted-map f q)

permuted-keep : {A : Type 0} (f : A → Bool) {xs ys : List A} → Permuted xs ys → Permuted (keep f xs) (keep f ys)
permuted-keep f same = same
permuted-keep f (swap {x} {y} {xs}) = go (f x) (f y)
  where
    go : (s t : Bool) → Permuted (pick s (x ∷ pick t (y ∷ keep f xs) (keep f xs)) (pick t (y ∷ keep f xs) (keep f xs))) (pick t (y ∷ pick s (x ∷ keep f xs) (keep f xs)) (pick s (x ∷ keep f xs) (keep f xs)))
    go true true = swap
    go true false = same
    go false true = same
    go false false = same
permuted-keep f (cons {x} {xs} {ys} p) = go (f x) (permuted-keep f p)
  where
    go : (s : Bool) → Permuted (keep f xs) (keep f ys) → Permuted (pick s (x ∷ keep f xs) (keep f xs)) (pick s (x ∷ keep f ys) (keep f ys))
    go true r = cons r
    go false r = r
permuted-keep f (then p q) = then (permuted-keep f p) (permuted-keep f q)

permuted-length : {A : Type 0} {xs ys : List A} → Permuted xs ys → length xs ≡ length ys
permuted-length same = refl
permuted-length swap = refl
permuted-length (cons p) = ap suc (permuted-length p)
permuted-length (then p q) = permuted-length p ∙ permuted-length q

or_swap : (s t r : Bool) → pick s true (pick t true r) ≡ pick t true (pick s true r)
or_swap true true r = refl
or_swap true false r = refl
or_swap false true r = refl
or_swap false false r = refl

permuted-any : {A : Type 0} (f : A → Bool) {xs ys : List A} → Permuted xs ys → any f xs ≡ any f ys
permuted-any f same = refl
permuted-any f (swap {x} {y} {xs}) = or_swap (f x) (f y) (any f xs)
permuted-any f (cons {x} p) = ap (pick (f x) true) (permuted-any f p)
permuted-any f (then p q) = permuted-any f p ∙ permuted-any f q

eqb-sym : (x y : ℕ) → eqb x y ≡ eqb y x
eqb-sym x y = go (ℕ_discrete x y)
  where
    go : Dec (x ≡ y) → eqb x y ≡ eqb y x
    go (yes e) = eq-eqb x y e ∙ sym (eq-eqb y x (sym e))
    go (no n) = ne_eqb x y n ∙ sym (ne_eqb y x (λ e. n (sym e)))

permuted-twice : {xs ys : List ℕ} → Permuted xs ys → twice xs ≡ twice ys
permuted-twice same = refl
permuted-twice (swap {x} {y} {xs}) = rw (eqb-sym x y) (go (eqb y x) (has x xs) (has y xs) (twice xs))
  where
    go : (e p q r : Bool) → pick (pick e true p) true (pick q true r) ≡ pick (pick e true q) true (pick p true r)
    go true p q r = refl
    go false p q r = or_swap p q r
permuted-twice (cons {x} p) = ap₂ (λ (s t : Bool). pick s true t) (permuted-any (eqb x) p) (permuted-twice p)
permuted-twice (then p q) = permuted-twice p ∙ permuted-twice q

-- counting in another order
bump-comm : (l : List ℕ) (i j : ℕ) → bump (bump l i) j ≡ bump (bump l j) i
bump-comm l i j = go (ℕ_discrete i j)
  where
    go : Dec (i ≡ j) → bump (bump l i) j ≡ bump (bump l j) i
    go (yes e) = cc
    go (no n) =
        ap (λ (v : ℕ). set (set l i (suc (get_or l i 0))) j (suc v)) (get_or-set_other l i j (suc (get_or l i 0)) 0 (λ e. n (sym e)))
        ∙ set_comm l i j (suc (get_or l i 0)) (suc (get_or l j 0)) n
        ∙ ap (λ (v : ℕ). set (set l j (suc (get_or l j 0))) i (suc v)) (sym (get_or-set_other l j i (suc (get_or l j 0)) 0 n))

permuted-tally : (l : List ℕ) {cs ds : List ℕ} → Permuted cs ds → tally l cs ≡ tally l ds
permuted-tally l same = refl
permuted-tally l (swap {x} {y} {xs = cs}) = ap (λ (m : List ℕ). tally m cs) (bump-comm l x y)
permuted-tally l (cons {x} p) = permuted-tally (bump l x) p
permuted-tally l (then p q) = permuted-tally l p ∙ permuted-tally l q

module _ (N : Net) (ks : List ℕ) (a : ℕ) where
  -- the walk of objects of different kinds
  permuted-walk : {os qs : List ℕ} → Permuted os qs → (ps : List ℕ) → twice (object_kinds ks os) ≡ false → walked ps (map (leg N ks a) os) ≡ walked ps (map (leg N ks a) qs)
  permuted-walk same ps t = refl
  permuted-walk (swap {x} {y} {xs = os}) ps t = ap (λ (m : List ℕ). walked m (map (leg N ks a) os)) (set_comm ps x y (leg N ks a x).out (leg N ks a y).out differ)
    where
      head : (e p q r : Bool) → pick (pick e true p) true (pick q true r) ≡ false → e ≡ true → ⊥
      head true p q r z e = clash z
      head false p q r z e = clash (sym e)

      differ : x ≡ y → ⊥
      differ e = head (eqb (get_or ks x 0) (get_or ks y 0)) (has (get_or ks x 0) (object_kinds ks os)) (has (get_or ks y 0) (object_kinds ks os)) (twice (object_kinds ks os)) t (eq-eqb (get_or ks x 0) (get_or ks y 0) (ap (λ (o : ℕ). get_or ks o 0) e))
  permuted-walk (cons {x} {xs = os} p) ps t = permuted-walk p (set ps x (leg N ks a x).out) (tail (has (get_or ks x 0) (object_kinds ks os)) (twice (object_kinds ks os)) t)
    where
      tail : (h r : Bool) → pick h true r ≡ false → r ≡ false
      tail true r z = clash z
      tail false r z = z
  permuted-walk (then p q) ps t = permuted-walk p ps t ∙ permuted-walk q ps (sym (permuted-twice (permuted-map (λ (o : ℕ). get_or ks o 0) p)) ∙ t)

  module _ {os qs : List ℕ} (p : Permuted os qs) where
    abbrev one_way : Event
    one_way = event_of a os

    abbrev other : Event
    other = event_of a qs

    kinds-permuted : Permuted (object_kinds ks os) (object_kinds ks qs)
    kinds-permuted = permuted-map (λ (o : ℕ). get_or ks o 0) p

    refusal-same : (closed events : ℕ) → refusal N ks closed events one_way ≡ refusal N ks closed events other
    refusal-same closed events = cc (
      permuted-length p,
      permuted-any (λ (o : ℕ). leb (length ks) o) p,
      permuted-any (λ (k : ℕ). not (takes N a k)) kinds-permuted,
      permuted-twice kinds-permuted,
    )

    -- the jumps are the same, in another order
    jumps-permuted : (ps : List ℕ) → twice (object_kinds ks os) ≡ false → Permuted (keep jumped (hops ps (legs N ks one_way))) (keep jumped (hops ps (legs N ks other)))
    jumps-permuted ps t =
        rw (judged-at-entry (legs N ks one_way) ps (apart-legs N ks a os t), judged-at-entry (legs N ks other) ps (apart-legs N ks a qs (sym (permuted-twice kinds-permuted) ∙ t)))
        (permuted-keep jumped (permuted-map (judged ps) (permuted-map (leg N ks a) p)))

module _ (N : Net) (d : State) (a : ℕ) {os qs : List ℕ} (p : Permuted os qs) where
  answer-same : answer_s N d (ask_event a os) ≡ answer_s N d (ask_event a qs)
  answer-same = refusal-same N d.kinds a p d.closed d.events

  -- what an accepted event leaves
  accept-same : answer_s N d (ask_event a os) ≡ 0 → accept_s N d (ask_event a os) ≡ accept_s N d (ask_event a qs)
  accept-same z =
      let t = (accepted N d.kinds d.closed d.events (event_of a os) z).fits.once in
      let j = jumps-permuted N d.kinds a p d.places t in
      cc (
        permuted-walk N d.kinds a p d.places t,
        permuted-tally d.jumps (permuted-map (λ (h : Hop). h.act) j),
        permuted-tally d.pairs (permuted-map (hop_index N) j),
      )

  state-same : ask_s N d (ask_event a os) ≡ ask_s N d (ask_event a qs)
  state-same = rw (sym answer-same) (go (eqb (answer_s N d (ask_event a os)) 0) refl)
    where
      go : (b : Bool) → eqb (answer_s N d (ask_event a os)) 0 ≡ b → pick b (accept_s N d (ask_event a os)) d ≡ pick b (accept_s N d (ask_event a qs)) d
      go true e = accept-same (eqb-true _ _ e)
      go false e = refl

module _ (b : List ℕ) (a : ℕ) {os qs : List ℕ} (p : Permuted os qs) where
  code_same : ask_code b (ask_event a os) ≡ ask_code b (ask_event a qs)
  unfolding ask_code
  code_same = answer-same (net_at b) (state_at b) a p

  bytes_same : ask_bytes b (ask_event a os) ≡ ask_bytes b (ask_event a qs)
  unfolding ask_bytes ask_code
  bytes_same = rw (sym (answer-same (net_at b) (state_at b) a p)) (go (eqb (answer_s (net_at b) (state_at b) (ask_event a os)) 0) refl)
    where
      go : (c : Bool) → eqb (answer_s (net_at b) (state_at b) (ask_event a os)) 0 ≡ c
          → pick c (encode (table_in b) (accept_s (net_at b) (state_at b) (ask_event a os))) b ≡ pick c (encode (table_in b) (accept_s (net_at b) (state_at b) (ask_event a qs))) b
      go true e = ap (encode (table_in b)) (accept-same (net_at b) (state_at b) a p (eqb-true _ _ e))
      go false e = refl

pub order-free : (a : ℕ) (os qs : List ℕ) → Permuted os qs → SameEvent a os qs
order-free a os qs p = record { answer = λ N d. answer-same N d a p; state = λ N d. state-same N d a p; code = λ b. code_same b a p; bytes = λ b. bytes_same b a p }

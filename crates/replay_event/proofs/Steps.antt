-- An event's objects moved one after the other: what is left to do, from the record's own state on. Assumes nothing.
use Prim.Native.Nat.{ℕ, ◌+◌, ◌/◌, ◌≤◌, ◌<◌}
use mathlib.Core.Bool.{true}
use mathlib.Core.Path.{◌≡◌, refl, sym, subst, ◌∙◌}
use mathlib.Core.List.{List, ◌∷◌, map}
use native.Mathlib.Omega.{arith}
use native.Mathlib.Numerals.{add-one}
use lib.ListN.{length, get_or, drop, drop_of_length-le, length-map}
use lib.Seq.{drop-cons}
use Rattle.words.specs.Words.{words_of}
use Rattle.words.proofs.Lists.{All-at, map_at}
use Rattle.words.proofs.Words.{length-words}
use Rattle.net.specs.Net.{Net, GoodArc, takes, input_of, output_of}
use Rattle.net.specs.Held.{net_in}
use Rattle.net.proofs.IndexLaws.{arc-has}
use Rattle.replay.specs.Plain.{object_kinds, leg, legs, event_of}
use Rattle.replay.specs.State.{State, act_jumps, after_legs}
use Rattle.replay.specs.Record.{record_words, table_in}
use Rattle.replay.specs.Calls.{state_at}
use Rattle.replay_layout.specs.Offsets.{kind_at, jumps_at}
use Rattle.replay_layout.specs.declared.Layout.{Layout}
use Rattle.replay_layout.proofs.RecordLaws.{ready-loaded}
use Rattle.replay_moves.specs.Moves.{raise, jumps_to, go_words, CanAdd, CanMove}
use Rattle.replay_moves.proofs.Begins.{walk_start}
use Rattle.replay_moves.proofs.Layouts.{kind-of-in}
use Rattle.replay_moves.proofs.Walk.{act-counter, sum-start, register-in, register-kind, can-add-sum, can-move}
use Rattle.replay_moves.proofs.Legs.{LegsLeft, legs-turn, legs-end}
use Rattle.replay_event.specs.Asked.{Moving}
use Rattle.replay_event.specs.declared.Asked.{Asked}
use Rattle.replay_event.proofs.Asks.{laid, numbers, few_objects}
use Rattle.replay.specs.Limits.{max_words}

-- the state once the event's objects are moved
abbrev pub moved : Asked → List ℕ → State
moved e b = after_legs (net_in e.net.words.now) act_jumps (state_at b) (legs (net_in e.net.words.now) (state_at b).kinds (event_of e.act (words_of e.objs.now)))

-- the objects from number i on are left to move, and s jumps to add; then the state is that of all of them moved
abbrev pub Stepping : Asked → List ℕ → ℕ → ℕ → List ℕ → Type 0
Stepping e b i s v =
    LegsLeft (net_in e.net.words.now) (table_in b) e.lay (8001025 + i) (jumps_at e.lay e.act) act_jumps (state_at b).kinds (map (leg (net_in e.net.words.now) (state_at b).kinds e.act) (drop i (words_of e.objs.now))) (moved e b) s v

module _ (e : Asked) (b : List ℕ) (M : Moving e b) where
  abbrev N : Net
  N = net_in e.net.words.now

  abbrev l : Layout
  l = e.lay

  abbrev ks : List ℕ
  ks = (state_at b).kinds

  abbrev os : List ℕ
  os = words_of e.objs.now

  pub kinds-length : length (object_kinds ks os) ≡ length os
  kinds-length = length-map os (λ (o : ℕ). get_or ks o 0)

  pub object-in : (i : ℕ) → i < length os → get_or os i 0 < l.objects
  object-in i h = omega (arith, All-at (λ (o : ℕ). o < length ks) 0 os M.known i h, (laid e b M.counted.laid).kinds-size)

  -- the jumps of the activity are one of the counts
  pub own_in : (jumps_at l e.act < l.pairs) × (jumps_at l e.act ≤ max_words)
  own_in = omega (arith, M.counted.act-in, (laid e b M.counted.laid).pairs-at, numbers e b M.counted.laid)

  pub pairs_few : l.pairs ≤ max_words
  pairs_few = omega (arith, numbers e b M.counted.laid)

  pub step_start : Stepping e b 0 0 (words_of b)
  step_start = record {
    state = state_at b;
    sum = sum-start _ _ _ _ _ _ _ (walk_start _ _ _ M.counted.laid.ready M.counted.laid.lay) (omega arith) own_in.0;
    same = refl;
    left = refl;
  }

  module _ (i s : ℕ) (v : List ℕ) (T : Stepping e b i s v) where
    module _ (h : i < length e.objs.now / 4) where
      -- the object, the kind that is read, and its arc
      abbrev o : ℕ
      o = get_or os i 0

      abbrev k : ℕ
      k = get_or v (kind_at N l o) 0

      pub step_in : i < length os
      step_in = omega (arith, length-words e.objs.now)

      pub kind-is : k ≡ get_or ks o 0
      kind-is = register-kind _ _ _ _ _ _ _ _ T.sum _ T.same o (object-in i step_in)

      kind-in : k < N.kinds
      kind-in = rw kind-is (kind-of-in _ _ _ M.counted.laid.ready M.counted.laid.lay o (object-in i step_in))

      kind-taken : takes N e.act k ≡ true
      kind-taken =
          let at : get_or (object_kinds ks os) i 0 ≡ k = map_at (λ (o : ℕ). get_or ks o 0) 0 0 os i step_in ∙ sym kind-is in
          subst (λ (k : ℕ). takes N e.act k ≡ true) at (All-at (λ (k : ℕ). takes N e.act k ≡ true) 0 (object_kinds ks os) M.taken i (omega (arith, kinds-length, step_in)))

      arc-good : GoodArc N (input_of N e.act k, output_of N e.act k)
      arc-good = arc-has N.kind_of (GoodArc N) k (N.arcs e.act) ((ready-loaded _ b M.counted.laid.ready).arc-good e.act M.counted.act-in) kind-taken

      pub inp-in : input_of N e.act k < l.places
      inp-in = omega (arith, arc-good.inp, (laid e b M.counted.laid).places-are)

      pub step_kind : kind_at N l o < length v
      step_kind = register-in _ _ _ _ _ _ _ _ T.sum o (object-in i step_in)

      pub step_taken : (e.act < N.acts) × (k < N.kinds) × (takes N e.act k ≡ true)
      step_taken = (M.counted.act-in, kind-in, kind-taken)

      pub step_out : (output_of N e.act k < l.places) × (l.places ≤ 64)
      step_out = omega (arith, arc-good.out, (laid e b M.counted.laid).places-are, (laid e b M.counted.laid).places-few)

      pub step_can : CanMove l o (input_of N e.act k) v
      step_can = can-move _ _ _ _ _ _ _ _ T.sum o (input_of N e.act k) (object-in i step_in) inp-in (omega (arith, few_objects _ _ M.counted, step_in))

      pub step_turn : Stepping e b (i + 1) (s + jumps_to l o (input_of N e.act k) v) (go_words l o (input_of N e.act k) (output_of N e.act k) v)
      step_turn =
          let t = table_in b in let rest = drop (i + 1) os in
          let split : drop i os ≡ o ∷ rest = rw add-one (drop-cons os i 0 step_in) in
          let first : LegsLeft N t l (8001025 + i) (jumps_at l e.act) act_jumps ks (map (leg N ks e.act) (o ∷ rest)) (moved e b) s v = subst (λ (r : List ℕ). LegsLeft N t l (8001025 + i) (jumps_at l e.act) act_jumps ks (map (leg N ks e.act) r) (moved e b) s v) split T in
          subst (λ (q : ℕ). input_of N e.act q < l.places → output_of N e.act q < l.places → Stepping e b (i + 1) (s + jumps_to l o (input_of N e.act q) v) (go_words l o (input_of N e.act q) (output_of N e.act q) v)) (sym kind-is)
          (λ hi ho. legs-turn N t l (jumps_at l e.act) e.act act_jumps (act-counter N t l e.act M.counted.act-in) (8001025 + i) ks (moved e b) s v (8001025 + (i + 1)) (leg N ks e.act o) (map (leg N ks e.act) rest) first refl (object-in i step_in) hi ho (omega arith))
          inp-in step_out.0

    pub step_add : i ≤ length e.objs.now / 4 → CanAdd (jumps_at l e.act) s v
    step_add h = can-add-sum _ _ _ _ _ _ _ _ T.sum (omega (arith, h, length-words e.objs.now, few_objects _ _ M.counted))

    pub step_end : length e.objs.now / 4 ≤ i → raise v (jumps_at l e.act) s ≡ record_words (table_in b) (moved e b)
    step_end h = let past : length os ≤ i = omega (arith, length-words e.objs.now) in
        legs-end N (table_in b) l (jumps_at l e.act) e.act act_jumps (act-counter N (table_in b) l e.act M.counted.act-in) (8001025 + i) ks (moved e b) s v
        (subst (λ (r : List ℕ). LegsLeft N (table_in b) l (8001025 + i) (jumps_at l e.act) act_jumps ks (map (leg N ks e.act) r) (moved e b) s v) (drop_of_length-le os past) T)

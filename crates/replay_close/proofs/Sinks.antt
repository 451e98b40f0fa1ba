-- The close, object by object (`closers` are all of them): what is left to do, and the closed record. Assumes nothing.
use Prim.Native.Nat.{ℕ, suc, ◌+◌, ◌-◌, ◌≤◌, ◌<◌}
use mathlib.Core.Path.{◌≡◌, refl, ap, sym, ◌∙◌, subst}
use mathlib.Core.List.{List, ◌∷◌, map}
use native.Mathlib.Omega.{arith}
use native.Mathlib.Numerals.{add-one}
use lib.ListN.{length, get_or, set}
use borrow.Author.Tests.{eq-eqb, ne_eqb}
use Rattle.words.specs.Lists.{upto}
use Rattle.words.specs.Words.{words_of}
use Rattle.net.specs.Held.{net_in}
use Rattle.replay.specs.Plain.{ending, endings}
use Rattle.replay.specs.State.{State, with_closed, with_closing, hop_index, leaps_of, close_jumps, after_legs, after_close}
use Rattle.replay.specs.Record.{record_words, table_in}
use Rattle.replay.specs.Calls.{state_at, ask_code, ask_bytes}
use Rattle.replay_layout.specs.Offsets.{layout_of, kind_at, closed_at, closing_at}
use Rattle.replay.specs.Ready.{Ready}
use Rattle.replay_moves.specs.Moves.{raise, jumps_to, go_words, CanAdd, CanMove}
use Rattle.replay_layout.specs.declared.Layout.{Layout}
use Rattle.replay.proofs.Tally.{length-tally}
use Rattle.replay_layout.proofs.RecordLaws.{Placed, placed_same, record-size, put-closed, ready-loaded, ready-sound, ready-bytes}
use Rattle.replay.proofs.Calls.{code_is, bytes-taken}
use Rattle.replay_close.specs.Answers.{ask_close}
use Rattle.replay_moves.proofs.Begins.{walk_start}
use Rattle.replay_moves.proofs.Layouts.{placed_at, kind-of-in, closed-read}
use Rattle.replay_moves.proofs.Walk.{length-walked, close-counter, sum-start, register-kind, can-add-sum, can-move}
use Rattle.replay_moves.proofs.Legs.{LegsLeft, legs-turn, legs-end}

-- the state once all objects are on their sinks
abbrev pub sunk : List ℕ → List ℕ → State
sunk w b = after_legs (net_in w) close_jumps (state_at b) (endings (net_in w) (state_at b).kinds)

-- the objects from o on are left to take from their sinks, and s jumps to add; then the state is that of all of them sunk
abbrev pub Sinking : List ℕ → List ℕ → Layout → ℕ → ℕ → List ℕ → Type 0
Sinking w b l o s v =
    LegsLeft (net_in w) (table_in b) l (8001025 + o) (closing_at l) close_jumps (state_at b).kinds (map (ending (net_in w) (state_at b).kinds) (upto (l.objects - o) o)) (sunk w b) s v

upto-first : (n o : ℕ) → o < n → upto (n - o) o ≡ o ∷ upto (n - (o + 1)) (o + 1)
upto-first n o h = let e : n - o ≡ suc (n - (o + 1)) = omega arith in ap (λ (j : ℕ). upto j o) e ∙ ap (λ (i : ℕ). o ∷ upto (n - (o + 1)) i) (sym (add-one o))

-- an object's sink is a known place
pub sink-of-in : (w b : List ℕ) (l : Layout) (R : Ready w b) (e : l ≡ layout_of (net_in w) b)
    → (o : ℕ) → o < l.objects → (net_in w).sink (get_or (state_at b).kinds o 0) < l.places
sink-of-in w b l R e o h = omega (arith, (ready-loaded w b R).sink-in (get_or (state_at b).kinds o 0) (kind-of-in w b l R e o h), (placed_at w b l R e).places-are)

module _ (w b : List ℕ) (l : Layout) (R : Ready w b) (e : l ≡ layout_of (net_in w) b) where
  pub sink-start : Sinking w b l 0 0 (words_of b)
  sink-start = let P = placed_at w b l R e in let z : length (state_at b).kinds ≡ l.objects - 0 = omega (arith, P.kinds-size) in record {
    state = state_at b;
    sum = sum-start _ _ _ _ _ _ _ (walk_start w b l R e) (omega arith) (omega (arith, P.pairs-at));
    same = refl;
    left = ap (λ (n : ℕ). after_legs (net_in w) close_jumps (state_at b) (map (ending (net_in w) (state_at b).kinds) (upto n 0))) (sym z);
  }

  module _ (o s : ℕ) (v : List ℕ) (T : Sinking w b l o s v) where
    -- the kind that is read, and its sink
    module _ (h : o < l.objects) where
      abbrev kind : ℕ
      kind = get_or v (kind_at (net_in w) l o) 0

      abbrev sink : ℕ
      sink = (net_in w).sink kind

      kind-is : kind ≡ get_or (state_at b).kinds o 0
      kind-is = register-kind _ _ _ _ _ _ _ _ T.sum _ T.same o h

      pub kind-known : kind < (net_in w).kinds
      kind-known = rw kind-is (kind-of-in w b l R e o h)

      pub sink-in : sink < l.places
      sink-in = omega (arith, (ready-loaded w b R).sink-in kind kind-known, (placed_at w b l R e).places-are)

      pub can-sink : CanMove l o sink v
      can-sink = can-move _ _ _ _ _ _ _ _ T.sum o sink h sink-in (omega (arith, T.sum.walk.placed.objects-few))

      pub sink-turn : Sinking w b l (o + 1) (s + jumps_to l o sink v) (go_words l o sink sink v)
      sink-turn =
          let N = net_in w in let t = table_in b in let ks = (state_at b).kinds in let rest = upto (l.objects - (o + 1)) (o + 1) in
          let own : (net_in w).sink (get_or (state_at b).kinds o 0) ≡ sink = ap (net_in w).sink (sym kind-is) in
          let inside : (net_in w).sink (get_or (state_at b).kinds o 0) < l.places = omega (arith, own, sink-in) in
          let first : LegsLeft N t l (8001025 + o) (closing_at l) close_jumps ks (map (ending N ks) (o ∷ rest)) (sunk w b) s v = subst (λ (os : List ℕ). LegsLeft N t l (8001025 + o) (closing_at l) close_jumps ks (map (ending N ks) os) (sunk w b) s v) (upto-first l.objects o h) T in
          subst (λ (q : ℕ). Sinking w b l (o + 1) (s + jumps_to l o q v) (go_words l o q q v)) own
          (legs-turn N t l (closing_at l) N.acts close_jumps (close-counter N t l) (8001025 + o) ks (sunk w b) s v (8001025 + (o + 1)) (ending N ks o) (map (ending N ks) rest) first refl h inside inside (omega arith))

    pub can-add-jumps : o ≤ l.objects → CanAdd (closing_at l) s v
    can-add-jumps h = can-add-sum _ _ _ _ _ _ _ _ T.sum (omega (arith, h, T.sum.walk.placed.objects-few))

    pub sink-end : l.objects ≤ o → raise v (closing_at l) s ≡ record_words (table_in b) (sunk w b)
    sink-end h = let z : l.objects - o ≡ 0 = omega arith in
        legs-end _ _ _ _ _ _ (close-counter (net_in w) (table_in b) l) (8001025 + o) (state_at b).kinds (sunk w b) s v (rw z at T)

  -- an open record: closed once its objects are on their sinks
  placed : Placed (net_in w) (table_in b) l (sunk w b)
  placed = let d = state_at b in let ls = endings (net_in w) d.kinds in
      placed_same (net_in w) (table_in b) l d (sunk w b) (placed_at w b l R e) refl (length-walked ls d.places) refl refl (length-tally (map (hop_index (net_in w)) (leaps_of d ls)) d.pairs)

  pub can-close : closed_at l < length (record_words (table_in b) (sunk w b))
  can-close = omega (arith, record-size (net_in w) (table_in b) l (sunk w b) placed, placed.pairs-at)

  pub closed-numbers : (state_at b).closed ≡ 0 → set (record_words (table_in b) (sunk w b)) (closed_at l) 1 ≡ record_words (table_in b) (after_close (net_in w) (state_at b))
  closed-numbers c = let d = state_at b in
      put-closed (net_in w) (table_in b) l (sunk w b) placed 1
      ∙ ap (λ (n : ℕ). record_words (table_in b) (with_closed (after_legs (net_in w) close_jumps (with_closing d n) (endings (net_in w) d.kinds)) 1)) ((ready-sound w b R).closing-open c)

  -- the flag that is read, and the answer by it
  pub flag-is : get_or (words_of b) (closed_at l) 0 ≡ (state_at b).closed
  flag-is = closed-read w b l R e

  pub close-refused : ((state_at b).closed ≡ 0 → ⊥) → 31 ≡ ask_code b ask_close
  close-refused n = rw (← code_is w b R ask_close, ne_eqb (state_at b).closed 0 n) refl

  pub close-accepted : (state_at b).closed ≡ 0 → 0 ≡ ask_code b ask_close
  close-accepted z = rw (← code_is w b R ask_close, eq-eqb (state_at b).closed 0 z) refl

  -- the closed record's bytes
  pub close-bytes : (c : List ℕ) → (state_at b).closed ≡ 0 → words_of c ≡ set (record_words (table_in b) (sunk w b)) (closed_at l) 1 → length c ≡ length b → ((i : ℕ) → get_or b i 0 < 256) → ((i : ℕ) → get_or c i 0 < 256)
      → c ≡ ask_bytes b ask_close
  close-bytes c z q n f g = bytes-taken w b R ask_close c (sym (close-accepted z)) (ready-bytes w b R c _ (q ∙ closed-numbers z) n f g)

-- The legs of an event or of the close, walked one after the other in a record's numbers: what is left to do. Assumes nothing.
use Prim.Native.Nat.{ℕ, ◌+◌, ◌≤◌, ◌<◌}
use mathlib.Core.Bool.{Bool, true, false, not}
use mathlib.Core.Path.{◌≡◌, refl, ap, ap₂, sym, ◌∙◌}
use mathlib.Core.List.{List, [], ◌∷◌, map}
use lib.ListN.{set}
use lib.Dec.{eqb}
use Rattle.words.specs.Lists.{pick, keep}
use Rattle.net.specs.Net.{Net}
use Rattle.replay.specs.Plain.{Leg, Hop, jumped, hops, walked}
use Rattle.replay.specs.State.{State, with_places, with_pairs, bump, tally, hop_index, after_legs}
use Rattle.replay.specs.Record.{record_words}
use Rattle.replay.specs.Claims.{judged}
use Rattle.replay_layout.specs.declared.Layout.{Layout}
use Rattle.replay_moves.specs.Moves.{raise, jumps_to, go_words}
use Rattle.replay_moves.proofs.Walk.{Summing, Counter, leg_state, leg-kinds, sum-turn}

-- the legs `ls` are left, and s jumps to add at number `at`; then the state is `goal`
pub record LegsLeft (N : Net) (table : List ℕ) (l : Layout) (b at : ℕ) (own : State → List Hop → State) (ks : List ℕ) (ls : List Leg) (goal : State) (s : ℕ) (w : List ℕ) : Type 0 where
  pub state : State
  pub sum : Summing N table l b at s state w
  pub same : state.kinds ≡ ks
  pub left : after_legs N own state ls ≡ goal

module _ (N : Net) (table : List ℕ) (l : Layout) (at a : ℕ) (own : State → List Hop → State) (C : Counter N table l at a own) where
  -- the first leg, and then the others
  leg-first : (d : State) (x : Leg) (ls : List Leg) → after_legs N own (leg_state N own d x) ls ≡ after_legs N own d (x ∷ ls)
  leg-first d x ls = go (eqb h.from h.to)
    where
      h : Hop
      h = judged d.places x

      jump : State
      jump = own (with_pairs d (bump d.pairs (hop_index N h))) (h ∷ [])

      rest : List ℕ → List Hop
      rest qs = keep jumped (hops (set qs x.obj x.out) ls)

      after : State → List ℕ → List ℕ → State
      after e qs js = own (with_pairs (with_places e (walked (set qs x.obj x.out) ls)) (tally js (map (hop_index N) (rest qs)))) (rest qs)

      both : Bool → List Hop
      both c = pick (not c) (h ∷ rest d.places) (rest d.places)

      go : (c : Bool) → after (pick c d jump) (pick c d jump).places (pick c d jump).pairs ≡ own (with_pairs (with_places d (walked (set d.places x.obj x.out) ls)) (tally d.pairs (map (hop_index N) (both c)))) (both c)
      go true = refl
      go false = ap₂ (after jump) (C.places _ h) (C.pairs _ h) ∙ C.next _ _ _ h (rest d.places)

  module _ (b : ℕ) (ks : List ℕ) (goal : State) (s : ℕ) (w : List ℕ) where
    pub legs-turn : (c : ℕ) (x : Leg) (ls : List Leg) → LegsLeft N table l b at own ks (x ∷ ls) goal s w → x.act ≡ a → x.obj < l.objects → x.inp < l.places → x.out < l.places → b + 1 ≤ c
        → LegsLeft N table l c at own ks ls goal (s + jumps_to l x.obj x.inp w) (go_words l x.obj x.inp x.out w)
    legs-turn c x ls T q known there left more = record {
      state = leg_state N own T.state x;
      sum = sum-turn N table l b c at a s own T.state w x T.sum C q known there left more;
      same = leg-kinds N table l at a own C T.state x ∙ T.same;
      left = leg-first T.state x ls ∙ T.left;
    }

    pub legs-end : LegsLeft N table l b at own ks [] goal s w → raise w at s ≡ record_words table goal
    legs-end T = T.sum.walk.words ∙ ap (record_words table) (sym (C.none T.state) ∙ T.left)

-- A record that a call can be put to: where a walk begins. Assumes nothing.
use Prim.Native.Nat.{ℕ, zero, suc, ◌+◌, ◌-◌, ◌<◌}
use mathlib.Core.Path.{◌≡◌}
use mathlib.Core.List.{List, [], ◌∷◌, ◌++◌}
use native.Mathlib.Omega.{arith}
use lib.ListN.{get_or}
use Rattle.words.specs.Lists.{All}
use Rattle.words.specs.Words.{words_of}
use Rattle.words.proofs.Lists.{All-append, All-of}
use Rattle.net.specs.Held.{net_in}
use Rattle.replay.specs.Record.{counts, record_words, table_in}
use Rattle.replay.specs.Calls.{state_at}
use Rattle.replay_layout.specs.Offsets.{layout_of}
use Rattle.replay.specs.Ready.{Ready}
use Rattle.replay_layout.specs.declared.Layout.{Layout}
use Rattle.replay.proofs.Interleave.{All-interleave}
use Rattle.replay.proofs.Encode.{fired-le, jumps-le, closing-few, pairs-le}
use Rattle.replay_layout.proofs.RecordLaws.{Placed, get-place, get-tail, ready-loaded, ready-sound, ready_words}
use Rattle.replay_moves.proofs.Layouts.{placed_at}
use Rattle.replay_moves.proofs.Walk.{Walk}

-- every number of a list is below b
all-below : (b : ℕ) (l : List ℕ) → 0 < b → All (λ (x : ℕ). x < b) l → (i : ℕ) → get_or l i 0 < b
all-below b [] z a i = z
all-below b (x ∷ l) z a zero = a.0
all-below b (x ∷ l) z a (suc i) = all-below b l z a.1 i

-- every count of a record is, and a walk begins there
module _ (w b : List ℕ) (l : Layout) (R : Ready w b) (e : l ≡ layout_of (net_in w) b) where
  tail-few : All (λ (x : ℕ). x < 8001025) (counts (state_at b) ++ (state_at b).pairs)
  tail-few =
      let N = net_in w in let d = state_at b in let S = ready-sound w b R in let L = ready-loaded w b R in
      All-append (λ (x : ℕ). x < 8001025) (counts d) d.pairs (
        omega (arith, S.flag),
        (
          omega (arith, S.events),
          (
            omega (arith, closing-few N L d S),
            All-interleave (λ (x : ℕ). x < 8001025) d.fired d.jumps
                (All-of (λ (x : ℕ). x < 8001025) 0 d.fired (λ a h. omega (arith, fired-le N L d S a (omega (arith, S.fired-size)))))
                (All-of (λ (x : ℕ). x < 8001025) 0 d.jumps (λ a h. omega (arith, jumps-le N L d S a (omega (arith, S.jumps-size))))),
          ),
        ),
      )
      (All-of (λ (x : ℕ). x < 8001025) 0 d.pairs (λ i h. omega (arith, pairs-le N L d S i (omega (arith, S.pairs-size)))))

  pub walk_start : Walk (net_in w) (table_in b) l 8001025 (state_at b) (words_of b)
  walk_start = record {
    words = ready_words w b R;
    placed = P;
    inside = λ o h. rw (ready_words w b R, get-place (net_in w) (table_in b) l (state_at b) P o h) (omega (arith, ((ready-sound w b R).on.at o (omega (arith, P.kinds-size))).0, P.places-are));
    room = λ j h. rw (ready_words w b R) (far j (j - l.counts) (omega arith));
  }
    where
      P : Placed (net_in w) (table_in b) l (state_at b)
      P = placed_at w b l R e

      far : (j i : ℕ) → j ≡ l.counts + i → get_or (record_words (table_in b) (state_at b)) j 0 < 8001025
      far j i q = rw (q, get-tail (net_in w) (table_in b) l (state_at b) P i) (all-below 8001025 (counts (state_at b) ++ (state_at b).pairs) (omega arith) tail-few i)

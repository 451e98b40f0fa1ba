-- The layout that a record's contents give: how many numbers there are, and what some of them are. Assumes nothing.
use Prim.Native.Nat.{ℕ, ◌+◌, ◌*◌, ◌≤◌, ◌<◌}
use mathlib.Core.Path.{◌≡◌, ap, sym, ◌∙◌, subst}
use mathlib.Core.List.{List}
use native.Mathlib.Omega.{arith}
use lib.ListN.{length, get_or}
use Rattle.words.specs.Words.{words_of}
use Rattle.words.proofs.Lists.{All-at}
use Rattle.net.specs.Held.{net_in}
use Rattle.replay.specs.Record.{counts_size, table_in}
use Rattle.replay.specs.Calls.{state_at}
use Rattle.replay_layout.specs.Offsets.{layout_of, closed_at}
use Rattle.replay.specs.Ready.{Ready}
use Rattle.replay_layout.specs.declared.Layout.{Layout}
use Rattle.replay_layout.proofs.RecordLaws.{Placed, record-size, record-few, get-closed, ready-sound, ready_words, ready-placed}
use Rattle.replay.specs.Limits.{max_words}

module _ (w b : List ℕ) (l : Layout) (R : Ready w b) (e : l ≡ layout_of (net_in w) b) where
  pub placed_at : Placed (net_in w) (table_in b) l (state_at b)
  placed_at = subst (λ (l : Layout). Placed (net_in w) (table_in b) l (state_at b)) (sym e) (ready-placed w b R)

  pub words_size : length (words_of b) ≡ l.pairs + l.places * l.places
  words_size = ap length (ready_words w b R) ∙ record-size (net_in w) (table_in b) l (state_at b) placed_at

  pub words-few : length (words_of b) ≤ max_words
  words-few = rw (ready_words w b R) (record-few (net_in w) (table_in b) l (state_at b) placed_at)

  pub counts-few : l.counts + counts_size (net_in w) ≤ max_words
  counts-few = omega (arith, words_size, words-few, placed_at.pairs-at)

  pub closed_in : closed_at l < length (words_of b)
  closed_in = omega (arith, words_size, placed_at.pairs-at)

  pub closed-read : get_or (words_of b) (closed_at l) 0 ≡ (state_at b).closed
  closed-read = ap (λ (v : List ℕ). get_or v (closed_at l) 0) (ready_words w b R) ∙ get-closed (net_in w) (table_in b) l (state_at b) placed_at

  -- an object's kind
  pub kind-of-in : (o : ℕ) → o < l.objects → get_or (state_at b).kinds o 0 < (net_in w).kinds
  kind-of-in o h = All-at (λ (k : ℕ). k < (net_in w).kinds) 0 (state_at b).kinds (ready-sound w b R).kinds o (omega (arith, placed_at.kinds-size))

-- Object lists in bytes do what document 01 asks. Assumes nothing.
use Prim.Native.Nat.{ℕ, ◌%◌, ◌≤◌, ◌<◌}
use mathlib.Core.Bool.{Bool, true, false, not}
use mathlib.Core.Path.{◌≡◌, ap, sym, ◌∙◌}
use mathlib.Core.List.{List}
use native.Mathlib.Omega.{arith}
use native.Mathlib.Decide.{ℕ_discrete, dec_le}
use lib.ListN.{length}
use lib.Dec.{eqb, leb}
use borrow.Author.Tests.{eq-eqb, ne_eqb, le-leb, lt-leb}
use Rattle.words.specs.Lists.{pick}
use Rattle.words.specs.Refusals.{first}
use Rattle.words.specs.Words.{words_of}
use Rattle.words.proofs.Words.{length-words}
use Rattle.net.specs.Net.{Loaded}
use Rattle.net.proofs.Promise.{promise}
use Rattle.replay.specs.Record.{table_in}
use Rattle.replay.specs.Plain.{Ask, ask_event}
use Rattle.replay.specs.Calls.{net_at, state_at, ask_code, ask_bytes}
use Rattle.checkpoint.specs.Restore.{restore_code}
use Rattle.checkpoint.proofs.Restored.{restored-loads}
use Rattle.client_answers.specs.Answers.{packed}
use Rattle.client_check.specs.OnTrail.{on_trail}
use Rattle.client_check.specs.Objects.{objects_in}
use Rattle.client_calls.specs.Client.{ask_answer, ask_leaves}
use Rattle.client_calls.specs.Objects.{uneven_tests, ObjectsRule}
use Rattle.client_check.proofs.ObjectLaws.{rows_in, no_rows, many-rows}

-- an activity has at most eight arcs, so that over eight objects give the first of 21 to 24
module _ (b : List ℕ) (z : restore_code b ≡ 0) (a : ℕ) (xs : List ℕ) (many : 8 < length xs) where
  loaded : Loaded (net_at b)
  unfolding net_at
  loaded = promise (table_in b) (restored-loads b z)

  many-code : ask_code b (ask_event a xs) ≡ first (uneven_tests b a)
  unfolding ask_code
  many-code = ap (λ (r : ℕ). pick (not (eqb (state_at b).closed 0)) 21 (pick (leb 1000000 (state_at b).events) 22 r)) (go _ (dec_le (net_at b).acts a))
    where
      go : (r : ℕ) → Dec ((net_at b).acts ≤ a) → ◌≡◌ {A = ℕ} (pick (leb (net_at b).acts a) 23 (pick (not (eqb (length xs) (length ((net_at b).arcs a)))) 24 r)) (pick (leb (net_at b).acts a) 23 24)
      go r (yes h) = rw (le-leb (net_at b).acts a h)
      go r (no h) = rw (lt-leb (net_at b).acts a (omega arith), ne_eqb (length xs) (length ((net_at b).arcs a)) (λ e. omega (arith, loaded.arcs-le a (omega arith))))

  some : (t u v : Bool) → ◌≡◌ {A = ℕ} (pick t 21 (pick u 22 (pick v 23 24))) 0 → ⊥
  some true u v e = omega arith
  some false true v e = omega arith
  some false false true e = omega arith
  some false false false e = omega arith

  many-bytes : ask_bytes b (ask_event a xs) ≡ b
  unfolding ask_bytes
  many-bytes = rw (ne_eqb (ask_code b (ask_event a xs)) 0 (λ e. some (not (eqb (state_at b).closed 0)) (leb 1000000 (state_at b).events) (leb (net_at b).acts a) (sym many-code ∙ e)))

-- what a call on a trail answers and leaves, by what it does on one that is taken
module _ (b : List ℕ) (q : Ask) where
  answer-by : (n : ℕ) → (restore_code b ≡ 0 → ask_code b q ≡ n) → ask_answer b q ≡ on_trail b (packed n 0)
  unfolding ask_answer
  answer-by n h = go (ℕ_discrete (restore_code b) 0)
    where
      go : Dec (restore_code b ≡ 0) → on_trail b (packed (ask_code b q) 0) ≡ on_trail b (packed n 0)
      go (yes z) = ap (λ (k : ℕ). on_trail b (packed k 0)) (h z)
      go (no m) = rw (ne_eqb (restore_code b) 0 m)

  bytes-by : (restore_code b ≡ 0 → ask_bytes b q ≡ b) → ask_leaves b q ≡ b
  unfolding ask_leaves
  bytes-by h = go (ℕ_discrete (restore_code b) 0)
    where
      go : Dec (restore_code b ≡ 0) → pick (eqb (restore_code b) 0) (ask_bytes b q) b ≡ b
      go (yes z) = rw (eq-eqb (restore_code b) 0 z) (h z)
      go (no m) = rw (ne_eqb (restore_code b) 0 m)

module _ (b : List ℕ) (a : ℕ) where
  -- any list of over eight objects
  over-answer : (xs : List ℕ) → 8 < length xs → ask_answer b (ask_event a xs) ≡ on_trail b (packed (first (uneven_tests b a)) 0)
  over-answer xs h = answer-by b (ask_event a xs) (first (uneven_tests b a)) (λ z. many-code b z a xs h)

  over-bytes : (xs : List ℕ) → 8 < length xs → ask_leaves b (ask_event a xs) ≡ b
  over-bytes xs h = bytes-by b (ask_event a xs) (λ z. many-bytes b z a xs h)

  pub objects-rule : (s : List ℕ) → ObjectsRule b a s
  objects-rule s = record {
    whole-answer = λ e. answer e (dec_le (length s) 32);
    whole-bytes = λ e. bytes e (dec_le (length s) 32);
    uneven-answer = λ n. rw (no_rows s n) (over-answer _ (omega arith));
    uneven-bytes = λ n. rw (no_rows s n) (over-bytes _ (omega arith));
  }
    where
      answer : length s % 4 ≡ 0 → Dec (length s ≤ 32) → ask_answer b (ask_event a (objects_in s)) ≡ ask_answer b (ask_event a (words_of s))
      answer e (yes h) = rw (rows_in s e h)
      answer e (no h) = rw (many-rows s e (omega arith)) (over-answer _ (omega arith) ∙ sym (over-answer (words_of s) (omega (arith, length-words s))))

      bytes : length s % 4 ≡ 0 → Dec (length s ≤ 32) → ask_leaves b (ask_event a (objects_in s)) ≡ ask_leaves b (ask_event a (words_of s))
      bytes e (yes h) = rw (rows_in s e h)
      bytes e (no h) = rw (many-rows s e (omega arith)) (over-bytes _ (omega arith) ∙ sym (over-bytes (words_of s) (omega (arith, length-words s))))

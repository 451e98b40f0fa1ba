-- What a call on a lent trail answers and leaves, by what came of the trail's check: behind a refusal nothing else counts.
-- Assumes nothing.
use Prim.Native.Nat.{ℕ, ◌≤◌, ◌<◌}
use mathlib.Core.Bool.{Bool}
use mathlib.Core.Path.{◌≡◌, ap, sym, ◌∙◌}
use mathlib.Core.List.{List}
use native.Mathlib.Omega.{arith}
use lib.ListN.{length, get_or}
use borrow.Author.Tests.{eq-eqb, ne_eqb}
use Rattle.words.specs.Lists.{pick}
use Rattle.net.proofs.Promise.{table-size}
use Rattle.replay.specs.Record.{table_in}
use Rattle.replay.specs.Ready.{Ready}
use Rattle.checkpoint.specs.Restore.{restore_code, restore_second}
use Rattle.checkpoint.specs.Take.{Opened}
use Rattle.checkpoint.proofs.Restored.{restore-intact, restored-le}
use Rattle.client_answers.specs.Answers.{packed}
use Rattle.client_check.specs.OnTrail.{on_trail, left_by}
use Rattle.client_check.specs.Checked.{Checked}
use Rattle.replay.specs.Limits.{max_record}

-- a trail that is taken has no second number
pub no_second : (b : List ℕ) → restore_code b ≡ 0 → restore_second b ≡ 0
unfolding restore_second
no_second b z = rw z

-- the check's two numbers in one, and the words that hold the net of a trail that is taken
pub checked_by : (b w : List ℕ) (r : ℕ) → r ≡ packed (restore_code b) (restore_second b) → (restore_code b ≡ 0 → Opened b w) → ((i : ℕ) → get_or b i 0 < 256) → Checked b w r
checked_by b w r e o small = record { answer = e; ready = λ z. ready (omega arith) }
  where
    ready : restore_code b ≡ 0 → Ready w b
    ready z = let O = o z in record { held = O.held; net = O.net; intact = (restore-intact b small z).1; whole = (table-size (table_in b) O.loads).2 }

module _ (b w : List ℕ) (r : ℕ) (C : Checked b w r) where
  -- the trail is refused
  module _ (n : r ≡ 0 → ⊥) where
    refused : restore_code b ≡ 0 → ⊥
    refused z = n (omega (arith, C.answer, no_second b z))

    pub stop-answer : (own : ℕ) → r ≡ on_trail b own
    stop-answer own = C.answer ∙ sym (ap (λ (t : Bool). pick t own (packed (restore_code b) (restore_second b))) (ne_eqb (restore_code b) 0 refused))

    pub stop-bytes : (own lent : List ℕ) → lent ≡ left_by b own lent
    stop-bytes own lent = sym (ap (λ (t : Bool). pick t own lent) (ne_eqb (restore_code b) 0 refused))

  -- the trail is taken
  module _ (z : r ≡ 0) where
    taken : restore_code b ≡ 0
    taken = omega (arith, C.answer)

    pub few : length b ≤ max_record
    few = restored-le b taken

    pub go-answer : (own : ℕ) → own ≡ on_trail b own
    go-answer own = sym (ap (λ (t : Bool). pick t own (packed (restore_code b) (restore_second b))) (eq-eqb (restore_code b) 0 taken))

    pub go-bytes : (own lent : List ℕ) → own ≡ left_by b own lent
    go-bytes own lent = sym (ap (λ (t : Bool). pick t own lent) (eq-eqb (restore_code b) 0 taken))

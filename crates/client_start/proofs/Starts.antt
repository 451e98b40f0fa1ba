-- The answer of starting, by the tests passed on the way. Assumes nothing.
use Prim.Native.Nat.{ℕ, ◌%◌, ◌≤◌}
use mathlib.Core.Path.{◌≡◌, refl, ap, sym, ◌∙◌}
use mathlib.Core.Bool.{true, false, not}
use mathlib.Core.List.{List}
use native.Mathlib.Omega.{arith}
use lib.ListN.{length}
use borrow.Author.Tests.{eq-eqb, ne_eqb}
use Rattle.std.specs.Prelude.{Result, Ok, Err, IsErrAnd}
use Rattle.std.specs.Result.{result_unwrap_or}
use Rattle.words.specs.Refusals.{answer_code}
use Rattle.words.proofs.Lists.{is_eq}
use Rattle.net.specs.Table.{net_of, load_code}
use Rattle.net.specs.Held.{net_in, Tabled}
use Rattle.replay.specs.Plain.{register_code}
use Rattle.replay.specs.Register.{kinds_in, whole_rows}
use Rattle.replay.specs.Calls.{start_code, start_bytes}
use Rattle.replay_layout.specs.Fresh.{Registered, fresh_bytes}
use Rattle.replay_start.specs.Startable.{Startable}
use Rattle.replay_start.specs.StartAnswers.{start_error_code}
use Rattle.replay_start.specs.declared.StartError.{StartError}
use Rattle.replay_start.specs.contracts.StartErrorRefusal.TheImpl.Laws.{not_zero-law}
use Rattle.replay_start.proofs.StartLaws.{table-few, register-rows, record-size}
use Rattle.client_answers.specs.Answers.{packed}
use Rattle.client_calls.proofs.Numbers.{registers, start-le}
use Rattle.client_calls.specs.Client.{begin_code, start_answer, start_leaves}
use Rattle.net.specs.Limits.{max_table}
use Rattle.replay.specs.Limits.{max_record}

module _ (table objects lent : List ℕ) where
  -- a refusal before the register is looked at
  stopped : (c : ℕ) → c ≡ begin_code table objects (length lent) → (c ≡ 0 → ⊥) → (n : ℕ) → n ≡ packed c 0
      → (n ≡ start_answer table objects (length lent)) × (lent ≡ start_leaves table objects lent)
  unfolding start_answer start_leaves
  stopped c e p n f = let t = ne_eqb (begin_code table objects (length lent)) 0 (λ z. p (e ∙ z)) in (rw t (omega arith), rw t)

  pub table-stops : (load_code table ≡ 0 → ⊥) → (c n : ℕ) → c ≡ load_code table → n ≡ packed c 0
      → (n ≡ start_answer table objects (length lent)) × (lent ≡ start_leaves table objects lent)
  unfolding begin_code
  table-stops p c n e f = stopped c (rw (ne_eqb (load_code table) 0 p) e) (λ z. p (sym e ∙ z)) n f

  pub rows-stop : load_code table ≡ 0 → whole_rows (net_of table) objects ≡ false → (11 ≡ start_answer table objects (length lent)) × (lent ≡ start_leaves table objects lent)
  unfolding begin_code
  rows-stop z p = stopped 11 (rw (eq-eqb (load_code table) 0 z, p)) (λ e. omega arith) 11 (omega arith)

  pub startable : (t : List ℕ) → Tabled t table → whole_rows (net_in t) objects ≡ true → Startable t table objects
  startable t T w = record { tabled = T; whole = is_eq _ 0 (ap not w) }

  -- a register of whole rows
  module _ (t : List ℕ) (S : Startable t table objects) where
    begun : begin_code table objects (length lent) ≡ start_code table (kinds_in (net_of table) objects) (length lent)
    unfolding begin_code
    begun = rw (eq-eqb (load_code table) 0 S.tabled.taken, eq-eqb (length objects % 4) 0 S.whole)

    pub left_as : start_bytes table (kinds_in (net_of table) objects) lent ≡ start_leaves table objects lent
    unfolding start_bytes start_leaves
    left_as = rw begun

    -- the refusal e is passed on as r
    pub start-refused : (r : Result ℕ StartError) (e : StartError) → IsErrAnd r (λ y. y ≡ e)
        → start_error_code e ≡ start_code table (kinds_in (net_of table) objects) (length lent)
        → packed (answer_code start_error_code r) (result_unwrap_or r 0) ≡ start_answer table objects (length lent)
    start-refused (Ok m) e p q = absurd p
    start-refused (Err y) e p q = (stopped _ (ap start_error_code p ∙ q ∙ sym begun) (not_zero-law y) _ refl).0

    module _ (z : start_code table (kinds_in (net_of table) objects) (length lent) ≡ 0) where
      taken : register_code (net_of table) (kinds_in (net_of table) objects) ≡ 0
      taken = registers table (kinds_in (net_of table) objects) (length lent) z

      pub sizes : (length table ≤ max_table) × Registered (net_in t) objects
      sizes = (table-few t table objects S taken, register-rows t table objects S taken)

      module _ (m : ℕ) (e : m ≡ fresh_bytes (net_in t) (length table) objects) where
        pub size-le : m ≤ max_record
        size-le = omega (arith, record-size t table objects S taken, start-le table (kinds_in (net_of table) objects) S.tabled.taken taken)

        pub start-taken : packed 0 m ≡ start_answer table objects (length lent)
        unfolding start_answer
        start-taken = rw (begun, z) (omega (arith, record-size t table objects S taken))

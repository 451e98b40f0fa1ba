-- The record of a table that loads and of a sound state, as a trail: what it holds, and what an event or a close leaves of it.
-- Assumes nothing.
use Prim.Native.Nat.{ℕ}
use mathlib.Core.Path.{◌≡◌, refl, ap, sym, subst, ◌∙◌}
use mathlib.Core.List.{List, [], ◌∷◌, ◌++◌}
use borrow.Author.Tests.{eq-eqb}
use Rattle.net.specs.Net.{Net, Loaded}
use Rattle.net.specs.Table.{net_of, load_code}
use Rattle.net.proofs.Promise.{promise, table-size}
use Rattle.replay.specs.Plain.{Plain, Ask, answer, accept, ask, run}
use Rattle.replay.specs.State.{State, state_of}
use Rattle.replay.specs.Sound.{Sound}
use Rattle.replay.specs.Record.{encode, table_in, state_in, Intact}
use Rattle.replay.specs.Calls.{net_at, state_at, ask_code, ask_bytes}
use Rattle.replay.proofs.Calls.{ask-encode}
use Rattle.replay.proofs.Encode.{table-encode, state-encode, intact-encode}
use Rattle.replay.proofs.Keep.{sound-ask}
use Rattle.replay.proofs.Simulate.{answer-sim, ask-sim}

-- a plain run over two lists, and an event or a close that it accepts
pub run-append : (N : Net) (xs ys : List Ask) (p : Plain) → run N p (xs ++ ys) ≡ run N (run N p xs) ys
run-append N [] ys p = refl
run-append N (q ∷ xs) ys p = run-append N xs ys (ask N p q)

pub next-is : (N : Net) (p : Plain) (q : Ask) → answer N p q ≡ 0 → ask N p q ≡ accept p q
next-is N p q z = rw (eq-eqb (answer N p q) 0 z)

module _ (table : List ℕ) (good : load_code table ≡ 0) where
  abbrev N : Net
  N = net_of table

  L : Loaded N
  L = promise table good

  module _ (d : State) (S : Sound N d) where
    pub table_at : table_in (encode table d) ≡ table
    table_at = table-encode N L table d S (table-size table good).1

    pub net-at : net_at (encode table d) ≡ N
    unfolding net_at
    net-at = ap net_of table_at

    pub state-at : state_at (encode table d) ≡ d
    unfolding state_at
    state-at = ap (λ (n : Net). state_in n (encode table d)) net-at ∙ state-encode N L table d S (table-size table good).1

    pub intact-at : Intact (net_at (encode table d)) (encode table d)
    intact-at = subst (λ (n : Net). Intact n (encode table d)) (sym net-at) (intact-encode N L table d S (table-size table good).1)

  -- the same of what a plain run stores
  module _ (p : Plain) (S : Sound N (state_of N p)) (q : Ask) where
    pub code_at : ask_code (encode table (state_of N p)) q ≡ answer N p q
    unfolding ask_code
    code_at = cc (net-at (state_of N p) S, state-at (state_of N p) S) ∙ answer-sim N p q

    pub step-at : ask_bytes (encode table (state_of N p)) q ≡ encode table (state_of N (ask N p q))
    step-at = ask-encode (encode table (state_of N p)) (intact-at (state_of N p) S) q ∙ cc (table_at (state_of N p) S, net-at (state_of N p) S, state-at (state_of N p) S, ask-sim N p q)

    pub sound-at : Sound N (state_of N (ask N p q))
    sound-at = subst (Sound N) (ask-sim N p q) (sound-ask N L (state_of N p) S q)

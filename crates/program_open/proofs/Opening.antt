-- From the table file and the head of a trail file to a trail that is followed. Assumes nothing.
use Prim.Native.Nat.{ℕ, ◌%◌, ◌≤◌, ◌<◌}
use mathlib.Core.Path.{◌≡◌, ap, sym, subst, ◌∙◌}
use mathlib.Core.List.{List}
use native.Mathlib.Omega.{arith}
use lib.ListN.{length, take}
use Rattle.net.specs.Net.{Net}
use Rattle.net.specs.Table.{net_of}
use Rattle.net.specs.Held.{net_in, Tabled}
use Rattle.replay.specs.Plain.{register_code}
use Rattle.replay.specs.State.{State}
use Rattle.replay.specs.Calls.{start_record, start_bytes}
use Rattle.replay_start.specs.Startable.{Startable}
use Rattle.replay_start.proofs.Begun.{ready-start, state-start, start-front, start_fits}
use Rattle.replay_start.proofs.StartLaws.{record-size, taken}
use Rattle.replay_layout.specs.Fresh.{fresh_bytes}
use Rattle.std.specs.Prelude.{Option, None, Result, Err}
use Rattle.std.specs.Option.{ok_or}
use Rattle.trace_header.specs.declared.Bodies.{Bodies}
use Rattle.trace_header.specs.Opening.{contents_of, open_code}
use Rattle.trace_header.proofs.OpenLaws.{not-refused, open_long, whole-rows}
use Rattle.program_text.proofs.Texts.{contents-refused, register-refused, register-taken}
use Rattle.program_step.specs.Follows.{Follows}
use Rattle.replay.specs.Limits.{max_record}
use Rattle.replay.specs.Register.{row_bytes, max_register, kinds_in}

-- what the contents say, by the table's net
pub contents-of : (t table head : List ℕ) → Tabled t table → (v : Option Bodies) → v ≡ contents_of (net_in t) head → contents_of (net_of table) head ≡ v
contents-of t table head T v e = ap (λ (N : Net). contents_of N head) (sym T.net) ∙ sym e

-- what `ok_or` refuses with
pub refused-with : {E : Type 0} (o : Option Bodies) (e u : E) → o ≡ None → ◌≡◌ {A = Result Bodies E} (Err e) (ok_or o u) → e ≡ u
refused-with o e u n h = cc

-- a register that is not refused, of which so many bytes are claimed as are there
module _ (t table register : List ℕ) (claimed : ℕ) (T : Tabled t table) (rows : claimed % row_bytes (net_of table) ≡ 0) (few : length register ≤ claimed) (z : 0 ≡ open_code (net_in t) claimed (length register) (kinds_in (net_in t) register)) where
  there : (claimed ≤ length register) × (register_code (net_in t) (kinds_in (net_in t) register) ≡ 0)
  there = not-refused (net_in t) claimed (length register) (kinds_in (net_in t) register) (sym z)

  -- a trail starts with it
  pub startable : Startable t table register
  startable = record { tabled = T; whole = omega (arith, there.0) }

  pub registered : register_code (net_of table) (kinds_in (net_of table) register) ≡ 0
  registered = ap (λ (N : Net). register_code N (kinds_in N register)) (sym T.net) ∙ there.1

-- a trail that is started is followed from its first event on
module _ (t table register : List ℕ) (S : Startable t table register) (ok : register_code (net_of table) (kinds_in (net_of table) register) ≡ 0) where
  begun : Follows t (start_record table (kinds_in (net_of table) register)) register 0
  begun =
      let e = state-start t table register S ok in
      record {
        ready = ready-start t table register S ok;
        kinds = ap (λ (d : State). d.kinds) e;
        still_open = ap (λ (d : State). d.closed) e;
        events = ap (λ (d : State). d.events) e;
      }

  module _ (n : ℕ) (size : n ≡ fresh_bytes (net_in t) (length table) register) where
    is-size : n ≡ length (start_record table (kinds_in (net_of table) register))
    is-size = size ∙ sym (record-size t table register S ok)

    pub size-fits : n ≤ max_record
    size-fits = omega (arith, is-size, start_fits t table register S ok)

  -- starting cannot be refused, and leaves the record in front of the lent bytes
  pub started : (lent b : List ℕ) (n : ℕ) → max_record ≤ length lent → b ≡ start_bytes table (kinds_in (net_of table) register) lent → n ≡ fresh_bytes (net_in t) (length table) register
      → take n b ≡ start_record table (kinds_in (net_of table) register)
  started lent b n h e m =
      let z = (taken table register lent ok (omega (arith, start_fits t table register S ok))).0 in
      rw (is-size n m, e) (start-front table (kinds_in (net_of table) register) lent (sym z))

  pub started-follows : (b : List ℕ) → b ≡ start_record table (kinds_in (net_of table) register) → Follows t b register 0
  started-follows b e = subst (λ (x : List ℕ). Follows t x register 0) (sym e) begun

-- an opening that is refused, by the table's net
pub refused-code : (t table register : List ℕ) (claimed there c : ℕ) → Tabled t table → c ≡ open_code (net_in t) claimed there (kinds_in (net_in t) register) → c ≡ open_code (net_of table) claimed there (kinds_in (net_of table) register)
refused-code t table register claimed there c T e = e ∙ ap (λ (N : Net). open_code N claimed there (kinds_in N register)) T.net

-- a register longer than the longest that is taken is refused
pub too-long : (N : Net) (claimed there : ℕ) (ks : List ℕ) → max_register N < claimed → open_code N claimed there ks ≡ 0 → ⊥
too-long N claimed there ks h z = let e = open_long N claimed there ks (not-refused N claimed there ks z).0 h in omega arith

-- by the first bytes of a trail file, its contents are broken, or claim whole rows
pub ruleset heads = (contents-refused, whole-rows)

-- a register is refused, or is wholly there and starts a trail
pub ruleset registers = (register-refused, startable, registered, register-taken)

-- An event or a close put to a trail: its answer, the bytes that it leaves, and that calls can be put to these. Assumes nothing.
use Prim.Native.Nat.{ℕ, ◌%◌}
use mathlib.Core.Bool.{Bool, true, false}
use mathlib.Core.Path.{◌≡◌, refl, ap, sym, subst, ◌∙◌}
use mathlib.Core.List.{List}
use lib.ListN.{length}
use lib.Dec.{eqb}
use borrow.Author.Tests.{eq-eqb, ne_eqb}
use Rattle.words.specs.Lists.{pick}
use Rattle.net.specs.Net.{Net, Loaded}
use Rattle.net.specs.Table.{net_of}
use Rattle.net.specs.Held.{net_in}
use Rattle.net.proofs.HeldLaws.{held-loaded}
use Rattle.replay.specs.Plain.{Ask}
use Rattle.replay.specs.State.{State, answer_s, accept_s, ask_s}
use Rattle.replay.specs.Sound.{Sound}
use Rattle.replay.specs.Record.{encode, table_in, state_in, Intact}
use Rattle.replay.specs.Calls.{net_at, state_at, ask_code, ask_bytes}
use Rattle.replay.specs.Ready.{Ready}
use Rattle.replay.proofs.Keep.{sound-ask}
use Rattle.replay.proofs.Encode.{table-encode, state-encode, intact-encode}

-- an event or a close on an intact trail, accepted or refused, leaves the record of the same table and of the state after it
pub ask-encode : (b : List ℕ) → Intact (net_at b) b → (q : Ask) → ask_bytes b q ≡ encode (table_in b) (ask_s (net_at b) (state_at b) q)
unfolding ask_bytes ask_code state_at
ask-encode b I q = go (eqb (answer_s (net_at b) (state_at b) q) 0)
  where
    go : (t : Bool) → pick t (encode (table_in b) (accept_s (net_at b) (state_at b) q)) b ≡ encode (table_in b) (pick t (accept_s (net_at b) (state_at b) q) (state_at b))
    go true = refl
    go false = I.bytes

module _ (w b : List ℕ) (R : Ready w b) (q : Ask) where
  -- the answer, and the bytes
  pub code_is : answer_s (net_in w) (state_at b) q ≡ ask_code b q
  unfolding ask_code
  code_is = ap (λ (N : Net). answer_s N (state_at b) q) R.net

  pub bytes-taken : (s : List ℕ) → ask_code b q ≡ 0 → s ≡ encode (table_in b) (accept_s (net_in w) (state_at b) q) → s ≡ ask_bytes b q
  unfolding ask_bytes
  bytes-taken s z e = e ∙ ap (λ (N : Net). encode (table_in b) (accept_s N (state_at b) q)) R.net ∙ rw (eq-eqb (ask_code b q) 0 z)

  pub bytes-refused : (ask_code b q ≡ 0 → ⊥) → b ≡ ask_bytes b q
  unfolding ask_bytes
  bytes-refused n = rw (ne_eqb (ask_code b q) 0 n)

  loaded : Loaded (net_at b)
  loaded = subst Loaded R.net (held-loaded w R.held)

  -- the state after the call, and its record
  abbrev next : State
  next = ask_s (net_at b) (state_at b) q

  sound : Sound (net_at b) next
  unfolding state_at
  sound = sound-ask (net_at b) loaded (state_at b) R.intact.sound q

  table_is : table_in (ask_bytes b q) ≡ table_in b
  table_is = ap table_in (ask-encode b R.intact q) ∙ table-encode (net_at b) loaded (table_in b) next sound R.intact.table-size

  net-is : net_at (ask_bytes b q) ≡ net_at b
  unfolding net_at
  net-is = ap net_of table_is

  pub ready-asked : Ready w (ask_bytes b q)
  ready-asked = record {
    held = R.held;
    net = R.net ∙ sym net-is;
    intact = subst (λ (N : Net). Intact N (ask_bytes b q)) (sym net-is)
        (subst (Intact (net_at b)) (sym (ask-encode b R.intact q)) (intact-encode (net_at b) loaded (table_in b) next sound R.intact.table-size));
    whole = ap (λ (l : List ℕ). length l % 4) table_is ∙ R.whole;
  }

  pub state-asked : state_at (ask_bytes b q) ≡ ask_s (net_in w) (state_at b) q
  unfolding state_at
  state-asked =
      ap (λ (N : Net). state_in N (ask_bytes b q)) net-is
      ∙ ap (state_in (net_at b)) (ask-encode b R.intact q)
      ∙ state-encode (net_at b) loaded (table_in b) next sound R.intact.table-size
      ∙ ap (λ (N : Net). ask_s N (state_at b) q) (sym R.net)

  -- the state after a call that is not refused
  pub state-taken : ask_code b q ≡ 0 → state_at (ask_bytes b q) ≡ accept_s (net_in w) (state_at b) q
  unfolding ask_code
  state-taken z = state-asked ∙ rw (eq-eqb (answer_s (net_in w) (state_at b) q) 0 (ap (λ (N : Net). answer_s N (state_at b) q) R.net ∙ z))

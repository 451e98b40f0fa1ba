-- What comes of a file's events does not go by the bytes before them. Assumes nothing.
use Prim.Native.Nat.{ℕ, zero, suc, ◌+◌, ◌*◌}
use mathlib.Core.Path.{◌≡◌, refl, ap, sym, ◌∙◌}
use mathlib.Core.List.{List}
use native.Mathlib.Nat.{add-zero}
use native.Mathlib.Omega.{arith}
use lib.ListN.{length, take, drop}
use lib.Seq.{drop-drop}
use Rattle.std.specs.Prelude.{Some, None, Ok, Err}
use Rattle.net.specs.Net.{Net, Loaded}
use Rattle.replay.specs.Plain.{event}
use Rattle.replay.specs.Calls.{ask_bytes}
use Rattle.trace_reader.specs.Answers.{EventRead, Answer}
use Rattle.trace_reader.specs.Trace.{read_from}
use Rattle.trace_reader.proofs.WindowLaws.{window-enough}
use Rattle.trace_reader.specs.Followed.{Followed, by_found, followed, final}

module _ (N : Net) (L : Loaded N) (ks f : List ℕ) (body i : ℕ) where
  read_behind : (n from at : ℕ) → read_from N ks n f (i + from) body at ≡ read_from N ks n (drop i f) from body at
  read_behind n from at =
      sym (window-enough N L ks n (drop (i + from) f) f (i + from) refl body at)
      ∙ window-enough N L ks n (drop (i + from) f) (drop i f) from (ap (take 40) (sym (drop-drop from i f))) body at

  followed-behind : (k : ℕ) (trail : List ℕ) (from at n : ℕ) → followed N ks f body k trail (i + from) at n ≡ followed N ks (drop i f) body k trail from at n
  unfolding followed
  followed-behind zero trail from at n = refl
  followed-behind (suc k) trail from at n = go (followed-behind k) (read_from N ks n f (i + from) body at) ∙ ap there (read_behind n from at)
    where
      there : Answer → Followed
      there a = by_found a (λ (r : EventRead). followed N ks (drop i f) body k (ask_bytes trail (event r.event)) (from + 8 + 4 * length r.event.objs) r.next (n + 1)) (λ (c : ℕ). record { trail = trail; accepted = n; code = c })

      go : ((trail : List ℕ) (from at n : ℕ) → followed N ks f body k trail (i + from) at n ≡ followed N ks (drop i f) body k trail from at n) → (a : Answer)
          → by_found {A = Followed} a (λ (r : EventRead). followed N ks f body k (ask_bytes trail (event r.event)) (i + from + 8 + 4 * length r.event.objs) r.next (n + 1)) (λ (c : ℕ). record { trail = trail; accepted = n; code = c })
          ≡ by_found {A = Followed} a (λ (r : EventRead). followed N ks (drop i f) body k (ask_bytes trail (event r.event)) (from + 8 + 4 * length r.event.objs) r.next (n + 1)) (λ (c : ℕ). record { trail = trail; accepted = n; code = c })
      go same (Ok (Some r)) =
          ap (λ (j : ℕ). followed N ks f body k (ask_bytes trail (event r.event)) j r.next (n + 1)) (omega arith)
          ∙ same (ask_bytes trail (event r.event)) (from + 8 + 4 * length r.event.objs) r.next (n + 1)
      go same (Ok None) = refl
      go same (Err c) = refl

  pub final-behind : (trail : List ℕ) → final N ks f body trail i 0 0 ≡ final N ks (drop i f) body trail 0 0 0
  unfolding final
  final-behind trail = ap (λ (j : ℕ). followed N ks f body 1000001 trail j 0 0) (sym (add-zero i)) ∙ followed-behind 1000001 trail 0 0 0

-- What comes of all events of a trail file on a started trail is the plain run's. Assumes nothing.
use Prim.Native.Nat.{ℕ, zero, suc, ◌+◌, ◌*◌}
use mathlib.Core.Path.{◌≡◌, refl, ap, sym, subst, ◌∙◌}
use mathlib.Core.List.{List, [], ◌∷◌, map}
use native.Mathlib.Omega.{arith}
use lib.ListN.{length, length-append}
use borrow.Author.Tests.{eq-eqb}
use Rattle.std.specs.Prelude.{Some, None, Ok, Err}
use Rattle.words.specs.Lists.{All}
use Rattle.net.specs.Net.{Net, Loaded}
use Rattle.net.specs.Table.{net_of, load_code}
use Rattle.net.proofs.Promise.{promise}
use Rattle.replay.specs.Plain.{Event, Ask, event, close, Plain, register_code, start, answer, accept, run, answers}
use Rattle.replay.specs.State.{state_of}
use Rattle.replay.specs.Sound.{Sound}
use Rattle.replay.specs.Record.{encode}
use Rattle.replay.specs.Calls.{ask_bytes, start_record}
use Rattle.replay.proofs.Records.{run-append, next-is, step-at, sound-at}
use Rattle.replay.proofs.Theorems.{sound-reached}
use Rattle.trace_reader.specs.Answers.{EventRead, Answer}
use Rattle.trace_reader.specs.Trace.{read_from}
use Rattle.trace_reader.proofs.HandedLaws.{handed}
use Rattle.trace_reader.specs.Followed.{Followed, closed_after, by_found, followed, final, handed_out, events_read}
use Rattle.trace_reader.specs.AllEvents.{came, PlainRun}
use Rattle.trace_reader.proofs.Body.{all_of}

module _ (table : List ℕ) (good : load_code table ≡ 0) where
  abbrev N : Net
  N = net_of table

  L : Loaded N
  L = promise table good

  -- the events that are handed out, from a plain run p on
  module _ (ks f : List ℕ) (body : ℕ) where
    record Ran (p : Plain) (es : List Event) (r : Followed) : Type 0 where
      trail : r.trail ≡ encode table (state_of N (run N p (map event es)))
      accepted : r.accepted ≡ length p.events + length es
      taken : All (λ (c : ℕ). c ≡ 0) (answers N p (map event es))

    module _ (from at n : ℕ) (p : Plain) (kinds : p.kinds ≡ ks) (still_open : p.closed ≡ 0) (events : length p.events ≡ n) (S : Sound N (state_of N p)) where
      abbrev here : Answer
      here = read_from N ks n f from body at

      accepts : (e : EventRead) → here ≡ Ok (Some e) → answer N p (event e.event) ≡ 0
      accepts e q = rw (kinds, still_open, events) (handed N L ks n f from body at e q).taken

      ran-by : (d : Answer) → here ≡ d → (es : EventRead → List Event) (r : List ℕ → EventRead → Followed)
          → ((e : EventRead) → here ≡ Ok (Some e) → Ran (accept p (event e.event)) (es e) (r (encode table (state_of N (accept p (event e.event)))) e))
          → Ran p (by_found d (λ (e : EventRead). e.event ∷ es e) (λ (c : ℕ). []))
          (by_found d (λ (e : EventRead). r (ask_bytes (encode table (state_of N p)) (event e.event)) e) (λ (c : ℕ). record { trail = encode table (state_of N p); accepted = n; code = c }))
      ran-by (Ok (Some e)) q es r more =
          let z = accepts e q in
          let m = more e q in
          let a = next-is N p (event e.event) z in
          let b = step-at table good p S (event e.event) ∙ ap (λ (q : Plain). encode table (state_of N q)) a in
          record {
            trail = ap (λ (b : List ℕ). (r b e).trail) b ∙ m.trail ∙ ap (λ (q : Plain). encode table (state_of N (run N q (map event (es e))))) (sym a);
            accepted = ap (λ (b : List ℕ). (r b e).accepted) b ∙ m.accepted ∙ omega (arith, length-append p.events (e.event ∷ []));
            taken = (z, subst (λ (q : Plain). All (λ (c : ℕ). c ≡ 0) (answers N q (map event (es e)))) (sym a) m.taken);
          }
      ran-by (Ok None) q es r more = record { trail = refl; accepted = omega arith; taken = tt }
      ran-by (Err c) q es r more = record { trail = refl; accepted = omega arith; taken = tt }

    ran : (k from at n : ℕ) (p : Plain) → p.kinds ≡ ks → p.closed ≡ 0 → length p.events ≡ n → Sound N (state_of N p)
        → Ran p (handed_out N ks f body k from at n) (followed N ks f body k (encode table (state_of N p)) from at n)
    unfolding followed handed_out
    ran zero from at n p kinds still_open events S = record { trail = refl; accepted = omega arith; taken = tt }
    ran (suc k) from at n p kinds still_open events S =
        ran-by from at n p kinds still_open events S (read_from N ks n f from body at) refl (λ (r : EventRead). handed_out N ks f body k (from + 8 + 4 * length r.event.objs) r.next (n + 1))
        (λ (b : List ℕ) (r : EventRead). followed N ks f body k b (from + 8 + 4 * length r.event.objs) r.next (n + 1))
        (λ r q. ran k (from + 8 + 4 * length r.event.objs) r.next (n + 1) (accept p (event r.event)) kinds still_open
        (omega (arith, length-append p.events (r.event ∷ [])))
        (subst (λ (p : Plain). Sound N (state_of N p)) (next-is N p (event r.event) (accepts from at n p kinds still_open events S r q)) (sound-at table good p S (event r.event))))

-- Of a table that loads and a register that is taken: the trail that is left is the record of the plain run over the events
-- handed out, each of which is accepted; and of that run closed, where no event was refused.
pub plain-run : (table ks f : List ℕ) (body from : ℕ) → load_code table ≡ 0 → register_code (net_of table) ks ≡ 0 → PlainRun table ks f body from
unfolding final events_read start_record closed_after
plain-run table ks f body from good ok = record {
  trail = r.trail;
  accepted = omega (arith, r.accepted);
  taken = r.taken;
  all = all_of N L ks f body from (start_record table ks);
  closed = λ z.
      rw (eq-eqb (came table ks f body from).code 0 z) (ap (λ (b : List ℕ). ask_bytes b close) r.trail)
      ∙ step-at table good (run N (start ks) es) (sound-reached N L ks ok es) close
      ∙ ap (λ (p : Plain). encode table (state_of N p)) (sym (run-append N es (close ∷ []) (start ks)));
}
  where
    N : Net
    N = net_of table

    L : Loaded N
    L = promise table good

    es : List Ask
    es = map event (handed_out N ks f body 1000001 from 0 0)

    r : Ran table good ks f body (start ks) (handed_out N ks f body 1000001 from 0 0) (followed N ks f body 1000001 (encode table (state_of N (start ks))) from 0 0)
    r = ran table good ks f body 1000001 from 0 0 (start ks) refl refl refl (sound-reached N L ks ok [])

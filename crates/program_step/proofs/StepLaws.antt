-- A trail that is followed: what the reader may rely on, and what an event that it hands out does. Assumes nothing.
use Prim.Native.Nat.{ℕ, ◌+◌, ◌*◌, ◌≤◌, ◌<◌}
use mathlib.Core.Bool.{false}
use mathlib.Core.Path.{◌≡◌, refl, ap, sym, subst, ◌∙◌}
use mathlib.Core.List.{List}
use native.Mathlib.Omega.{arith}
use lib.ListN.{length}
use Rattle.std.specs.Prelude.{Option, Some, None, Result, Ok, Err}
use Rattle.std.specs.Result.{IsErrAnd}
use Rattle.words.specs.Lists.{All}
use Rattle.words.proofs.Lists.{All-at, clash}
use Rattle.net.specs.Held.{net_in}
use Rattle.replay.specs.Plain.{Event, event, refusal}
use Rattle.replay.specs.State.{State, accept_s}
use Rattle.replay.specs.Calls.{state_at, ask_code, ask_bytes}
use Rattle.replay.specs.Ready.{KnownKinds}
use Rattle.replay.specs.Register.{kinds_in}
use Rattle.replay.proofs.Accepted.{accepted}
use Rattle.replay_layout.proofs.RecordLaws.{ready-loaded, ready-sound}
use Rattle.replay.proofs.Calls.{code_is, ready-asked, state-taken}
use Rattle.trace_reader.specs.declared.Read.{Read}
use Rattle.trace_reader.specs.declared.TraceError.{TraceError}
use Rattle.trace_reader.specs.Answers.{EventRead, Answer, event_in, trace_error_code}
use Rattle.trace_reader.specs.Trace.{read_from}
use Rattle.trace_reader.proofs.HandedLaws.{handed}
use Rattle.program_step.specs.Follows.{Follows}
use Rattle.program_step.specs.declared.Following.{Following}
use Rattle.program_step.specs.Outcomes.{followed_net, followed_kinds, spot_at, outcome_of}
use Rattle.program_step.specs.OneStep.{Outcome, stops, trail_after, outcome_after, step_trail, step_outcome}

module _ (t rec register : List ℕ) (n : ℕ) (F : Follows t rec register n) where
  pub kinds-known : KnownKinds (net_in t) (kinds_in (net_in t) register)
  kinds-known = record {
    kind = λ o h. All-at (λ (k : ℕ). k < (net_in t).kinds) 0 (kinds_in (net_in t) register)
        (subst (All (λ (k : ℕ). k < (net_in t).kinds)) F.kinds (ready-sound t rec F.ready).kinds) o h;
  }

  pub events-few : n ≤ 1000000
  events-few = omega (arith, (ready-sound t rec F.ready).events, F.events)

  -- an event that is not refused
  module _ (e : Event) (z : refusal (net_in t) (kinds_in (net_in t) register) 0 n e ≡ 0) where
    pub event-code : ask_code rec (event e) ≡ 0
    event-code = sym (code_is t rec F.ready (event e)) ∙ rw (F.kinds, F.still_open, F.events) z

    pub event-room : n < 1000000
    event-room = (accepted (net_in t) (kinds_in (net_in t) register) 0 n e z).few

    after : state_at (ask_bytes rec (event e)) ≡ accept_s (net_in t) (state_at rec) (event e)
    after = state-taken t rec F.ready (event e) event-code

    event-follows : Follows t (ask_bytes rec (event e)) register (n + 1)
    event-follows = record {
      ready = ready-asked t rec F.ready (event e);
      kinds = ap (λ (d : State). d.kinds) after ∙ F.kinds;
      still_open = ap (λ (d : State). d.closed) after ∙ F.still_open;
      events = omega (arith, ap (λ (d : State). d.events) after, F.events);
    }

-- an event that was read, and the position behind it
abbrev pub event_found : Read → EventRead
event_found r = record { event = event_in r.event; next = r.next.at }

-- what holds of an event that was read at the front of a window: it is accepted, and the next position is behind it
pub record Taken (f : Following) (window : List ℕ) (r : EventRead) : Type 0 where
  pub accepts : ask_code f.rec.now (event r.event) ≡ 0
  pub room : f.accepted < 1000000
  pub follows : Follows f.register.now.net.words.now (ask_bytes f.rec.now (event r.event)) f.register.now.bytes.now (f.accepted + 1)
  pub size : r.next ≡ f.at + 8 + 4 * length r.event.objs
  pub there : 8 + 4 * length r.event.objs ≤ length window

-- a step at the front of a window stays inside it, and unless it is over one event more is accepted
pub record Stepped (size accepted : ℕ) (r : Outcome) : Type 0 where
  pub inside : r.spot.from ≤ size
  pub more : r.over ≡ false → r.spot.accepted ≡ accepted + 1

module _ (f : Following) (window : List ℕ) where
  abbrev read_there : Answer
  read_there = read_from (followed_net f) (followed_kinds f) f.accepted window 0 f.body f.at

  pub taken : (r : EventRead) → Ok (Some r) ≡ read_there → Taken f window r
  taken r e =
      let h = handed (followed_net f) (ready-loaded _ _ f.follows.ready) (followed_kinds f) f.accepted window 0 f.body f.at r (sym e) in
      record {
        accepts = event-code _ _ _ _ f.follows r.event h.taken;
        room = event-room _ _ _ _ f.follows r.event h.taken;
        follows = event-follows _ _ _ _ f.follows r.event h.taken;
        size = h.next;
        there = omega (arith, h.there);
      }

  by_answer : (a : Answer) → a ≡ read_there → Stepped (length window) f.accepted (outcome_after (spot_at 0 f) a)
  by_answer (Ok (Some r)) e = record { inside = omega (arith, (taken r e).there); more = λ o. refl }
  by_answer (Ok None) e = record { inside = omega arith; more = λ o. clash o }
  by_answer (Err c) e = record { inside = omega arith; more = λ o. clash o }

  pub stepped : (r : Outcome) → r ≡ step_outcome (followed_net f) (followed_kinds f) window f.body (spot_at 0 f) → Stepped (length window) f.accepted r
  unfolding step_outcome
  stepped r q = subst (Stepped (length window) f.accepted) (sym q) (by_answer read_there refl)

-- a step at the front of a window by what is read there: an event, the end, a refusal
module _ (f : Following) (w : List ℕ) (a : Answer) (q : a ≡ read_there f w) where
  pub trail-told : trail_after f.rec.now a ≡ step_trail (followed_net f) (followed_kinds f) w f.body f.rec.now (spot_at 0 f)
  unfolding step_trail
  trail-told = ap (trail_after f.rec.now) q

  pub outcome-told : outcome_after (spot_at 0 f) a ≡ step_outcome (followed_net f) (followed_kinds f) w f.body (spot_at 0 f)
  unfolding step_outcome
  outcome-told = ap (outcome_after (spot_at 0 f)) q

-- a refusal that is passed on stops the step
pub passed_on : (from : ℕ) (f : Following) (r : Result (Option ℕ) TraceError) (e : TraceError) → IsErrAnd r (λ y. y ≡ e) → outcome_of from f r ≡ stops (spot_at from f) (trace_error_code e)
passed_on from f (Ok x) e p = absurd p
passed_on from f (Err y) e p = ap (λ y. stops (spot_at from f) (trace_error_code y)) p

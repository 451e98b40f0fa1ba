-- An event to which none of 21 to 27 applies: what is left of it once its objects are moved, and the bytes after it. Assumes nothing.
use Prim.Native.Nat.{ℕ, suc, ◌+◌, ◌≤◌, ◌<◌}
use mathlib.Core.Path.{◌≡◌, refl, ap, ◌∙◌}
use mathlib.Core.List.{List, map}
use native.Mathlib.Omega.{arith}
use native.Mathlib.Numerals.{add-one}
use lib.ListN.{length, get_or, set}
use Rattle.words.specs.Words.{words_of}
use Rattle.net.specs.Net.{Net}
use Rattle.net.specs.Held.{net_in}
use Rattle.replay.specs.Plain.{Ask, Hop, legs, event_of, ask_event}
use Rattle.replay.specs.State.{State, with_events, hop_index, leaps_of, after_event}
use Rattle.replay.specs.Record.{record_words, table_in}
use Rattle.replay.specs.Calls.{state_at, ask_code, ask_bytes}
use Rattle.replay.specs.Limits.{max_words}
use Rattle.replay_layout.specs.Offsets.{events_at, fired_at}
use Rattle.replay_layout.specs.declared.Layout.{Layout}
use Rattle.replay_moves.specs.Moves.{raise, CanAdd}
use Rattle.replay_event.specs.Asked.{Laid, Moving}
use Rattle.replay_event.specs.declared.Asked.{Asked}
use Rattle.replay.proofs.Accepted.{accepted}
use Rattle.replay.proofs.Calls.{code_is, bytes-taken}
use Rattle.replay.proofs.Encode.{fired-le}
use Rattle.replay.proofs.Tally.{length-tally}
use Rattle.replay_layout.proofs.RecordLaws.{Placed, placed_same, record-size, get-events, get-fired, put-events, put-fired, ready-loaded, ready-sound, ready-bytes}
use Rattle.replay_moves.proofs.Walk.{length-walked}
use Rattle.replay_event.proofs.Asks.{laid, numbers}
use Rattle.replay_event.proofs.Steps.{moved}

module _ (e : Asked) (b : List ℕ) (L : Laid e b) (z : ask_code b (ask_event e.act (words_of e.objs.now)) ≡ 0) where
  abbrev N : Net
  N = net_in e.net.words.now

  abbrev t : List ℕ
  t = table_in b

  abbrev l : Layout
  l = e.lay

  abbrev d : State
  d = state_at b

  abbrev q : Ask
  q = ask_event e.act (words_of e.objs.now)

  pub can_take : Moving e b
  can_take =
      let f = (accepted N d.kinds d.closed d.events (event_of e.act (words_of e.objs.now)) (code_is _ b L.ready q ∙ z)).fits in
      record { counted = record { laid = L; act-in = f.act-in; size = f.size }; known = f.known; taken = f.taken }

  -- once its objects are moved, the event is counted
  abbrev m : State
  m = moved e b

  abbrev counted : State
  counted = with_events m (suc d.events)

  placed : Placed N t l m
  placed = let ls = legs N d.kinds (event_of e.act (words_of e.objs.now)) in
      placed_same N t l d m (laid e b L) refl (length-walked ls d.places) refl (length-tally (map (λ (h : Hop). h.act) (leaps_of d ls)) d.jumps) (length-tally (map (hop_index N) (leaps_of d ls)) d.pairs)

  placed-counted : Placed N t l counted
  placed-counted = placed_same N t l m counted placed refl refl refl refl refl

  events-more : raise (record_words t m) (events_at l) 1 ≡ record_words t counted
  events-more =
      ap (λ (v : ℕ). set (record_words t m) (events_at l) (v + 1)) (get-events N t l m placed)
      ∙ ap (set (record_words t m) (events_at l)) (add-one d.events)
      ∙ put-events N t l m placed (suc d.events)

  fired-more : raise (record_words t counted) (fired_at l e.act) 1 ≡ record_words t (after_event N d (event_of e.act (words_of e.objs.now)))
  fired-more =
      ap (λ (v : ℕ). set (record_words t counted) (fired_at l e.act) (v + 1)) (get-fired N t l counted placed-counted e.act can_take.counted.act-in)
      ∙ ap (set (record_words t counted) (fired_at l e.act)) (add-one (get_or d.fired e.act 0))
      ∙ put-fired N t l counted placed-counted e.act (suc (get_or d.fired e.act 0)) can_take.counted.act-in

  pub event_counted : raise (raise (record_words t m) (events_at l) 1) (fired_at l e.act) 1 ≡ record_words t (after_event N d (event_of e.act (words_of e.objs.now)))
  event_counted = ap (λ (v : List ℕ). raise v (fired_at l e.act) 1) events-more ∙ fired-more

  pub counts_few : (events_at l ≤ max_words) × (fired_at l e.act ≤ max_words)
  counts_few = omega (arith, numbers e b L, (laid e b L).pairs-at, can_take.counted.act-in)

  pub can_events : CanAdd (events_at l) 1 (record_words t m)
  can_events = record {
    inside = omega (arith, record-size N t l m placed, placed.pairs-at);
    room = omega (arith, get-events N t l m placed, (ready-sound _ b L.ready).events);
  }

  pub can_fired : CanAdd (fired_at l e.act) 1 (raise (record_words t m) (events_at l) 1)
  can_fired = let h = can_take.counted.act-in in rw events-more (record {
    inside = omega (arith, record-size N t l counted placed-counted, placed.pairs-at);
    room = omega (arith, get-fired N t l counted placed-counted e.act h, fired-le N (ready-loaded _ b L.ready) d (ready-sound _ b L.ready) e.act h);
  })

  -- the bytes after it
  pub event_bytes : (c : List ℕ) → words_of c ≡ record_words t (after_event N d (event_of e.act (words_of e.objs.now))) → length c ≡ length b → ((i : ℕ) → get_or b i 0 < 256) → ((i : ℕ) → get_or c i 0 < 256) → c ≡ ask_bytes b q
  event_bytes c p n f g = bytes-taken _ b L.ready q c z (ready-bytes _ b L.ready c _ p n f g)

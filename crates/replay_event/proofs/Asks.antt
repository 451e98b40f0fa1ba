-- An event put to a record: the layout fits, its objects are in the register, and their kinds are read there. Assumes nothing.
use Prim.Native.Nat.{ℕ, ◌+◌, ◌-◌, ◌*◌, ◌/◌, ◌≤◌, ◌<◌}
use mathlib.Core.Bool.{Bool, true, false, not}
use mathlib.Core.Path.{◌≡◌, refl, ap, sym, ◌∙◌}
use mathlib.Core.List.{List, [], ◌∷◌, ◌++◌, append_assoc}
use native.Mathlib.Omega.{arith}
use lib.Dec.{leb, eqb}
use borrow.Author.Tests.{le-leb, lt-leb, eq-eqb, ne_eqb}
use lib.ListN.{length, get_or, take, drop, length-append}
use lib.Seq.{take_at, drop_at}
use Rattle.words.specs.Lists.{any, twice}
use Rattle.words.specs.Refusals.{first}
use Rattle.words.specs.Words.{words_of, bytes_of}
use Rattle.words.proofs.Words.{length-words, length-bytes, words-of-bytes}
use Rattle.net.specs.Net.{Net, takes}
use Rattle.net.specs.Held.{net_in}
use Rattle.replay.specs.Plain.{object_kinds, object_tests, ask_event}
use Rattle.replay.specs.State.{State, answer_s}
use Rattle.replay.specs.Record.{counts, counts_size, contents, encode, table_in, state_in}
use Rattle.replay.specs.Calls.{net_at, state_at, ask_code}
use Rattle.replay_layout.specs.Offsets.{closed_at, events_at}
use Rattle.replay.specs.Ready.{KnownKinds}
use Rattle.replay.specs.Register.{kinds_in}
use Rattle.replay_event.specs.Asked.{Laid, Counted}
use Rattle.replay_event.specs.declared.Asked.{Asked}
use Rattle.replay_layout.specs.declared.Layout.{Layout}
use Rattle.replay.proofs.Calls.{code_is}
use Rattle.replay.proofs.Encode.{fit-kinds}
use Rattle.replay_layout.proofs.RecordLaws.{Placed, get-events, ready-loaded, ready-sound, ready_words, ready-length}
use Rattle.replay_moves.proofs.Layouts.{placed_at, words_size, words-few, kind-of-in, closed-read}
use Rattle.replay.specs.Limits.{max_record, max_words}

-- what the tests of an event's objects give
pub object-code : (N : Net) (ks : List ℕ) (a : ℕ) (os : List ℕ) → (first (object_tests N ks a os) ≤ 27) × ((first (object_tests N ks a os) ≡ 0 → ⊥) → 25 ≤ first (object_tests N ks a os))
object-code N ks a os = go (any (λ (o : ℕ). leb (length ks) o) os) (any (λ (k : ℕ). not (takes N a k)) (object_kinds ks os)) (twice (object_kinds ks os))
  where
    code : Bool → Bool → Bool → ℕ
    code x y z = first ((x, 25) ∷ (y, 26) ∷ (z, 27) ∷ [])

    go : (x y z : Bool) → (code x y z ≤ 27) × ((code x y z ≡ 0 → ⊥) → 25 ≤ code x y z)
    go true y z = (omega arith, λ n. omega arith)
    go false true z = (omega arith, λ n. omega arith)
    go false false true = (omega arith, λ n. omega arith)
    go false false false = (omega arith, λ n. absurd (n refl))

-- the counts that are read, and the register
module _ (e : Asked) (b : List ℕ) (L : Laid e b) where
  abbrev w : List ℕ
  w = e.net.words.now

  abbrev N : Net
  N = net_in w

  abbrev l : Layout
  l = e.lay

  abbrev d : State
  d = state_at b

  pub laid : Placed N (table_in b) l d
  laid = placed_at w b l L.ready L.lay

  pub numbers : (length (words_of b) ≡ l.pairs + l.places * l.places) × (length (words_of b) ≤ max_words)
  numbers = (words_size w b l L.ready L.lay, words-few w b l L.ready L.lay)

  pub count-in : (i : ℕ) → i < counts_size N → l.counts + i < length (words_of b)
  count-in i h = omega (arith, numbers, laid.pairs-at)

  pub closed_read : get_or (words_of b) (closed_at l) 0 ≡ d.closed
  closed_read = closed-read w b l L.ready L.lay

  pub events_read : get_or (words_of b) (events_at l) 0 ≡ d.events
  events_read = ap (λ (v : List ℕ). get_or v (events_at l) 0) (ready_words w b L.ready) ∙ get-events N (table_in b) l d laid

  pub closed_in : closed_at l < length (words_of b)
  closed_in = omega (arith, numbers, laid.pairs-at)

  pub events_in : (events_at l < length (words_of b)) × (events_at l ≤ max_words)
  events_in = omega (arith, numbers, laid.pairs-at)

  -- the register's bytes, and the kinds that they hold
  pub register_fits : (4 * l.register ≤ 4 * l.positions) × (4 * l.positions ≤ length b) × (length b ≤ max_record)
  register_fits = omega (arith, numbers, ready-length w b L.ready, laid.positions-at, laid.counts-at, laid.pairs-at)

  pub register_words : kinds_in N (take (4 * l.positions - 4 * l.register) (drop (4 * l.register) b)) ≡ d.kinds
  unfolding encode state_at
  register_words =
      let d = state_in (net_at b) b in
      let front : List ℕ = bytes_of (contents (table_in b) d) ++ table_in b in
      let rest : List ℕ = bytes_of d.places ++ (bytes_of (counts d) ++ bytes_of d.pairs) in
      let n : length front ≡ 4 * l.register = simp (length-append, length-bytes) (omega (arith, laid.register-at, length-words (table_in b), L.ready.whole)) in
      let m : length (bytes_of d.kinds) ≡ 4 * l.positions - 4 * l.register = omega (arith, length-bytes d.kinds, laid.positions-at, laid.kinds-size) in
      let parts : b ≡ front ++ (bytes_of d.kinds ++ rest) = L.ready.intact.bytes ∙ sym (append_assoc (bytes_of (contents (table_in b) d)) (table_in b) _) in
      ap (λ (s : List ℕ). words_of (take (4 * l.positions - 4 * l.register) s)) (ap (drop (4 * l.register)) parts ∙ drop_at front (bytes_of d.kinds ++ rest) (4 * l.register) n)
      ∙ ap words_of (take_at (bytes_of d.kinds) rest _ m)
      ∙ words-of-bytes d.kinds (fit-kinds N (ready-loaded w b L.ready) (state_at b) (ready-sound w b L.ready))

  pub register_known : KnownKinds N (kinds_in N (take (4 * l.positions - 4 * l.register) (drop (4 * l.register) b)))
  register_known = rw register_words (record { kind = λ o h. kind-of-in w b l L.ready L.lay o (omega (arith, laid.kinds-size)) })

  -- the answer, by what is read of the record
  abbrev os : List ℕ
  os = words_of e.objs.now

  abbrev answer : ℕ
  answer = ask_code b (ask_event e.act os)

  told : answer_s N d (ask_event e.act os) ≡ answer
  told = code_is w b L.ready (ask_event e.act os)

  pub answer_closed : (get_or (words_of b) (closed_at l) 0 ≡ 0 → ⊥) → 21 ≡ answer
  answer_closed h = rw (← told, ne_eqb d.closed 0 (λ q. h (closed_read ∙ q))) refl

  module _ (z : get_or (words_of b) (closed_at l) 0 ≡ 0) where
    still_open : eqb d.closed 0 ≡ true
    still_open = eq-eqb d.closed 0 (sym closed_read ∙ z)

    pub answer_full : 1000000 ≤ get_or (words_of b) (events_at l) 0 → 22 ≡ answer
    answer_full h = rw (← told, still_open, le-leb 1000000 d.events (rw events_read at h)) refl

    module _ (few : get_or (words_of b) (events_at l) 0 < 1000000) where
      not_full : leb 1000000 d.events ≡ false
      not_full = lt-leb 1000000 _ (rw events_read at few)

      pub answer_activity : N.acts ≤ e.act → 23 ≡ answer
      answer_activity h = rw (← told, still_open, not_full, le-leb N.acts e.act h) refl

      module _ (known : e.act < N.acts) where
        pub answer_number : (length e.objs.now / 4 ≡ length (N.arcs e.act) → ⊥) → 24 ≡ answer
        answer_number n = rw (← told, still_open, not_full, lt-leb N.acts e.act known, ne_eqb (length os) (length (N.arcs e.act)) (λ q. n (sym (length-words e.objs.now) ∙ q))) refl

        pub answer_objects : length e.objs.now / 4 ≡ length (N.arcs e.act) → (n : ℕ) → n ≡ first (object_tests N d.kinds e.act os) → n ≡ answer
        answer_objects q n t = rw (← told, still_open, not_full, lt-leb N.acts e.act known, eq-eqb (length os) (length (N.arcs e.act)) (length-words e.objs.now ∙ q)) t

  pub counted : e.act < N.acts → length e.objs.now / 4 ≡ length (N.arcs e.act) → Counted e b
  counted h q = record { laid = L; act-in = h; size = length-words e.objs.now ∙ q }

module _ (e : Asked) (b : List ℕ) (C : Counted e b) where
  pub few_objects : length (words_of e.objs.now) ≤ 8
  few_objects = omega (arith, C.size, (ready-loaded e.net.words.now b C.laid.ready).arcs-le e.act C.act-in)

-- A read in the parts in which its tests are made. Assumes nothing.
use Prim.Native.Nat.{ℕ, ◌+◌, ◌-◌, ◌*◌, ◌≤◌, ◌<◌}
use mathlib.Core.Bool.{Bool}
use mathlib.Core.Path.{◌≡◌, refl, ap, ap₂, sym, ◌∙◌}
use mathlib.Core.List.{List, [], ◌∷◌, ◌++◌}
use native.Mathlib.Omega.{arith}
use lib.Dec.{ltb}
use lib.ListN.{length, get_or, take, drop}
use borrow.Author.Tests.{ltb-false, leb-false, eq-eqb, ne_eqb}
use Rattle.std.specs.Prelude.{Some, None, Ok, Err}
use Rattle.words.specs.Refusals.{first}
use Rattle.words.specs.Words.{word, words_of, words_at}
use Rattle.words.proofs.Lists.{is_eq}
use Rattle.words.proofs.Refusals.{none-apply, first_then, first-stays}
use Rattle.net.specs.Net.{Net, Loaded}
use Rattle.replay.specs.Plain.{event_of, object_tests}
use Rattle.trace_header.specs.declared.Bodies.{Bodies}
use Rattle.trace_header.specs.Opening.{contents_tests, contents_of, shape_tests}
use Rattle.trace_header.proofs.OpenLaws.{contents-broken, contents-bodies}
use Rattle.trace_reader.specs.declared.TraceError.{TraceError}
use Rattle.trace_reader.specs.Answers.{trace_error_code, EventRead, Answer, unless}
use Rattle.trace_reader.specs.Parts.{Ready, front_tests, objects_found, body_read}
use Rattle.trace_reader.specs.Trace.{event_at, end_found, event_found, read_tests, read_from, read_at_code, read_at}
use Rattle.words.proofs.Words.{length_at, words_take, words-read}
use Rattle.replay_objects.specs.declared.objects.ObjectError.{ObjectError}
use Rattle.replay_objects.specs.ObjectAnswers.{object_error_code}
use Rattle.replay_objects.specs.contracts.objects.ObjectErrorRefusal.TheImpl.Laws as object_laws
use Rattle.trace_reader.specs.contracts.TraceErrorRefusal.TheImpl.Laws.{not_zero-law}

-- the answer where the number is 0, and the refusal where it is not
pub unless_taken : (c : ℕ) (a : Answer) → c ≡ 0 → a ≡ unless c a
unless_taken c a e = rw (eq-eqb c 0 e)

pub unless_refused : (c d : ℕ) (a : Answer) → c ≡ d → (c ≡ 0 → ⊥) → Err c ≡ unless d a
unless_refused c d a e n = rw (← e, ne_eqb c 0 n)

-- the event at the front of a window that is ready: n is its second number, the objects are the bytes behind it
module _ (N : Net) (w : List ℕ) (at : ℕ) (R : Ready N w at) (n : ℕ) (count : n ≡ word w 4) where
  abbrev objects : List ℕ
  objects = words_of (take (8 + 4 * n - 8) (drop 8 w))

  objects-in : objects ≡ words_at w 8 (word w 4)
  objects-in =
      let e : 8 + 4 * n - 8 ≡ 4 * word w 4 = omega (arith, count) in
      ap (λ (k : ℕ). words_of (take k (drop 8 w))) e ∙ words_take (word w 4) (drop 8 w) ∙ words-read w (word w 4) 8 R.room

  pub objects_few : length objects ≤ 8
  objects_few = omega (arith, ap length objects-in, length_at w 8 (word w 4), R.few)

  module _ (ks : List ℕ) (a : ℕ) (act : a ≡ word w 0) where
    tests-in : first (object_tests N ks a objects) ≡ first (object_tests N ks (word w 0) (words_at w 8 (word w 4)))
    tests-in = ap₂ (λ (x : ℕ) (os : List ℕ). first (object_tests N ks x os)) act objects-in

    pub event_refused : (e : ObjectError) → object_error_code e ≡ first (object_tests N ks a objects) → Err (object_error_code e) ≡ objects_found N ks w at
    unfolding objects_found
    event_refused e t = unless_refused (object_error_code e) _ (event_found w 0 at) (t ∙ tests-in) (object_laws.not_zero-law e)

    pub event_taken : 0 ≡ first (object_tests N ks a objects) → Ok (Some (record { event = event_of a objects; next = at + (8 + 4 * n) })) ≡ objects_found N ks w at
    unfolding objects_found
    event_taken t =
        let next : at + (8 + 4 * n) ≡ at + 8 + 4 * word w 4 = omega (arith, count) in
        let e : record { event = event_of a objects; next = at + (8 + 4 * n) } ≡ record { event = event_at w 0; next = at + 8 + 4 * word w 4 } = rw (next, act, objects-in) refl in
        ap (λ (r : EventRead). Ok (Some r)) e ∙ unless_taken _ (event_found w 0 at) (sym (t ∙ tests-in))

-- the tests of a read through a window
pub window-tests : (N : Net) (ks : List ℕ) (accepted : ℕ) (w : List ℕ) (body at : ℕ)
    → first (read_tests N ks accepted w 0 body at) ≡ first (front_tests N accepted w body at ++ object_tests N ks (word w 0) (words_at w 8 (word w 4)))
window-tests N ks accepted w body at = rw (length_at w 8 (word w 4))

pub front_ready : (N : Net) → Loaded N → (accepted : ℕ) (w : List ℕ) (body at : ℕ) → first (front_tests N accepted w body at) ≡ 0 → body ≤ 18446744073709551615 → Ready N w at
front_ready N L accepted w body at e h =
    let t = (none-apply (front_tests N accepted w body at) (omega arith) e).1.1.1.1.1 in
    let a : word w 0 < N.acts = leb-false N.acts (word w 0) t.0 in
    record {
      act = a;
      few = omega (arith, is_eq (word w 4) (length (N.arcs (word w 0))) t.1.0, L.arcs-le (word w 0) a);
      room = ltb-false (length w) (8 + 4 * word w 4) t.1.1.1.0;
      fits = omega (arith, ltb-false body (at + 8 + 4 * word w 4) t.1.1.0);
    }

-- what a read through a window finds: at the body's end, where a test before the objects applies, and where none does
module _ (N : Net) (ks : List ℕ) (accepted : ℕ) (w : List ℕ) (body at : ℕ) where
  abbrev objs : List (Bool × ℕ)
  objs = object_tests N ks (word w 0) (words_at w 8 (word w 4))

  pub window_end : at ≡ body → end_found w 0 ≡ read_from N ks accepted w 0 body at
  unfolding read_from
  window_end e = rw (eq-eqb at body e)

  pub window_refused : (r : TraceError) → (at ≡ body → ⊥) → trace_error_code r ≡ first (front_tests N accepted w body at) → Err (trace_error_code r) ≡ read_from N ks accepted w 0 body at
  unfolding read_from
  window_refused r m e =
      let c : ℕ = trace_error_code r in
      let n : c ≡ 0 → ⊥ = not_zero-law r in
      let t : first (read_tests N ks accepted w 0 body at) ≡ c =
      window-tests N ks accepted w body at ∙ first-stays (front_tests N accepted w body at) objs (λ z. n (e ∙ z)) ∙ sym e in
      rw (ne_eqb at body m, t, ne_eqb c 0 n)

  pub window_event : (at ≡ body → ⊥) → first (front_tests N accepted w body at) ≡ 0 → objects_found N ks w at ≡ read_from N ks accepted w 0 body at
  unfolding read_from objects_found
  window_event m e =
      let t : first (read_tests N ks accepted w 0 body at) ≡ first objs =
      window-tests N ks accepted w body at ∙ first_then (front_tests N accepted w body at) objs e (omega arith) in
      rw (ne_eqb at body m, t)

-- a number in four bytes
pub word_small : (b : List ℕ) → ((i : ℕ) → get_or b i 0 < 256) → (i : ℕ) → word b i < 4294967296
unfolding word
word_small b h i = omega (arith, h i, h (i + 1), h (i + 2), h (i + 3))

-- reading in a file by what its contents say
module _ (f : List ℕ) (N : Net) (ks : List ℕ) (accepted at : ℕ) where
  shape-broken : contents_of N f ≡ None → first (shape_tests N f) ≡ 71
  shape-broken e =
      let c : first (contents_tests N f) ≡ 71 = contents-broken N f e in
      first-stays (contents_tests N f) ((ltb (length f) (16 + word f 4), 71) ∷ []) (λ q. omega arith) ∙ c

  pub read_broken : contents_of N f ≡ None → Err 71 ≡ read_at N ks accepted f at
  unfolding read_at
  read_broken e = rw (shape-broken e)

  pub broken_code : contents_of N f ≡ None → 71 ≡ read_at_code N ks accepted f at
  unfolding read_at_code
  broken_code e = rw (shape-broken e)

  pub read_whole : (s : Bodies) → contents_of N f ≡ Some s → body_read N ks accepted f s.register s.events at ≡ read_at N ks accepted f at
  unfolding read_at body_read
  read_whole s p =
      let q = contents-bodies N f s p in
      let z : first (shape_tests N f) ≡ first ((ltb (length f) (16 + word f 4), 71) ∷ []) = first_then (contents_tests N f) ((ltb (length f) (16 + word f 4), 71) ∷ []) q.0 (omega arith) in
      rw (z, q.1, q.2)

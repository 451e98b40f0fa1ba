-- An event that the reader hands out is one that a replay accepts, and lies inside body and file. Assumes nothing.
use Prim.Native.Nat.{ℕ, ◌+◌, ◌*◌}
use mathlib.Core.Path.{◌≡◌, refl, ap, sym, subst, ◌∙◌}
use mathlib.Core.List.{List}
use native.Mathlib.Decide.{ℕ_discrete}
use native.Mathlib.Omega.{arith}
use lib.ListN.{length}
use borrow.Author.Tests.{ltb-false, leb-false, eq-eqb, ne_eqb}
use Rattle.std.specs.Prelude.{Option, Some, None, Result, Ok, Err}
use Rattle.words.specs.Refusals.{first, answer_code}
use Rattle.words.specs.Words.{word, words_at}
use Rattle.words.proofs.Lists.{is_eq}
use Rattle.words.proofs.Refusals.{none-apply, first-zero}
use Rattle.words.proofs.Words.{length_at}
use Rattle.net.specs.Net.{Net, Loaded}
use Rattle.replay.specs.Plain as plain
use Rattle.trace_header.specs.Opening.{shape_tests}
use Rattle.trace_reader.specs.declared.Read.{Read}
use Rattle.trace_reader.specs.declared.TraceError.{TraceError}
use Rattle.trace_reader.specs.Answers.{EventRead, Answer, numbered, read_answer_code, unless}
use Rattle.trace_reader.specs.Claims.{Handed, HandedOut}
use Rattle.trace_reader.specs.Trace.{event_at, end_tests, read_tests, event_found, read_code, read_from, read_at_code, read_at}
use Rattle.trace_reader.proofs.ReadLaws.{unless_taken, unless_refused}

-- what holds of an answer that is not refused and of the refusal holds of either
unless-by : (T : Answer → Type 0) (c : ℕ) (a : Answer) → (c ≡ 0 → T a) → ((c ≡ 0 → ⊥) → T (Err c)) → T (unless c a)
unless-by T c a t r = go (ℕ_discrete c 0)
  where
    go : Dec (c ≡ 0) → T (unless c a)
    go (yes e) = subst T (unless_taken c a e) (t e)
    go (no m) = subst T (unless_refused c c a refl m) (r m)

-- the event at byte `from`, and the position behind it
abbrev pub event_read : List ℕ → ℕ → ℕ → EventRead
event_read b from at = record { event = event_at b from; next = at + 8 + 4 * word b (from + 4) }

module _ (N : Net) (ks : List ℕ) (accepted : ℕ) (b : List ℕ) (from body at : ℕ) where
  -- what an answer tells: where it is an event no test applies
  abbrev Tells : Answer → Type 0
  Tells (Ok (Some r)) = (first (read_tests N ks accepted b from body at) ≡ 0) × (event_read b from at ≡ r)
  Tells (Ok None) = at ≡ body
  Tells (Err c) = c ≡ 0 → ⊥

  pub tells : (a : Answer) → read_from N ks accepted b from body at ≡ a → Tells a
  unfolding read_from
  tells a p = subst Tells p (go (ℕ_discrete at body))
    where
      go : Dec (at ≡ body) → Tells (read_from N ks accepted b from body at)
      go (yes e) = subst Tells (sym (rw (eq-eqb at body e) refl)) (unless-by Tells (first (end_tests b from)) (Ok None) (λ z. e) (λ m. m))
      go (no m) = subst Tells (sym (rw (ne_eqb at body m) refl)) (unless-by Tells (first (read_tests N ks accepted b from body at)) (event_found b from at) (λ z. (z, refl)) (λ m. m))

module _ (N : Net) (L : Loaded N) (ks : List ℕ) (accepted : ℕ) where
  module _ (b : List ℕ) (from body at : ℕ) where
    handed-found : first (read_tests N ks accepted b from body at) ≡ 0 → Handed N ks accepted (length b) from body at (event_read b from at)
    handed-found e =
        let t = (none-apply (read_tests N ks accepted b from body at) (omega arith) e).1.1.1 in
        let r = t.1.1.1.1 in
        let n : length (words_at b (from + 8) (word b (from + 4))) ≡ word b (from + 4) = length_at b (from + 8) (word b (from + 4)) in
        record {
          taken = first-zero (plain.event_tests N ks 0 accepted (event_at b from)) (t.0, (t.1.0, (t.1.1.0, (t.1.1.1.0, r.1.1))));
          next = omega (arith, n);
          few = omega (arith, is_eq (length (words_at b (from + 8) (word b (from + 4)))) (length (N.arcs (word b from))) t.1.1.1.0, L.arcs-le (word b from) (leb-false N.acts (word b from) t.1.1.0));
          inside = ltb-false body (at + 8 + 4 * word b (from + 4)) r.0;
          there = omega (arith, n, ltb-false (length b) (from + 8 + 4 * word b (from + 4)) r.1.0);
        }

    -- The law of the event handed out, by reading in bytes and in a file.
    pub handed : (r : EventRead) → read_from N ks accepted b from body at ≡ Ok (Some r) → Handed N ks accepted (length b) from body at r
    handed r p = let s = tells N ks accepted b from body at (Ok (Some r)) p in subst (Handed N ks accepted (length b) from body at) s.1 (handed-found s.0)

pub handed_out_lem : (N : Net) → Loaded N → HandedOut N
unfolding read_at
handed_out_lem N L ks accepted f at r =
    unless-by (λ (a : Answer). a ≡ Ok (Some r) → Handed N ks accepted (length f) (16 + word f 4 + at) (word f 12) at r) (first (shape_tests N f)) (read_from N ks accepted f (16 + word f 4 + at) (word f 12) at)
    (λ z p. handed N L ks accepted f (16 + word f 4 + at) (word f 12) at r p)
    (λ m p. absurd (refusal-event _ r p))
  where
    refusal-event : (c : ℕ) (r : EventRead) → ◌≡◌ {A = Answer} (Err c) (Ok (Some r)) → ⊥
    refusal-event c r p = let x : ◌≡◌ {A = ℕ} 0 1 = cc in omega arith

-- the number that an answer gives
abbrev pub answer_number : Answer → ℕ
answer_number = answer_code (λ (c : ℕ). c)

unless-code : (c : ℕ) (a : Answer) → answer_number a ≡ 0 → answer_number (unless c a) ≡ c
unless-code c a z = unless-by (λ (x : Answer). answer_number x ≡ c) c a (λ e. z ∙ sym e) (λ m. refl)

pub read-code : (N : Net) (ks : List ℕ) (accepted : ℕ) (b : List ℕ) (from body at : ℕ) → answer_number (read_from N ks accepted b from body at) ≡ read_code N ks accepted b from body at
unfolding read_from read_code
read-code N ks accepted b from body at = go (ℕ_discrete at body)
  where
    go : Dec (at ≡ body) → answer_number (read_from N ks accepted b from body at) ≡ read_code N ks accepted b from body at
    go (yes e) = rw (eq-eqb at body e) (unless-code (first (end_tests b from)) (Ok None) refl)
    go (no m) = rw (ne_eqb at body m) (unless-code (first (read_tests N ks accepted b from body at)) (event_found b from at) refl)

pub read-at-code : (N : Net) (ks : List ℕ) (accepted : ℕ) (f : List ℕ) (at : ℕ) → answer_number (read_at N ks accepted f at) ≡ read_at_code N ks accepted f at
unfolding read_at read_at_code
read-at-code N ks accepted f at = go (ℕ_discrete (first (shape_tests N f)) 0)
  where
    go : Dec (first (shape_tests N f) ≡ 0) → answer_number (read_at N ks accepted f at) ≡ read_at_code N ks accepted f at
    go (yes e) = rw (eq-eqb (first (shape_tests N f)) 0 e) (read-code N ks accepted f (16 + word f 4 + at) (word f 12) at)
    go (no m) = rw (ne_eqb (first (shape_tests N f)) 0 m)

same-number : (r : Result (Option Read) TraceError) → read_answer_code r ≡ answer_number (numbered r)
same-number (Ok None) = refl
same-number (Ok (Some x)) = refl
same-number (Err e) = refl

-- an answer that is a reading has the reading's number
pub with_code : (N : Net) (ks : List ℕ) (accepted : ℕ) (b : List ℕ) (from body at : ℕ) (r : Result (Option Read) TraceError)
    → numbered r ≡ read_from N ks accepted b from body at → read_answer_code r ≡ read_code N ks accepted b from body at
with_code N ks accepted b from body at r e = same-number r ∙ ap answer_number e ∙ read-code N ks accepted b from body at

pub with_at_code : (N : Net) (ks : List ℕ) (accepted : ℕ) (f : List ℕ) (at : ℕ) (r : Result (Option Read) TraceError)
    → numbered r ≡ read_at N ks accepted f at → read_answer_code r ≡ read_at_code N ks accepted f at
with_at_code N ks accepted f at r e = same-number r ∙ ap answer_number e ∙ read-at-code N ks accepted f at

-- The events that are handed out stand in the body one behind the other, and reading stops behind them. Assumes nothing.
use Prim.Native.Nat.{ℕ, zero, suc, ◌+◌, ◌*◌, ◌≤◌, ◌<◌}
use mathlib.Core.Path.{◌≡◌, refl, ap, ap₂, sym, subst, ◌∙◌}
use mathlib.Core.List.{List, [], ◌∷◌, ◌++◌}
use native.Mathlib.Nat.{add-zero}
use native.Mathlib.Omega.{arith}
use lib.ListN.{length, take, drop, length-append}
use lib.Seq.{drop-drop, take-add}
use Rattle.std.specs.Prelude.{Some, None, Ok, Err}
use Rattle.words.specs.Words.{word, words_of, words_at}
use Rattle.words.proofs.Words.{words-drop, words-read, length_at}
use Rattle.net.specs.Net.{Net, Loaded}
use Rattle.replay.specs.Plain as plain
use Rattle.replay.specs.Record.{words_from}
use Rattle.replay.specs.Calls.{ask_bytes}
use Rattle.replay.proofs.Accepted.{accepted}
use Rattle.trace_reader.specs.Answers.{EventRead, Answer}
use Rattle.trace_reader.specs.Claims.{Handed}
use Rattle.trace_reader.specs.Trace.{event_at, read_code, read_from}
use Rattle.trace_reader.proofs.HandedLaws.{answer_number, event_read, tells, handed, read-code}
use Rattle.trace_reader.specs.Followed.{Followed, by_found, followed, handed_out, final, events_read}
use Rattle.trace_reader.specs.AllEvents.{numbers, AllOf}

-- the numbers of an event at byte `from`, and of those behind it
module _ (f : List ℕ) (from : ℕ) where
  abbrev count : ℕ
  count = word f (from + 4)

  abbrev objects : List ℕ
  objects = words_at f (from + 8) count

  stand-one : from + 8 + 4 * count ≤ length f → (es : List plain.Event) → words_from f (from + 8 + 4 * count) (length (numbers es)) ≡ numbers es
      → words_from f from (length (numbers (event_at f from ∷ es))) ≡ numbers (event_at f from ∷ es)
  unfolding words_from
  stand-one there es more =
      let k : suc (suc (length (objects ++ numbers es))) ≡ suc (suc count) + length (numbers es) = omega (arith, length-append objects (numbers es), length_at f (from + 8) count) in
      let past : from + 4 * suc (suc count) ≡ from + 8 + 4 * count = omega arith in
      let behind : drop (suc (suc count)) (words_of (drop from f)) ≡ words_of (drop (from + 8 + 4 * count) f) =
      sym (words-drop (suc (suc count)) (drop from f)) ∙ ap words_of (drop-drop (4 * suc (suc count)) from f ∙ ap (λ (i : ℕ). drop i f) past) in
      let eight : from + 4 + 4 ≡ from + 8 = omega arith in
      ap (λ (n : ℕ). take n (words_of (drop from f))) k
      ∙ take-add (suc (suc count)) (length (numbers es)) (words_of (drop from f))
      ∙ ap₂ (λ (x y : List ℕ). x ++ y) (words-read f (suc (suc count)) from (omega arith)) (ap (take (length (numbers es))) behind ∙ more)
      ∙ ap₂ (λ (i n : ℕ). word f from ∷ n ∷ (words_at f i count ++ numbers es)) eight (sym (length_at f (from + 8) count))

module _ (N : Net) (L : Loaded N) (ks f : List ℕ) (body : ℕ) where
  -- AllOf, from position `at` on and with n events before
  record From (from at n : ℕ) (es : List plain.Event) (code : ℕ) : Type 0 where
    stand : words_from f from (length (numbers es)) ≡ numbers es
    code_is : code ≡ read_code N ks (n + length es) f (from + 4 * length (numbers es)) body (at + 4 * length (numbers es))
    whole : code ≡ 0 → at + 4 * length (numbers es) ≡ body

  same_code : {i j k l m n : ℕ} → i ≡ l → j ≡ m → k ≡ n → read_code N ks i f j body k ≡ read_code N ks l f m body n
  same_code p q r = cc

  module _ (from at n : ℕ) where
    abbrev answered : Answer
    answered = read_from N ks n f from body at

    stopped : (d : Answer) → answered ≡ d → (answer_number d ≡ 0 → at ≡ body) → From from at n [] (answer_number d)
    unfolding words_from
    stopped d p w = record {
      stand = refl;
      code_is = sym (ap answer_number p) ∙ read-code N ks n f from body at ∙ same_code (sym (add-zero n)) (sym (add-zero from)) (sym (add-zero at));
      whole = λ z. add-zero at ∙ w z;
    }

    -- the event there is the one whose numbers stand there
    module _ (r : EventRead) (p : answered ≡ Ok (Some r)) where
      h : Handed N ks n (length f) from body at r
      h = handed N L ks n f from body at r p

      few : n < 1000000
      few = (accepted N ks 0 n r.event h.taken).few

      one_more : (es : List plain.Event) (code : ℕ) → From (from + 8 + 4 * length r.event.objs) r.next (n + 1) es code → From from at n (r.event ∷ es) code
      one_more es code F =
          let s : event_read f from at ≡ r = (tells N ks n f from body at (Ok (Some r)) p).1 in
          let c : length (objects f from) ≡ count f from = length_at f (from + 8) (count f from) in
          let size : length (numbers (r.event ∷ es)) ≡ 2 + length r.event.objs + length (numbers es) = omega (arith, length-append r.event.objs (numbers es)) in
          let before : n + 1 + length es ≡ n + suc (length es) = omega arith in
          let behind : (i : ℕ) → i + 8 + 4 * length r.event.objs + 4 * length (numbers es) ≡ i + 4 * length (numbers (r.event ∷ es)) = λ i. omega (arith, size) in
          let next : r.next + 4 * length (numbers es) ≡ at + 4 * length (numbers (r.event ∷ es)) = omega (arith, h.next, size) in
          record {
            stand = subst (λ (x : EventRead). words_from f from (length (numbers (x.event ∷ es))) ≡ numbers (x.event ∷ es)) s
                (stand-one f from (omega (arith, h.there, ap (λ (x : EventRead). length x.event.objs) s, c)) es
                (subst (λ (i : ℕ). words_from f (from + 8 + 4 * i) (length (numbers es)) ≡ numbers es) (sym (ap (λ (x : EventRead). length x.event.objs) s) ∙ c) F.stand));
            code_is = F.code_is ∙ same_code before (behind from) next;
            whole = λ z. sym next ∙ F.whole z;
          }

  -- by what is found at a position
  from-here : (from at n : ℕ) (d : Answer) → read_from N ks n f from body at ≡ d → (es : EventRead → List plain.Event) (r : EventRead → Followed) (trail : List ℕ)
      → ((e : EventRead) → read_from N ks n f from body at ≡ Ok (Some e) → From (from + 8 + 4 * length e.event.objs) e.next (n + 1) (es e) (r e).code)
      → From from at n (by_found d (λ (e : EventRead). e.event ∷ es e) (λ (c : ℕ). [])) (by_found {A = Followed} d r (λ (c : ℕ). record { trail = trail; accepted = n; code = c })).code
  from-here from at n (Ok (Some e)) p es r trail more = one_more from at n e p (es e) (r e).code (more e p)
  from-here from at n (Ok None) p es r trail more = stopped from at n (Ok None) p (λ z. tells N ks n f from body at (Ok None) p)
  from-here from at n (Err c) p es r trail more = stopped from at n (Err c) p (λ z. absurd (tells N ks n f from body at (Err c) p z))

  all_from : (k from at n : ℕ) → n + k ≡ 1000001 → n ≤ 1000000 → (trail : List ℕ) → From from at n (handed_out N ks f body k from at n) (followed N ks f body k trail from at n).code
  unfolding handed_out followed
  all_from zero from at n e h trail = absurd (omega arith)
  all_from (suc k) from at n e h trail =
      from-here from at n (read_from N ks n f from body at) refl (λ (r : EventRead). handed_out N ks f body k (from + 8 + 4 * length r.event.objs) r.next (n + 1))
      (λ (r : EventRead). followed N ks f body k (ask_bytes trail (plain.event r.event)) (from + 8 + 4 * length r.event.objs) r.next (n + 1)) trail
      (λ r p. all_from k (from + 8 + 4 * length r.event.objs) r.next (n + 1) (omega arith) (omega (arith, few from at n r p)) (ask_bytes trail (plain.event r.event)))

  pub all_of : (from : ℕ) (trail : List ℕ) → AllOf N ks f body from (events_read N ks f body from) (final N ks f body trail from 0 0).code
  unfolding final events_read
  all_of from trail =
      let F = all_from 1000001 from 0 0 refl (omega arith) trail in
      let z : (i : ℕ) → 0 + i ≡ i = λ i. omega arith in
      record { stand = F.stand; code_is = F.code_is ∙ same_code (z _) refl (z _); whole = λ c. sym (z _) ∙ F.whole c }

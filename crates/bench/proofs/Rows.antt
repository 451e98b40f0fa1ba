-- The events of a body, from the front, and events one after the other. Assumes nothing.
use Prim.Native.Nat.{ℕ, zero, suc, ◌+◌, ◌-◌, ◌*◌, ◌≤◌, ◌<◌}
use mathlib.Core.Bool.{true, false}
use mathlib.Core.Path.{◌≡◌, refl, ap, ap₂, sym, ◌∙◌}
use mathlib.Core.List.{List, [], ◌∷◌}
use native.Mathlib.Omega.{arith}
use lib.ListN.{length, get_or, take, drop, length-drop}
use lib.Dec.{leb}
use borrow.Author.Tests.{le-leb, lt-leb, eq-eqb, ne_eqb}
use Rattle.std.specs.Prelude.{Result, Ok, Err, is_err}
use Rattle.words.specs.Lists.{pick}
use Rattle.words.specs.Words.{words_of}
use Rattle.words.proofs.Words.{words_take, words-drop}
use Rattle.replay.specs.Plain.{Ask, ask_event}
use Rattle.replay.specs.Calls.{ask_code, ask_bytes}
use Rattle.replay_event.specs.Answers.{event_answer_code}
use Rattle.replay_event.specs.contracts.EventErrorRefusal.TheImpl.Laws.{not_zero-law}
use Rattle.replay_event.specs.declared.EventError.{EventError}
use Rattle.bench.specs.Bench.{row_size, row_at, rows_of, events_in, accepted, carried}

-- a row that is cut off, and a whole one
module _ (ws : List ℕ) where
  row_cut : (n : ℕ) → length ws < row_size ws → rows_of n ws ≡ []
  unfolding rows_of
  row_cut zero h = refl
  row_cut (suc n) h = rw (lt-leb (row_size ws) (length ws) h)

  row-whole : (n : ℕ) → row_size ws ≤ length ws → rows_of (suc n) ws ≡ row_at ws ∷ rows_of n (drop (row_size ws) ws)
  unfolding rows_of
  row-whole n h = rw (le-leb (row_size ws) (length ws) h)

-- no more events than numbers are asked for
rows-enough : (m k : ℕ) (ws : List ℕ) → length ws ≤ m → length ws ≤ k → rows_of m ws ≡ rows_of k ws
unfolding rows_of
rows-enough zero zero ws h l = refl
rows-enough zero (suc k) ws h l = sym (row_cut ws (suc k) (omega arith))
rows-enough (suc m) zero ws h l = row_cut ws (suc m) (omega arith)
rows-enough (suc m) (suc k) ws h l =
    let d = length-drop (row_size ws) ws in
    ap (λ (qs : List Ask). pick (leb (row_size ws) (length ws)) (row_at ws ∷ qs) [])
    (rows-enough m k (drop (row_size ws) ws) (omega (arith, d)) (omega (arith, d)))

-- a body at its end or whose first row is cut off, and one with a whole row in front
module _ (s : List ℕ) where
  pub body-end : length (words_of s) < row_size (words_of s) → events_in s ≡ []
  unfolding events_in
  body-end h = row_cut (words_of s) (length (words_of s)) h

  pub body-event : (a n : ℕ) (objects rest : List ℕ) → a ≡ get_or (words_of s) 0 0 → n ≡ get_or (words_of s) 1 0 → 2 + n ≤ length (words_of s)
      → objects ≡ take (4 * n) (drop (4 * 2) s) → rest ≡ drop (4 * (2 + n)) s → events_in s ≡ ask_event a (words_of objects) ∷ events_in rest
  unfolding events_in
  body-event a n objects rest e f h o r =
      let ws = words_of s in
      let objects-are : words_of objects ≡ take n (drop 2 ws) = ap words_of o ∙ words_take n (drop (4 * 2) s) ∙ ap (take n) (words-drop 2 s) in
      let rest-are : words_of rest ≡ drop (2 + n) ws = ap words_of r ∙ words-drop (2 + n) s in
      let many : length ws ≡ suc (length ws - 1) = omega (arith, h) in
      let left = length-drop (2 + n) ws in
      ap (λ (m : ℕ). rows_of m ws) many
      ∙ row-whole ws (length ws - 1) (omega (arith, f, h))
      ∙ ap₂ (λ (q : Ask) (qs : List Ask). q ∷ qs)
      (ap₂ ask_event (sym e) (ap (λ (k : ℕ). take k (drop 2 ws)) (sym f) ∙ sym objects-are))
      (ap (λ (k : ℕ). rows_of (length ws - 1) (drop (2 + k) ws)) (sym f)
      ∙ rows-enough (length ws - 1) (length (drop (2 + n) ws)) (drop (2 + n) ws) (omega (arith, left)) (omega arith)
      ∙ ap (λ (xs : List ℕ). rows_of (length xs) xs) (sym rest-are))

-- an answer that is an error, and one that is not
pub code-refused : (r : Result Unit EventError) → is_err r ≡ true → event_answer_code r ≡ 0 → ⊥
code-refused (Ok x) e z = absurd (let u : ◌≡◌ {A = ℕ} 0 1 = cc in omega arith)
code-refused (Err x) e z = not_zero-law x z

pub code-taken : (r : Result Unit EventError) → is_err r ≡ false → event_answer_code r ≡ 0
code-taken (Ok x) e = refl
code-taken (Err x) e = absurd (let u : ◌≡◌ {A = ℕ} 0 1 = cc in omega arith)

-- the first event is refused, or accepted
module _ (b : List ℕ) (q : Ask) (qs : List Ask) where
  none-accepted : (ask_code b q ≡ 0 → ⊥) → (accepted b (q ∷ qs) ≡ 0) × (carried b (q ∷ qs) ≡ b)
  unfolding accepted carried
  none-accepted p = (rw (ne_eqb (ask_code b q) 0 p), rw (ne_eqb (ask_code b q) 0 p))

  one-accepted : ask_code b q ≡ 0 → (accepted b (q ∷ qs) ≡ 1 + accepted (ask_bytes b q) qs) × (carried b (q ∷ qs) ≡ carried (ask_bytes b q) qs)
  unfolding accepted carried
  one-accepted z = (rw (eq-eqb (ask_code b q) 0 z), rw (eq-eqb (ask_code b q) 0 z))

-- n events of the body s are accepted and the trail b₀ has become b: what is left is the body `rest`
pub record Left (b₀ s b rest : List ℕ) (n : ℕ) : Type 0 where
  pub few : 8 * n + length rest ≤ length s
  pub count : n + accepted b (events_in rest) ≡ accepted b₀ (events_in s)
  pub bytes : carried b (events_in rest) ≡ carried b₀ (events_in s)

pub left-start : (b s : List ℕ) → Left b s b s 0
left-start b s = record { few = omega arith; count = omega arith; bytes = refl }

module _ (b₀ s b rest : List ℕ) (n : ℕ) (L : Left b₀ s b rest n) where
  -- no event is left
  pub left-end : events_in rest ≡ [] → (n ≡ accepted b₀ (events_in s)) × (b ≡ carried b₀ (events_in s))
  unfolding accepted carried
  left-end e = (omega (arith, L.count, ap (accepted b) e), sym (ap (carried b) e) ∙ L.bytes)

  -- the next event is put to the trail, with these bytes
  module _ (q : Ask) (behind : List ℕ) (e : events_in rest ≡ q ∷ events_in behind) (x : List ℕ) (put : x ≡ ask_bytes b q) where
    pub left-refused : (ask_code b q ≡ 0 → ⊥) → (n ≡ accepted b₀ (events_in s)) × (x ≡ carried b₀ (events_in s))
    unfolding ask_bytes
    left-refused p =
        let k = none-accepted b q (events_in behind) p in
        (omega (arith, L.count, ap (accepted b) e, k.0), put ∙ rw (ne_eqb (ask_code b q) 0 p) (sym (ap (carried b) e ∙ k.1) ∙ L.bytes))

    pub left-more : ask_code b q ≡ 0 → length behind + 8 ≤ length rest → Left b₀ s x behind (n + 1)
    left-more z h =
        let k = one-accepted b q (events_in behind) z in
        rw put (record {
          few = omega (arith, L.few);
          count = omega (arith, L.count, ap (accepted b) e, k.0);
          bytes = sym (ap (carried b) e ∙ k.1) ∙ L.bytes;
        })

-- Reading needs no more than the 40 bytes at the position. Assumes nothing.
use Prim.Native.Nat.{ℕ, zero, suc, ◌+◌, ◌-◌, ◌*◌, ◌≤◌, ◌<◌}
use mathlib.Core.Bool.{Bool}
use mathlib.Core.Path.{◌≡◌, refl, ap, ap₂, sym, ◌∙◌}
use mathlib.Core.List.{List, ◌∷◌, ◌++◌}
use native.Mathlib.Decide.{ℕ_discrete}
use native.Mathlib.Nat.{add-zero}
use native.Mathlib.Omega.{arith}
use lib.Dec.{ltb}
use lib.ListN.{length, take, drop, length-drop}
use lib.Seq.{take_all, take-take}
use Rattle.std.specs.Prelude.{min}
use Rattle.std.proofs.lemmas.List.{take_min, drop_min}
use borrow.Author.Tests.{leb-false, lt-ltb, le-ltb, eq-eqb, ne_eqb}
use Rattle.std.specs.Prelude.{Err}
use Rattle.words.specs.Refusals.{first}
use Rattle.words.specs.Words.{word, words_at}
use Rattle.words.proofs.Lists.{is_eq}
use Rattle.words.proofs.Refusals.{none-apply, first-stays}
use Rattle.net.specs.Net.{Net, Loaded}
use Rattle.net.specs.Held.{Held, net_in}
use Rattle.net.proofs.HeldLaws.{held-loaded}
use Rattle.replay.specs.Plain.{trail_tests, activity_tests, object_tests}
use Rattle.trace_header.proofs.SameBytes.{same_word, same-short, same_more}
use Rattle.trace_reader.specs.Answers.{Answer, unless}
use Rattle.trace_reader.specs.Claims.{WindowEnough}
use Rattle.trace_reader.specs.Parts.{body_read}
use Rattle.trace_reader.specs.Trace.{event_found, read_tests, read_from}
use Rattle.words.proofs.Words.{length_at}
use Rattle.trace_reader.proofs.ReadLaws.{unless_refused}

-- objects inside the first k bytes
same-objects : (k : ℕ) (w b : List ℕ) (from : ℕ) → take k w ≡ take k (drop from b) → (n i : ℕ) → i + 4 * n ≤ k → words_at w i n ≡ words_at b (from + i) n
same-objects k w b from same zero i h = refl
same-objects k w b from same (suc n) i h =
    ap₂ (λ (x : ℕ) (xs : List ℕ). x ∷ xs) (same_word k w b from same i (omega arith))
    (same-objects k w b from same n (i + 4) (omega arith) ∙ ap (λ (j : ℕ). words_at b j n) (omega arith))

-- the tests of a read up to 24, and those behind
abbrev head_tests : Net → ℕ → ℕ → ℕ → Bool → ℕ → ℕ → List (Bool × ℕ)
head_tests N accepted body at short a n =
    (ltb body at, 73)
    ∷ (ltb body (at + 8), 73)
    ∷ (short, 73)
    ∷ trail_tests 0 accepted
    ++ activity_tests N a n

abbrev rest_tests : Net → List ℕ → ℕ → ℕ → ℕ → Bool → ℕ → List ℕ → List (Bool × ℕ)
rest_tests N ks body at n short a os = (ltb body (at + 8 + 4 * n), 73) ∷ (short, 73) ∷ object_tests N ks a os

read-split : (N : Net) (ks : List ℕ) (accepted : ℕ) (b : List ℕ) (from body at : ℕ)
    → first (read_tests N ks accepted b from body at)
    ≡ first
    (head_tests N accepted body at (ltb (length b) (from + 8)) (word b from) (word b (from + 4))
    ++ rest_tests N ks body at (word b (from + 4)) (ltb (length b) (from + 8 + 4 * word b (from + 4))) (word b from) (words_at b (from + 8) (word b (from + 4))))
read-split N ks accepted b from body at = rw (length_at b (from + 8) (word b (from + 4)))

module _ (N : Net) (L : Loaded N) (ks : List ℕ) (accepted : ℕ) (w b : List ℕ) (from : ℕ) (same : take 40 w ≡ take 40 (drop from b)) (body at : ℕ) where
  act-same : word w 0 ≡ word b from
  act-same = same_word 40 w b from same 0 (omega arith) ∙ ap (word b) (add-zero from)

  count_same : word w 4 ≡ word b (from + 4)
  count_same = same_word 40 w b from same 4 (omega arith)

  abbrev head_in : List (Bool × ℕ)
  head_in = head_tests N accepted body at (ltb (length w) 8) (word w 0) (word w 4)

  abbrev head_at : List (Bool × ℕ)
  head_at = head_tests N accepted body at (ltb (length b) (from + 8)) (word b from) (word b (from + 4))

  abbrev rest_in : List (Bool × ℕ)
  rest_in = rest_tests N ks body at (word w 4) (ltb (length w) (8 + 4 * word w 4)) (word w 0) (words_at w 8 (word w 4))

  abbrev rest_at : List (Bool × ℕ)
  rest_at = rest_tests N ks body at (word b (from + 4)) (ltb (length b) (from + 8 + 4 * word b (from + 4))) (word b from) (words_at b (from + 8) (word b (from + 4)))

  head-same : head_in ≡ head_at
  head-same = rw (same-short 40 w b from same 8 (omega arith) (omega arith), act-same, count_same)

  -- where no test up to 24 applies there are at most 8 objects
  few : first head_in ≡ 0 → word w 4 ≤ 8
  few e =
      let t = (none-apply head_in (omega arith) e).1.1.1.1.1 in
      omega (arith, is_eq (word w 4) (length (N.arcs (word w 0))) t.1.0, L.arcs-le (word w 0) (leb-false N.acts (word w 0) t.0))

  module _ (n : word w 4 ≤ 8) where
    long_same : ltb (length w) (8 + 4 * word w 4) ≡ ltb (length b) (from + 8 + 4 * word w 4)
    long_same =
        let e : from + (8 + 4 * word w 4) ≡ from + 8 + 4 * word w 4 = omega arith in
        same-short 40 w b from same (8 + 4 * word w 4) (omega arith) (omega arith) ∙ ap (ltb (length b)) e

    objects-same : words_at w 8 (word w 4) ≡ words_at b (from + 8) (word w 4)
    objects-same = same-objects 40 w b from same (word w 4) 8 (omega arith)

    rest-same : rest_in ≡ rest_at
    rest-same = rw (long_same, objects-same, act-same, count_same)

    found-same : event_found w 0 at ≡ event_found b from at
    found-same = rw (objects-same, act-same, count_same)

    tests_same : first (read_tests N ks accepted w 0 body at) ≡ first (read_tests N ks accepted b from body at)
    tests_same =
        read-split N ks accepted w 0 body at
        ∙ ap₂ (λ (x y : List (Bool × ℕ)). first (x ++ y)) head-same rest-same
        ∙ sym (read-split N ks accepted b from body at)

  elsewhere : unless (first (read_tests N ks accepted w 0 body at)) (event_found w 0 at) ≡ unless (first (read_tests N ks accepted b from body at)) (event_found b from at)
  elsewhere = go (ℕ_discrete (first head_in) 0)
    where
      go : Dec (first head_in ≡ 0) → unless (first (read_tests N ks accepted w 0 body at)) (event_found w 0 at) ≡ unless (first (read_tests N ks accepted b from body at)) (event_found b from at)
      go (yes e) = ap₂ (λ (c : ℕ) (a : Answer). unless c a) (tests_same (few e)) (found-same (few e))
      go (no m) =
          let i : first (read_tests N ks accepted w 0 body at) ≡ first head_in = read-split N ks accepted w 0 body at ∙ first-stays head_in rest_in m in
          let o : first (read_tests N ks accepted b from body at) ≡ first head_in =
          read-split N ks accepted b from body at ∙ first-stays head_at rest_at (λ e. m (ap first head-same ∙ e)) ∙ sym (ap first head-same) in
          sym (unless_refused (first head_in) (first (read_tests N ks accepted w 0 body at)) (event_found w 0 at) (sym i) m)
          ∙ unless_refused (first head_in) (first (read_tests N ks accepted b from body at)) (event_found b from at) (sym o) m

  read_same : read_from N ks accepted w 0 body at ≡ read_from N ks accepted b from body at
  unfolding read_from
  read_same = go (ℕ_discrete at body)
    where
      go : Dec (at ≡ body) → read_from N ks accepted w 0 body at ≡ read_from N ks accepted b from body at
      go (yes e) = rw (eq-eqb at body e, same_more 40 w b from same (omega arith))
      go (no m) = rw (ne_eqb at body m) elsewhere

-- The law of the window: of the bytes at the position only the first 40 count, and whether there are that many.
pub window-enough : (N : Net) → Loaded N → WindowEnough N
window-enough = read_same

-- a position past the body's end
pub past_end : (N : Net) (ks : List ℕ) (accepted : ℕ) (b : List ℕ) (from body at : ℕ) → body < at → Err 73 ≡ read_from N ks accepted b from body at
unfolding read_from
past_end N ks accepted b from body at h = rw (ne_eqb at body (λ e. omega arith), lt-ltb body at h) refl

-- the window of a file from byte `start` on
pub window_is : (f : List ℕ) (start a b : ℕ) → a ≡ min start (length f) → b ≡ min (length f - a) 40 → take b (take (length f - a) (drop a f)) ≡ take 40 (drop start f)
window_is f start a b p q =
    let d : drop a f ≡ drop start f = ap (λ (i : ℕ). drop i f) p ∙ drop_min start f in
    let n : length (drop a f) ≡ length f - a = length-drop a f in
    let m : b ≡ min 40 (length (drop a f)) = omega (arith, q, n) in
    ap (take b) (take_all (length f - a) (drop a f) (omega (arith, n))) ∙ ap (λ (k : ℕ). take k (drop a f)) m ∙ take_min 40 (drop a f) ∙ ap (take 40) d

-- reading in a file whose register claims so many bytes: they are not there, the position is past the body's end, or a window is read
module _ (N : Net) (ks : List ℕ) (accepted : ℕ) (f : List ℕ) (claimed body at : ℕ) where
  pub body_cut : length f < 16 + claimed → Err 71 ≡ body_read N ks accepted f claimed body at
  unfolding body_read
  body_cut h = rw (lt-ltb (length f) (16 + claimed) h) refl

  module _ (there : 16 + claimed ≤ length f) where
    pub body_past : body < at → Err 73 ≡ body_read N ks accepted f claimed body at
    unfolding body_read read_from
    body_past h = rw (le-ltb (length f) (16 + claimed) there, ne_eqb at body (λ e. omega arith), lt-ltb body at h) refl

    pub body_window : Loaded N → (w : List ℕ) → w ≡ take 40 (drop (16 + claimed + at) f) → (a : Answer) → a ≡ read_from N ks accepted w 0 body at → a ≡ body_read N ks accepted f claimed body at
    unfolding body_read
    body_window L w e a r =
        rw (le-ltb (length f) (16 + claimed) there)
        (r ∙ window-enough N L ks accepted w f (16 + claimed + at) (ap (take 40) e ∙ take-take 40 40 (drop (16 + claimed + at) f) (omega arith)) body at)

-- the net of words that are held
pub loaded : (t : List ℕ) → Held t → Loaded (net_in t)
loaded = held-loaded

-- A record's bodies as parts of its bytes, and its number by theirs. Assumes nothing.
use Prim.Native.Nat.{ℕ, ◌+◌, ◌-◌, ◌*◌, ◌/◌, ◌%◌, ◌≤◌, ◌<◌}
use mathlib.Core.Bool.{Bool, true, false, not}
use mathlib.Core.Path.{◌≡◌, refl, ap, ap₂, sym, ◌∙◌}
use mathlib.Core.List.{List, [], ◌∷◌, ◌++◌}
use native.Mathlib.Omega.{arith}
use native.Mathlib.Decide.{dec_le}
use lib.ListN.{length, take, drop, length-take, length-drop}
use lib.Seq.{get_or-take}
use lib.Dec.{ltb, leb, eqb}
use borrow.Author.Tests.{eqb-true, eq-eqb, ne_eqb, lt-ltb, le-ltb, lt-leb}
use Rattle.words.specs.Lists.{pick, both}
use Rattle.words.specs.Refusals.{first}
use Rattle.words.specs.Words.{word, words_of, bodies_of, ends_at}
use Rattle.words.proofs.Lists.{is_eq}
use Rattle.words.proofs.Refusals.{first_then, first-stays}
use Rattle.net.specs.Net.{Net}
use Rattle.net.specs.Table.{load_code}
use Rattle.net.specs.Held.{loaded_words, net_in}
use Rattle.net.proofs.HeldLaws.{loaded-tabled}
use Rattle.replay.specs.Plain.{register_code}
use Rattle.replay.specs.Register.{row_size, kinds_in, whole_body}
use Rattle.replay.specs.State.{state_from}
use Rattle.replay.specs.Record.{counts_size, words_from, table_in, state_in}
use Rattle.replay.specs.Calls.{net_at, state_at}
use Rattle.checkpoint.specs.Restore.{begins_closed, tests44, tests45, tests46, tests47, body_tests, restore_tests, restore_code, restore_second}
use Rattle.checkpoint.specs.Take.{Framed, Opened, take_code, take_bytes}
use Rattle.checkpoint.specs.Calls.{save_tests, save_code, save_bytes}
use Rattle.checkpoint_judge.specs.Judge.{closed_by, judge_code, judge_second}
use Rattle.net.specs.Answer.{load_error_code}
use Rattle.net.specs.contracts.LoadErrorRefusal.TheImpl.Laws.{not_zero-law}
use Rattle.net.specs.declared.LoadError.{LoadError}
use Rattle.words.proofs.Words.{words_take, word-drop}
use Rattle.checkpoint.proofs.Spans.{ends-at}
use Rattle.checkpoint_judge.proofs.Verdicts.{judge-not-43}
use Rattle.replay.specs.Limits.{max_record, record_bodies, record_head}

-- a list of tests without its first
abbrev rest : List (Bool × ℕ) → List (Bool × ℕ)
rest [] = []
rest (t ∷ ts) = ts

-- two lists of tests that differ behind a test, where that fails
guarded : (t : Bool × ℕ) (r s : List (Bool × ℕ)) → (t.0 ≡ false → first r ≡ first s) → first (t ∷ r) ≡ first (t ∷ s)
guarded t r s h = go t.0 h
  where
    go : (b : Bool) → (b ≡ false → first r ≡ first s) → pick b t.1 (first r) ≡ pick b t.1 (first s)
    go true h = refl
    go false h = h refl

behind : (ts r s : List (Bool × ℕ)) → first r ≡ first s → first (ts ++ r) ≡ first (ts ++ s)
behind [] r s e = e
behind (t ∷ ts) r s e = ap (pick t.0 t.1) (behind ts r s e)

change : (t : Bool × ℕ) (f : List ℕ → List (Bool × ℕ)) (X Y : List ℕ) → (t.0 ≡ false → X ≡ Y) → first (t ∷ f X) ≡ first (t ∷ f Y)
change t f X Y h = guarded t (f X) (f Y) (λ e. ap (λ (Z : List ℕ). first (f Z)) (h e))

-- Each body counts only where the test of its length fails: the tests 44 to 47, by lengths in bytes and numbers.
module _ (N : Net) (closed : Bool) (s4 s5 s6 s7 : ℕ) where
  abbrev from46 : List ℕ → List ℕ → List ℕ → List ℕ → List (Bool × ℕ)
  from46 K P C J = tests46 N (state_from K P C J) s6 ++ tests47 N (state_from K P C J) s7

  abbrev from45 : List ℕ → List ℕ → List ℕ → List ℕ → List (Bool × ℕ)
  from45 K P C J = tests45 N (state_from K P C J) s5 closed ++ from46 K P C J

  abbrev on44 : List ℕ → List (Bool × ℕ)
  on44 K = tests44 N (state_from K [] [] []) s4

  abbrev tests : List ℕ → List ℕ → List ℕ → List ℕ → List (Bool × ℕ)
  tests K P C J = body_tests N (state_from K P C J) s4 s5 s6 s7 closed

  same_tests : (K L P Q C D J I : List ℕ) → (s4 % (4 * row_size N) ≡ 0 → K ≡ L) → (s5 ≡ 4 * length L → P ≡ Q) → (s6 ≡ 4 * counts_size N → C ≡ D) → (s7 ≡ 4 * (N.places * N.places) → J ≡ I)
      → first (tests K P C J) ≡ first (tests L Q D I)
  same_tests K L P Q C D J I k p c j =
      change (not (whole_body N s4), 44) (λ (X : List ℕ). rest (tests X P C J)) K L (λ e. k (is_eq _ _ e))
      ∙ behind (on44 L) (from45 L P C J) (from45 L Q C J) (change (not (eqb s5 (4 * length L)), 45) (λ (X : List ℕ). rest (from45 L X C J)) P Q (λ e. p (is_eq _ _ e)))
      ∙ behind (on44 L ++ tests45 N (state_from L Q C J) s5 closed) (from46 L Q C J) (from46 L Q D J)
      (change (not (eqb s6 (4 * counts_size N)), 46) (λ (X : List ℕ). rest (from46 L Q X J)) C D (λ e. c (is_eq _ _ e)))
      ∙ behind (on44 L ++ (tests45 N (state_from L Q D J) s5 closed ++ tests46 N (state_from L Q D J) s6)) (tests47 N (state_from L Q D J) s7) (tests47 N (state_from L Q D I) s7)
      (change (not (eqb s7 (4 * (N.places * N.places))), 47) (λ (X : List ℕ). rest (tests47 N (state_from L Q D X) s7)) J I (λ e. j (is_eq _ _ e)))

-- the numbers of a part of whole numbers
span-words : (b : List ℕ) (i n m : ℕ) → n ≡ 4 * m → words_of (take n (drop i b)) ≡ words_from b i m
unfolding words_from
span-words b i n m e = ap (λ (k : ℕ). words_of (take k (drop i b))) e ∙ words_take m (drop i b)

word-take : (s : List ℕ) (n : ℕ) → 4 ≤ n → word (take n s) 0 ≡ word s 0
unfolding word
word-take s n h = rw (get_or-take n s 0 0 (omega arith), get_or-take n s 1 0 (omega arith), get_or-take n s 2 0 (omega arith), get_or-take n s 3 0 (omega arith))

-- where the contents say that the bodies stand
pub record Spread (b : List ℕ) : Type 0 where
  pub at0 : word b 0 ≡ record_head
  pub at8 : word b 8 ≡ record_head + word b 4
  pub at16 : word b 16 ≡ word b 8 + word b 12
  pub at24 : word b 24 ≡ word b 16 + word b 20
  pub at32 : word b 32 ≡ word b 24 + word b 28
  pub end : word b 32 + word b 36 ≡ length b

module _ (b : List ℕ) (F : Framed b) where
  pub spread : Spread b
  unfolding bodies_of
  spread = let e = ends-at b record_bodies 0 record_head (length b) F.laid in record { at0 = omega arith; at8 = omega arith; at16 = omega arith; at24 = omega arith; at32 = omega arith; end = omega arith }

  -- each body starts where the one before it ends or behind that, and the last within the record
  pub register_first : word b 8 ≤ word b 16
  register_first = let s = spread in omega arith

  pub positions_next : word b 16 ≤ word b 24
  positions_next = let s = spread in omega arith

  pub counts_next : word b 24 ≤ word b 32
  counts_next = let s = spread in omega arith

  pub jumps_last : word b 32 ≤ length b
  jumps_last = let s = spread in omega arith

  -- the bytes of register, positions, counts and jumps
  abbrev pub ks : List ℕ
  ks = take (word b 12) (drop (word b 8) b)

  abbrev pub ps : List ℕ
  ps = take (word b 20) (drop (word b 16) b)

  abbrev pub cs : List ℕ
  cs = take (word b 28) (drop (word b 24) b)

  abbrev pub js : List ℕ
  js = take (word b 36) (drop (word b 32) b)

  part-size : (i n : ℕ) → i + n ≤ length b → length (take n (drop i b)) ≡ n
  part-size i n h = simp (length-take, length-drop) (omega arith)

  abbrev closed : Bool
  closed = begins_closed (word b 28) (word b (word b 24))

  begins-is : closed_by cs ≡ closed
  begins-is = ap (λ (n : ℕ). both (leb 4 n) (eqb (word cs 0) 1)) (part-size (word b 24) (word b 28) (let s = spread in omega arith)) ∙ go (dec_le 4 (word b 28))
    where
      go : Dec (4 ≤ word b 28) → both (leb 4 (word b 28)) (eqb (word cs 0) 1) ≡ closed
      go (yes h) = ap (λ (v : ℕ). both (leb 4 (word b 28)) (eqb v 1)) (word-take (drop (word b 24) b) (word b 28) h ∙ word-drop b (word b 24))
      go (no n) = rw (lt-leb 4 (word b 28) (omega arith))

  pub table-part : table_in b ≡ take (word b 4) (drop record_head b)
  unfolding table_in
  table-part = ap (λ (i : ℕ). take (word b 4) (drop i b)) spread.at0

  module _ (z : load_code (table_in b) ≡ 0) where
    kinds-are : word b 12 % (4 * row_size (net_at b)) ≡ 0 → words_from b (word b 8) (word b 12 / 4) ≡ kinds_in (net_at b) ks
    kinds-are e = sym (span-words b (word b 8) (word b 12) (word b 12 / 4) (omega arith))

    -- 41 to 43 passed: the number is that of the bodies
    code-judged : restore_code b ≡ judge_code (net_at b) ks ps cs js
    unfolding restore_code judge_code state_at state_in
    code-judged =
        let s = spread in
        let N : Net = net_at b in
        let K : List ℕ = kinds_in N ks in let P : List ℕ = words_of ps in let C : List ℕ = words_of cs in let J : List ℕ = words_of js in
        rw (le-ltb (length b) 40 F.size-ge, le-ltb max_record (length b) F.size-le, F.laid, eq-eqb (load_code (table_in b)) 0 z)
        (same_tests N closed (word b 12) (word b 20) (word b 28) (word b 36) _ K _ P _ C _ J
        kinds-are
        (λ e. sym (span-words b (word b 16) (word b 20) (word b 20 / 4) (omega arith)))
        (λ e. sym (span-words b (word b 24) (word b 28) (counts_size N) e))
        (λ e. sym (span-words b (word b 32) (word b 36) (N.places * N.places) e))
        ∙ ap (λ (c : Bool). first (tests N c (word b 12) (word b 20) (word b 28) (word b 36) K P C J)) (sym begins-is)
        ∙ ap (λ (n : ℕ). first (tests N (closed_by cs) n (word b 20) (word b 28) (word b 36) K P C J)) (sym (part-size (word b 8) (word b 12) (omega arith)))
        ∙ ap (λ (n : ℕ). first (tests N (closed_by cs) (length ks) n (word b 28) (word b 36) K P C J)) (sym (part-size (word b 16) (word b 20) (omega arith)))
        ∙ ap (λ (n : ℕ). first (tests N (closed_by cs) (length ks) (length ps) n (word b 36) K P C J)) (sym (part-size (word b 24) (word b 28) (omega arith)))
        ∙ ap (λ (n : ℕ). first (tests N (closed_by cs) (length ks) (length ps) (length cs) n K P C J)) (sym (part-size (word b 32) (word b 36) (omega arith))))

    second-judged : restore_second b ≡ judge_second (net_at b) ks ps cs js
    unfolding restore_second judge_second state_at state_in
    second-judged =
        let s = spread in
        let N : Net = net_at b in
        rw (code-judged, judge-not-43 N ks ps cs js)
        (last (eqb (judge_code N ks ps cs js) 44) (whole_body N (word b 12)) _ _ (λ e. ap (register_code N) (kinds-are (eqb-true _ _ e)))
        ∙ ap (λ (n : ℕ). pick (both (eqb (judge_code N ks ps cs js) 44) (whole_body N n)) (register_code N (kinds_in N ks)) 0) (sym (part-size (word b 8) (word b 12) (omega arith))))
      where
        last : (s t : Bool) (x y : ℕ) → (t ≡ true → x ≡ y) → pick (both s t) x 0 ≡ pick (both s t) y 0
        last true true x y h = h refl
        last true false x y h = refl
        last false t x y h = refl

  -- the part that is loaded is the table
  pub table_end : record_head + word b 4 ≤ length b
  table_end = let s = spread in omega arith

  pub part_is : (end : ℕ) → end ≡ word b 4 → take (record_head + end - record_head) (drop record_head b) ≡ table_in b
  part_is end e =
      let l : record_head + end - record_head ≡ word b 4 = omega (arith, e) in
      ap (λ (n : ℕ). take n (drop record_head b)) l ∙ sym table-part

  -- what loading it leaves
  pub opened : load_code (table_in b) ≡ 0 → (w : List ℕ) → w ≡ loaded_words (table_in b) → Opened b w
  unfolding net_at
  opened z w e = let t = loaded-tabled (table_in b) z w e in record { framed = F; loads = z; held = t.held; net = t.net }

  pub table_refused : (load_code (table_in b) ≡ 0 → ⊥) → restore_code b ≡ 43
  unfolding restore_code
  table_refused n = rw (le-ltb (length b) 40 F.size-ge, le-ltb max_record (length b) F.size-le, F.laid, ne_eqb (load_code (table_in b)) 0 n) refl

  pub table_second : (load_code (table_in b) ≡ 0 → ⊥) → restore_second b ≡ load_code (table_in b)
  unfolding restore_second
  table_second n = rw (table_refused n) refl

-- the parts that the code cuts out are the bodies
module _ (b w : List ℕ) (O : Opened b w) (k p c j : ℕ) (e8 : k ≡ word b 8) (e16 : p ≡ word b 16) (e24 : c ≡ word b 24) (e32 : j ≡ word b 32) where
  part : (n m i l : ℕ) → n ≡ m → i ≡ l → take n (drop i b) ≡ take m (drop l b)
  part n m i l e f = ap₂ (λ (n i : ℕ). take n (drop i b)) e f

  parts : (take (p - k) (drop k b) ≡ ks b O.framed) × (take (c - p) (drop p b) ≡ ps b O.framed) × (take (j - c) (drop c b) ≡ cs b O.framed) × (take (length b - j) (drop j b) ≡ js b O.framed)
  parts =
      let s = spread b O.framed in (
        part (p - k) (word b 12) k (word b 8) (omega arith) e8,
        part (c - p) (word b 20) p (word b 16) (omega arith) e16,
        part (j - c) (word b 28) c (word b 24) (omega arith) e24,
        part (length b - j) (word b 36) j (word b 32) (omega arith) e32,
      )

  pub judged_code : judge_code (net_in w) (take (p - k) (drop k b)) (take (c - p) (drop p b)) (take (j - c) (drop c b)) (take (length b - j) (drop j b)) ≡ restore_code b
  judged_code = let a = parts in rw (O.net, a.0, a.1, a.2, a.3) (sym (code-judged b O.framed O.loads))

  pub judged_second : judge_second (net_in w) (take (p - k) (drop k b)) (take (c - p) (drop p b)) (take (j - c) (drop c b)) (take (length b - j) (drop j b)) ≡ restore_second b
  judged_second = let a = parts in rw (O.net, a.0, a.1, a.2, a.3) (sym (second-judged b O.framed O.loads))

-- the numbers that come before the table's; only 43 and 44 have a second
module _ (b : List ℕ) where
  pub no_second : (restore_code b ≡ 43 → ⊥) → (restore_code b ≡ 44 → ⊥) → restore_second b ≡ 0
  unfolding restore_second
  no_second n m = rw (ne_eqb (restore_code b) 43 n, ne_eqb (restore_code b) 44 m) refl

  pub too_short : length b < 40 → restore_code b ≡ 41
  unfolding restore_code
  too_short h = rw (lt-ltb (length b) 40 h) refl

  pub too_long : 40 ≤ length b → max_record < length b → restore_code b ≡ 41
  unfolding restore_code
  too_long g h = rw (le-ltb (length b) 40 g, lt-ltb max_record (length b) h) refl

  pub not_laid : 40 ≤ length b → length b ≤ max_record → ends_at (length b) (bodies_of record_bodies b) ≡ false → restore_code b ≡ 42
  unfolding restore_code
  not_laid g h e = rw (le-ltb (length b) 40 g, le-ltb max_record (length b) h, e) refl

-- a table's refusal has a number
pub load_refused : (e : LoadError) → load_error_code e ≡ 0 → ⊥
load_refused = not_zero-law

-- taking up the record b into lent bytes
module _ (b lent : List ℕ) where
  -- the check refuses it
  module _ (n : restore_code b ≡ 0 → ⊥) where
    pub stays_refused : take_code b (length lent) ≡ restore_code b
    unfolding take_code restore_code
    stays_refused = first-stays (restore_tests b) ((ltb (length lent) (length b), 61) ∷ []) n

    pub bytes_stay : take_bytes b lent ≡ lent
    unfolding take_bytes
    bytes_stay = rw (stays_refused, ne_eqb (restore_code b) 0 n) refl

  -- the check takes it: it is taken up as a save of it is put down
  module _ (z : restore_code b ≡ 0) where
    pub as_saved : take_code b (length lent) ≡ save_code b (length lent)
    unfolding take_code restore_code save_code
    as_saved = first_then (restore_tests b) (save_tests b (length lent)) z (omega arith)

    pub bytes_as_saved : take_bytes b lent ≡ save_bytes b lent
    unfolding take_bytes save_bytes
    bytes_as_saved = rw as_saved refl

-- the steps of the check: the bodies, the table, the length and the contents; and taking up
pub ruleset bodies = (register_first, positions_next, counts_next, jumps_last, judged_code, judged_second)

pub ruleset table = (load_refused, table_end, part_is, opened, table_refused, table_second)

pub ruleset contents = (too_short, too_long, not_laid, no_second)

pub ruleset takes = (stays_refused, bytes_stay, as_saved, bytes_as_saved, no_second)

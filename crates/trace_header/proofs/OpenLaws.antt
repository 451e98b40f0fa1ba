-- Opening a trail file: what the contents say, what of the file opening needs, and which number it gives. Assumes nothing.
use Prim.Native.Nat.{ℕ, ◌+◌, ◌-◌, ◌/◌, ◌%◌, ◌≤◌, ◌<◌}
use mathlib.Core.Bool.{Bool, true, false}
use mathlib.Core.Path.{◌≡◌, refl, ap, sym, ◌∙◌}
use mathlib.Core.List.{List, [], ◌∷◌}
use native.Mathlib.Decide.{ℕ_discrete}
use native.Mathlib.Omega.{arith}
use lib.Dec.{ltb, leb}
use lib.ListN.{length, take, drop, length-take, length-drop}
use borrow.Author.Tests.{ltb-true, ltb-false, leb-false, lt-ltb, le-ltb, eq-eqb, ne_eqb}
use Rattle.std.specs.Prelude.{Some, None}
use Rattle.words.specs.Lists.{pick, All}
use Rattle.words.specs.Refusals.{first}
use Rattle.words.specs.Words.{word}
use Rattle.words.proofs.Lists.{All-at, any_none, is_eq}
use Rattle.words.proofs.Refusals.{first-none, none-apply, first_then, first-stays}
use Rattle.words.proofs.Words.{length-words}
use Rattle.net.specs.Net.{Net}
use Rattle.replay.specs.Plain.{register_tests, register_code}
use Rattle.replay.specs.Ready.{KnownKinds}
use Rattle.replay.specs.Register.{row_bytes, whole_body, max_register, kinds_in}
use Rattle.trace_header.specs.declared.Bodies.{Bodies}
use Rattle.trace_header.specs.Claims.{HeadEnough, OpenEnough}
use Rattle.trace_header.specs.Opening.{contents_tests, contents_of, contents_code, register_of, trace_code, open_code}
use Rattle.trace_header.proofs.SameBytes.{ltb-same, same_word, same-short}

-- tests that all give the same number
one_code : (c : ℕ) (ts : List (Bool × ℕ)) → All (λ (t : Bool × ℕ). t.1 ≡ c) ts → (first ts ≡ 0 → ⊥) → first ts ≡ c
one_code c [] a n = absurd (n refl)
one_code c (t ∷ ts) a n = go t.0 n (one_code c ts a.1)
  where
    go : (x : Bool) → (pick x t.1 (first ts) ≡ 0 → ⊥) → ((first ts ≡ 0 → ⊥) → first ts ≡ c) → pick x t.1 (first ts) ≡ c
    go true m r = a.0
    go false m r = r m

module _ (N : Net) (f : List ℕ) where
  -- what the contents say
  abbrev bodies : Bodies
  bodies = record { register = word f 4; events = word f 12 }

  pub contents-broken : contents_of N f ≡ None → first (contents_tests N f) ≡ 71
  unfolding contents_of
  contents-broken e = one_code 71 (contents_tests N f) (refl, (refl, (refl, (refl, tt)))) (λ z. let q : Some bodies ≡ None = rw (eq-eqb (first (contents_tests N f)) 0 z) at e in let x : ◌≡◌ {A = ℕ} 0 1 = cc in omega arith)

  pub contents-bodies : (s : Bodies) → contents_of N f ≡ Some s → (first (contents_tests N f) ≡ 0) × (s.register ≡ word f 4) × (s.events ≡ word f 12)
  unfolding contents_of
  contents-bodies s p = go (ℕ_discrete (first (contents_tests N f)) 0)
    where
      go : Dec (first (contents_tests N f) ≡ 0) → (first (contents_tests N f) ≡ 0) × (s.register ≡ word f 4) × (s.events ≡ word f 12)
      go (yes z) = let q : Some bodies ≡ Some s = rw (eq-eqb (first (contents_tests N f)) 0 z) at p in let e : bodies ≡ s = cc in (z, sym (ap (λ (x : Bodies). x.register) e), sym (ap (λ (x : Bodies). x.events) e))
      go (no m) = let q : None ≡ Some s = rw (ne_eqb (first (contents_tests N f)) 0 m) at p in let x : ◌≡◌ {A = ℕ} 0 1 = cc in absurd (omega arith)

  -- contents that are not broken: they are there, and claim whole rows
  whole-head : first (contents_tests N f) ≡ 0 → (16 ≤ length f) × (word f 4 % row_bytes N ≡ 0)
  whole-head e = let t = none-apply (contents_tests N f) (omega arith) e in (ltb-false (length f) 16 t.0, is_eq (word f 4 % row_bytes N) 0 t.1.1.1.0)

  pub head-there : first (contents_tests N f) ≡ 0 → 16 ≤ length f
  head-there e = (whole-head e).0

  pub some_there : (s : Bodies) → contents_of N f ≡ Some s → 16 ≤ length f
  some_there s p = head-there (contents-bodies s p).0

  pub whole-rows : (s : Bodies) → contents_of N f ≡ Some s → s.register % row_bytes N ≡ 0
  whole-rows s p = let q = contents-bodies s p in ap (λ (n : ℕ). n % row_bytes N) q.1 ∙ (whole-head q.0).1

  -- opening by what the contents say
  pub open_broken : contents_of N f ≡ None → 71 ≡ trace_code N f
  unfolding trace_code
  open_broken e =
      let c : first (contents_tests N f) ≡ 71 = contents-broken e in
      sym (first-stays (contents_tests N f) ((ltb (length f) (16 + word f 4), 71) ∷ register_tests N (register_of N f)) (λ q. omega arith) ∙ c)

  register-length : 16 + word f 4 ≤ length f → length (register_of N f) ≡ word f 4 / row_bytes N
  unfolding register_of
  register-length h =
      length-words (take (word f 4) (drop 16 f))
      ∙ ap (λ (n : ℕ). n / 4) (omega (arith, length-take (word f 4) (drop 16 f), length-drop 16 f))

  -- The law of opening: what of the file it needs behind the contents.
  pub open_by : (there : ℕ) (ks : List ℕ) → first (contents_tests N f) ≡ 0
      → ltb there (word f 4) ≡ ltb (length f) (16 + word f 4)
      → (word f 4 ≤ there → word f 4 ≤ max_register N → ks ≡ register_of N f)
      → open_code N (word f 4) there ks ≡ trace_code N f
  unfolding open_code trace_code
  open_by there ks e l k =
      rw (first_then (contents_tests N f) ((ltb (length f) (16 + word f 4), 71) ∷ register_tests N (register_of N f)) e (omega arith), ← l)
      (go (ltb there (word f 4)) refl (ltb (max_register N) (word f 4)) refl)
    where
      go : (x : Bool) → ltb there (word f 4) ≡ x → (y : Bool) → ltb (max_register N) (word f 4) ≡ y
          → pick x 71 (pick y 11 (first (register_tests N ks))) ≡ pick x 71 (first (register_tests N (register_of N f)))
      go true p y q = refl
      go false p true q =
          let n = register-length (ltb-false (length f) (16 + word f 4) (sym l ∙ p)) in
          let m = ltb-true (max_register N) (word f 4) q in
          let d = (whole-head e).1 in
          rw (ne_eqb (length (register_of N f)) 0 (λ z. omega arith), lt-ltb 1024 (length (register_of N f)) (omega arith))
      go false p false q = ap (λ (xs : List ℕ). first (register_tests N xs)) (k (ltb-false there (word f 4) p) (ltb-false (max_register N) (word f 4) q))

  -- a file that is held whole
  there-same : 16 ≤ length f → ltb (length f - 16) (word f 4) ≡ ltb (length f) (16 + word f 4)
  there-same h = ltb-same (length f - 16) (word f 4) (length f) (16 + word f 4) (λ l. omega arith) (λ l. omega arith)

  pub open_held : (s : Bodies) → contents_of N f ≡ Some s → open_code N s.register (length f - 16) (kinds_in N (take s.register (drop 16 f))) ≡ trace_code N f
  unfolding register_of
  open_held s p =
      let q = contents-bodies s p in
      rw q.1 (open_by (length f - 16) (kinds_in N (take (word f 4) (drop 16 f))) q.0 (there-same (head-there q.0)) (λ h g. refl))

  -- the number that the contents give
  contents-code : contents_code (contents_of N f) ≡ first (contents_tests N f)
  unfolding contents_of
  contents-code = go (ℕ_discrete (first (contents_tests N f)) 0)
    where
      go : Dec (first (contents_tests N f) ≡ 0) → contents_code (contents_of N f) ≡ first (contents_tests N f)
      go (yes e) = rw (eq-eqb (first (contents_tests N f)) 0 e) (sym e)
      go (no m) = rw (ne_eqb (first (contents_tests N f)) 0 m) (sym (one_code 71 (contents_tests N f) (refl, (refl, (refl, (refl, tt)))) m))

  pub broken_code : None ≡ contents_of N f → 71 ≡ first (contents_tests N f)
  broken_code e = ap contents_code e ∙ contents-code

  pub whole_code : (s : Bodies) → Some s ≡ contents_of N f → 0 ≡ first (contents_tests N f)
  whole_code s e = ap contents_code e ∙ contents-code

  -- the contents by the tests passed on the way
  pub broken_short : length f < 16 → None ≡ contents_of N f
  unfolding contents_of
  broken_short h = rw (lt-ltb (length f) 16 h) refl

  module _ (there : 16 ≤ length f) where
    pub broken_start : (word f 0 ≡ 16 → ⊥) → None ≡ contents_of N f
    unfolding contents_of
    broken_start n = rw (le-ltb (length f) 16 there, ne_eqb (word f 0) 16 n) refl

    module _ (start : word f 0 ≡ 16) where
      pub broken_gap : (word f 8 ≡ 16 + word f 4 → ⊥) → None ≡ contents_of N f
      unfolding contents_of
      broken_gap n = rw (le-ltb (length f) 16 there, eq-eqb (word f 0) 16 start, ne_eqb (word f 8) (16 + word f 4) n) refl

      module _ (follows : word f 8 ≡ 16 + word f 4) where
        pub broken_rows : whole_body N (word f 4) ≡ false → None ≡ contents_of N f
        unfolding contents_of
        broken_rows n = rw (le-ltb (length f) 16 there, eq-eqb (word f 0) 16 start, eq-eqb (word f 8) (16 + word f 4) follows, n) refl

        pub contents_whole : whole_body N (word f 4) ≡ true → Some bodies ≡ contents_of N f
        unfolding contents_of
        contents_whole w = rw (le-ltb (length f) 16 there, eq-eqb (word f 0) 16 start, eq-eqb (word f 8) (16 + word f 4) follows, w) refl

-- what of the file opening needs
pub open-enough : (N : Net) → OpenEnough N
open-enough N f there ks e l k = open_by N f there ks e l k

pub head-enough : (N : Net) → HeadEnough N
unfolding contents_of
head-enough N h f e =
    rw (
      same-short 16 h f 0 e 16 (omega arith) (omega arith),
      same_word 16 h f 0 e 0 (omega arith),
      same_word 16 h f 0 e 4 (omega arith),
      same_word 16 h f 0 e 8 (omega arith),
      same_word 16 h f 0 e 12 (omega arith),
    )

-- opening by the tests passed on the way
module _ (N : Net) (claimed there : ℕ) (ks : List ℕ) where
  pub open_cut : there < claimed → 71 ≡ open_code N claimed there ks
  unfolding open_code
  open_cut h = rw (lt-ltb there claimed h) refl

  pub open_long : claimed ≤ there → max_register N < claimed → 11 ≡ open_code N claimed there ks
  unfolding open_code
  open_long t h = rw (le-ltb there claimed t, lt-ltb (max_register N) claimed h) refl

  pub open_register : claimed ≤ there → claimed ≤ max_register N → (c : ℕ) → c ≡ register_code N ks → c ≡ open_code N claimed there ks
  unfolding open_code
  open_register t h c e = rw (le-ltb there claimed t, le-ltb (max_register N) claimed h) e

-- a register that is not refused is wholly there
pub not-refused : (N : Net) (claimed there : ℕ) (ks : List ℕ) → open_code N claimed there ks ≡ 0 → (claimed ≤ there) × (register_code N ks ≡ 0)
unfolding open_code
not-refused N claimed there ks z =
    let a = first-none (ltb there claimed) 71 (pick (ltb (max_register N) claimed) 11 (register_code N ks)) (omega arith) z in
    (ltb-false there claimed a.0, (first-none (ltb (max_register N) claimed) 11 (register_code N ks) (omega arith) a.1).1)

-- a register that is taken has only known kinds, so that the events of a file that is opened can be read
pub register-known : (N : Net) (ks : List ℕ) → register_code N ks ≡ 0 → KnownKinds N ks
register-known N ks e =
    let t = none-apply (register_tests N ks) (omega arith) e in
    record {
      kind = λ o h. All-at (λ (k : ℕ). k < N.kinds) 0 ks (any_none (λ (k : ℕ). leb N.kinds k) (λ (k : ℕ). k < N.kinds) (λ k q. leb-false N.kinds k q) ks t.1.1.0) o h;
    }

pub opened-known : (N : Net) (claimed there : ℕ) (ks : List ℕ) → open_code N claimed there ks ≡ 0 → KnownKinds N ks
opened-known N claimed there ks e = register-known N ks (not-refused N claimed there ks e).1

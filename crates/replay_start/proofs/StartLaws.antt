-- Starting: the numbers that are stored one body after another are the record's, and the answers by the tests. Assumes nothing.
use Prim.Native.Nat.{ℕ, zero, suc, ◌+◌, ◌*◌, ◌/◌, ◌%◌, ◌≤◌, ◌<◌}
use mathlib.Core.Path.{◌≡◌, refl, ap, sym, subst, ◌∙◌}
use mathlib.Core.List.{List, [], ◌∷◌, ◌++◌, map}
use native.Mathlib.Omega.{arith}
use native.Mathlib.Nat.{add-zero}
use lib.ListN.{length, get_or, set, take, drop, replicate, length-append, length-replicate, length-map}
use lib.Dec.{ltb}
use lib.Seq.{sets, length-take-le}
use borrow.Author.Tests.{eq-eqb, ne_eqb, lt-ltb, le-ltb}
use Rattle.words.specs.Lists.{pick, over}
use Rattle.words.specs.Words.{words_of, bytes_of}
use Rattle.words.proofs.Words.{length-words, bytes-of-words}
use Rattle.words.proofs.Lists.{All-at}
use Rattle.words.proofs.Refusals.{first_then, first-stays}
use Rattle.net.specs.Net.{Net, Loaded}
use Rattle.net.specs.Table.{net_of}
use Rattle.net.specs.Held.{net_in}
use Rattle.net.proofs.Promise.{promise, table-size}
use Rattle.words.proofs.Sets.{sets-all}
use Rattle.replay.specs.Limits.{head_words}
use Rattle.replay.specs.Plain.{register_tests, register_code}
use Rattle.replay.specs.State.{State, start_state}
use Rattle.replay.specs.Sound.{Sound}
use Rattle.replay.specs.Record.{interleave, counts, counts_size, contents, record_words}
use Rattle.replay.specs.Register.{kinds_in, position_bytes}
use Rattle.replay.specs.Ready.{KnownKinds}
use Rattle.replay.specs.Calls.{start_record, start_code, start_bytes}
use Rattle.replay_layout.specs.declared.Layout.{Layout}
use Rattle.replay_layout.specs.Fresh.{Registered, fresh_bytes, fresh_layout}
use Rattle.replay_objects.specs.declared.register.RegisterError.{RegisterError}
use Rattle.replay_objects.specs.contracts.register.RegisterErrorRefusal.TheImpl.Laws.{not_zero-law}
use Rattle.replay_objects.specs.RegisterAnswers.{register_error_code}
use Rattle.replay_start.specs.Startable.{Startable, contents_of}
use Rattle.replay.proofs.Accepted.{registered}
use Rattle.replay.proofs.Keep.{sound-start}
use Rattle.replay.proofs.Encode.{laid, bytes-encode, counts-size}
use Rattle.net.specs.Limits.{max_table}

-- one run of stores behind another
run_on : (xs ys w : List ℕ) (i : ℕ) → sets (sets w i xs) (i + length xs) ys ≡ sets w i (xs ++ ys)
run_on [] ys w i = ap (λ (j : ℕ). sets w j ys) (add-zero i)
run_on (x ∷ xs) ys w i = ap (λ (j : ℕ). sets (sets w i (x ∷ xs)) j ys) {y = suc i + length xs} (omega arith) ∙ run_on xs ys (set w i x) (suc i)

next : (w xs ys : List ℕ) (i j : ℕ) → j ≡ i + length xs → sets (sets w i xs) j ys ≡ sets w i (xs ++ ys)
next w xs ys i j e = ap (λ (k : ℕ). sets (sets w i xs) k ys) e ∙ run_on xs ys w i

-- five runs that fill the list
five : (w c t k p z : List ℕ) (a b e f : ℕ) → a ≡ length c → b ≡ a + length t → e ≡ b + length k → f ≡ e + length p → length w ≡ f + length z
    → sets (sets (sets (sets (sets w 0 c) a t) b k) e p) f z ≡ c ++ (t ++ (k ++ (p ++ z)))
five w c t k p z a b e f h1 h2 h3 h4 h5 =
    next (sets (sets (sets w 0 c) a t) b k) p z e f h4
    ∙ next (sets (sets w 0 c) a t) k (p ++ z) b e h3
    ∙ next (sets w 0 c) t (k ++ (p ++ z)) a b h2
    ∙ next w c (t ++ (k ++ (p ++ z))) 0 a (omega arith)
    ∙ sets-all w (c ++ (t ++ (k ++ (p ++ z)))) (simp length-append (omega arith))

-- the counts and the jumps of a started trail are all 0
zeros-from : (a m n : ℕ) → n ≡ 2 * a + m → interleave (replicate a 0) (replicate a 0) ++ replicate m 0 ≡ replicate n 0
zeros-from zero m n e = ap (λ (k : ℕ). replicate k 0) {x = m} {y = n} (omega arith)
zeros-from (suc a) m n e = ap (λ (l : List ℕ). 0 ∷ 0 ∷ l) (zeros-from a m (2 * a + m) refl) ∙ ap (λ (k : ℕ). replicate k 0) {x = suc (suc (2 * a + m))} {y = n} (omega arith)

rest-zeros : (a m n : ℕ) → n ≡ 3 + 2 * a + m → (0 ∷ 0 ∷ 0 ∷ interleave (replicate a 0) (replicate a 0)) ++ replicate m 0 ≡ replicate n 0
rest-zeros a m n e = ap (λ (l : List ℕ). 0 ∷ 0 ∷ 0 ∷ l) (zeros-from a m (2 * a + m) refl) ∙ ap (λ (k : ℕ). replicate k 0) {x = suc (suc (suc (2 * a + m)))} {y = n} (omega arith)

four-times : (l n : ℕ) → l % 4 ≡ 0 → n ≡ l / 4 → 4 * n ≡ l
four-times l n h e = omega arith

-- the state of a trail that is just started, by the table's and the register's bytes
abbrev pub begun : List ℕ → List ℕ → State
begun table objects = start_state (net_of table) (kinds_in (net_of table) objects)

-- words that hold the net of a table that loads, and a register in whole rows that is not refused
module _ (t table objects : List ℕ) (S : Startable t table objects) (ok : register_code (net_of table) (kinds_in (net_of table) objects) ≡ 0) where
  pub loaded : Loaded (net_of table)
  loaded = promise table S.tabled.taken

  pub sound : Sound (net_of table) (begun table objects)
  sound = sound-start (net_of table) loaded (kinds_in (net_of table) objects) (registered (net_of table) (kinds_in (net_of table) objects) ok)

  rows : 4 * length (kinds_in (net_of table) objects) ≡ length objects
  rows = four-times (length objects) (length (kinds_in (net_of table) objects)) S.whole (length-words objects)

  pub table-few : length table ≤ max_table
  table-few = (table-size table S.tabled.taken).1

  pub register-rows : Registered (net_in t) objects
  register-rows = record { whole = sym rows; few = (registered (net_of table) (kinds_in (net_of table) objects) ok).few }

  pub kinds-known : KnownKinds (net_in t) (kinds_in (net_in t) objects)
  kinds-known = subst (λ (N : Net). KnownKinds N (kinds_in N objects)) (sym S.tabled.net) (record { kind = All-at (λ (k : ℕ). k < (net_of table).kinds) 0 (kinds_in (net_of table) objects) (registered (net_of table) (kinds_in (net_of table) objects) ok).kinds })

  record-size-of : length (start_record table (kinds_in (net_of table) objects)) ≡ fresh_bytes (net_of table) (length table) objects
  unfolding start_record
  record-size-of = omega (
    arith,
    (laid (net_of table) loaded table (begun table objects) sound table-few).size,
    rows,
    length-map (kinds_in (net_of table) objects) (net_of table).source,
    counts-size (net_of table) (begun table objects) sound,
    length-replicate {A = ℕ} ((net_of table).places * (net_of table).places) 0,
  )

  -- how many bytes the record takes
  pub record-size : length (start_record table (kinds_in (net_of table) objects)) ≡ fresh_bytes (net_in t) (length table) objects
  record-size = record-size-of ∙ ap (λ (N : Net). fresh_bytes N (length table) objects) (sym S.tabled.net)

  -- where the bodies stand, by the record's layout, bounds on them, and where the record ends
  pub record Fits (l : Layout) : Type 0 where
    pub register-at : l.register ≡ head_words + length table / 4
    pub positions-at : l.positions ≡ l.register + l.objects
    pub counts-at : l.counts ≡ l.positions + l.objects
    pub end-at : 4 * (l.counts + counts_size (net_in t) + (net_in t).places * (net_in t).places) ≡ length (start_record table (kinds_in (net_of table) objects))
    pub objects-are : l.objects ≡ length (kinds_in (net_of table) objects)
    pub objects-bytes : length objects ≡ 4 * l.objects
    pub objects-few : l.objects ≤ 1024
    pub table-few : length table ≤ max_table

  pub fits : (l : Layout) → l ≡ fresh_layout (net_in t) (length table / 4) objects → Fits l
  fits l e =
      let h : length table % 4 ≡ 0 = (table-size table S.tabled.taken).2 in
      rw e (record {
        register-at = refl;
        positions-at = omega (arith, rows);
        counts-at = omega arith;
        end-at = omega (arith, record-size, rows);
        objects-are = refl;
        objects-bytes = sym rows;
        objects-few = register-rows.few;
        table-few = table-few;
      })

  -- and how many numbers
  pub words_size : (out : List ℕ) → length out ≡ length (start_record table (kinds_in (net_of table) objects))
      → length (words_of out) ≡ head_words + length table / 4 + length (kinds_in (net_of table) objects) + length (kinds_in (net_of table) objects) + counts_size (net_in t) + (net_in t).places * (net_in t).places
  words_size out e =
      let F = fits (fresh_layout (net_in t) (length table / 4) objects) refl in
      omega (arith, length-words out, e, F.end-at, F.counts-at, F.positions-at, F.register-at, F.objects-are)

  -- the numbers that starting stores, as one list
  module _ (w : List ℕ) (b c p : ℕ) (bs : b ≡ position_bytes (length (kinds_in (net_of table) objects))) (cs : c ≡ 4 * counts_size (net_in t)) (ps : p ≡ 4 * ((net_in t).places * (net_in t).places))
      (l : Layout) (f : Fits l) (size : 4 * length w ≡ length (start_record table (kinds_in (net_of table) objects))) where
    heads : contents_of (length table) (length objects) b c p ≡ contents table (begun table objects)
    heads = cc (
      rows,
      bs,
      cs ∙ ap (λ (N : Net). 4 * counts_size N) S.tabled.net,
      ps ∙ ap (λ (N : Net). 4 * (N.places * N.places)) S.tabled.net,
      counts-size (net_of table) (begun table objects) sound,
      length-map (kinds_in (net_of table) objects) (net_of table).source,
      length-replicate {A = ℕ} ((net_of table).places * (net_of table).places) 0,
    )

    tails : replicate (c / 4 + p / 4) 0 ≡ counts (begun table objects) ++ (begun table objects).pairs
    tails = sym (rest-zeros (net_of table).acts ((net_of table).places * (net_of table).places) (c / 4 + p / 4)
        (omega (arith, cs ∙ ap (λ (N : Net). 4 * counts_size N) S.tabled.net, ps ∙ ap (λ (N : Net). 4 * (N.places * N.places)) S.tabled.net)))

    pub stored : sets (sets (sets (sets (sets w 0 (contents_of (length table) (length objects) b c p)) head_words (words_of table)) l.register (kinds_in (net_of table) objects)) l.positions (map (net_in t).source (kinds_in (net_of table) objects)))
        l.counts (replicate (c / 4 + p / 4) 0) ≡ record_words table (begun table objects)
    stored =
        five w (contents_of (length table) (length objects) b c p) (words_of table) (kinds_in (net_of table) objects) (map (net_in t).source (kinds_in (net_of table) objects)) (replicate (c / 4 + p / 4) 0)
        head_words l.register l.positions l.counts
        refl (omega (arith, f, length-words table)) (omega (arith, f)) (omega (arith, f, length-map (kinds_in (net_of table) objects) (net_in t).source))
        (omega (arith, f, size, length-replicate {A = ℕ} (c / 4 + p / 4) 0))
        ∙ cc (heads, tails, ap (λ (N : Net). map N.source (kinds_in (net_of table) objects)) S.tabled.net)

  -- bytes that hold them are the record
  pub record_is : (out : List ℕ) → length out ≡ length (start_record table (kinds_in (net_of table) objects)) → ((i : ℕ) → get_or table i 0 < 256) → ((i : ℕ) → get_or out i 0 < 256)
      → words_of out ≡ record_words table (begun table objects) → out ≡ start_record table (kinds_in (net_of table) objects)
  unfolding start_record
  record_is out size small bytes words =
      let h : length table % 4 ≡ 0 = (table-size table S.tabled.taken).2 in
      let g = S.whole in
      sym (bytes-of-words out (omega (arith, length-words out, record-size)) bytes)
      ∙ ap bytes_of words
      ∙ bytes-encode table (begun table objects) (length table / 4) (omega arith) small

-- the answers, by the tests passed on the way
module _ (table objects lent : List ℕ) where
  abbrev pub Answers : ℕ → List ℕ → Type 0
  Answers n after = (n ≡ start_code table (kinds_in (net_of table) objects) (length lent)) × (after ≡ start_bytes table (kinds_in (net_of table) objects) lent)

  refused : (n : ℕ) → (n ≡ 0 → ⊥) → n ≡ start_code table (kinds_in (net_of table) objects) (length lent) → Answers n lent
  unfolding start_bytes
  refused n h e = (e, rw (ne_eqb (start_code table (kinds_in (net_of table) objects) (length lent)) 0 (λ z. h (e ∙ z))))

  pub register-refused : (n : ℕ) → (n ≡ 0 → ⊥) → n ≡ register_code (net_of table) (kinds_in (net_of table) objects) → Answers n lent
  unfolding start_code
  register-refused n h e = refused n h (e ∙ sym (first-stays (register_tests (net_of table) (kinds_in (net_of table) objects)) ((ltb (length lent) (length (start_record table (kinds_in (net_of table) objects))), 61) ∷ []) (λ z. h (e ∙ z))))

  module _ (ok : register_code (net_of table) (kinds_in (net_of table) objects) ≡ 0) where
    last-test : start_code table (kinds_in (net_of table) objects) (length lent) ≡ pick (ltb (length lent) (length (start_record table (kinds_in (net_of table) objects)))) 61 0
    unfolding start_code
    last-test = first_then (register_tests (net_of table) (kinds_in (net_of table) objects)) ((ltb (length lent) (length (start_record table (kinds_in (net_of table) objects))), 61) ∷ []) ok (omega arith)

    pub no_room : length lent < length (start_record table (kinds_in (net_of table) objects)) → Answers 61 lent
    no_room h = refused 61 (λ z. omega arith) (sym (last-test ∙ rw (lt-ltb (length lent) (length (start_record table (kinds_in (net_of table) objects))) h)))

    pub taken : length (start_record table (kinds_in (net_of table) objects)) ≤ length lent → Answers 0 (over (start_record table (kinds_in (net_of table) objects)) lent)
    unfolding start_bytes
    taken h =
        let e : start_code table (kinds_in (net_of table) objects) (length lent) ≡ 0 = last-test ∙ rw (le-ltb (length lent) (length (start_record table (kinds_in (net_of table) objects))) h) in
        (sym e, rw (eq-eqb (start_code table (kinds_in (net_of table) objects) (length lent)) 0 e))

-- a register that is refused by 11 or 12, and one that is not: then the lent part is shorter than the record, or not
module _ (w table objects lent : List ℕ) (S : Startable w table objects) where
  of_table : register_code (net_in w) (kinds_in (net_in w) objects) ≡ register_code (net_of table) (kinds_in (net_of table) objects)
  of_table = ap (λ (N : Net). register_code N (kinds_in N objects)) S.tabled.net

  pub start-refused : (e : RegisterError) → register_error_code e ≡ register_code (net_in w) (kinds_in (net_in w) objects) → Answers table objects lent (register_error_code e) lent
  start-refused e h = register-refused table objects lent (register_error_code e) (not_zero-law e) (h ∙ of_table)

  module _ (ok : 0 ≡ register_code (net_in w) (kinds_in (net_in w) objects)) where
    pub registered-start : register_code (net_of table) (kinds_in (net_of table) objects) ≡ 0
    registered-start = sym (ok ∙ of_table)

    pub bounded : (length table ≤ max_table) × Registered (net_in w) objects
    bounded = (table-few w table objects S registered-start, register-rows w table objects S registered-start)

    module _ (size : ℕ) (e : size ≡ fresh_bytes (net_in w) (length table) objects) where
      is-size : size ≡ length (start_record table (kinds_in (net_of table) objects))
      is-size = e ∙ sym (record-size w table objects S registered-start)

      pub start-shorter : length lent < size → Answers table objects lent 61 lent
      start-shorter h = no_room table objects lent registered-start (omega (arith, is-size))

      pub exact-room : size ≤ length lent → length (take size lent) ≡ length (start_record table (kinds_in (net_of table) objects))
      exact-room h = length-take-le size lent h ∙ is-size

      pub start-taken : (record_bytes : List ℕ) → size ≤ length lent → record_bytes ≡ start_record table (kinds_in (net_of table) objects) → Answers table objects lent 0 (record_bytes ++ drop size lent)
      start-taken r h q = rw (q, is-size) (taken table objects lent registered-start (omega (arith, is-size)))

-- the same, one clause each
module _ (w table objects lent : List ℕ) (S : Startable w table objects) where
  pub refused_code : (e : RegisterError) → register_error_code e ≡ register_code (net_in w) (kinds_in (net_in w) objects) → register_error_code e ≡ start_code table (kinds_in (net_in w) objects) (length lent)
  refused_code e h = (start-refused w table objects lent S e h).0

  pub refused_bytes : (register_code (net_in w) (kinds_in (net_in w) objects) ≡ 0 → ⊥) → lent ≡ start_bytes table (kinds_in (net_in w) objects) lent
  refused_bytes n = (register-refused table objects lent (register_code (net_in w) (kinds_in (net_in w) objects)) n (of_table w table objects lent S)).1

  module _ (ok : 0 ≡ register_code (net_in w) (kinds_in (net_in w) objects)) where
    pub known : register_code (net_of table) (kinds_in (net_in w) objects) ≡ 0
    known = registered-start w table objects lent S ok

    pub table_few : length table ≤ max_table
    table_few = (bounded w table objects lent S ok).0

    pub rows_few : Registered (net_in w) objects
    rows_few = (bounded w table objects lent S ok).1

    pub short_code : length lent < fresh_bytes (net_in w) (length table) objects → 61 ≡ start_code table (kinds_in (net_in w) objects) (length lent)
    short_code l = (start-shorter w table objects lent S ok (fresh_bytes (net_in w) (length table) objects) refl l).0

    pub short_bytes : length lent < fresh_bytes (net_in w) (length table) objects → lent ≡ start_bytes table (kinds_in (net_in w) objects) lent
    short_bytes l = (start-shorter w table objects lent S ok (fresh_bytes (net_in w) (length table) objects) refl l).1

    pub taken_code : fresh_bytes (net_in w) (length table) objects ≤ length lent → 0 ≡ start_code table (kinds_in (net_in w) objects) (length lent)
    taken_code l = (start-taken w table objects lent S ok (fresh_bytes (net_in w) (length table) objects) refl (start_record table (kinds_in (net_of table) objects)) l refl).0

    module _ (size : ℕ) (e : size ≡ fresh_bytes (net_in w) (length table) objects) where
      pub exact : size ≤ length lent → length (take size lent) ≡ length (start_record table (kinds_in (net_in w) objects))
      exact l = exact-room w table objects lent S ok size e l

      pub taken_bytes : (r : List ℕ) → size ≤ length lent → r ≡ start_record table (kinds_in (net_in w) objects) → r ++ drop size lent ≡ start_bytes table (kinds_in (net_in w) objects) lent
      taken_bytes r l q = (start-taken w table objects lent S ok size e r l q).1

pub ruleset starts = (refused_code, refused_bytes, known, table_few, rows_few, short_code, short_bytes, exact, taken_code, taken_bytes)

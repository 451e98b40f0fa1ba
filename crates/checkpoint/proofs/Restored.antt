-- None of 41 to 47 applies exactly to an intact checkpoint: to bytes that `encode` writes of a table that loads and a
-- sound state. Every event and close keeps a trail intact, also one that no trail could have written. Assumes nothing.
use Prim.Native.Nat.{ℕ, ◌+◌, ◌*◌, ◌/◌, ◌%◌, ◌≤◌, ◌<◌}
use mathlib.Core.Bool.{Bool, true, false, not}
use mathlib.Core.Path.{◌≡◌, refl, ap, sym, ◌∙◌, subst}
use mathlib.Core.List.{List, [], ◌∷◌, ◌++◌}
use native.Mathlib.Omega.{arith}
use lib.ListN.{length, get_or, take, drop, length-take, length-drop}
use lib.Seq.{take_all}
use lib.Dec.{leb, eqb}
use borrow.Author.Tests.{eqb-true, ltb-false, not-false, eq-eqb, le-ltb, le-leb}
use Rattle.words.specs.Words.{word, bytes_of, bodies_of}
use Rattle.words.proofs.Lists.{is_eq, not_eqb, both_true, both_right, All-append}
use Rattle.words.proofs.Refusals.{None, none-apply, first-zero, none-split}
use Rattle.net.specs.Net.{Net, Loaded}
use Rattle.net.specs.Table.{net_of, load_code}
use Rattle.net.proofs.Promise.{table-size}
use Rattle.replay.specs.Plain.{Ask}
use Rattle.replay.specs.Register.{row_size}
use Rattle.replay.specs.State.{ask_s, state_from}
use Rattle.replay.specs.Sound.{Sound}
use Rattle.replay.specs.Record.{counts, counts_size, counts_at, contents, encode, words_from, table_in, state_in, Intact}
use Rattle.replay.specs.Calls.{net_at, state_at, ask_bytes}
use Rattle.replay.proofs.Encode.{Laid, counts-size, encode-le, intact-laid, intact-encode, table-encode, state-encode}
use Rattle.replay.proofs.Calls.{ask-encode}
use Rattle.replay.proofs.Keep.{sound-ask}
use Rattle.checkpoint.specs.Restore.{begins_closed, tests44, tests45, tests46, tests47, restore_tests, restore_code}
use Rattle.checkpoint.proofs.Spans.{Ends, ends-at, at-ends, words-from-length, words-from-bytes, words-from-read, words-head, glue, interleave-parted, parted-length}
use Rattle.checkpoint.proofs.Judged.{sound-registered, sound45, sound46, sound47, judged-sound}
use Rattle.replay.specs.Limits.{max_record, record_bodies, record_head, head_words}

-- the contents of a record that is taken up, and of its counts and jumps bodies the lengths
record Fitted (b : List ℕ) (N : Net) : Type 0 where
  at0 : word b 0 ≡ record_head
  at8 : word b 8 ≡ word b 0 + word b 4
  at16 : word b 16 ≡ word b 8 + word b 12
  at24 : word b 24 ≡ word b 16 + word b 20
  at32 : word b 32 ≡ word b 24 + word b 28
  end : word b 32 + word b 36 ≡ length b
  rows : word b 12 % (4 * row_size N) ≡ 0
  places : word b 20 ≡ word b 12
  counts-are : word b 28 ≡ 4 * counts_size N
  pairs : word b 36 ≡ 4 * (N.places * N.places)

-- the bodies behind a net's table in such a record
module _ (b : List ℕ) (N : Net) (F : Fitted b N) where
  kinds-length : length (state_in N b).kinds ≡ word b 12 / 4
  unfolding state_in
  kinds-length = words-from-length b (word b 8) (word b 12 / 4) (omega arith)

  places-length : length (state_in N b).places ≡ word b 20 / 4
  unfolding state_in
  places-length = words-from-length b (word b 16) (word b 20 / 4) (omega arith)

  counts-length : length (words_from b (word b 24) (counts_size N)) ≡ counts_size N
  counts-length = words-from-length b (word b 24) (counts_size N) (omega arith)

  pairs-length : length (state_in N b).pairs ≡ N.places * N.places
  unfolding state_in
  pairs-length = words-from-length b (word b 32) (N.places * N.places) (omega arith)

  rows-length : (length (state_in N b).fired ≡ N.acts) × (length (state_in N b).jumps ≡ N.acts)
  unfolding state_in
  rows-length = parted-length N.acts (drop 3 (words_from b (word b 24) (counts_size N))) (simp length-drop (omega (arith, counts-length)))

  closed_is : (state_in N b).closed ≡ word b (word b 24)
  unfolding state_in
  closed_is = words-head b (word b 24) (counts_size N) (omega arith) (omega arith)

  table-length : length (table_in b) ≡ word b 4
  unfolding table_in
  table-length = simp (length-take, length-drop) (omega arith)

  counts_whole : counts (state_in N b) ≡ words_from b (word b 24) (counts_size N)
  unfolding state_in
  counts_whole = go (words_from b (word b 24) (counts_size N)) counts-length
    where
      go : (cs : List ℕ) → length cs ≡ counts_size N → counts (state_from [] [] cs []) ≡ cs
      go [] e = absurd (omega arith)
      go (x ∷ []) e = absurd (omega arith)
      go (x ∷ y ∷ []) e = absurd (omega arith)
      go (x ∷ y ∷ z ∷ r) e = ap (λ (l : List ℕ). x ∷ y ∷ z ∷ l) (interleave-parted N.acts r (omega arith))

  contents-are : contents (table_in b) (state_in N b) ≡ words_from b 0 head_words
  contents-are =
      let t = table-length in let k = kinds-length in let p = places-length in let j = pairs-length in
      let c : length (counts (state_in N b)) ≡ counts_size N = ap length counts_whole ∙ counts-length in
      ten _ _ _ _ _ _ _ _ _ _ _ _ _ _ _ _ _ _ _ _ (omega arith) (omega arith) (omega arith) (omega arith) (omega arith) (omega arith) (omega arith) (omega arith) (omega arith) (omega arith)
      ∙ sym (words-from-read b head_words 0 (omega arith))
    where
      ten : (a0 a1 a2 a3 a4 a5 a6 a7 a8 a9 b0 b1 b2 b3 b4 b5 b6 b7 b8 b9 : ℕ) → a0 ≡ b0 → a1 ≡ b1 → a2 ≡ b2 → a3 ≡ b3 → a4 ≡ b4 → a5 ≡ b5 → a6 ≡ b6 → a7 ≡ b7 → a8 ≡ b8 → a9 ≡ b9
          → ◌≡◌ {A = List ℕ} (a0 ∷ a1 ∷ a2 ∷ a3 ∷ a4 ∷ a5 ∷ a6 ∷ a7 ∷ a8 ∷ a9 ∷ []) (b0 ∷ b1 ∷ b2 ∷ b3 ∷ b4 ∷ b5 ∷ b6 ∷ b7 ∷ b8 ∷ b9 ∷ [])
      ten a0 a1 a2 a3 a4 a5 a6 a7 a8 a9 b0 b1 b2 b3 b4 b5 b6 b7 b8 b9 e0 e1 e2 e3 e4 e5 e6 e7 e8 e9 = cc

  -- written again, the record has the same bytes
  again : ((i : ℕ) → get_or b i 0 < 256) → encode (table_in b) (state_in N b) ≡ b
  unfolding encode table_in state_in
  again small = cc (h, k, p, c, j) ∙ all
    where
      h : bytes_of (contents (table_in b) (state_in N b)) ≡ take record_head (drop 0 b)
      h = ap bytes_of contents-are ∙ words-from-bytes b 0 head_words (omega arith) small record_head refl

      k : bytes_of (state_in N b).kinds ≡ take (word b 12) (drop (word b 8) b)
      k = words-from-bytes b (word b 8) (word b 12 / 4) (omega arith) small (word b 12) (omega arith)

      p : bytes_of (state_in N b).places ≡ take (word b 20) (drop (word b 16) b)
      p = words-from-bytes b (word b 16) (word b 20 / 4) (omega arith) small (word b 20) (omega arith)

      c : bytes_of (counts (state_in N b)) ≡ take (word b 28) (drop (word b 24) b)
      c = ap bytes_of counts_whole ∙ words-from-bytes b (word b 24) (counts_size N) (omega arith) small (word b 28) F.counts-are

      j : bytes_of (state_in N b).pairs ≡ take (word b 36) (drop (word b 32) b)
      j = words-from-bytes b (word b 32) (N.places * N.places) (omega arith) small (word b 36) F.pairs

      to : {i k : ℕ} → k ≡ i → drop k b ≡ drop i b
      to e = ap (λ (i : ℕ). drop i b) e

      all : take record_head (drop 0 b) ++ (take (word b 4) (drop (word b 0) b) ++ (take (word b 12) (drop (word b 8) b) ++ (take (word b 20) (drop (word b 16) b) ++ (take (word b 28) (drop (word b 24) b) ++ take (word b 36) (drop (word b 32) b))))) ≡ b
      all = glue b 0 record_head _ (glue b (word b 0) (word b 4) _ (glue b (word b 8) (word b 12) _ (glue b (word b 16) (word b 20) _ (glue b (word b 24) (word b 28) _
          (take_all (word b 36) (drop (word b 32) b) (simp length-drop (omega arith)) ∙ to F.at32) ∙ to F.at24) ∙ to F.at16) ∙ to F.at8) ∙ to F.at0)

-- whether the counts body of a record begins with a 1, and the tests of its bodies
abbrev closed_in : List ℕ → Bool
closed_in b = begins_closed (word b 28) (word b (word b 24))

abbrev own44 : List ℕ → List (Bool × ℕ)
own44 b = tests44 (net_at b) (state_at b) (word b 12)

abbrev own45 : List ℕ → List (Bool × ℕ)
own45 b = tests45 (net_at b) (state_at b) (word b 20) (closed_in b)

abbrev own46 : List ℕ → List (Bool × ℕ)
own46 b = tests46 (net_at b) (state_at b) (word b 28)

abbrev own47 : List ℕ → List (Bool × ℕ)
own47 b = tests47 (net_at b) (state_at b) (word b 36)

-- a record to which none of 41 to 47 applies
module _ (b : List ℕ) (z : restore_code b ≡ 0) where
  passed : None (restore_tests b)
  unfolding restore_code
  passed = none-apply (restore_tests b) (omega arith) z

  ends : Ends b 0 record_head record_bodies (length b)
  unfolding bodies_of
  ends = ends-at b record_bodies 0 record_head (length b) (not-false _ passed.1.1.0)

  pub restored-le : length b ≤ max_record
  restored-le = ltb-false max_record (length b) passed.1.0

  pub restored-loads : load_code (table_in b) ≡ 0
  restored-loads = is_eq _ _ passed.1.1.1.0

  passed44 : None (own44 b)
  passed44 = (passed.1.1.1.1.0, (passed.1.1.1.1.1.0, tt))

  passed45 : None (own45 b) × None (own46 b ++ own47 b)
  passed45 = none-split (own45 b) (own46 b ++ own47 b) passed.1.1.1.1.1.1

  passed46 : None (own46 b) × None (own47 b)
  passed46 = none-split (own46 b) (own47 b) passed45.1

  fitted : Fitted b (net_at b)
  unfolding state_at state_in
  fitted =
      let e = ends in
      let r : word b 12 % (4 * row_size (net_at b)) ≡ 0 = is_eq _ _ passed44.0 in
      let p : word b 20 ≡ 4 * length (state_at b).kinds = is_eq _ _ passed45.0.0 in
      let k : length (state_at b).kinds ≡ word b 12 / 4 = words-from-length b (word b 8) (word b 12 / 4) (omega arith) in
      record {
        at0 = omega arith;
        at8 = omega arith;
        at16 = omega arith;
        at24 = omega arith;
        at32 = omega arith;
        end = omega arith;
        rows = r;
        places = omega arith;
        counts-are = is_eq _ _ passed46.0.0;
        pairs = is_eq _ _ passed46.1.0;
      }

  pub restored-sound : Sound (net_at b) (state_in (net_at b) b)
  unfolding state_at
  restored-sound =
      let F = fitted in
      judged-sound (net_at b) (state_at b) (word b 20) (word b 28) (word b 36) (closed_in b) (is_eq _ _ passed44.1.0) passed45.0 passed46.0 passed46.1
      (omega (arith, places-length b (net_at b) F))
      (λ c. both_true _ _ (le-leb 4 (word b 28) (omega arith)) (eq-eqb (word b (word b 24)) 1 (sym (closed_is b (net_at b) F) ∙ c)))
      (rows-length b (net_at b) F).0 (rows-length b (net_at b) F).1 (pairs-length b (net_at b) F)

-- What is taken up is sound, and written again at once it has the same bytes.
pub restore-intact : (b : List ℕ) → ((i : ℕ) → get_or b i 0 < 256) → restore_code b ≡ 0 → (load_code (table_in b) ≡ 0) × Intact (net_at b) b
restore-intact b small z =
    (restored-loads b z, record { bytes = sym (again b (net_at b) (fitted b z) small); sound = restored-sound b z; table-size = (table-size (table_in b) (restored-loads b z)).1 })

none-join : (xs ys : List (Bool × ℕ)) → None xs → None ys → None (xs ++ ys)
none-join = All-append (λ (t : Bool × ℕ). t.0 ≡ false)

-- an intact record of a table that loads
module _ (b : List ℕ) (L : Loaded (net_at b)) (I : Intact (net_at b) b) where
  placed : Laid b (table_in b) (state_at b)
  unfolding state_at
  placed = intact-laid (net_at b) L b I

  stored-sound : Sound (net_at b) (state_at b)
  unfolding state_at
  stored-sound = I.sound

  size-le : length b ≤ max_record
  unfolding state_at
  size-le = subst (λ (c : List ℕ). length c ≤ max_record) (sym I.bytes) (encode-le (net_at b) L (table_in b) (state_at b) stored-sound I.table-size)

  ends_there : Ends b 0 record_head record_bodies (length b)
  ends_there = let X = placed in (omega arith, (omega arith, (omega arith, (omega arith, (omega arith, omega arith)))))

  counts-fit : length (counts (state_at b)) ≡ counts_size (net_at b)
  counts-fit = counts-size (net_at b) (state_at b) stored-sound

  begins : closed_in b ≡ true → (state_at b).closed ≡ 1
  begins e =
      let X = placed in
      ap (λ (l : List ℕ). get_or l 0 0) (sym X.counts-are) ∙ words-head b (counts_at (table_in b) (state_at b)) (length (counts (state_at b))) (omega arith) (omega arith)
      ∙ ap (word b) (sym X.counts-at) ∙ eqb-true _ _ (both_right (leb 4 (word b 28)) (eqb (word b (word b 24)) 1) e)

  none-applies : load_code (table_in b) ≡ 0 → None (restore_tests b)
  unfolding bodies_of
  none-applies z =
      let X = placed in let S = stored-sound in
      let p : word b 20 ≡ 4 * length (state_at b).kinds = omega (arith, S.on.size) in (
        le-ltb (length b) 40 (omega arith),
        (
          le-ltb max_record (length b) size-le,
          (
            ap not (at-ends b record_bodies 0 record_head (length b) ends_there),
            (
              not_eqb _ _ z,
              (
                not_eqb (word b 12 % (4 * row_size (net_at b))) 0 (omega arith),
                (
                  not_eqb _ _ (sound-registered (net_at b) (state_at b) S),
                  none-join (own45 b) (own46 b ++ own47 b) (sound45 (net_at b) (state_at b) S (word b 20) (closed_in b) p begins)
                      (none-join (own46 b) (own47 b) (sound46 (net_at b) (state_at b) S (word b 28) (omega (arith, counts-fit)))
                      (sound47 (net_at b) (state_at b) S (word b 36) (omega (arith, S.pairs-size)))),
                ),
              ),
            ),
          ),
        ),
      )

-- None of 41 to 47 applies to it.
pub intact-restores : (b : List ℕ) → Loaded (net_at b) → load_code (table_in b) ≡ 0 → Intact (net_at b) b → restore_code b ≡ 0
unfolding restore_code
intact-restores b L z I = first-zero (restore_tests b) (none-applies b L I z)

-- It stays intact, with the same table, and its state follows the rules from where it stood.
module _ (b : List ℕ) (L : Loaded (net_at b)) (I : Intact (net_at b) b) (q : Ask) where
  next-sound : Sound (net_at b) (ask_s (net_at b) (state_at b) q)
  next-sound = sound-ask (net_at b) L (state_at b) (stored-sound b L I) q

  pub stays-intact : Intact (net_at b) (ask_bytes b q)
  stays-intact = rw (ask-encode b I q) (intact-encode (net_at b) L (table_in b) (ask_s (net_at b) (state_at b) q) next-sound I.table-size)

  pub table_stays : table_in (ask_bytes b q) ≡ table_in b
  table_stays = ap table_in (ask-encode b I q) ∙ table-encode (net_at b) L (table_in b) (ask_s (net_at b) (state_at b) q) next-sound I.table-size

  pub net-stays : net_at (ask_bytes b q) ≡ net_at b
  unfolding net_at
  net-stays = ap net_of table_stays

  pub state-follows : state_at (ask_bytes b q) ≡ ask_s (net_at b) (state_at b) q
  unfolding state_at
  state-follows = ap (λ (n : Net). state_in n (ask_bytes b q)) net-stays ∙ ap (state_in (net_at b)) (ask-encode b I q)
      ∙ state-encode (net_at b) L (table_in b) (ask_s (net_at b) (state_at b) q) next-sound I.table-size

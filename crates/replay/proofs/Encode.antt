-- A checkpoint's bytes, read again, are the table and the state that were written. Assumes nothing.
use Prim.Native.Nat.{ℕ, zero, suc, ◌+◌, ◌*◌, ◌/◌, ◌≤◌, ◌<◌, ◌^◌}
use mathlib.Core.Path.{◌≡◌, refl, ap, ap₂, sym, ◌∙◌, subst}
use mathlib.Core.List.{List, [], ◌∷◌, ◌++◌, append_assoc, append-nil}
use native.Mathlib.Omega.{arith}
use native.Mathlib.Nat.{mul-le-mul_left, mul-le-mul}
use lib.ListN.{length, get_or, take, drop, length-append, get_or-append}
use lib.Seq.{drop-drop, drop-append_seam, take-append_seam}
use Rattle.words.specs.Lists.{All}
use Rattle.words.specs.Words.{joined, word, words_of, bytes_of}
use Rattle.words.proofs.Lists.{All-to, All-of}
use Rattle.words.proofs.Sums.{sum_to-le, sum_to-mul, term-le}
use Rattle.words.proofs.Words.{words-get, length-words, length-bytes, words-of-bytes-then, words-of-bytes, bytes-of-words, bytes-append}
use Rattle.net.specs.Net.{Net, Loaded}
use Rattle.replay.specs.State.{State, state_from, with_fired, with_jumps}
use Rattle.replay.specs.Sound.{Sound}
use Rattle.replay.specs.Record.{counts, counts_size, kinds_at, places_at, counts_at, pairs_at, record_size, contents, encode, record_words, words_from, table_in, state_in, Intact}
use Rattle.replay.proofs.Accepted.{closers-length}
use Rattle.replay.proofs.Interleave.{length-interleave, All-interleave, evens-interleave, odds-interleave}
use Rattle.net.specs.Limits.{max_table}
use Rattle.replay.specs.Limits.{max_record, record_head}

-- a number of 32 bits
abbrev pub Fits : ℕ → Type 0
Fits w = w < 2 ^ 32

-- `seg` stands in `b` from byte i on
record Seg (b : List ℕ) (i : ℕ) (seg : List ℕ) : Type 0 where
  rest : List ℕ
  eq : drop i b ≡ seg ++ rest

seg_all : (b : List ℕ) → Seg b 0 b
seg_all b = record { rest = []; eq = sym (append-nil b) }

seg-left : {b : List ℕ} {i : ℕ} (x y : List ℕ) → Seg b i (x ++ y) → Seg b i x
seg-left x y s = record { rest = y ++ s.rest; eq = s.eq ∙ append_assoc x y s.rest }

seg-right : {b : List ℕ} {i : ℕ} (x y : List ℕ) → Seg b i (x ++ y) → Seg b (i + length x) y
seg-right {b} {i} x y s = record { rest = s.rest; eq = sym (drop-drop (length x) i b) ∙ ap (drop (length x)) (s.eq ∙ append_assoc x y s.rest) ∙ drop-append_seam x (y ++ s.rest) }

seg-next : {b : List ℕ} {i : ℕ} (ws r : List ℕ) → Seg b i (bytes_of ws ++ r) → Seg b (i + 4 * length ws) r
seg-next ws r s = rw length-bytes at (seg-right (bytes_of ws) r s)

seg-words : {b : List ℕ} {i : ℕ} (ws : List ℕ) → Seg b i (bytes_of ws) → All Fits ws → words_from b i (length ws) ≡ ws
unfolding words_from
seg-words ws s a = ap (λ (l : List ℕ). take (length ws) (words_of l)) s.eq ∙ ap (take (length ws)) (words-of-bytes-then ws s.rest a) ∙ take-append_seam ws (words_of s.rest)

seg-take : {b : List ℕ} {i : ℕ} (x : List ℕ) → Seg b i x → take (length x) (drop i b) ≡ x
seg-take x s = ap (take (length x)) s.eq ∙ take-append_seam x s.rest

-- the numbers at the front of some bytes
front-word : (ws r : List ℕ) (i : ℕ) → All Fits ws → i < length ws → word (bytes_of ws ++ r) (4 * i) ≡ get_or ws i 0
front-word ws r i a h =
    let e = words-of-bytes-then ws r a in
    words-get (bytes_of ws ++ r) i (rw (e, length-append) (omega arith)) ∙ ap (λ (l : List ℕ). get_or l i 0) e ∙ get_or-append ws (words_of r) 0 i h

-- every number of a sound state fits 32 bits
module _ (N : Net) (L : Loaded N) (d : State) (S : Sound N d) where
  pub fit-kinds : All Fits d.kinds
  fit-kinds = All-to (λ (k : ℕ). k < N.kinds) Fits (λ k h. omega (arith, L.kinds-le)) d.kinds S.kinds

  pub fit-places : All Fits d.places
  fit-places = All-of Fits 0 d.places (λ o h. omega (arith, (S.on.at o (omega (arith, S.on.size))).0, L.places-le))

  pub fired-le : (a : ℕ) → a < N.acts → get_or d.fired a 0 ≤ 1000000
  fired-le a h = omega (arith, term-le N.acts (λ (a : ℕ). get_or d.fired a 0) a h, S.fired-sum, S.events)

  jumps-eight : (a : ℕ) → a < N.acts → get_or d.jumps a 0 ≤ get_or d.fired a 0 * 8
  jumps-eight a h = omega (arith, S.jumps-le a h, mul-le-mul_left (get_or d.fired a 0) (L.arcs-le a h))

  pub jumps-le : (a : ℕ) → a < N.acts → get_or d.jumps a 0 ≤ 8000000
  jumps-le a h = omega (arith, jumps-eight a h, fired-le a h)

  pub closing-few : d.closing ≤ 1024
  closing-few = omega (arith, S.closing-le, closers-length d.kinds, S.few)

  pub pairs-le : (i : ℕ) → i < N.places * N.places → get_or d.pairs i 0 ≤ 8001024
  pairs-le i h = omega (
    arith,
    term-le (N.places * N.places) (λ (i : ℕ). get_or d.pairs i 0) i h,
    S.pair-sum,
    closing-few,
    sum_to-le N.acts (λ (a : ℕ). get_or d.jumps a 0) (λ (a : ℕ). get_or d.fired a 0 * 8) jumps-eight,
    sum_to-mul N.acts 8 (λ (a : ℕ). get_or d.fired a 0),
    S.fired-sum,
    S.events,
  )

  pub fit-counts : All Fits (counts d)
  fit-counts = (
    omega (arith, S.flag),
    (
      omega (arith, S.events),
      (
        omega (arith, closing-few),
        All-interleave Fits d.fired d.jumps
            (All-of Fits 0 d.fired (λ a h. omega (arith, fired-le a (omega (arith, S.fired-size)))))
            (All-of Fits 0 d.jumps (λ a h. omega (arith, jumps-le a (omega (arith, S.jumps-size))))),
      ),
    ),
  )

  pub fit-pairs : All Fits d.pairs
  fit-pairs = All-of Fits 0 d.pairs (λ i h. omega (arith, pairs-le i (omega (arith, S.pairs-size))))

pub counts-size : (N : Net) (d : State) → Sound N d → length (counts d) ≡ counts_size N
counts-size N d S = omega (arith, length-interleave d.fired d.jumps (S.fired-size ∙ sym S.jumps-size), S.fired-size)

-- what stands where in a checkpoint of the table and the state
pub record Laid (b table : List ℕ) (d : State) : Type 0 where
  pub table_at : word b 0 ≡ record_head
  pub table-len : word b 4 ≡ length table
  pub kinds-at : word b 8 ≡ kinds_at table d
  pub kinds-len : word b 12 ≡ 4 * length d.kinds
  pub places-at : word b 16 ≡ places_at table d
  pub places-len : word b 20 ≡ 4 * length d.places
  pub counts-at : word b 24 ≡ counts_at table d
  pub counts-len : word b 28 ≡ 4 * length (counts d)
  pub pairs-at : word b 32 ≡ pairs_at table d
  pub pairs_len : word b 36 ≡ 4 * length d.pairs
  pub size : length b ≡ record_size table d
  pub table_is : take (length table) (drop record_head b) ≡ table
  pub kinds-are : words_from b (kinds_at table d) (length d.kinds) ≡ d.kinds
  pub places-are : words_from b (places_at table d) (length d.places) ≡ d.places
  pub counts-are : words_from b (counts_at table d) (length (counts d)) ≡ counts d
  pub pairs-are : words_from b (pairs_at table d) (length d.pairs) ≡ d.pairs

pub square : (n : ℕ) → n ≤ 64 → n * n ≤ 4096
square n h = omega (arith, mul-le-mul h h)

four : (n : ℕ) → 4 * n / 4 ≡ n
four n = omega arith

module _ (N : Net) (L : Loaded N) (table : List ℕ) (d : State) (S : Sound N d) (T : length table ≤ max_table) where
  fit-contents : All Fits (contents table d)
  fit-contents = let k = S.few in let p = S.on.size in let c = counts-size N d S in let j = S.pairs-size in let a = L.acts-le in let q = square N.places L.places-le in omega arith

  pub laid : Laid (encode table d) table d
  unfolding encode
  laid = record {
    table_at = front-word h r0 0 fit-contents (omega arith);
    table-len = front-word h r0 1 fit-contents (omega arith);
    kinds-at = front-word h r0 2 fit-contents (omega arith);
    kinds-len = front-word h r0 3 fit-contents (omega arith);
    places-at = front-word h r0 4 fit-contents (omega arith);
    places-len = front-word h r0 5 fit-contents (omega arith);
    counts-at = front-word h r0 6 fit-contents (omega arith);
    counts-len = front-word h r0 7 fit-contents (omega arith);
    pairs-at = front-word h r0 8 fit-contents (omega arith);
    pairs_len = front-word h r0 9 fit-contents (omega arith);
    size = simp (length-append, length-bytes) (omega arith);
    table_is = seg-take table (seg-left table r1 s1);
    kinds-are = seg-words d.kinds (seg-left (bytes_of d.kinds) r2 s2) (fit-kinds N L d S);
    places-are = seg-words d.places (seg-left (bytes_of d.places) r3 s3) (fit-places N L d S);
    counts-are = seg-words (counts d) (seg-left (bytes_of (counts d)) r4 s4) (fit-counts N L d S);
    pairs-are = seg-words d.pairs s5 (fit-pairs N L d S);
  }
    where
      h : List ℕ
      h = contents table d

      r4 : List ℕ
      r4 = bytes_of d.pairs

      r3 : List ℕ
      r3 = bytes_of (counts d) ++ r4

      r2 : List ℕ
      r2 = bytes_of d.places ++ r3

      r1 : List ℕ
      r1 = bytes_of d.kinds ++ r2

      r0 : List ℕ
      r0 = table ++ r1

      s1 : Seg (bytes_of h ++ r0) record_head r0
      s1 = seg-next h r0 (seg_all (bytes_of h ++ r0))

      s2 : Seg (bytes_of h ++ r0) (kinds_at table d) r1
      s2 = seg-right table r1 s1

      s3 : Seg (bytes_of h ++ r0) (places_at table d) r2
      s3 = seg-next d.kinds r2 s2

      s4 : Seg (bytes_of h ++ r0) (counts_at table d) r3
      s4 = seg-next d.places r3 s3

      s5 : Seg (bytes_of h ++ r0) (pairs_at table d) r4
      s5 = seg-next (counts d) r4 s4

  pub encode-le : length (encode table d) ≤ max_record
  encode-le = omega (arith, laid.size, S.few, S.on.size, counts-size N d S, S.pairs-size, L.acts-le, square N.places L.places-le)

  -- what was written is read again
  pub table-encode : table_in (encode table d) ≡ table
  unfolding table_in
  table-encode = ap₂ (λ (n i : ℕ). take n (drop i (encode table d))) laid.table-len laid.table_at ∙ laid.table_is

  from-bodies : state_from d.kinds d.places (counts d) d.pairs ≡ d
  from-bodies = ap₂ {C = State} (λ (f j : List ℕ). with_jumps (with_fired d f) j)
      (evens-interleave d.fired d.jumps (S.fired-size ∙ sym S.jumps-size)) (odds-interleave d.fired d.jumps (S.fired-size ∙ sym S.jumps-size))

  pub state-encode : state_in N (encode table d) ≡ d
  unfolding state_in
  state-encode = cc (k, p, c, j) ∙ from-bodies
    where
      b : List ℕ
      b = encode table d

      k : words_from b (word b 8) (word b 12 / 4) ≡ d.kinds
      k = ap₂ (λ (i n : ℕ). words_from b i n) laid.kinds-at (ap (λ (n : ℕ). n / 4) laid.kinds-len ∙ four (length d.kinds)) ∙ laid.kinds-are

      p : words_from b (word b 16) (word b 20 / 4) ≡ d.places
      p = ap₂ (λ (i n : ℕ). words_from b i n) laid.places-at (ap (λ (n : ℕ). n / 4) laid.places-len ∙ four (length d.places)) ∙ laid.places-are

      c : words_from b (word b 24) (counts_size N) ≡ counts d
      c = ap₂ (λ (i n : ℕ). words_from b i n) laid.counts-at (sym (counts-size N d S)) ∙ laid.counts-are

      j : words_from b (word b 32) (N.places * N.places) ≡ d.pairs
      j = ap₂ (λ (i n : ℕ). words_from b i n) laid.pairs-at (sym S.pairs-size) ∙ laid.pairs-are

  pub intact-encode : Intact N (encode table d)
  intact-encode = record {
    bytes = sym (ap₂ encode table-encode state-encode);
    sound = subst (Sound N) (sym state-encode) S;
    table-size = rw table-encode T;
  }

-- an intact checkpoint has its parts where its contents say
pub intact-laid : (N : Net) → Loaded N → (b : List ℕ) → Intact N b → Laid b (table_in b) (state_in N b)
intact-laid N L b I = subst (λ (c : List ℕ). Laid c (table_in b) (state_in N b)) (sym I.bytes) (laid N L (table_in b) (state_in N b) I.sound I.table-size)

words_append : (n : ℕ) (s r : List ℕ) → length s ≡ 4 * n → words_of (s ++ r) ≡ words_of s ++ words_of r
unfolding words_of
words_append zero [] r e = refl
words_append (suc n) [] r e = absurd (omega arith)
words_append n (a ∷ []) r e = absurd (omega arith)
words_append n (a ∷ (b ∷ [])) r e = absurd (omega arith)
words_append n (a ∷ (b ∷ (c ∷ []))) r e = absurd (omega arith)
words_append zero (a ∷ (b ∷ (c ∷ (d ∷ s)))) r e = absurd (omega arith)
words_append (suc n) (a ∷ (b ∷ (c ∷ (d ∷ s)))) r e = ap (λ (l : List ℕ). joined a b c d ∷ l) (words_append n s r (omega arith))

module _ (table : List ℕ) (d : State) (n : ℕ) (whole : length table ≡ 4 * n) where
  -- the numbers of a checkpoint's bytes
  pub words-encode : (N : Net) → Loaded N → Sound N d → length table ≤ max_table → words_of (encode table d) ≡ record_words table d
  unfolding encode
  words-encode N L S T =
      words-of-bytes-then (contents table d) _ (fit-contents N L table d S T)
      ∙ ap (λ (l : List ℕ). contents table d ++ l) (words_append n table _ whole
      ∙ ap (λ (l : List ℕ). words_of table ++ l) (words-of-bytes-then d.kinds _ (fit-kinds N L d S)
      ∙ ap (λ (l : List ℕ). d.kinds ++ l) (words-of-bytes-then d.places _ (fit-places N L d S)
      ∙ ap (λ (l : List ℕ). d.places ++ l) (words-of-bytes-then (counts d) _ (fit-counts N L d S)
      ∙ ap (λ (l : List ℕ). counts d ++ l) (words-of-bytes d.pairs (fit-pairs N L d S))))))

  -- and the bytes of its numbers
  pub bytes-encode : ((i : ℕ) → get_or table i 0 < 256) → bytes_of (record_words table d) ≡ encode table d
  unfolding encode
  bytes-encode small = simp (bytes-append, bytes-of-words table (omega (arith, length-words table)) small)

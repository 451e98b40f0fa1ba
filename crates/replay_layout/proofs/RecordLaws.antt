-- A desk record as four-byte numbers: where each one stands, reading one, and writing one. Assumes nothing.
use Prim.Native.Nat.{ℕ, zero, suc, ◌+◌, ◌-◌, ◌*◌, ◌/◌, ◌≤◌, ◌<◌}
use mathlib.Core.Path.{◌≡◌, refl, ap, sym, ◌∙◌, subst}
use mathlib.Core.List.{List, [], ◌∷◌, ◌++◌}
use native.Mathlib.Omega.{arith}
use native.Mathlib.Nat.{mul-le-mul}
use lib.ListN.{length, get_or, set, take, drop, length-append, length-set, get_or-append}
use lib.Seq.{get_or-append-add, set-append_left, get_or-drop}
use Rattle.std.proofs.lemmas.List.{set-append_right}
use Rattle.words.specs.Words.{word, words_of, bytes_of}
use Rattle.words.proofs.Words.{length-words, bytes-of-words}
use Rattle.net.specs.Net.{Net, Loaded}
use Rattle.net.specs.Held.{net_in}
use Rattle.net.proofs.HeldLaws.{held-loaded}
use Rattle.replay_layout.specs.declared.Layout.{Layout}
use Rattle.replay.specs.State.{State, with_places, with_closed, with_events, with_closing, with_fired, with_jumps, with_pairs, pair_index, stored_pair}
use Rattle.replay.specs.Sound.{Sound}
use Rattle.replay.specs.Record.{interleave, counts, counts_size, encode, record_words, table_in, state_in}
use Rattle.replay.specs.Calls.{net_at, state_at}
use Rattle.replay_layout.specs.Offsets.{layout_of, kind_at, place_at, closed_at, events_at, closing_at, fired_at, jumps_at, pair_at}
use Rattle.replay.specs.Ready.{Ready}
use Rattle.replay.proofs.Interleave.{length-interleave, interleave-even, interleave-odd, interleave-set-even, interleave-set-odd}
use Rattle.replay.proofs.Encode.{Laid, intact-laid, counts-size, words-encode, bytes-encode}
use Rattle.net.specs.Limits.{max_table}
use Rattle.replay.specs.Limits.{max_words, record_head, head_words}

-- l is the layout of a record of a table and the state d, of the net N: how large the parts are, and what follows what
pub record Placed (N : Net) (table : List ℕ) (l : Layout) (d : State) : Type 0 where
  pub register-at : head_words + length (words_of table) ≡ l.register
  pub positions-at : kind_at N l l.objects ≡ l.positions
  pub counts-at : place_at l l.objects ≡ l.counts
  pub pairs-at : l.counts + counts_size N ≡ l.pairs
  pub places-are : l.places ≡ N.places
  pub kinds-size : length d.kinds ≡ l.objects
  pub places-size : length d.places ≡ l.objects
  pub fired-size : length d.fired ≡ N.acts
  pub jumps-size : length d.jumps ≡ N.acts
  pub pairs-size : length d.pairs ≡ l.places * l.places
  pub table-few : length (words_of table) ≤ max_table / 4
  pub objects-few : l.objects ≤ 1024
  pub acts-few : N.acts ≤ 64
  pub places-few : l.places ≤ 64

-- it is the layout also of a state whose parts are as large
pub placed_same : (N : Net) (table : List ℕ) (l : Layout) (d e : State) → Placed N table l d
    → length e.kinds ≡ length d.kinds → length e.places ≡ length d.places → length e.fired ≡ length d.fired → length e.jumps ≡ length d.jumps → length e.pairs ≡ length d.pairs
    → Placed N table l e
placed_same N table l d e P k p f j q = record {
  register-at = P.register-at;
  positions-at = P.positions-at;
  counts-at = P.counts-at;
  pairs-at = P.pairs-at;
  places-are = P.places-are;
  kinds-size = k ∙ P.kinds-size;
  places-size = p ∙ P.places-size;
  fired-size = f ∙ P.fired-size;
  jumps-size = j ∙ P.jumps-size;
  pairs-size = q ∙ P.pairs-size;
  table-few = P.table-few;
  objects-few = P.objects-few;
  acts-few = P.acts-few;
  places-few = P.places-few;
}

-- past the first of two lists
past : (xs ys : List ℕ) (m i : ℕ) → m ≡ length xs + i → get_or (xs ++ ys) m 0 ≡ get_or ys i 0
past xs ys m i e = rw e (get_or-append-add xs ys i 0)

set_past : (xs ys : List ℕ) (m i v : ℕ) → m ≡ length xs + i → set (xs ++ ys) m v ≡ xs ++ set ys i v
set_past xs ys m i v e = set-append_right xs ys (length xs) m v refl (omega arith) ∙ ap (λ (k : ℕ). xs ++ set ys k v) {x = m - length xs} {y = i} (omega arith)

-- four bodies behind the contents and the table
abbrev front : ℕ → ℕ → ℕ → ℕ → ℕ → List ℕ
front t k p c j = record_head ∷ t ∷ (record_head + t) ∷ 4 * k ∷ (record_head + t + 4 * k) ∷ 4 * p ∷ (record_head + t + 4 * k + 4 * p) ∷ 4 * c ∷ (record_head + t + 4 * k + 4 * p + 4 * c) ∷ 4 * j ∷ []

abbrev four : List ℕ → List ℕ → List ℕ → List ℕ → List ℕ → List ℕ
four table ks ps cs js = front (length table) (length ks) (length ps) (length cs) (length js) ++ (words_of table ++ (ks ++ (ps ++ (cs ++ js))))

module _ (table ks ps cs js : List ℕ) where
  abbrev head : List ℕ
  head = front (length table) (length ks) (length ps) (length cs) (length js)

  four-size : length (four table ks ps cs js) ≡ head_words + length (words_of table) + length ks + length ps + length cs + length js
  four-size = simp length-append (omega arith)

  -- what stands behind the contents, the table, the first and the second body
  abbrev r3 : List ℕ
  r3 = cs ++ js

  abbrev r2 : List ℕ
  r2 = ps ++ r3

  abbrev r1 : List ℕ
  r1 = ks ++ r2

  abbrev r0 : List ℕ
  r0 = words_of table ++ r1

  at-ks : (m o : ℕ) → m ≡ head_words + length (words_of table) + o → o < length ks → get_or (four table ks ps cs js) m 0 ≡ get_or ks o 0
  at-ks m o e h = past head r0 m (length (words_of table) + o) (omega arith) ∙ past (words_of table) r1 _ o refl ∙ get_or-append ks r2 0 o h

  at_ps : (m o : ℕ) → m ≡ head_words + length (words_of table) + length ks + o → o < length ps → get_or (four table ks ps cs js) m 0 ≡ get_or ps o 0
  at_ps m o e h = past head r0 m (length (words_of table) + (length ks + o)) (omega arith) ∙ past (words_of table) r1 _ (length ks + o) refl ∙ past ks r2 _ o refl ∙ get_or-append ps r3 0 o h

  at-cs : (m o : ℕ) → m ≡ head_words + length (words_of table) + length ks + length ps + o → o < length cs → get_or (four table ks ps cs js) m 0 ≡ get_or cs o 0
  at-cs m o e h =
      past head r0 m (length (words_of table) + (length ks + (length ps + o))) (omega arith) ∙ past (words_of table) r1 _ (length ks + (length ps + o)) refl
      ∙ past ks r2 _ (length ps + o) refl ∙ past ps r3 _ o refl ∙ get_or-append cs js 0 o h

  at-js : (m o : ℕ) → m ≡ head_words + length (words_of table) + length ks + length ps + length cs + o → get_or (four table ks ps cs js) m 0 ≡ get_or js o 0
  at-js m o e =
      past head r0 m (length (words_of table) + (length ks + (length ps + (length cs + o)))) (omega arith) ∙ past (words_of table) r1 _ (length ks + (length ps + (length cs + o))) refl
      ∙ past ks r2 _ (length ps + (length cs + o)) refl ∙ past ps r3 _ (length cs + o) refl ∙ past cs js _ o refl

  at-r3 : (m o : ℕ) → m ≡ head_words + length (words_of table) + length ks + length ps + o → get_or (four table ks ps cs js) m 0 ≡ get_or r3 o 0
  at-r3 m o e =
      past head r0 m (length (words_of table) + (length ks + (length ps + o))) (omega arith)
      ∙ past (words_of table) r1 _ (length ks + (length ps + o)) refl
      ∙ past ks r2 _ (length ps + o) refl
      ∙ past ps r3 _ o refl

  set_ps : (m o v : ℕ) → m ≡ head_words + length (words_of table) + length ks + o → o < length ps → set (four table ks ps cs js) m v ≡ four table ks (set ps o v) cs js
  set_ps m o v e h = rw (length-set ps o v)
      (set_past head r0 m (length (words_of table) + (length ks + o)) v (omega arith)
      ∙ ap (λ (r : List ℕ). head ++ r) (set_past (words_of table) r1 _ (length ks + o) v refl ∙ ap (λ (r : List ℕ). words_of table ++ r) (set_past ks r2 _ o v refl ∙ ap (λ (r : List ℕ). ks ++ r) (set-append_left ps r3 o v h))))

  set-cs : (m o v : ℕ) → m ≡ head_words + length (words_of table) + length ks + length ps + o → o < length cs → set (four table ks ps cs js) m v ≡ four table ks ps (set cs o v) js
  set-cs m o v e h = rw (length-set cs o v)
      (set_past head r0 m (length (words_of table) + (length ks + (length ps + o))) v (omega arith)
      ∙ ap (λ (r : List ℕ). head ++ r) (set_past (words_of table) r1 _ (length ks + (length ps + o)) v refl ∙ ap (λ (r : List ℕ). words_of table ++ r) (set_past ks r2 _ (length ps + o) v refl
      ∙ ap (λ (r : List ℕ). ks ++ r) (set_past ps r3 _ o v refl ∙ ap (λ (r : List ℕ). ps ++ r) (set-append_left cs js o v h)))))

  set-js : (m o v : ℕ) → m ≡ head_words + length (words_of table) + length ks + length ps + length cs + o → set (four table ks ps cs js) m v ≡ four table ks ps cs (set js o v)
  set-js m o v e = rw (length-set js o v)
      (set_past head r0 m (length (words_of table) + (length ks + (length ps + (length cs + o)))) v (omega arith)
      ∙ ap (λ (r : List ℕ). head ++ r) (set_past (words_of table) r1 _ (length ks + (length ps + (length cs + o))) v refl ∙ ap (λ (r : List ℕ). words_of table ++ r) (set_past ks r2 _ (length ps + (length cs + o)) v refl
      ∙ ap (λ (r : List ℕ). ks ++ r) (set_past ps r3 _ (length cs + o) v refl ∙ ap (λ (r : List ℕ). ps ++ r) (set_past cs js _ o v refl)))))

-- three numbers in front of a list
past_three : (x y z : ℕ) (r : List ℕ) (m i : ℕ) → m ≡ suc (suc (suc i)) → get_or (x ∷ y ∷ z ∷ r) m 0 ≡ get_or r i 0
past_three x y z r m i e = rw e

set-three : (x y z : ℕ) (r : List ℕ) (m i v : ℕ) → m ≡ suc (suc (suc i)) → set (x ∷ y ∷ z ∷ r) m v ≡ x ∷ y ∷ z ∷ set r i v
set-three x y z r m i v e = rw e

module _ (N : Net) (table : List ℕ) (l : Layout) (d : State) (P : Placed N table l d) where
  counts-length : length (counts d) ≡ counts_size N
  counts-length = omega (arith, length-interleave d.fired d.jumps (P.fired-size ∙ sym P.jumps-size), P.fired-size)

  -- how many numbers there are
  pub record-size : length (record_words table d) ≡ l.pairs + l.places * l.places
  record-size = omega (arith, four-size table d.kinds d.places (counts d) d.pairs, counts-length, P.register-at, P.positions-at, P.counts-at, P.pairs-at, P.kinds-size, P.places-size, P.pairs-size)

  pub record-few : length (record_words table d) ≤ max_words
  record-few = omega (arith, record-size, mul-le-mul P.places-few P.places-few, P.register-at, P.positions-at, P.counts-at, P.pairs-at, P.table-few, P.objects-few, P.acts-few)

  -- reading
  pub get-kind : (o : ℕ) → o < l.objects → get_or (record_words table d) (kind_at N l o) 0 ≡ get_or d.kinds o 0
  get-kind o h = at-ks table d.kinds d.places (counts d) d.pairs (kind_at N l o) o (omega (arith, P.register-at)) (omega (arith, P.kinds-size))

  pub get-place : (o : ℕ) → o < l.objects → get_or (record_words table d) (place_at l o) 0 ≡ get_or d.places o 0
  get-place o h = at_ps table d.kinds d.places (counts d) d.pairs (place_at l o) o (omega (arith, P.register-at, P.positions-at, P.kinds-size)) (omega (arith, P.places-size))

  get-count : (i : ℕ) → i < counts_size N → get_or (record_words table d) (l.counts + i) 0 ≡ get_or (counts d) i 0
  get-count i h = at-cs table d.kinds d.places (counts d) d.pairs (l.counts + i) i (omega (arith, P.register-at, P.positions-at, P.counts-at, P.kinds-size, P.places-size)) (omega (arith, counts-length))

  -- all counts, those of the pairs behind the others
  pub get-tail : (i : ℕ) → get_or (record_words table d) (l.counts + i) 0 ≡ get_or (counts d ++ d.pairs) i 0
  get-tail i = at-r3 table d.kinds d.places (counts d) d.pairs (l.counts + i) i (omega (arith, P.register-at, P.positions-at, P.counts-at, P.kinds-size, P.places-size))

  pub get-closed : get_or (record_words table d) (closed_at l) 0 ≡ d.closed
  get-closed = let z : closed_at l ≡ l.counts + 0 = omega arith in ap (λ (i : ℕ). get_or (record_words table d) i 0) z ∙ get-count 0 (omega arith)

  pub get-events : get_or (record_words table d) (events_at l) 0 ≡ d.events
  get-events = get-count 1 (omega arith)

  pub get-closing : get_or (record_words table d) (closing_at l) 0 ≡ d.closing
  get-closing = get-count 2 (omega arith)

  pub get-fired : (a : ℕ) → a < N.acts → get_or (record_words table d) (fired_at l a) 0 ≡ get_or d.fired a 0
  get-fired a h = get-count (3 + 2 * a) (omega arith) ∙ past_three _ _ _ (interleave d.fired d.jumps) (3 + 2 * a) (2 * a) (omega arith) ∙ interleave-even d.fired d.jumps a (P.fired-size ∙ sym P.jumps-size)

  pub get-jumps : (a : ℕ) → a < N.acts → get_or (record_words table d) (jumps_at l a) 0 ≡ get_or d.jumps a 0
  get-jumps a h = get-count (4 + 2 * a) (omega arith) ∙ past_three _ _ _ (interleave d.fired d.jumps) (4 + 2 * a) (2 * a + 1) (omega arith) ∙ interleave-odd d.fired d.jumps a (P.fired-size ∙ sym P.jumps-size)

  get_pairs : (i : ℕ) → get_or (record_words table d) (l.pairs + i) 0 ≡ get_or d.pairs i 0
  get_pairs i = at-js table d.kinds d.places (counts d) d.pairs (l.pairs + i) i (omega (arith, P.register-at, P.positions-at, P.counts-at, P.pairs-at, P.kinds-size, P.places-size, counts-length))

  pub get-pair : (x y : ℕ) → get_or (record_words table d) (pair_at l x y) 0 ≡ stored_pair N d x y
  get-pair x y = get_pairs (x * l.places + y) ∙ ap (λ (n : ℕ). get_or d.pairs (x * n + y) 0) P.places-are

  -- writing
  pub put-place : (o v : ℕ) → o < l.objects → set (record_words table d) (place_at l o) v ≡ record_words table (with_places d (set d.places o v))
  put-place o v h = set_ps table d.kinds d.places (counts d) d.pairs (place_at l o) o v (omega (arith, P.register-at, P.positions-at, P.kinds-size)) (omega (arith, P.places-size))

  put_count : (i v : ℕ) (e : State) → i < counts_size N → set (counts d) i v ≡ counts e → e.kinds ≡ d.kinds → e.places ≡ d.places → e.pairs ≡ d.pairs
      → set (record_words table d) (l.counts + i) v ≡ record_words table e
  put_count i v e h q ek ep ej = set-cs table d.kinds d.places (counts d) d.pairs (l.counts + i) i v (omega (arith, P.register-at, P.positions-at, P.counts-at, P.kinds-size, P.places-size)) (omega (arith, counts-length))
      ∙ rw (q, ← ek, ← ep, ← ej)

  pub put-closed : (v : ℕ) → set (record_words table d) (closed_at l) v ≡ record_words table (with_closed d v)
  put-closed v = let z : closed_at l ≡ l.counts + 0 = omega arith in ap (λ (i : ℕ). set (record_words table d) i v) z ∙ put_count 0 v (with_closed d v) (omega arith) refl refl refl refl

  pub put-events : (v : ℕ) → set (record_words table d) (events_at l) v ≡ record_words table (with_events d v)
  put-events v = put_count 1 v (with_events d v) (omega arith) refl refl refl refl

  pub put-closing : (v : ℕ) → set (record_words table d) (closing_at l) v ≡ record_words table (with_closing d v)
  put-closing v = put_count 2 v (with_closing d v) (omega arith) refl refl refl refl

  pub put-fired : (a v : ℕ) → a < N.acts → set (record_words table d) (fired_at l a) v ≡ record_words table (with_fired d (set d.fired a v))
  put-fired a v h = put_count (3 + 2 * a) v (with_fired d (set d.fired a v)) (omega arith)
      (set-three _ _ _ (interleave d.fired d.jumps) (3 + 2 * a) (2 * a) v (omega arith) ∙ ap (λ (r : List ℕ). d.closed ∷ d.events ∷ d.closing ∷ r) (sym (interleave-set-even d.fired d.jumps a v))) refl refl refl

  pub put-jumps : (a v : ℕ) → a < N.acts → set (record_words table d) (jumps_at l a) v ≡ record_words table (with_jumps d (set d.jumps a v))
  put-jumps a v h = put_count (4 + 2 * a) v (with_jumps d (set d.jumps a v)) (omega arith)
      (set-three _ _ _ (interleave d.fired d.jumps) (4 + 2 * a) (2 * a + 1) v (omega arith) ∙ ap (λ (r : List ℕ). d.closed ∷ d.events ∷ d.closing ∷ r) (sym (interleave-set-odd d.fired d.jumps a v))) refl refl refl

  put-pairs : (i v : ℕ) → set (record_words table d) (l.pairs + i) v ≡ record_words table (with_pairs d (set d.pairs i v))
  put-pairs i v = set-js table d.kinds d.places (counts d) d.pairs (l.pairs + i) i v (omega (arith, P.register-at, P.positions-at, P.counts-at, P.pairs-at, P.kinds-size, P.places-size, counts-length))

  pub put-pair : (x y v : ℕ) → set (record_words table d) (pair_at l x y) v ≡ record_words table (with_pairs d (set d.pairs (pair_index N x y) v))
  put-pair x y v = put-pairs (x * l.places + y) v ∙ ap (λ (n : ℕ). record_words table (with_pairs d (set d.pairs (x * n + y) v))) P.places-are

-- bytes of a part
take-small : (n : ℕ) (s : List ℕ) → ((i : ℕ) → get_or s i 0 < 256) → (i : ℕ) → get_or (take n s) i 0 < 256
take-small zero s f i = omega arith
take-small (suc n) [] f i = omega arith
take-small (suc n) (x ∷ s) f zero = f 0
take-small (suc n) (x ∷ s) f (suc i) = take-small n s (λ j. f (suc j)) i

drop-small : (n : ℕ) (s : List ℕ) → ((i : ℕ) → get_or s i 0 < 256) → (i : ℕ) → get_or (drop n s) i 0 < 256
drop-small n s f i = rw (get_or-drop n s i 0) (f (n + i))

-- a record that a call can be put to
module _ (w b : List ℕ) (R : Ready w b) where
  pub ready-loaded : Loaded (net_in w)
  ready-loaded = held-loaded w R.held

  loaded_at : Loaded (net_at b)
  loaded_at = subst Loaded R.net ready-loaded

  pub ready-sound : Sound (net_in w) (state_at b)
  unfolding state_at
  ready-sound = subst (λ (N : Net). Sound N (state_in (net_at b) b)) (sym R.net) R.intact.sound

  ready-laid : Laid b (table_in b) (state_at b)
  unfolding state_at
  ready-laid = intact-laid (net_at b) loaded_at b R.intact

  table-whole : length (table_in b) ≡ 4 * (length (table_in b) / 4)
  table-whole = omega (arith, R.whole)

  -- the record's numbers, and where they stand
  pub ready_words : words_of b ≡ record_words (table_in b) (state_at b)
  unfolding state_at
  ready_words = ap words_of R.intact.bytes ∙ words-encode (table_in b) (state_in (net_at b) b) (length (table_in b) / 4) table-whole (net_at b) loaded_at R.intact.sound R.intact.table-size

  pub ready-placed : Placed (net_in w) (table_in b) (layout_of (net_in w) b) (state_at b)
  unfolding layout_of
  ready-placed = let S = ready-sound in let L = ready-laid in let t = length-words (table_in b) in let c = counts-size (net_in w) (state_at b) S in record {
    register-at = omega (arith, L.kinds-at, R.whole);
    positions-at = omega (arith, L.kinds-at, L.kinds-len, L.places-at);
    counts-at = omega (arith, L.kinds-len, L.places-at, L.counts-at, S.on.size);
    pairs-at = omega (arith, L.counts-at, L.pairs-at);
    places-are = refl;
    kinds-size = omega (arith, L.kinds-len);
    places-size = omega (arith, L.kinds-len, S.on.size);
    fired-size = S.fired-size;
    jumps-size = S.jumps-size;
    pairs-size = S.pairs-size;
    table-few = omega (arith, R.intact.table-size);
    objects-few = omega (arith, L.kinds-len, S.few);
    acts-few = ready-loaded.acts-le;
    places-few = ready-loaded.places-le;
  }

  pub ready-contents : record_head ≤ length b
  ready-contents = omega (arith, ready-laid.size)

  pub ready-length : length b ≡ 4 * length (words_of b)
  ready-length = let S = ready-sound in omega (arith, ready-laid.size, length-words b, R.whole)

  -- bytes from numbers: bytes of the record's length whose numbers are those of the state e
  pub ready-bytes : (s : List ℕ) (e : State) → words_of s ≡ record_words (table_in b) e → length s ≡ length b → ((i : ℕ) → get_or b i 0 < 256) → ((i : ℕ) → get_or s i 0 < 256) → s ≡ encode (table_in b) e
  unfolding table_in
  ready-bytes s e q n f g =
      sym (bytes-of-words s (omega (arith, length-words s, length-words b, ready-length)) g)
      ∙ ap bytes_of q
      ∙ bytes-encode (table_in b) e (length (table_in b) / 4) table-whole (take-small (word b 4) (drop (word b 0) b) (drop-small (word b 0) b f))

-- Laws of `word`, `words_of`, `bytes_of` and `Put`. Assumes nothing.
use Prim.Native.Nat.{ℕ, zero, suc, ◌+◌, ◌-◌, ◌*◌, ◌/◌, ◌%◌, ◌≤◌, ◌<◌, ◌^◌}
use native.Mathlib.Omega.{arith}
use native.Mathlib.Decide.{ℕ_discrete}
use native.Mathlib.Nat.{le_of_suc-le-suc, not-suc-le-zero, add-zero}
use mathlib.Core.Path.{◌≡◌, refl, sym, ap, ap₂, subst, ◌∙◌}
use mathlib.Core.Bool.{true}
use mathlib.Core.List.{List, [], ◌∷◌, ◌++◌, append-nil, append_assoc}
use lib.Dec.{eqb}
use lib.ListN.{length, get_or, set, take, drop, length-drop}
use lib.Seq.{sets, sets-eq, drop-drop, get_or-drop, get_or-set_same, get_or-set_other}
use Rattle.words.specs.Lists.{pick, All}
use Rattle.words.proofs.Lists.{clash}
use borrow.Author.Tests.{eqb-true, eq-eqb, ne_eqb}
use borrow.Rule.Slice.PartMut.{put_mid}
use Rattle.std.specs.Prelude.{Some, None}
use Rattle.std.proofs.lemmas.Nat.{from_le_bytes-to_le_bytes_4}
use Rattle.words.specs.Words.{joined, word, words_at, words_of, bytes_of, bodies_from, ends_at}
use Rattle.words.specs.Put.{Put}

-- a number below 2 ^ 32 by its four digits to the base 256
pub digits : (x : ℕ) → x < 2 ^ 32 → joined (x % 256) (x / 256 % 256) (x / 65536 % 256) (x / 16777216 % 256) ≡ x
digits x f = omega (arith, from_le_bytes-to_le_bytes_4 x f)

-- a word's bytes are there
pub room : (s : List ℕ) (i : ℕ) → i < length (words_of s) → 4 * i + 4 ≤ length s
unfolding words_of
room [] i h = absurd (not-suc-le-zero h)
room (a ∷ []) i h = absurd (not-suc-le-zero h)
room (a ∷ (b ∷ [])) i h = absurd (not-suc-le-zero h)
room (a ∷ (b ∷ (c ∷ []))) i h = absurd (not-suc-le-zero h)
room (a ∷ (b ∷ (c ∷ (d ∷ r)))) zero h = omega arith
room (a ∷ (b ∷ (c ∷ (d ∷ r)))) (suc i) h = omega (arith, room r i (le_of_suc-le-suc h))

skip4 : (a b c d : ℕ) (r : List ℕ) (m n : ℕ) → m ≡ suc (suc (suc (suc n))) → get_or (a ∷ (b ∷ (c ∷ (d ∷ r)))) m 0 ≡ get_or r n 0
skip4 a b c d r m n e = rw e

skip-word : (a b c d : ℕ) (r : List ℕ) (m n : ℕ) → m ≡ suc (suc (suc (suc n))) → word (a ∷ (b ∷ (c ∷ (d ∷ r)))) m ≡ word r n
unfolding word
skip-word a b c d r m n e =
    omega (arith, skip4 a b c d r m n e, skip4 a b c d r (m + 1) (n + 1) (omega arith), skip4 a b c d r (m + 2) (n + 2) (omega arith), skip4 a b c d r (m + 3) (n + 3) (omega arith))

-- number i of the bytes is the one whose first byte is byte 4 i
pub words-get : (s : List ℕ) (i : ℕ) → i < length (words_of s) → word s (4 * i) ≡ get_or (words_of s) i 0
unfolding words_of word
words-get [] i h = absurd (not-suc-le-zero h)
words-get (a ∷ []) i h = absurd (not-suc-le-zero h)
words-get (a ∷ (b ∷ [])) i h = absurd (not-suc-le-zero h)
words-get (a ∷ (b ∷ (c ∷ []))) i h = absurd (not-suc-le-zero h)
words-get (a ∷ (b ∷ (c ∷ (d ∷ r)))) zero h = refl
words-get (a ∷ (b ∷ (c ∷ (d ∷ r)))) (suc i) h = skip-word a b c d r (4 * suc i) (4 * i) (omega arith) ∙ words-get r i (le_of_suc-le-suc h)

-- a part of four bytes, written as a whole
pub put_part : (s part bs : List ℕ) (p : ℕ) → part ≡ bs → length bs ≡ 4 → p + 4 ≤ length s → put_mid p (p + 4 - p) s part ≡ sets s p bs
put_part s part bs p e l h =
    let four : p + 4 - p ≡ 4 = omega arith in
    let behind : p + length bs ≡ p + 4 = omega (arith, l) in
    rw (e, four, drop-drop 4 p s) (sym (sets-eq bs s p (omega (arith, l, h)) ∙ ap (λ (n : ℕ). take p s ++ bs ++ drop n s) behind ∙ append_assoc (take p s) bs (drop (p + 4) s)))

-- the bytes of x stored from byte p on
abbrev pub put : List ℕ → ℕ → ℕ → List ℕ
put s p x = sets s p (x % 256 ∷ (x / 256 % 256 ∷ (x / 65536 % 256 ∷ (x / 16777216 % 256 ∷ []))))

put-skip : (a b c d : ℕ) (r : List ℕ) (x p q : ℕ) → p ≡ suc (suc (suc (suc q))) → put (a ∷ (b ∷ (c ∷ (d ∷ r)))) p x ≡ a ∷ (b ∷ (c ∷ (d ∷ put r q x)))
put-skip a b c d r x p q e = rw e

pub words-put : (s : List ℕ) (i x : ℕ) → x < 2 ^ 32 → i < length (words_of s) → words_of (put s (4 * i) x) ≡ set (words_of s) i x
unfolding words_of
words-put [] i x f h = absurd (not-suc-le-zero h)
words-put (a ∷ []) i x f h = absurd (not-suc-le-zero h)
words-put (a ∷ (b ∷ [])) i x f h = absurd (not-suc-le-zero h)
words-put (a ∷ (b ∷ (c ∷ []))) i x f h = absurd (not-suc-le-zero h)
words-put (a ∷ (b ∷ (c ∷ (d ∷ r)))) zero x f h = ap (λ (w : ℕ). w ∷ words_of r) (digits x f)
words-put (a ∷ (b ∷ (c ∷ (d ∷ r)))) (suc i) x f h =
    ap words_of (put-skip a b c d r x (4 * suc i) (4 * i) (omega arith)) ∙ ap (λ (ws : List ℕ). joined a b c d ∷ ws) (words-put r i x f (le_of_suc-le-suc h))

-- the four digits of a word are its bytes
module _ (a b c d : ℕ) (ha : a < 256) (hb : b < 256) (hc : c < 256) (hd : d < 256) where
  digit0 : joined a b c d % 256 ≡ a
  digit0 = omega arith

  digit1 : joined a b c d / 256 % 256 ≡ b
  digit1 = omega arith

  digit2 : joined a b c d / 65536 % 256 ≡ c
  digit2 = omega arith

  digit3 : joined a b c d / 16777216 % 256 ≡ d
  digit3 = omega arith

-- bytes that are whole words are the bytes of those words
pub bytes-of-words : (s : List ℕ) → length s ≡ 4 * length (words_of s) → ((i : ℕ) → get_or s i 0 < 256) → bytes_of (words_of s) ≡ s
unfolding words_of bytes_of
bytes-of-words [] e f = refl
bytes-of-words (a ∷ []) e f = absurd (omega arith)
bytes-of-words (a ∷ (b ∷ [])) e f = absurd (omega arith)
bytes-of-words (a ∷ (b ∷ (c ∷ []))) e f = absurd (omega arith)
bytes-of-words (a ∷ (b ∷ (c ∷ (d ∷ r)))) e f =
    rw (
      digit0 a b c d (f 0) (f 1) (f 2) (f 3),
      digit1 a b c d (f 0) (f 1) (f 2) (f 3),
      digit2 a b c d (f 0) (f 1) (f 2) (f 3),
      digit3 a b c d (f 0) (f 1) (f 2) (f 3),
      bytes-of-words r (omega arith) (λ i. f (suc (suc (suc (suc i))))),
    )

pub length-words : (s : List ℕ) → length (words_of s) ≡ length s / 4
unfolding words_of
length-words [] = refl
length-words (a ∷ []) = refl
length-words (a ∷ (b ∷ [])) = refl
length-words (a ∷ (b ∷ (c ∷ []))) = refl
length-words (a ∷ (b ∷ (c ∷ (d ∷ r)))) = omega (arith, length-words r)

-- the numbers of a part that begins and ends between two numbers
four-more : (n : ℕ) → 4 * suc n ≡ suc (suc (suc (suc (4 * n))))
four-more n = omega arith

pub words_take : (n : ℕ) (s : List ℕ) → words_of (take (4 * n) s) ≡ take n (words_of s)
unfolding words_of
words_take zero s = refl
words_take (suc n) [] = rw (four-more n)
words_take (suc n) (a ∷ []) = rw (four-more n)
words_take (suc n) (a ∷ (b ∷ [])) = rw (four-more n)
words_take (suc n) (a ∷ (b ∷ (c ∷ []))) = rw (four-more n)
words_take (suc n) (a ∷ (b ∷ (c ∷ (d ∷ r)))) = rw (four-more n, words_take n r)

pub words-drop : (n : ℕ) (s : List ℕ) → words_of (drop (4 * n) s) ≡ drop n (words_of s)
unfolding words_of
words-drop zero s = refl
words-drop (suc n) [] = rw (four-more n)
words-drop (suc n) (a ∷ []) = rw (four-more n)
words-drop (suc n) (a ∷ (b ∷ [])) = rw (four-more n)
words-drop (suc n) (a ∷ (b ∷ (c ∷ []))) = rw (four-more n)
words-drop (suc n) (a ∷ (b ∷ (c ∷ (d ∷ r)))) = rw (four-more n) (words-drop n r)

-- the numbers from byte i on are those that the bytes from there on hold
front : (s : List ℕ) (n : ℕ) → 4 ≤ length s → take (suc n) (words_of s) ≡ word s 0 ∷ take n (words_of (drop 4 s))
unfolding words_of word
front [] n h = absurd (omega arith)
front (a ∷ []) n h = absurd (omega arith)
front (a ∷ (b ∷ [])) n h = absurd (omega arith)
front (a ∷ (b ∷ (c ∷ []))) n h = absurd (omega arith)
front (a ∷ (b ∷ (c ∷ (d ∷ r)))) n h = refl

pub word-drop : (b : List ℕ) (i : ℕ) → word (drop i b) 0 ≡ word b i
unfolding word
word-drop b i = simp (get_or-drop, add-zero)

pub words-read : (b : List ℕ) (n i : ℕ) → i + 4 * n ≤ length b → take n (words_of (drop i b)) ≡ words_at b i n
words-read b zero i h = refl
words-read b (suc n) i h =
    front (drop i b) n (simp length-drop (omega arith))
    ∙ ap₂ (λ (w : ℕ) (s : List ℕ). w ∷ take n (words_of s)) (word-drop b i) (drop-drop 4 i b)
    ∙ ap (λ (l : List ℕ). word b i ∷ l) (words-read b n (i + 4) (omega arith))

pub length_at : (b : List ℕ) (i n : ℕ) → length (words_at b i n) ≡ n
length_at b i zero = refl
length_at b i (suc n) = ap suc (length_at b (i + 4) n)

pub length-bytes : (ws : List ℕ) → length (bytes_of ws) ≡ 4 * length ws
unfolding bytes_of
length-bytes [] = refl
length-bytes (w ∷ ws) = omega (arith, length-bytes ws)

-- numbers of 32 bits, written as bytes and read again, with more bytes behind them
pub words-of-bytes-then : (ws r : List ℕ) → All (λ (w : ℕ). w < 2 ^ 32) ws → words_of (bytes_of ws ++ r) ≡ ws ++ words_of r
unfolding words_of bytes_of
words-of-bytes-then [] r a = refl
words-of-bytes-then (w ∷ ws) r a = ap₂ (λ (x : ℕ) (l : List ℕ). x ∷ l) (digits w a.0) (words-of-bytes-then ws r a.1)

pub words-of-bytes : (ws : List ℕ) → All (λ (w : ℕ). w < 2 ^ 32) ws → words_of (bytes_of ws) ≡ ws
unfolding words_of
words-of-bytes ws a = ap words_of (sym (append-nil (bytes_of ws))) ∙ words-of-bytes-then ws [] a ∙ append-nil ws

pub bytes-append : (xs ys : List ℕ) → bytes_of (xs ++ ys) ≡ bytes_of xs ++ bytes_of ys
unfolding bytes_of
bytes-append [] ys = refl
bytes-append (x ∷ xs) ys = ap (λ (l : List ℕ). x % 256 ∷ (x / 256 % 256 ∷ (x / 65536 % 256 ∷ (x / 16777216 % 256 ∷ l)))) (bytes-append xs ys)

-- a number read after one was written: at the same place, and at another
pub read_same : (before after : List ℕ) (i x : ℕ) → Put before i x after → i < length (words_of before) → get_or (words_of after) i 0 ≡ x
read_same before after i x p h = rw p.words (get_or-set_same (words_of before) i x 0 h)

pub read-other : (before after : List ℕ) (i j x : ℕ) → Put before i x after → (j ≡ i → ⊥) → get_or (words_of after) j 0 ≡ get_or (words_of before) j 0
read-other before after i j x p n = rw p.words (get_or-set_other (words_of before) i j x 0 n)

-- the bodies that are left after i pairs, at a pair that fits, at one that does not, and at the end
module _ (s : List ℕ) (n i end : ℕ) where
  left-suc : i < n → n - i ≡ suc (n - (i + 1))
  left-suc h = omega arith

  pub bodies-more : i < n → word s (8 * i) ≡ end → bodies_from s (8 * (i + 1)) (end + word s (8 * i + 4)) (n - (i + 1)) ≡ bodies_from s (8 * i) end (n - i)
  unfolding bodies_from
  bodies-more h e = rw (left-suc h, eq-eqb (word s (8 * i)) end e) (ap (λ (k : ℕ). bodies_from s k (end + word s (8 * i + 4)) (n - (i + 1))) (omega arith))

  pub bodies-gap : i < n → (word s (8 * i) ≡ end → ⊥) → None ≡ bodies_from s (8 * i) end (n - i)
  unfolding bodies_from
  bodies-gap h e = rw (left-suc h, ne_eqb (word s (8 * i)) end e)

  pub bodies-end : n ≤ i → Some end ≡ bodies_from s (8 * i) end (n - i)
  unfolding bodies_from
  bodies-end h = let z : n - i ≡ 0 = omega arith in rw z

-- where the layout test holds, no body passes the file's end
pub body-within : (b : List ℕ) (e n i at : ℕ) → ends_at e (bodies_from b i at n) ≡ true → (at ≤ e) × ((j : ℕ) → j < n → word b (i + 8 * j) + word b (i + 8 * j + 4) ≤ e)
unfolding bodies_from
body-within b e zero i at h = (omega (arith, eqb-true at e h), λ j l. absurd (omega arith))
body-within b e (suc n) i at h = go (ℕ_discrete (word b i) at) (body-within b e n (i + 8) (at + word b (i + 4))) h
  where
    go : Dec (word b i ≡ at)
        → (ends_at e (bodies_from b (i + 8) (at + word b (i + 4)) n) ≡ true → (at + word b (i + 4) ≤ e) × ((j : ℕ) → j < n → word b (i + 8 + 8 * j) + word b (i + 8 + 8 * j + 4) ≤ e))
        → ends_at e (pick (eqb (word b i) at) (bodies_from b (i + 8) (at + word b (i + 4)) n) None) ≡ true
        → (at ≤ e) × ((j : ℕ) → j < suc n → word b (i + 8 * j) + word b (i + 8 * j + 4) ≤ e)
    go (no m) r h = clash (sym (rw (ne_eqb (word b i) at m) at h))
    go (yes q) r h =
        let s = r (rw (eq-eqb (word b i) at q) at h) in
        (omega (arith, s.0), λ j l. each j l s.0 s.1)
      where
        each : (j : ℕ) → j < suc n → at + word b (i + 4) ≤ e → ((j : ℕ) → j < n → word b (i + 8 + 8 * j) + word b (i + 8 + 8 * j + 4) ≤ e) → word b (i + 8 * j) + word b (i + 8 * j + 4) ≤ e
        each zero l f g = subst (λ (k : ℕ). word b k + word b (k + 4) ≤ e) (sym (add-zero i)) (omega (arith, f, q))
        each (suc j) l f g = subst (λ (k : ℕ). word b k + word b (k + 4) ≤ e) {x = i + 8 + 8 * j} (omega arith) (g j (omega arith))

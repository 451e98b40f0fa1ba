-- Test 46 in the numbers that the bodies hold, one part after another. Assumes nothing.
use Prim.Native.Nat.{ℕ, zero, suc, ◌+◌, ◌*◌, ◌≤◌, ◌<◌}
use mathlib.Core.Bool.{Bool, true, false, not}
use mathlib.Core.Path.{◌≡◌, refl, ap, ap₂, sym, ◌∙◌}
use mathlib.Core.List.{List, [], ◌∷◌, map}
use native.Mathlib.Omega.{arith}
use native.Mathlib.Numerals.{add-one}
use Rattle.std.specs.List.{sum_by, range_with_len}
use Rattle.std.proofs.lemmas.List.FromFn.{sum_by-map-range_with_len_more}
use Rattle.std.proofs.lemmas.List.Sums.{sum-map}
use lib.ListN.{length, get_or, drop}
use lib.Seq.{get_or-drop}
use lib.Dec.{ltb, eqb}
use borrow.Author.Tests.{eq-eqb, ne_eqb, ltb-false}
use Rattle.words.specs.Lists.{pick, either, any_to, sum_to, both}
use Rattle.words.specs.Words.{word, words_of}
use Rattle.words.proofs.Lists.{any_none, is_eq}
use Rattle.words.proofs.Refusals.{None}
use Rattle.words.proofs.Sums.{sum_to-same}
use Rattle.words.proofs.Words.{length-words, words-get}
use Rattle.net.specs.Net.{Net}
use Rattle.replay.specs.Plain.{closers, register_code}
use Rattle.replay.specs.Register.{kinds_in}
use Rattle.replay.specs.State.{evens, odds}
use Rattle.replay.specs.Record.{counts_size}
use Rattle.replay.proofs.Interleave.{evens_at, odds-at}
use Rattle.checkpoint.specs.Bodies.{body_state, hit}
use Rattle.checkpoint.specs.Restore.{tests46}
use Rattle.checkpoint_counts.specs.Counted.{Counted}
use Rattle.words.proofs.Chains.{any_to-same}

-- FIRED and JUMPS of activity a in the numbers of a counts body
pub fired-at : (cs : List ℕ) (a : ℕ) → get_or (evens (drop 3 cs)) a 0 ≡ get_or cs (3 + 2 * a) 0
fired-at cs a = evens_at (drop 3 cs) a ∙ get_or-drop 3 cs (2 * a) 0

pub jumps_at : (cs : List ℕ) (a : ℕ) → get_or (odds (drop 3 cs)) a 0 ≡ get_or cs (4 + 2 * a) 0
jumps_at cs a = let e : 3 + (2 * a + 1) ≡ 4 + 2 * a = omega arith in odds-at (drop 3 cs) a ∙ get_or-drop 3 cs (2 * a + 1) 0 ∙ ap (λ (i : ℕ). get_or cs i 0) e

-- a chain's sum over the numbers below n, and how much the numbers of a body come to
sum-below : (f : ℕ → ℕ) (n : ℕ) → sum_by (λ (v : ℕ). v) (map f (range_with_len 0 n)) ≡ sum_to n f
sum-below f zero = refl
sum-below f (suc n) =
    ap (λ (k : ℕ). sum_by (λ (v : ℕ). v) (map f (range_with_len 0 k))) (sym (add-one n))
    ∙ omega (arith, sum_by-map-range_with_len_more (λ (v : ℕ). v) f 0 n n (omega arith), sum-below f n)

pub sum_by-below : (f : ℕ → ℕ) (n : ℕ) → sum_by f (range_with_len 0 n) ≡ sum_to n f
sum_by-below f n = sym (sum-map f (range_with_len 0 n)) ∙ sum-below f n

module _ (bs : List ℕ) (B : (i : ℕ) → get_or bs i 0 < 256) where
  word-below : (i : ℕ) → word bs i ≤ 4294967295
  unfolding word
  word-below i = omega (arith, B i, B (i + 1), B (i + 2), B (i + 3))

  pub most-words : (from n : ℕ) → from + 2 * n ≤ length (words_of bs) + 1 → sum_to n (λ (a : ℕ). get_or (words_of bs) (from + 2 * a) 0) ≤ 4294967295 * n
  most-words from zero h = omega arith
  most-words from (suc n) h =
      let i = from + 2 * n in
      omega (arith, words-get bs i (omega arith), word-below (4 * i), most-words from n (omega arith))

-- where no test holds, each one fails
hit-none : (ts : List (Bool × ℕ)) → hit ts ≡ false → None ts
hit-none ts e = any_none (λ (t : Bool × ℕ). t.0) (λ (t : Bool × ℕ). t.0 ≡ false) (λ t q. q) ts e

-- tests one behind the other, as they are written and as they are listed
or-chain : (p q r s t : Bool) → pick (pick (pick (pick p true q) true r) true s) true t ≡ pick p true (pick q true (pick r true (pick s true t)))
or-chain true q r s t = refl
or-chain false true r s t = refl
or-chain false false true s t = refl
or-chain false false false true t = refl
or-chain false false false false t = refl

-- 46, of a register and a counts body of `size` bytes; W is the body's numbers
module _ (N : Net) (ks cs : List ℕ) (size : ℕ) where
  abbrev W : ℕ → ℕ
  W i = get_or (words_of cs) i 0

  abbrev fired : ℕ
  fired = sum_to N.acts (λ (a : ℕ). W (3 + 2 * a))

  abbrev above : Bool
  above = any_to N.acts (λ (a : ℕ). ltb (W (3 + 2 * a) * length (N.arcs a)) (W (4 + 2 * a)))

  abbrev answer : Bool
  answer = hit (tests46 N (body_state N ks [] cs []) size)

  fired-is : sum_to N.acts (λ (a : ℕ). get_or (evens (drop 3 (words_of cs))) a 0) ≡ fired
  fired-is = sum_to-same N.acts _ _ (λ a h. fired-at (words_of cs) a)

  above-is : any_to N.acts (λ (a : ℕ). ltb (get_or (evens (drop 3 (words_of cs))) a 0 * length (N.arcs a)) (get_or (odds (drop 3 (words_of cs))) a 0)) ≡ above
  above-is = any_to-same N.acts _ _ (λ a h. ap₂ (λ (x y : ℕ). ltb (x * length (N.arcs a)) y) (fired-at (words_of cs) a) (jumps_at (words_of cs) a))

  pub counts-size : (size ≡ 4 * counts_size N → ⊥) → true ≡ answer
  counts-size n = rw (ne_eqb size (4 * counts_size N) n)

  -- where the length is right, the other tests decide
  pub counts-hit : size ≡ 4 * counts_size N
      → pick (pick (pick (pick (ltb 1 (W 0)) true (ltb 1000000 (W 1))) true (not (eqb fired (W 1)))) true above) true
      (either (ltb (length (closers (kinds_in N ks))) (W 2) ∷ both (eqb (W 0) 0) (not (eqb (W 2) 0)) ∷ []))
      ≡ answer
  counts-hit e = rw (eq-eqb size (4 * counts_size N) e, fired-is, above-is) (or-chain (ltb 1 (W 0)) (ltb 1000000 (W 1)) (not (eqb fired (W 1))) above _)

-- a register to which 44 does not apply, with counts to which 46 does not
pub counted : (N : Net) (ks cs : List ℕ) → register_code N (kinds_in N ks) ≡ 0 → hit (tests46 N (body_state N ks [] cs []) (length cs)) ≡ false → Counted N ks cs
counted N ks cs r e =
    let n = hit-none (tests46 N (body_state N ks [] cs []) (length cs)) e in
    record { register = r; size = omega (arith, is_eq (length cs) (4 * counts_size N) n.0, length-words cs); flag = ltb-false _ _ n.1.0 }

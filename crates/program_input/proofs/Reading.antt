-- What reads leave in a buffer is what they took from the input.
use Rattle.std.proofs.Common.{◌≡◌, ℕ, ◌+◌, ◌≤◌, List, ◌++◌, Option, length, take, drop, sym, ap, ◌∙◌, subst, le_refl, take_at, drop_at, length-take-le, length-append, length-drop, arith}
use lib.Seq.{paste, take-append-add, take-append-le, take-take}
use borrow.Rule.Slice.PartMut.{put_mid, post_of}
use Rattle.std.specs.Io.KnownBytes.{Consumes}
use Rattle.std.proofs.KnownBytes.{Consumes-trans}
use Rattle.std.proofs.lemmas.List.{drop-take}
use Rattle.std.proofs.lemmas.Slice.{take-put_mid_below}
use Rattle.program_input.specs.Counts.{Passes}

-- the first a elements, and n of those written behind them
front_written : (a k n : ℕ) (xs ys : List ℕ) → a ≤ length xs → n ≤ length ys → take (a + n) (put_mid a k xs ys) ≡ take a xs ++ take n ys
front_written a k n xs ys within fits =
    ap (λ m. take (m + n) (put_mid a k xs ys)) (sym (length-take-le a xs within))
    ∙ take-append-add (take a xs) (ys ++ post_of a k xs) n
    ∙ ap (λ l. take a xs ++ l) (take-append-le n ys (post_of a k xs) fits)

-- n bytes are read behind the first a
pub read_behind : (x y z : Option (List ℕ)) (a k n : ℕ) (xs ys : List ℕ) → a ≤ length xs → n ≤ length ys
    → Consumes x y (take a xs) → Consumes y z (take n ys) → Consumes x z (take (a + n) (put_mid a k xs ys))
read_behind x y z a k n xs ys within fits before read = subst (Consumes x z) (sym (front_written a k n xs ys within fits)) (Consumes-trans x y z (take a xs) (take n ys) before read)

-- of what stands in the buffer then, the bytes behind the first a are those that were read
pub read_part : (y z : Option (List ℕ)) (a b k n : ℕ) (xs ys : List ℕ) → b ≡ a → a ≤ length xs → n ≤ length ys
    → Consumes y z (take n ys) → Consumes y z (drop b (take (a + n) (put_mid a k xs ys)))
read_part y z a b k n xs ys same within fits read =
    subst (Consumes y z) (sym (ap (drop b) (front_written a k n xs ys within fits) ∙ drop_at (take a xs) (take n ys) b (length-take-le a xs within ∙ sym same))) read

-- the k bytes from a on that were moved to the front stand in front of those that were read behind them
pub kept_part : (a k n m l : ℕ) (xs ys zs : List ℕ) → a + k ≡ l → l ≤ length xs → ys ≡ paste xs 0 (drop a xs) k → length ys ≡ length xs
    → take k (take (k + n) (put_mid k m ys zs)) ≡ drop a (take l xs)
kept_part a k n m l xs ys zs sum within moved same =
    take-take k (k + n) _ (omega arith)
    ∙ take-put_mid_below k m ys zs k (le_refl k) (omega arith)
    ∙ ap (take k) moved
    ∙ take_at (take k (drop a xs)) _ k (length-take-le k (drop a xs) (omega (arith, length-drop a xs)))
    ∙ sym (drop-take a k xs)
    ∙ ap (λ i. drop a (take i xs)) sum

-- n bytes more are passed
pub pass_more : (x y z : Option (List ℕ)) (m n : ℕ) (xs : List ℕ) → n ≤ length xs → Passes x y m → Consumes y z (take n xs) → Passes x z (m + n)
pass_more x y z m n xs fits before read =
    (before.0 ++ take n xs, Consumes-trans x y z before.0 (take n xs) before.1 read, length-append before.0 (take n xs) ∙ ap (λ l. l + length (take n xs)) before.2 ∙ ap (λ l. m + l) (length-take-le n xs fits))

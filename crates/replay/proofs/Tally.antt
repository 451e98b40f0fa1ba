-- Laws of `bump` and `tally`. Assumes nothing.
use Prim.Native.Nat.{ℕ, suc, ◌+◌, ◌*◌, ◌<◌}
use mathlib.Core.Path.{◌≡◌, refl, ap, sym, ◌∙◌, subst}
use mathlib.Core.List.{List, [], ◌∷◌, ◌++◌, map}
use native.Mathlib.Omega.{arith}
use native.Mathlib.Decide.{ℕ_discrete}
use lib.ListN.{length, get_or, replicate, length-set, length-replicate, get_or-replicate}
use lib.Seq.{get_or-set_same, get_or-set_other}
use lib.Dec.{eqb}
use borrow.Author.Tests.{eq-eqb, ne_eqb}
use Rattle.words.specs.Lists.{All, one, total, sum_to, keep}
use Rattle.words.proofs.Lists.{keep_append, map-append, zeros-at}
use Rattle.words.proofs.Sums.{total-length, by_value, sum_to-same, sum_to-add, sum_to-zero}
use Rattle.net.specs.Net.{Net}
use Rattle.replay.specs.Plain.{Hop, jumped}
use Rattle.replay.specs.State.{bump, tally, hop_index}

pub bump_at : (l : List ℕ) (c i : ℕ) → i < length l → get_or (bump l c) i 0 ≡ one (eqb i c) + get_or l i 0
bump_at l c i h = go (ℕ_discrete i c)
  where
    go : Dec (i ≡ c) → get_or (bump l c) i 0 ≡ one (eqb i c) + get_or l i 0
    go (yes e) = subst (λ (c : ℕ). get_or (bump l c) i 0 ≡ one (eqb i c) + get_or l i 0) e (rw (eq-eqb i i refl, get_or-set_same l i (suc (get_or l i 0)) 0 h) (omega arith))
    go (no n) = rw (ne_eqb i c n, get_or-set_other l c i (suc (get_or l c 0)) 0 n) (omega arith)

pub length-tally : (cs l : List ℕ) → length (tally l cs) ≡ length l
length-tally [] l = refl
length-tally (c ∷ cs) l = length-tally cs (bump l c) ∙ length-set l c _

pub tally-append : (l xs ys : List ℕ) → tally l (xs ++ ys) ≡ tally (tally l xs) ys
tally-append l [] ys = refl
tally-append l (x ∷ xs) ys = tally-append (bump l x) xs ys

pub tally-at : (cs l : List ℕ) (i : ℕ) → i < length l → get_or (tally l cs) i 0 ≡ total (λ (c : ℕ). one (eqb i c)) cs + get_or l i 0
tally-at [] l i h = omega arith
tally-at (c ∷ cs) l i h = omega (arith, tally-at cs (bump l c) i (rw length-set h), bump_at l c i h)

pub tallied : (cs : List ℕ) (n i : ℕ) → i < n → get_or (tally (replicate n 0) cs) i 0 ≡ total (λ (c : ℕ). one (eqb i c)) cs
tallied cs n i h = omega (arith, tally-at cs (replicate n 0) i (rw length-replicate h), get_or-replicate {A = ℕ} n i 0 0 h)

-- what a tally adds to a weighted sum of its list, and to the sum itself
pub tally-sum : (n : ℕ) (v : ℕ → ℕ) (l cs : List ℕ) → length l ≡ n → All (λ (c : ℕ). c < n) cs → sum_to n (λ (i : ℕ). get_or (tally l cs) i 0 * v i) ≡ total v cs + sum_to n (λ (i : ℕ). get_or l i 0 * v i)
tally-sum n v l cs e a =
    sum_to-same n _ (λ (i : ℕ). total (λ (c : ℕ). one (eqb i c)) cs * v i + get_or l i 0 * v i) (λ i h. omega (arith, ap (λ (m : ℕ). m * v i) (tally-at cs l i (omega arith))))
    ∙ sum_to-add n (λ (i : ℕ). total (λ (c : ℕ). one (eqb i c)) cs * v i) (λ (i : ℕ). get_or l i 0 * v i)
    ∙ ap (λ (m : ℕ). m + sum_to n (λ (i : ℕ). get_or l i 0 * v i)) (sym (by_value n v cs a))

pub tally-plain : (n : ℕ) (l cs : List ℕ) → length l ≡ n → All (λ (c : ℕ). c < n) cs → sum_to n (λ (i : ℕ). get_or (tally l cs) i 0) ≡ length cs + sum_to n (λ (i : ℕ). get_or l i 0)
tally-plain n l cs e a = omega (
  arith,
  tally-sum n (λ (i : ℕ). 1) l cs e a,
  total-length cs,
  sum_to-same n (λ (i : ℕ). get_or (tally l cs) i 0 * 1) (λ (i : ℕ). get_or (tally l cs) i 0) (λ i h. omega arith),
  sum_to-same n (λ (i : ℕ). get_or l i 0 * 1) (λ (i : ℕ). get_or l i 0) (λ i h. omega arith),
)

-- the pairs' tally of two stretches of hops
pub jumps-append : (N : Net) (l : List ℕ) (xs ys : List Hop) → tally l (map (hop_index N) (keep jumped (xs ++ ys))) ≡ tally (tally l (map (hop_index N) (keep jumped xs))) (map (hop_index N) (keep jumped ys))
jumps-append N l xs ys = simp (keep_append, map-append, tally-append)

pub zeros-sum : (n m : ℕ) (f : ℕ → ℕ) → sum_to m (λ (i : ℕ). get_or (replicate n 0) (f i) 0) ≡ 0
zeros-sum n m f = sum_to-same m _ (λ (i : ℕ). 0) (λ i h. zeros-at n (f i)) ∙ sum_to-zero m

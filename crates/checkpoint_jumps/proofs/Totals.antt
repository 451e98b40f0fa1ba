-- Sums and searches below a number. Assumes nothing.
use Prim.Native.Nat.{ℕ, zero, suc, ◌+◌, ◌*◌, ◌<◌}
use mathlib.Core.Bool.{Bool, true, false, not}
use mathlib.Core.Path.{◌≡◌, refl, ap, sym, ◌∙◌}
use mathlib.Core.List.{List, [], ◌∷◌}
use native.Mathlib.Omega.{arith}
use native.Mathlib.Nat.{zero-mul, suc-mul}
use lib.Dec.{eqb}
use lib.ListN.{length, get_or}
use Rattle.words.specs.Lists.{any_to, total, sum_to}
use Rattle.words.proofs.Lists.{is_eq, not_eqb, any_to-none, any_to-false}
use Rattle.words.proofs.Sums.{sum_to-same, sum_to-zero, sum_to-add, sum_to-append, term-le}

-- two tests that fail together
pub same_false : (a b : Bool) → (a ≡ false → b ≡ false) → (b ≡ false → a ≡ false) → a ≡ b
same_false true true f g = refl
same_false true false f g = g refl
same_false false true f g = sym (f refl)
same_false false false f g = refl

-- a sum is 0 where each of its terms is
pub sum-none : (n : ℕ) (f : ℕ → ℕ) → sum_to n f ≡ 0 → (i : ℕ) → i < n → f i ≡ 0
sum-none n f e i h = omega (arith, term-le n f i h)

pub none-sum : (n : ℕ) (f : ℕ → ℕ) → ((i : ℕ) → i < n → f i ≡ 0) → sum_to n f ≡ 0
none-sum n f h = sum_to-same n f (λ (i : ℕ). 0) h ∙ sum_to-zero n

-- a search for a number that is not 0 is a test of the sum
pub any_sum : (n : ℕ) (f : ℕ → Bool) (g : ℕ → ℕ) → ((i : ℕ) → i < n → f i ≡ not (eqb (g i) 0)) → any_to n f ≡ not (eqb (sum_to n g) 0)
any_sum n f g h =
    same_false _ _ (λ e. not_eqb _ _ (none-sum n g (λ i l. is_eq _ _ (sym (h i l) ∙ any_to-none n f e i l))))
    (λ e. any_to-false n f (λ i l. h i l ∙ not_eqb _ _ (sum-none n g (is_eq _ _ e) i l)))

sum-swap : (n m : ℕ) (f : ℕ → ℕ → ℕ) → sum_to n (λ (i : ℕ). sum_to m (f i)) ≡ sum_to m (λ (j : ℕ). sum_to n (λ (i : ℕ). f i j))
sum-swap zero m f = sym (sum_to-zero m)
sum-swap (suc n) m f = ap (λ (s : ℕ). sum_to m (f n) + s) (sum-swap n m f) ∙ sym (sum_to-add m (f n) (λ (j : ℕ). sum_to n (λ (i : ℕ). f i j)))

sum_rows : (n m : ℕ) (f : ℕ → ℕ) → sum_to (n * m) f ≡ sum_to n (λ (x : ℕ). sum_to m (λ (y : ℕ). f (x * m + y)))
sum_rows zero m f = rw zero-mul
sum_rows (suc n) m f = rw suc-mul (sum_to-append m (n * m) f ∙ ap (λ (s : ℕ). sum_to m (λ (y : ℕ). f (n * m + y)) + s) (sum_rows n m f))

-- a square, summed by columns
pub sum-columns : (n m : ℕ) (f : ℕ → ℕ) → sum_to (n * m) f ≡ sum_to m (λ (y : ℕ). sum_to n (λ (x : ℕ). f (x * m + y)))
sum-columns n m f = sum_rows n m f ∙ sum-swap n m (λ (x y : ℕ). f (x * m + y))

-- a total over a list, by index
pub sum-total : (w : ℕ → ℕ) (xs : List ℕ) → sum_to (length xs) (λ (o : ℕ). w (get_or xs o 0)) ≡ total w xs
sum-total w [] = refl
sum-total w (x ∷ xs) =
    ap (λ (n : ℕ). sum_to n (λ (o : ℕ). w (get_or (x ∷ xs) o 0))) (one-plus (length xs))
    ∙ sum_to-append (length xs) 1 (λ (o : ℕ). w (get_or (x ∷ xs) o 0))
    ∙ omega (arith, sum-total w xs, sum_to-same (length xs) (λ (o : ℕ). w (get_or (x ∷ xs) (1 + o) 0)) (λ (o : ℕ). w (get_or xs o 0)) (λ o h. ap (λ (i : ℕ). w (get_or (x ∷ xs) i 0)) (sym (one-plus o))))
  where
    one-plus : (n : ℕ) → suc n ≡ 1 + n
    one-plus n = omega arith

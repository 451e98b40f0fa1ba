-- Laws of `total` and `sum_to`. Assumes nothing.
use Prim.Native.Nat.{ℕ, zero, suc, ◌+◌, ◌*◌, ◌-◌, ◌≤◌, ◌<◌}
use mathlib.Core.Bool.{Bool, true, false}
use mathlib.Core.Path.{◌≡◌, refl, ap, sym, ◌∙◌}
use mathlib.Core.List.{List, [], ◌∷◌, ◌++◌, map}
use native.Mathlib.Numerals.{add-one}
use native.Mathlib.Omega.{arith}
use native.Mathlib.Decide.{ℕ_discrete}
use lib.ListN.{length}
use lib.Dec.{eqb}
use borrow.Author.Tests.{eq-eqb, ne_eqb}
use Rattle.words.specs.Lists.{pick, All, keep, one, total, sum_to}

module _ {A : Type 0} where
  pub total-append : (w : A → ℕ) (xs ys : List A) → total w (xs ++ ys) ≡ total w xs + total w ys
  total-append w [] ys = omega arith
  total-append w (x ∷ xs) ys = omega (arith, total-append w xs ys)

  pub total-map : {B : Type 0} (f : B → A) (w : A → ℕ) (xs : List B) → total w (map f xs) ≡ total (λ (x : B). w (f x)) xs
  total-map f w [] = refl
  total-map f w (x ∷ xs) = ap (λ (n : ℕ). w (f x) + n) (total-map f w xs)

  pub total-keep : (f : A → Bool) (w : A → ℕ) (xs : List A) → total w (keep f xs) ≡ total (λ (x : A). pick (f x) (w x) 0) xs
  total-keep f w [] = refl
  total-keep f w (x ∷ xs) = go (f x) (total-keep f w xs)
    where
      go : (b : Bool) → total w (keep f xs) ≡ total (λ (x : A). pick (f x) (w x) 0) xs → total w (pick b (x ∷ keep f xs) (keep f xs)) ≡ pick b (w x) 0 + total (λ (x : A). pick (f x) (w x) 0) xs
      go true h = omega arith
      go false h = omega arith

  pub total-same : (P : A → Type 0) (w v : A → ℕ) (xs : List A) → All P xs → ((x : A) → P x → w x ≡ v x) → total w xs ≡ total v xs
  total-same P w v [] a h = refl
  total-same P w v (x ∷ xs) a h = omega (arith, total-same P w v xs a.1 h, h x a.0)

  pub total-le : (P : A → Type 0) (w v : A → ℕ) (xs : List A) → All P xs → ((x : A) → P x → w x ≤ v x) → total w xs ≤ total v xs
  total-le P w v [] a h = omega arith
  total-le P w v (x ∷ xs) a h = omega (arith, total-le P w v xs a.1 h, h x a.0)

  pub total-add : (u v : A → ℕ) (xs : List A) → total (λ (x : A). u x + v x) xs ≡ total u xs + total v xs
  total-add u v [] = refl
  total-add u v (x ∷ xs) = omega (arith, total-add u v xs)

  pub total-zero : (xs : List A) → total (λ (x : A). 0) xs ≡ 0
  total-zero [] = refl
  total-zero (x ∷ xs) = omega (arith, total-zero xs)

  pub total-swap : (w : ℕ → A → ℕ) (n : ℕ) (xs : List A) → sum_to n (λ (i : ℕ). total (w i) xs) ≡ total (λ (x : A). sum_to n (λ (i : ℕ). w i x)) xs
  total-swap w zero xs = sym (total-zero xs)
  total-swap w (suc n) xs = omega (arith, total-swap w n xs, total-add (w n) (λ (x : A). sum_to n (λ (i : ℕ). w i x)) xs)

  pub total-length : (xs : List A) → total (λ (x : A). 1) xs ≡ length xs
  total-length [] = refl
  total-length (x ∷ xs) = omega (arith, total-length xs)

pub sum_to-same : (n : ℕ) (f g : ℕ → ℕ) → ((i : ℕ) → i < n → f i ≡ g i) → sum_to n f ≡ sum_to n g
sum_to-same zero f g h = refl
sum_to-same (suc n) f g h = omega (arith, h n (omega arith), sum_to-same n f g (λ i l. h i (omega arith)))

-- the numbers from k on, and those before
pub sum_to-append : (m k : ℕ) (f : ℕ → ℕ) → sum_to (k + m) f ≡ sum_to m (λ (i : ℕ). f (k + i)) + sum_to k f
sum_to-append zero k f = let z : k + 0 ≡ k = omega arith in rw z (omega arith)
sum_to-append (suc m) k f = let z : k + suc m ≡ suc (k + m) = omega arith in rw z (omega (arith, sum_to-append m k f))

pub sum_to-under : (k n : ℕ) (f : ℕ → ℕ) → k ≤ n → sum_to k f ≤ sum_to n f
sum_to-under k n f h = let z : k + (n - k) ≡ n = omega arith in omega (arith, sum_to-append (n - k) k f, ap (λ (m : ℕ). sum_to m f) z)

-- one number more
pub sum_to-more : (n : ℕ) (f : ℕ → ℕ) → sum_to (n + 1) f ≡ f n + sum_to n f
sum_to-more n f = ap (λ (k : ℕ). sum_to k f) (add-one n)

pub sum_to-zero : (n : ℕ) → sum_to n (λ (i : ℕ). 0) ≡ 0
sum_to-zero zero = refl
sum_to-zero (suc n) = omega (arith, sum_to-zero n)

-- the value at x, picked out of a sum
pub sum_to-out : (n x : ℕ) (v : ℕ → ℕ) → n ≤ x → sum_to n (λ (i : ℕ). one (eqb i x) * v i) ≡ 0
sum_to-out zero x v h = refl
sum_to-out (suc n) x v h = rw (ne_eqb n x (λ e. omega arith)) (omega (arith, sum_to-out n x v (omega arith)))

pub sum_to-at : (n x : ℕ) (v : ℕ → ℕ) → x < n → sum_to n (λ (i : ℕ). one (eqb i x) * v i) ≡ v x
sum_to-at zero x v h = absurd (omega arith)
sum_to-at (suc n) x v h = go (ℕ_discrete n x) (sum_to-at n x v)
  where
    go : Dec (n ≡ x) → (x < n → sum_to n (λ (i : ℕ). one (eqb i x) * v i) ≡ v x) → one (eqb n x) * v n + sum_to n (λ (i : ℕ). one (eqb i x) * v i) ≡ v x
    go (yes e) r = rw (eq-eqb n x e) (omega (arith, sum_to-out n x v (omega arith), ap v e))
    go (no m) r = rw (ne_eqb n x m) (omega (arith, r (omega arith)))

pub sum_to-le : (n : ℕ) (f g : ℕ → ℕ) → ((i : ℕ) → i < n → f i ≤ g i) → sum_to n f ≤ sum_to n g
sum_to-le zero f g h = omega arith
sum_to-le (suc n) f g h = omega (arith, h n (omega arith), sum_to-le n f g (λ i l. h i (omega arith)))

pub squeeze : (n : ℕ) (f g : ℕ → ℕ) → ((i : ℕ) → i < n → f i ≤ g i) → sum_to n f ≡ sum_to n g → (i : ℕ) → i < n → f i ≡ g i
squeeze zero f g h e i l = absurd (omega arith)
squeeze (suc n) f g h e i l = go (ℕ_discrete i n) (squeeze n f g (λ i l. h i (omega arith)))
  where
    below : sum_to n f ≤ sum_to n g
    below = sum_to-le n f g (λ i l. h i (omega arith))

    go : Dec (i ≡ n) → (sum_to n f ≡ sum_to n g → (i : ℕ) → i < n → f i ≡ g i) → f i ≡ g i
    go (yes q) r = rw q (omega (arith, below, h n (omega arith), e))
    go (no m) r = r (omega (arith, below, h n (omega arith), e)) i (omega arith)

-- a total by the values' numbers
pub by_value : (K : ℕ) (u : ℕ → ℕ) (xs : List ℕ) → All (λ (x : ℕ). x < K) xs → total u xs ≡ sum_to K (λ (k : ℕ). total (λ (x : ℕ). one (eqb k x)) xs * u k)
by_value K u [] a = sym (sum_to-same K (λ (k : ℕ). 0 * u k) (λ (k : ℕ). 0) (λ i l. omega arith) ∙ sum_to-zero K)
by_value K u (x ∷ xs) a = omega (arith, by_value K u xs a.1, sum_to-at K x u a.0, split K)
  where
    split : (n : ℕ) → sum_to n (λ (k : ℕ). (one (eqb k x) + total (λ (x : ℕ). one (eqb k x)) xs) * u k) ≡ sum_to n (λ (i : ℕ). one (eqb i x) * u i) + sum_to n (λ (k : ℕ). total (λ (x : ℕ). one (eqb k x)) xs * u k)
    split zero = refl
    split (suc n) = omega (arith, split n)

pub sum_to-add : (n : ℕ) (f g : ℕ → ℕ) → sum_to n (λ (i : ℕ). f i + g i) ≡ sum_to n f + sum_to n g
sum_to-add zero f g = refl
sum_to-add (suc n) f g = omega (arith, sum_to-add n f g)

pub keep-le : {A : Type 0} (f : A → Bool) (w : A → ℕ) (xs : List A) → total w (keep f xs) ≤ total w xs
keep-le f w [] = omega arith
keep-le {A = A} f w (x ∷ xs) = go (f x) (keep-le f w xs)
  where
    go : (b : Bool) → total w (keep f xs) ≤ total w xs → total w (pick b (x ∷ keep f xs) (keep f xs)) ≤ w x + total w xs
    go true h = omega arith
    go false h = omega arith

pub total-const : {A : Type 0} (n : ℕ) (xs : List A) → total (λ (x : A). n) xs ≡ n * length xs
total-const n [] = omega arith
total-const n (x ∷ xs) = omega (arith, total-const n xs)

-- one term of a sum
pub term-le : (n : ℕ) (f : ℕ → ℕ) (i : ℕ) → i < n → f i ≤ sum_to n f
term-le zero f i h = absurd (omega arith)
term-le (suc n) f i h = go (ℕ_discrete i n) (term-le n f i)
  where
    go : Dec (i ≡ n) → (i < n → f i ≤ sum_to n f) → f i ≤ f n + sum_to n f
    go (yes q) r = rw q (omega arith)
    go (no m) r = omega (arith, r (omega arith))

pub sum_to-mul : (n c : ℕ) (f : ℕ → ℕ) → sum_to n (λ (i : ℕ). f i * c) ≡ sum_to n f * c
sum_to-mul zero c f = omega arith
sum_to-mul (suc n) c f = omega (arith, sum_to-mul n c f)

-- The vocabulary of lists that all definitions share: choice, search, counts, sums and parts.
use Rattle.std.specs.Prelude.{ℕ, zero, suc, ◌+◌, Bool, true, false, List, [], ◌∷◌, ◌++◌, length, take, drop, eqb}

-- a where the test holds, else b
abbrev pub pick {ℓ} : {A : Type ℓ} → Bool → A → A → A
pick true a b = a
pick false a b = b

-- some element passes the test
abbrev pub any {ℓ} : {A : Type ℓ} → (A → Bool) → List A → Bool
any f [] = false
any f (x ∷ xs) = pick (f x) true (any f xs)

-- one of the tests holds
abbrev pub either : List Bool → Bool
either ts = any (λ (t : Bool). t) ts

-- both tests hold
abbrev pub both : Bool → Bool → Bool
both s t = pick s t false

-- every element has the property
abbrev pub All {ℓ} : {A : Type ℓ} → (A → Type 0) → List A → Type 0
All P [] = Unit
All P (x ∷ xs) = P x × All P xs

-- x is an element
pub data In {A : Type 0} (x : A) : List A → Type 0 where
  here : {xs : List A} → In x (x ∷ xs)
  there : {y : A} {xs : List A} → In x xs → In x (y ∷ xs)

-- the number is an element
abbrev pub has : ℕ → List ℕ → Bool
has k l = any (eqb k) l

-- some number stands in the list twice
abbrev pub twice : List ℕ → Bool
twice [] = false
twice (k ∷ ks) = pick (has k ks) true (twice ks)

-- the elements that pass the test
abbrev pub keep {ℓ} : {A : Type ℓ} → (A → Bool) → List A → List A
keep f [] = []
keep f (x ∷ xs) = pick (f x) (x ∷ keep f xs) (keep f xs)

-- 1 for a test that holds, else 0
abbrev pub one : Bool → ℕ
one b = pick b 1 0

-- the sum of a weight over a list
abbrev pub total {ℓ} : {A : Type ℓ} → (A → ℕ) → List A → ℕ
total w [] = 0
total w (x ∷ xs) = w x + total w xs

-- how many elements pass the test
abbrev pub count {ℓ} : {A : Type ℓ} → (A → Bool) → List A → ℕ
count f xs = total (λ (x : _). one (f x)) xs

-- f 0 + .. + f (n - 1)
abbrev pub sum_to : ℕ → (ℕ → ℕ) → ℕ
sum_to zero f = 0
sum_to (suc n) f = f n + sum_to n f

-- i, i + 1, .., n numbers
abbrev pub upto : ℕ → ℕ → List ℕ
upto zero i = []
upto (suc n) i = i ∷ upto n (suc i)

-- some number below n passes the test
abbrev pub any_to : ℕ → (ℕ → Bool) → Bool
any_to n f = any f (upto n 0)

-- the numbers two by two; an odd one at the end is in no pair
abbrev pub pair_up : List ℕ → List (ℕ × ℕ)
pair_up [] = []
pair_up (x ∷ []) = []
pair_up (x ∷ y ∷ r) = (x, y) ∷ pair_up r

-- the list cut into parts of the given lengths, from its front
abbrev pub parts {ℓ} : {A : Type ℓ} → List ℕ → List A → List (List A)
parts [] xs = []
parts (n ∷ ns) xs = take n xs ∷ parts ns (drop n xs)

-- x in front of the lent bytes, which stay as they are behind it
abbrev pub over : List ℕ → List ℕ → List ℕ
over x lent = x ++ drop (length x) lent

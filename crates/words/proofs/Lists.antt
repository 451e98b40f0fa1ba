-- Laws of `any`, `All`, `keep`, `upto` and the tests. Assumes nothing.
use Prim.Native.Nat.{ℕ, zero, suc, ◌+◌, ◌≤◌, ◌<◌}
use mathlib.Core.Bool.{Bool, true, false, not}
use mathlib.Core.Logic.{◌↔◌}
use mathlib.Core.Path.{◌≡◌, refl, ap, sym}
use mathlib.Core.List.{List, [], ◌∷◌, ◌++◌, map}
use native.Mathlib.Omega.{arith}
use native.Mathlib.Decide.{ℕ_discrete}
use lib.ListN.{length, get_or, take, drop, replicate}
use lib.Dec.{eqb}
use borrow.Author.Tests.{eqb-true, eqb-false, not-false, eq-eqb}
use Rattle.words.specs.Lists.{pick, any, both, All, In, here, there, keep, upto, any_to}

-- a number that is not 0
pub pos : (n : ℕ) → (n ≡ 0 → ⊥) → 0 < n
pos zero h = absurd (h refl)
pos (suc n) h = omega arith

pub is_eq : (a b : ℕ) → not (eqb a b) ≡ false → a ≡ b
is_eq a b e = eqb-true a b (not-false _ e)

pub not_eqb : (a b : ℕ) → a ≡ b → not (eqb a b) ≡ false
not_eqb a b e = ap not (eq-eqb a b e)

-- true is not false
pub clash : {A : Type 0} → true ≡ false → A
clash e = absurd (eqb-false 0 0 e refl)

-- two tests: the second fails where the first holds
pub both_false : (s t : Bool) → (s ≡ true → t ≡ false) → both s t ≡ false
both_false true t h = h refl
both_false false t h = refl

pub both-then : (s t : Bool) → both s t ≡ false → s ≡ true → t ≡ false
both-then true t e q = e
both-then false t e q = clash (sym q)

pub both_true : (s t : Bool) → s ≡ true → t ≡ true → both s t ≡ true
both_true s t p q = cc

pub both_right : (s t : Bool) → both s t ≡ true → t ≡ true
both_right true t e = e
both_right false t e = clash (sym e)

pub All-append : {A : Type 0} (P : A → Type 0) (xs ys : List A) → All P xs → All P ys → All P (xs ++ ys)
All-append P [] ys a b = b
All-append P (x ∷ xs) ys a b = (a.0, All-append P xs ys a.1 b)

pub All-zip : {A : Type 0} (P Q R : A → Type 0) → ((x : A) → P x → Q x → R x) → (xs : List A) → All P xs → All Q xs → All R xs
All-zip P Q R f [] a b = tt
All-zip P Q R f (x ∷ xs) a b = (f x a.0 b.0, All-zip P Q R f xs a.1 b.1)

pub All-to : {A : Type 0} (P Q : A → Type 0) → ((x : A) → P x → Q x) → (xs : List A) → All P xs → All Q xs
All-to P Q f [] a = tt
All-to P Q f (x ∷ xs) a = (f x a.0, All-to P Q f xs a.1)

pub All-unmap : {A B : Type 0} (f : A → B) (P : B → Type 0) (xs : List A) → All P (map f xs) → All (λ (x : A). P (f x)) xs
All-unmap f P [] a = tt
All-unmap f P (x ∷ xs) a = (a.0, All-unmap f P xs a.1)

pub All-map : {A B : Type 0} (f : A → B) (P : B → Type 0) (xs : List A) → All (λ (x : A). P (f x)) xs → All P (map f xs)
All-map f P [] a = tt
All-map f P (x ∷ xs) a = (a.0, All-map f P xs a.1)

pub All-take : {A : Type 0} (P : A → Type 0) (n : ℕ) (xs : List A) → All P xs → All P (take n xs)
All-take P zero xs a = tt
All-take P (suc n) [] a = tt
All-take P (suc n) (x ∷ xs) a = (a.0, All-take P n xs a.1)

pub All-drop : {A : Type 0} (P : A → Type 0) (n : ℕ) (xs : List A) → All P xs → All P (drop n xs)
All-drop P zero xs a = a
All-drop P (suc n) [] a = tt
All-drop P (suc n) (x ∷ xs) a = All-drop P n xs a.1

pub All-keep : {A : Type 0} (P : A → Type 0) (f : A → Bool) (xs : List A) → All P xs → All (λ (x : A). P x × (f x ≡ true)) (keep f xs)
All-keep {A = A} P f [] a = tt
All-keep {A = A} P f (x ∷ xs) a = go (f x) refl (All-keep P f xs a.1)
  where
    go : (b : Bool) → f x ≡ b → All (λ (x : A). P x × (f x ≡ true)) (keep f xs) → All (λ (x : A). P x × (f x ≡ true)) (pick b (x ∷ keep f xs) (keep f xs))
    go true e r = ((a.0, e), r)
    go false e r = r

-- every element, by index and by membership
pub All-at : {A : Type 0} (P : A → Type 0) (d : A) (l : List A) → All P l → (o : ℕ) → o < length l → P (get_or l o d)
All-at P d [] a o h = absurd (omega arith)
All-at P d (x ∷ l) a zero h = a.0
All-at P d (x ∷ l) a (suc o) h = All-at P d l a.1 o (omega arith)

pub All-of : {A : Type 0} (P : A → Type 0) (d : A) (l : List A) → ((i : ℕ) → i < length l → P (get_or l i d)) → All P l
All-of P d [] h = tt
All-of P d (x ∷ l) h = (h 0 (omega arith), All-of P d l (λ i q. h (suc i) (omega arith)))

pub All-in : {A : Type 0} (Q : A → Type 0) (xs : List A) → All Q xs → (x : A) → In x xs → Q x
All-in {A = A} Q [] a x i = elim i [ ]
All-in Q (y ∷ xs) a x here = a.0
All-in Q (y ∷ xs) a x (there i) = All-in Q xs a.1 x i

-- a search that finds nothing, and one that must find nothing
pub any_none : {A : Type 0} (f : A → Bool) (P : A → Type 0) → ((x : A) → f x ≡ false → P x) → (xs : List A) → any f xs ≡ false → All P xs
any_none f P h [] e = tt
any_none f P h (x ∷ xs) e = go (f x) (h x) (any_none f P h xs) e
  where
    go : (b : Bool) → (b ≡ false → P x) → (any f xs ≡ false → All P xs) → pick b true (any f xs) ≡ false → P x × All P xs
    go true h r e = clash e
    go false h r e = (h refl, r e)

pub any_false : {A : Type 0} (f : A → Bool) (xs : List A) → All (λ (x : A). f x ≡ false) xs → any f xs ≡ false
any_false f [] a = refl
any_false f (x ∷ xs) a = rw a.0 (any_false f xs a.1)

pub keep_append : {A : Type 0} (f : A → Bool) (xs ys : List A) → keep f (xs ++ ys) ≡ keep f xs ++ keep f ys
keep_append f [] ys = refl
keep_append f (x ∷ xs) ys = rw (keep_append f xs ys) (go (f x))
  where
    go : (b : Bool) → pick b (x ∷ (keep f xs ++ keep f ys)) (keep f xs ++ keep f ys) ≡ pick b (x ∷ keep f xs) (keep f xs) ++ keep f ys
    go true = refl
    go false = refl

pub map-append : {A B : Type 0} (f : A → B) (xs ys : List A) → map f (xs ++ ys) ≡ map f xs ++ map f ys
map-append f [] ys = refl
map-append f (x ∷ xs) ys = ap (λ (l : List _). f x ∷ l) (map-append f xs ys)

pub map_at : {A B : Type 0} (f : A → B) (d : A) (e : B) (l : List A) (o : ℕ) → o < length l → get_or (map f l) o e ≡ f (get_or l o d)
map_at f d e [] o h = absurd (omega arith)
map_at f d e (x ∷ l) zero h = refl
map_at f d e (x ∷ l) (suc o) h = map_at f d e l o (omega arith)

pub upto-in : (n i : ℕ) → All (λ (o : ℕ). o < i + n) (upto n i)
upto-in zero i = tt
upto-in (suc n) i = (omega arith, All-to (λ (o : ℕ). o < suc i + n) (λ (o : ℕ). o < i + suc n) (λ o h. omega arith) (upto n (suc i)) (upto-in n (suc i)))

pub length-upto : (n i : ℕ) → length (upto n i) ≡ n
length-upto zero i = refl
length-upto (suc n) i = ap suc (length-upto n (suc i))

pub upto-at : (n j i : ℕ) → i < n → get_or (upto n j) i 0 ≡ j + i
upto-at zero j i h = absurd (omega arith)
upto-at (suc n) j zero h = omega arith
upto-at (suc n) j (suc i) h = omega (arith, upto-at n (suc j) i (omega arith))

-- all of a list of numbers, and all between its ends
pub upto_all : (P : ℕ → Type 0) (n i : ℕ) → All P (upto n i) ↔ ((o : ℕ) → i ≤ o → o < i + n → P o)
upto_all P zero i = (λ a o h l. absurd (omega arith), λ f. tt)
upto_all P (suc n) i = let r = upto_all P n (suc i) in
    (λ a o h l. go o (ℕ_discrete o i) h l a.0 (r.0 a.1), λ f. (f i (omega arith) (omega arith), r.1 (λ o h l. f o (omega arith) (omega arith))))
  where
    go : (o : ℕ) → Dec (o ≡ i) → i ≤ o → o < i + suc n → P i → ((o : ℕ) → suc i ≤ o → o < suc i + n → P o) → P o
    go o (yes e) h l p f = rw e p
    go o (no m) h l p f = f o (omega arith) (omega arith)

pub any_to-none : (n : ℕ) (f : ℕ → Bool) → any_to n f ≡ false → (i : ℕ) → i < n → f i ≡ false
any_to-none n f e i h = (upto_all (λ (i : ℕ). f i ≡ false) n 0).0 (any_none f (λ (i : ℕ). f i ≡ false) (λ x q. q) (upto n 0) e) i (omega arith) (omega arith)

pub any_to-false : (n : ℕ) (f : ℕ → Bool) → ((i : ℕ) → i < n → f i ≡ false) → any_to n f ≡ false
any_to-false n f h = any_false f (upto n 0) (All-to (λ (o : ℕ). o < 0 + n) (λ (o : ℕ). f o ≡ false) (λ o l. h o (omega arith)) (upto n 0) (upto-in n 0))

-- the same value in all places, and past the end
pub same_at : {A : Type 0} (n i : ℕ) (a : A) → get_or (replicate n a) i a ≡ a
same_at zero i a = refl
same_at (suc n) zero a = refl
same_at (suc n) (suc i) a = same_at n i a

pub zeros-at : (n i : ℕ) → get_or {A = ℕ} (replicate n 0) i 0 ≡ 0
zeros-at n i = same_at n i 0

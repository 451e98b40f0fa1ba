-- Laws of `decimal`: one digit, one digit more, and how many at most. Assumes nothing.
use mathlib.Core.Path.{◌≡◌, refl, ap, ◌∙◌}
use mathlib.Core.Bool.{Bool, true, false}
use mathlib.Core.List.{List, [], ◌∷◌, ◌++◌}
use Prim.Native.Nat.{ℕ, zero, suc, ◌+◌, ◌/◌, ◌%◌, ◌^◌, ◌<◌, ◌≤◌}
use native.Mathlib.Nat.{not-suc-le-zero, pow-suc}
use native.Mathlib.Omega.{arith}
use lib.Dec.{ltb}
use lib.ListN.{length, set, length-append}
use borrow.Author.Tests.{lt-ltb, le-ltb, ltb-true, ltb-false}
use Rattle.words.specs.Lists.{over}
use Rattle.words.proofs.Over.{over-more}
use Rattle.text.specs.Decimal.{digits_in, decimal}

split : {P : Type 0} (b : Bool) → (b ≡ true → P) → (b ≡ false → P) → P
split true f g = f refl
split false f g = g refl

enough : (f g n : ℕ) → n < f → n < g → digits_in f n ≡ digits_in g n
enough zero g n h k = absurd (not-suc-le-zero h)
enough (suc f) zero n h k = absurd (not-suc-le-zero k)
enough (suc f) (suc g) n h k =
    split (ltb n 10) (λ t. simp t)
    (λ t. let w = ltb-false n 10 t in simp (t, enough f g (n / 10) (omega arith) (omega arith)))

pub small : (n : ℕ) → n < 10 → decimal n ≡ (48 + n) ∷ []
unfolding decimal
small n h = simp (lt-ltb n 10 h) refl

pub more : (n : ℕ) → 10 ≤ n → decimal n ≡ decimal (n / 10) ++ ((48 + n % 10) ∷ [])
unfolding decimal
more n h = simp (le-ltb n 10 h, enough n (suc (n / 10)) (n / 10) (omega arith) (omega arith))

pub one_more : (n : ℕ) → 10 ≤ n → length (decimal n) ≡ length (decimal (n / 10)) + 1
one_more n h = ap length (more n h) ∙ length-append (decimal (n / 10)) ((48 + n % 10) ∷ [])

at_most : (f n : ℕ) → length (digits_in f n) ≤ f
at_most zero n = omega arith
at_most (suc f) n =
    split (ltb n 10) (λ t. simp t (omega arith))
    (λ t. simp (t, length-append) (omega (arith, at_most f (n / 10))))

pub few : (n : ℕ) → length (decimal n) ≤ n + 1
unfolding decimal
few n = omega (arith, at_most (suc n) n)

-- the digits of a number below a power of ten, of which there are at most as many as the power has zeros
pub digits_are : (k n : ℕ) → n < 10 ^ suc k → decimal n ≡ digits_in (suc k) n
digits_are zero n h = rw (small n h, lt-ltb n 10 h)
digits_are (suc k) n h =
    split (ltb n 10) (λ t. let w : n < 10 = ltb-true n 10 t in rw (small n w, t))
    (λ t.
    let w = ltb-false n 10 t in
    let b : n / 10 < 10 ^ suc k = omega (arith, pow-suc 10 (suc k)) in
    rw (more n w, digits_are k (n / 10) b, t))

pub short : (k n : ℕ) → n < 10 ^ suc k → length (decimal n) ≤ suc k
short k n h = rw (digits_are k n h) (at_most (suc k) n)

-- a digit more is one of at most 20 in 64 bits
pub word_short : (n : ℕ) → 10 ≤ n → n < 2 ^ 64 → length (decimal (n / 10)) ≤ 19
word_short n h w = omega (arith, one_more n h, short 19 n (omega arith))

-- the last digit written behind the others
pub last_digit : (n : ℕ) (xs : List ℕ) → 10 ≤ n → length (decimal n) ≤ length xs
    → set (over (decimal (n / 10)) xs) (length (decimal (n / 10))) (48 + n % 10) ≡ over (decimal n) xs
last_digit n xs h fits = rw (more n h) (over-more (decimal (n / 10)) xs (48 + n % 10) (omega (arith, one_more n h)))

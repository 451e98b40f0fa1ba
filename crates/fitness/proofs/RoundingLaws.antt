-- FIT's thousandths are rounded as A.7 asks, no other number is, and more jumps never raise them. Assumes nothing.
use Prim.Native.Nat.{ℕ, zero, suc, ◌+◌, ◌*◌, ◌-◌, ◌%◌, ◌≤◌, ◌<◌, min}
use mathlib.Core.Path.{◌≡◌, refl, sym, subst, ◌∙◌}
use native.Mathlib.Omega.{arith}
use native.Mathlib.Decide.{ℕ_discrete, dec_le}
use native.Mathlib.Nat.{mod-lt, div-zero, div-add-mod', mul_left_comm, mul-le-mul_right, le_antisymm}
use borrow.Author.Tests.{eq-eqb, ne_eqb}
use Rattle.fitness.specs.Fitness.{nearest, most_shown, thousandths}
use Rattle.fitness.specs.Rounding.{Nearest, Rounded, RoundedSo, NeverRaised}

-- the quotient by twice the transfers is the nearest, by what it leaves
by-rest : (q r j t : ℕ) → q * (2 * t) + r ≡ 2000 * (t - j) + t → r < 2 * t → Nearest q j t
by-rest q r j t e h = record { half_up = omega (arith, mul_left_comm q 2 t); under-half = omega (arith, mul_left_comm q 2 t) }

nearest-is : (j t : ℕ) → 1 ≤ t → Nearest (nearest j t) j t
nearest-is j t some =
    by-rest (nearest j t) ((2000 * (t - j) + t) % (2 * t)) j t (div-add-mod' (2000 * (t - j) + t) (2 * t))
    (mod-lt (2000 * (t - j) + t) (omega arith))

-- more jumps have no larger nearest
nearest-falls : {m n j k t : ℕ} → j ≤ k → Nearest m k t → Nearest n j t → m ≤ n
nearest-falls {m} {n} {j} {k} {t} h M N = go (dec_le m n)
  where
    go : Dec (m ≤ n) → m ≤ n
    go (yes l) = l
    go (no l) = let u : suc n ≤ m = omega arith in absurd (omega (arith, mul-le-mul_right t u))

most-none : (j : ℕ) → j ≡ 0 → most_shown j ≡ 1000
most-none j z = rw (eq-eqb j 0 z) refl

most-some : (j : ℕ) → 1 ≤ j → most_shown j ≡ 999
most-some j h = rw (ne_eqb j 0 (λ z. omega arith)) refl

-- the smaller of the nearest, q, and the most that is shown, m
module _ (m q j t : ℕ) (some : 1 ≤ t) (part : j ≤ t) (N : Nearest q j t) where
  without : j ≡ 0 → m ≡ 1000 → Rounded (min m q) j t
  without z e =
      let w : Nearest 1000 j t = record { half_up = omega arith; under-half = omega arith } in
      let u : q ≤ 1000 = nearest-falls (omega arith) N w in
      let v : 1000 ≤ q = nearest-falls (omega arith) w N in
      let i : min m q ≡ 1000 = omega arith in
      rw i (record {
        near = record { below = omega arith; above = omega arith };
        no_jump = λ _. refl;
        with-a-jump = λ h. absurd (omega arith);
        to-nearest = λ _. w;
        at-the-cap = λ h c. absurd (omega arith);
      })

  with-one : 1 ≤ j → m ≡ 999 → Rounded (min m q) j t
  with-one h e = go (dec_le 999 q)
    where
      go : Dec (999 ≤ q) → Rounded (min m q) j t
      go (yes l) =
          let i : min m q ≡ 999 = omega arith in
          let u : 999 * t ≤ q * t = mul-le-mul_right t l in
          rw i (record {
            near = record { below = omega arith; above = omega arith };
            no_jump = λ z. absurd (omega arith);
            with-a-jump = λ _. omega arith;
            to-nearest = λ f. record { half_up = omega arith; under-half = omega (arith, f h) };
            at-the-cap = λ _ _. refl;
          })
      go (no l) =
          let i : min m q ≡ q = omega arith in
          let k : q ≤ 998 = omega arith in
          let u : q * t ≤ 998 * t = mul-le-mul_right t k in
          rw i (record {
            near = record { below = omega arith; above = omega arith };
            no_jump = λ z. absurd (omega arith);
            with-a-jump = λ _. omega arith;
            to-nearest = λ _. N;
            at-the-cap = λ _ c. absurd (omega arith);
          })

pub thousandths-rounded : (j t : ℕ) → 1 ≤ t → j ≤ t → Rounded (thousandths j t) j t
unfolding thousandths
thousandths-rounded j t some part = go (ℕ_discrete j 0)
  where
    N : Nearest (nearest j t) j t
    N = nearest-is j t some

    go : Dec (j ≡ 0) → Rounded (min (most_shown j) (nearest j t)) j t
    go (yes z) = without (most_shown j) (nearest j t) j t some part N z (most-none j z)
    go (no z) = let h : 1 ≤ j = omega arith in with-one (most_shown j) (nearest j t) j t some part N h (most-some j h)

-- two numbers that are rounded so are one
same : {m n j t : ℕ} → Rounded m j t → Rounded n j t → m ≡ n
same {m} {n} {j} {t} M N = go (ℕ_discrete j 0) (dec_le (2000 * j) t)
  where
    go : Dec (j ≡ 0) → Dec (2000 * j ≤ t) → m ≡ n
    go (yes z) d = M.no_jump z ∙ sym (N.no_jump z)
    go (no z) (yes c) = let h : 1 ≤ j = omega arith in M.at-the-cap h c ∙ sym (N.at-the-cap h c)
    go (no z) (no c) =
        let f : 1 ≤ j → t < 2000 * j = λ _. omega arith in
        let a : Nearest m j t = M.to-nearest f in
        let b : Nearest n j t = N.to-nearest f in
        le_antisymm (nearest-falls (omega arith) a b) (nearest-falls (omega arith) b a)

pub rounded-so : RoundedSo
rounded-so n j t some part =
    let R = thousandths-rounded j t some part in
    (λ r. same r R, λ e. subst (λ (i : ℕ). Rounded i j t) (sym e) R)

most-falls : (j k : ℕ) → j ≤ k → most_shown k ≤ most_shown j
most-falls j k h = go (ℕ_discrete j 0) (ℕ_discrete k 0)
  where
    go : Dec (j ≡ 0) → Dec (k ≡ 0) → most_shown k ≤ most_shown j
    go (yes a) (yes b) = omega (arith, most-none j a, most-none k b)
    go (yes a) (no b) = omega (arith, most-none j a, most-some k (omega arith))
    go (no a) b = omega (arith, most-some j (omega arith), most-some k (omega arith))

pub most-le : (j : ℕ) → most_shown j ≤ 1000
most-le j = omega (arith, most-falls 0 j (omega arith))

pub never-raised : NeverRaised
unfolding thousandths
never-raised j k zero h = simp div-zero (omega arith)
never-raised j k (suc t) h = omega (
  arith,
  most-falls j k h,
  nearest-falls h (nearest-is k (suc t) (omega arith)) (nearest-is j (suc t) (omega arith)),
)

-- None of the tests 44 to 47 holds exactly of a sound state. Assumes nothing.
use Prim.Native.Nat.{ℕ, ◌*◌}
use mathlib.Core.Bool.{Bool, true, false, not}
use mathlib.Core.Logic.{◌⊎◌, inl, inr}
use mathlib.Core.Path.{◌≡◌, refl, ap, sym}
use mathlib.Core.List.{[], ◌∷◌}
use native.Mathlib.Omega.{arith}
use lib.ListN.{length, get_or}
use lib.Dec.{eqb}
use borrow.Author.Tests.{eqb-true, eqb-false, ltb-false, leb-false, not-true, eq-eqb, ne_eqb, le-ltb, lt-leb}
use Rattle.words.specs.Lists.{either}
use Rattle.words.proofs.Lists.{is_eq, not_eqb, clash, both_false, both-then, All-to, any_none, any_false, any_to-none, any_to-false}
use Rattle.words.proofs.Refusals.{None}
use Rattle.net.specs.Net.{Net}
use Rattle.replay.specs.Plain.{closers, register_code}
use Rattle.replay.specs.State.{State}
use Rattle.replay.specs.Sound.{Sound}
use Rattle.replay.specs.Record.{counts_size}
use Rattle.replay.proofs.Accepted.{Registered, registered, register-ok}
use Rattle.checkpoint.specs.Restore.{apart, tests45, tests46, tests47}

either-two : (s t : Bool) → either (s ∷ t ∷ []) ≡ true → (s ≡ true) ⊎ (t ≡ true)
either-two true t e = inl refl
either-two false true e = inr refl
either-two false false e = clash (sym e)

two-either : (s t : Bool) → (s ≡ true) ⊎ (t ≡ true) → either (s ∷ t ∷ []) ≡ true
two-either true t h = refl
two-either false true h = refl
two-either false false (inl e) = e
two-either false false (inr e) = e

-- the test of two places, and what it says
module _ (N : Net) (x y : ℕ) where
  apart-is : apart N x y ≡ true → (x ≡ y) ⊎ (N.kind_of x ≡ N.kind_of y → ⊥)
  apart-is e = go (either-two (eqb x y) (not (eqb (N.kind_of x) (N.kind_of y))) e)
    where
      go : (eqb x y ≡ true) ⊎ (not (eqb (N.kind_of x) (N.kind_of y)) ≡ true) → (x ≡ y) ⊎ (N.kind_of x ≡ N.kind_of y → ⊥)
      go (inl e) = inl (eqb-true _ _ e)
      go (inr e) = inr (eqb-false _ _ (not-true _ e))

  is-apart : (x ≡ y) ⊎ (N.kind_of x ≡ N.kind_of y → ⊥) → apart N x y ≡ true
  is-apart (inl e) = two-either (eqb x y) (not (eqb (N.kind_of x) (N.kind_of y))) (inl (eq-eqb x y e))
  is-apart (inr n) = two-either (eqb x y) (not (eqb (N.kind_of x) (N.kind_of y))) (inr (ap not (ne_eqb _ _ n)))

-- the object does not stand on its sink
abbrev off_sink : Net → State → ℕ → Bool
off_sink N d o = not (eqb (get_or d.places o 0) (N.sink (get_or d.kinds o 0)))

-- a sound state passes
pub sound-registered : (N : Net) (d : State) → Sound N d → register_code N d.kinds ≡ 0
sound-registered N d S = register-ok N d.kinds (record { some = S.some; few = S.few; kinds = S.kinds })

module _ (N : Net) (d : State) (S : Sound N d) (size : ℕ) where
  pub sound45 : (closed : Bool) → size ≡ 4 * length d.kinds → (closed ≡ true → d.closed ≡ 1) → None (tests45 N d size closed)
  sound45 closed e c = (
    not_eqb _ _ e,
    (
      any_to-false (length d.kinds) _ (λ o h. lt-leb _ _ (S.on.at o h).0),
      (
        any_to-false (length d.kinds) _ (λ o h. not_eqb _ _ (S.on.at o h).1),
        (both_false closed _ (λ q. any_false (off_sink N d) (closers d.kinds) (All-to (λ (o : ℕ). get_or d.places o 0 ≡ N.sink (get_or d.kinds o 0)) (λ (o : ℕ). off_sink N d o ≡ false) (λ o e. not_eqb _ _ e) (closers d.kinds) (S.sunk (c q)))), tt),
      ),
    ),
  )

  pub sound46 : size ≡ 4 * counts_size N → None (tests46 N d size)
  sound46 e = (
    not_eqb _ _ e,
    (
      le-ltb _ _ S.flag,
      (
        le-ltb _ _ S.events,
        (
          not_eqb _ _ S.fired-sum,
          (any_to-false N.acts _ (λ a h. le-ltb _ _ (S.jumps-le a h)), (le-ltb _ _ S.closing-le, (both_false _ _ (λ q. not_eqb _ _ (S.closing-open (eqb-true _ _ q))), tt))),
        ),
      ),
    ),
  )

  pub sound47 : size ≡ 4 * (N.places * N.places) → None (tests47 N d size)
  sound47 e = (
    not_eqb _ _ e,
    (
      any_to-false N.places _ (λ x hx. any_to-false N.places _ (λ y hy. both_false _ _ (λ q. not_eqb _ _ (S.pair-none x y hx hy (apart-is N x y q))))),
      (not_eqb _ _ S.pair-sum, (any_to-false N.places _ (λ q h. le-ltb _ _ (S.in-le q h)), tt)),
    ),
  )

-- a state that passes is sound, where its bodies have the lengths that are told
module _ (N : Net) (d : State) (size5 size6 size7 : ℕ) (closed : Bool) where
  pub judged-sound : register_code N d.kinds ≡ 0 → None (tests45 N d size5 closed) → None (tests46 N d size6) → None (tests47 N d size7)
      → size5 ≡ 4 * length d.places → (d.closed ≡ 1 → closed ≡ true) → length d.fired ≡ N.acts → length d.jumps ≡ N.acts → length d.pairs ≡ N.places * N.places
      → Sound N d
  judged-sound z n5 n6 n7 ps c fs js qs =
      let r : Registered N d.kinds = registered N d.kinds z in
      record {
        some = r.some;
        few = r.few;
        kinds = r.kinds;
        on = record {
          size = omega (arith, is_eq size5 (4 * length d.kinds) n5.0);
          at = λ o h. (leb-false _ _ (any_to-none _ _ n5.1.0 o h), is_eq _ _ (any_to-none _ _ n5.1.1.0 o h));
        };
        sunk = λ q. any_none (off_sink N d) (λ (o : ℕ). get_or d.places o 0 ≡ N.sink (get_or d.kinds o 0)) (λ o e. is_eq _ _ e) (closers d.kinds) (both-then closed _ n5.1.1.1.0 (c q));
        fired-size = fs;
        jumps-size = js;
        flag = ltb-false _ _ n6.1.0;
        events = ltb-false _ _ n6.1.1.0;
        fired-sum = is_eq _ _ n6.1.1.1.0;
        jumps-le = λ a h. ltb-false _ _ (any_to-none _ _ n6.1.1.1.1.0 a h);
        closing-le = ltb-false _ _ n6.1.1.1.1.1.0;
        closing-open = λ q. is_eq _ _ (both-then _ _ n6.1.1.1.1.1.1.0 (eq-eqb _ _ q));
        pairs-size = qs;
        pair-none = λ x y hx hy q. is_eq _ _ (both-then _ _ (any_to-none _ _ (any_to-none _ _ n7.1.0 x hx) y hy) (is-apart N x y q));
        pair-sum = is_eq _ _ n7.1.1.0;
        in-le = λ q h. ltb-false _ _ (any_to-none _ _ n7.1.1.1.0 q h);
      }

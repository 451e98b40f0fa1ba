-- Test 47 in the numbers that the bodies hold, one part after another. Assumes nothing.
use Prim.Native.Nat.{ℕ, ◌+◌, ◌*◌, ◌≤◌, ◌<◌}
use mathlib.Core.Bool.{Bool, true, false, not}
use mathlib.Core.Path.{◌≡◌, refl, ap, ap₂, sym, ◌∙◌}
use mathlib.Core.List.{List, []}
use native.Mathlib.Omega.{arith}
use native.Mathlib.Decide.{ℕ_discrete}
use lib.ListN.{length, get_or, take, drop, replicate, length-replicate}
use lib.Dec.{ltb, eqb}
use borrow.Author.Tests.{eq-eqb, ne_eqb}
use Rattle.words.specs.Lists.{pick, any_to, sum_to, both}
use Rattle.words.specs.Words.{words_of}
use Rattle.words.proofs.Lists.{any_to-none, any_to-false, is_eq, not_eqb, both_false, both-then}
use Rattle.words.proofs.Sums.{sum_to-same}
use Rattle.net.specs.Net.{Net}
use Rattle.words.proofs.Scan.{either-one}
use Rattle.replay.specs.Plain.{closer_kinds}
use Rattle.replay.specs.Register.{kinds_in}
use Rattle.replay.specs.State.{inputs, sunk_on, stored_consumed, odds}
use Rattle.checkpoint.specs.Bodies.{body_state, hit}
use Rattle.checkpoint.specs.Restore.{apart, tests47}
use Rattle.words.proofs.Chains.{any-is, any_at-is, any_to-is, any_to-same}
use Rattle.std.specs.List.{list_any, sum, zip}
use Rattle.std.proofs.lemmas.List.{length-take-le, get_or-take}
use Rattle.std.proofs.lemmas.Slice.Zip.{length-zip, get_or-zip}
use Rattle.checkpoint_counts.proofs.Counting.{fired-at, jumps_at}
use Rattle.checkpoint_jumps.specs.Sums.{pair_in, foreign_in, barred_in, Added}
use Rattle.checkpoint_jumps.proofs.Adding.{zeros-added, sum-take}
use Rattle.checkpoint_jumps.proofs.Totals.{same_false, sum-none, none-sum, any_sum, sum-columns}

module _ (N : Net) (js : List ℕ) where
  -- a count from x to y that is not 0 where no jump can lead
  abbrev bad : ℕ → ℕ → Bool
  bad x y = both (apart N x y) (not (eqb (pair_in N js x y) 0))

  row-clear : (x : ℕ) → x < N.places → any_to N.places (bad x) ≡ not (eqb (barred_in N js x) 0)
  row-clear x h = same_false _ _ (λ e. not_eqb _ _ (none (any_to-none N.places (bad x) e))) (λ e. any_to-false N.places (bad x) (λ y l. clear (is_eq _ _ e) y l (ℕ_discrete x y) (ℕ_discrete (N.kind_of x) (N.kind_of y))))
    where
      none : ((y : ℕ) → y < N.places → bad x y ≡ false) → barred_in N js x ≡ 0
      none f =
          let own : pair_in N js x x ≡ 0 = is_eq _ _ (both-then (apart N x x) _ (f x h) (rw (eq-eqb x x refl))) in
          omega (arith, none-sum N.places (foreign_in N js x (N.kind_of x)) (λ y l. go y l (ℕ_discrete (N.kind_of x) (N.kind_of y)) (ℕ_discrete x y)))
        where
          go : (y : ℕ) → y < N.places → Dec (N.kind_of x ≡ N.kind_of y) → Dec (x ≡ y) → foreign_in N js x (N.kind_of x) y ≡ 0
          go y l (yes e) d = rw (eq-eqb (N.kind_of x) (N.kind_of y) e)
          go y l (no n) (yes e) = absurd (n (ap N.kind_of e))
          go y l (no n) (no m) = rw (ne_eqb (N.kind_of x) (N.kind_of y) n) (is_eq _ _ (both-then (apart N x y) _ (f y l) (rw (ne_eqb x y m, ne_eqb (N.kind_of x) (N.kind_of y) n))))

      clear : barred_in N js x ≡ 0 → (y : ℕ) → y < N.places → Dec (x ≡ y) → Dec (N.kind_of x ≡ N.kind_of y) → bad x y ≡ false
      clear z y l (yes e) d = both_false (apart N x y) _ (λ q. not_eqb _ _ (ap (pair_in N js x) (sym e) ∙ own))
        where
          own : pair_in N js x x ≡ 0
          own = omega arith
      clear z y l (no n) (yes e) = rw (ne_eqb x y n, eq-eqb (N.kind_of x) (N.kind_of y) e)
      clear z y l (no n) (no m) = both_false (apart N x y) _ (λ q. not_eqb _ _ (rw (ne_eqb (N.kind_of x) (N.kind_of y) m) at (sum-none N.places (foreign_in N js x (N.kind_of x)) (omega arith) y l)))

  barred-is : any_to N.places (λ (x : ℕ). any_to N.places (bad x)) ≡ not (eqb (sum_to N.places (barred_in N js)) 0)
  barred-is = any_sum N.places (λ (x : ℕ). any_to N.places (bad x)) (barred_in N js) row-clear

-- two rows searched side by side, and below n
beside : (n : ℕ) (xs ys : List ℕ) → n ≤ length xs → n ≤ length ys → list_any (λ (p : ℕ × ℕ). ltb p.0 p.1) (zip (take n xs) (take n ys)) ≡ any_to n (λ (q : ℕ). ltb (get_or xs q 0) (get_or ys q 0))
beside n xs ys h k =
    let f : ℕ × ℕ → Bool = λ p. ltb p.0 p.1 in
    let a : length (take n xs) ≡ n = length-take-le n xs h in
    let b : length (take n ys) ≡ n = length-take-le n ys k in
    let Z : List (ℕ × ℕ) = zip (take n xs) (take n ys) in
    let l : length Z ≡ n = length-zip (take n xs) (take n ys) ∙ omega arith in
    any-is f Z
    ∙ sym (any_at-is f (0, 0) Z)
    ∙ any_to-is (λ (q : ℕ). f (get_or Z q (0, 0))) (length Z)
    ∙ ap (λ (m : ℕ). any_to m (λ (q : ℕ). f (get_or Z q (0, 0)))) l
    ∙ any_to-same n _ _ (λ q g. ap f (get_or-zip (take n xs) (take n ys) q (0, 0) (omega arith) (omega arith)) ∙ ap₂ ltb (get_or-take n xs q 0 g) (get_or-take n ys q 0 g))

-- TAKEN of place q
pub consumed-is : (N : Net) (ks cs : List ℕ) (q : ℕ)
    → sum_to N.acts (λ (a : ℕ). get_or (words_of cs) (3 + 2 * a) 0 * inputs N q a) + get_or (words_of cs) 0 0 * sunk_on N (closer_kinds (kinds_in N ks)) q ≡ stored_consumed N (body_state N ks [] cs []) q
consumed-is N ks cs q = ap (λ (n : ℕ). n + get_or (words_of cs) 0 0 * sunk_on N (closer_kinds (kinds_in N ks)) q) (sum_to-same N.acts _ _ (λ a h. ap (λ (v : ℕ). v * inputs N q a) (sym (fired-at (words_of cs) a))))

-- TAKEN of each place, as summed: what the events take, then what the close takes
module _ (N : Net) (ks cs row taken : List ℕ) where
  taken-is : Added N.places (replicate 64 0) row (λ (q : ℕ). sum_to N.acts (λ (a : ℕ). get_or (words_of cs) (3 + 2 * a) 0 * inputs N q a))
      → Added N.places row taken (λ (q : ℕ). get_or (words_of cs) 0 0 * sunk_on N (closer_kinds (kinds_in N ks)) q)
      → (q : ℕ) → q < N.places → get_or taken q 0 ≡ stored_consumed N (body_state N ks [] cs []) q
  taken-is A B q h =
      B.at q h
      ∙ ap (λ (n : ℕ). n + get_or (words_of cs) 0 0 * sunk_on N (closer_kinds (kinds_in N ks)) q)
      (zeros-added N.places row _ A q h)
      ∙ consumed-is N ks cs q

  pub taken-above : Added N.places (replicate 64 0) row (λ (q : ℕ). sum_to N.acts (λ (a : ℕ). get_or (words_of cs) (3 + 2 * a) 0 * inputs N q a))
      → Added N.places row taken (λ (q : ℕ). get_or (words_of cs) 0 0 * sunk_on N (closer_kinds (kinds_in N ks)) q)
      → (into : List ℕ) → N.places ≤ 64 → length into ≡ 64
      → list_any (λ (p : ℕ × ℕ). ltb p.0 p.1) (zip (take N.places taken) (take N.places into)) ≡ any_to N.places (λ (q : ℕ). ltb (stored_consumed N (body_state N ks [] cs []) q) (get_or into q 0))
  taken-above A B into l e =
      beside N.places taken into (omega (arith, A.size, B.size, length-replicate {A = ℕ} 64 0)) (omega arith)
      ∙ any_to-same N.places _ _ (λ q h. ap (λ (v : ℕ). ltb v (get_or into q 0)) (taken-is A B q h))

-- 47, of a register, a counts body and a jumps body of `size` bytes
module _ (N : Net) (ks cs js : List ℕ) (size : ℕ) where
  abbrev answer : Bool
  answer = hit (tests47 N (body_state N ks [] cs js) size)

  abbrev jumps : ℕ
  jumps = sum_to N.acts (λ (a : ℕ). get_or (words_of cs) (4 + 2 * a) 0) + get_or (words_of cs) 2 0

  -- IN of place q
  abbrev into : ℕ → ℕ
  into q = sum_to N.places (λ (x : ℕ). pair_in N js x q)

  jumps-is : sum_to N.acts (λ (a : ℕ). get_or (odds (drop 3 (words_of cs))) a 0) + get_or (words_of cs) 2 0 ≡ jumps
  jumps-is = ap (λ (n : ℕ). n + get_or (words_of cs) 2 0) (sum_to-same N.acts _ _ (λ a h. jumps_at (words_of cs) a))

  sum_is : sum_to (N.places * N.places) (λ (i : ℕ). get_or (words_of js) i 0) ≡ sum_to N.places into
  sum_is = sum-columns N.places N.places (λ (i : ℕ). get_or (words_of js) i 0)

  pub jumps-size : (size ≡ 4 * (N.places * N.places) → ⊥) → true ≡ answer
  jumps-size n = rw (ne_eqb size (4 * (N.places * N.places)) n)

  module _ (e : size ≡ 4 * (N.places * N.places)) where
    pub jumps-barred : (sum_to N.places (barred_in N js) ≡ 0 → ⊥) → true ≡ answer
    jumps-barred n = rw (eq-eqb size (4 * (N.places * N.places)) e, barred-is N js, ne_eqb (sum_to N.places (barred_in N js)) 0 n)

    module _ (z : sum_to N.places (barred_in N js) ≡ 0) where
      pub jumps-sum : (sum_to N.places into ≡ jumps → ⊥) → true ≡ answer
      jumps-sum n = rw (eq-eqb size (4 * (N.places * N.places)) e, barred-is N js, eq-eqb (sum_to N.places (barred_in N js)) 0 z, sum_is, jumps-is, ne_eqb (sum_to N.places into) jumps n)

      pub jumps-above : sum_to N.places into ≡ jumps → any_to N.places (λ (q : ℕ). ltb (stored_consumed N (body_state N ks [] cs []) q) (into q)) ≡ answer
      jumps-above s =
          rw (eq-eqb size (4 * (N.places * N.places)) e, barred-is N js, eq-eqb (sum_to N.places (barred_in N js)) 0 z, sum_is, jumps-is, eq-eqb (sum_to N.places into) jumps s)
          (either-one _)

  -- where the length is right, the other tests decide; `row` has IN of each place
  pub jumps-hit : (row : List ℕ) (n a : ℕ) → n ≡ N.places → a ≡ N.acts → N.places ≤ 64 → Added N.places (replicate 64 0) row into → size ≡ 4 * (N.places * N.places)
      → pick (not (eqb (sum_to N.places (barred_in N js)) 0)) true
      (pick (not (eqb (sum (take n row)) (sum_to a (λ (b : ℕ). get_or (words_of cs) (4 + 2 * b) 0) + get_or (words_of cs) 2 0))) true
      (any_to N.places (λ (q : ℕ). ltb (stored_consumed N (body_state N ks [] cs []) q) (get_or row q 0))))
      ≡ hit (tests47 N (body_state N ks [] cs js) size)
  jumps-hit row n a p t l A e =
      let r : (q : ℕ) → q < N.places → get_or row q 0 ≡ into q = zeros-added N.places row into A in
      ap₂ (λ (s : ℕ) (b : Bool). pick (not (eqb (sum_to N.places (barred_in N js)) 0)) true (pick (not (eqb s (sum_to a (λ (b : ℕ). get_or (words_of cs) (4 + 2 * b) 0) + get_or (words_of cs) 2 0))) true b))
      (ap (λ (m : ℕ). sum (take m row)) p ∙ sum-take row N.places (omega (arith, A.size, length-replicate {A = ℕ} 64 0)) ∙ sum_to-same N.places _ _ r)
      (any_to-same N.places _ _ (λ q h. ap (λ (v : ℕ). ltb (stored_consumed N (body_state N ks [] cs []) q) v) (r q h)) ∙ either-one _)
      ∙ rw (t, eq-eqb size (4 * (N.places * N.places)) e, barred-is N js, sum_is, jumps-is)

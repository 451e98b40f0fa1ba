-- The report of a trail's bytes is that of the plain run with which they agree. Assumes nothing.
use Prim.Native.Nat.{ℕ, ◌*◌, ◌/◌, ◌%◌, ◌<◌}
use mathlib.Core.Path.{◌≡◌, refl, ap₂}
use mathlib.Core.List.{List, [], ◌∷◌, ◌++◌}
use native.Mathlib.Omega.{arith}
use Rattle.words.specs.Lists.{All, upto}
use Rattle.words.proofs.Lists.{All-map, upto_all}
use Rattle.replay.specs.Plain.{Plain}
use Rattle.replay.specs.Claims.{Agrees}
use Rattle.replay.specs.Calls.{net_at, state_at}
use Rattle.replay.specs.Rows.{pairs_below}
use Rattle.report.specs.TrailLines.{trail_line_at, place_line_at, act_line_at, jump_line_at}
use Rattle.report.specs.Report.{text_of, trail_line_of, place_line_of, act_line_of, jump_line_of, report_of, pair_line_at, report_at}
use Rattle.report.proofs.PairIndex.{row_lt, column-lt}

pub joined : {a b c d : List ℕ} → a ≡ c → b ≡ d → a ++ b ≡ c ++ d
joined = ap₂ (λ (u v : List ℕ). u ++ v)

text_same : {A : Type 0} (f g : A → List ℕ) (xs : List A) → All (λ (x : A). f x ≡ g x) xs → text_of f xs ≡ text_of g xs
text_same f g [] a = refl
text_same f g (x ∷ xs) a = joined a.0 (text_same f g xs a.1)

-- texts of the numbers below n, and of the pairs of such numbers, that are the same one by one
below : (f g : ℕ → List ℕ) (n : ℕ) → ((i : ℕ) → i < n → f i ≡ g i) → text_of f (upto n 0) ≡ text_of g (upto n 0)
below f g n h = text_same f g (upto n 0) ((upto_all (λ (i : ℕ). f i ≡ g i) n 0).1 (λ i l k. h i (omega arith)))

pairs_below_lem : (f g : ℕ × ℕ → List ℕ) (n : ℕ) → ((x y : ℕ) → x < n → y < n → f (x, y) ≡ g (x, y)) → text_of f (pairs_below n) ≡ text_of g (pairs_below n)
pairs_below_lem f g n h =
    text_same f g (pairs_below n)
    (All-map (λ (i : ℕ). (i / n, i % n)) (λ (x : ℕ × ℕ). f x ≡ g x) (upto (n * n) 0)
    ((upto_all (λ (i : ℕ). f (i / n, i % n) ≡ g (i / n, i % n)) (n * n) 0).1
    (λ i l k. let b : i < n * n = omega arith in h (i / n) (i % n) (row_lt n i b) (column-lt n i b))))

module _ (b : List ℕ) (p : Plain) (A : Agrees (net_at b) (state_at b) p) where
  trail-agrees : trail_line_at b ≡ trail_line_of (net_at b) p
  unfolding trail_line_at
  trail-agrees = rw (A.transfers-are, A.all-jumps-are, A.events-are, A.kinds-are)

  place-agrees : (q : ℕ) → q < (net_at b).places → place_line_at b q ≡ place_line_of (net_at b) p q
  unfolding place_line_at
  place-agrees q h = rw (A.consumed-is q h, A.jumps-in-are q h, A.jumps-out-are q h)

  act-agrees : (a : ℕ) → a < (net_at b).acts → act_line_at b a ≡ act_line_of (net_at b) p a
  unfolding act_line_at
  act-agrees a h = rw (A.moved-is a h, A.fired-is a h, A.jumps-are a h)

  jump-agrees : (x y : ℕ) → x < (net_at b).places → y < (net_at b).places → jump_line_at b x y ≡ jump_line_of (net_at b) p (x, y)
  unfolding jump_line_at
  jump-agrees x y h k = rw (A.pair-jumps-are x y h k)

  pub report-agrees : report_at b ≡ report_of (net_at b) p
  unfolding report_at report_of
  report-agrees =
      joined trail-agrees
      (joined (below (place_line_at b) (place_line_of (net_at b) p) (net_at b).places place-agrees)
      (joined (below (act_line_at b) (act_line_of (net_at b) p) (net_at b).acts act-agrees)
      (pairs_below_lem (pair_line_at b) (jump_line_of (net_at b) p) (net_at b).places jump-agrees)))

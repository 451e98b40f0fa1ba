-- What was read of a trail is the numbers of its lines, or is refused. Assumes nothing.
use Prim.Native.Nat.{ℕ, ◌<◌}
use mathlib.Core.Bool.{Bool, true, false}
use mathlib.Core.Path.{◌≡◌, refl, ap, sym, ◌∙◌}
use mathlib.Core.List.{List, [], ◌∷◌}
use native.Mathlib.Omega.{arith}
use lib.Dec.{leb}
use Rattle.std.specs.Prelude.{Option, Some, None, Result, Ok, Err, IsErrAnd}
use Rattle.std.specs.Option.{ok_or}
use Rattle.words.specs.Lists.{All, pick}
use Rattle.words.specs.Refusals.{first}
use Rattle.replay.specs.State.{stored_pair}
use Rattle.replay.specs.Calls.{net_at, state_at}
use Rattle.replay_counts.specs.Reads.{place_tests, act_tests, pair_tests, place_code, act_code, pair_code, place_read, act_read, pair_read, place_read_code, act_read_code, pair_read_code}
use Rattle.replay_counts.specs.declared.PlaceCounts.{PlaceCounts}
use Rattle.replay_counts.specs.declared.ActCounts.{ActCounts}
use Rattle.lines.specs.Answer.{line_error_code, Writes}
use Rattle.lines.specs.declared.LineError.{LineError}
use Rattle.lines.specs.declared.LineError.TheVariants.{UnknownPlace, UnknownActivity, NoRoom}
use Rattle.lines.proofs.LineLaws.{refused, passed, same_line}
use Rattle.report.specs.TrailRows.{place_row, act_row, pair_row, Reads}

-- counts that are given are those behind the tests
some_held : {T : Type 0} (u : Bool) (v k : T) → pick u None (Some v) ≡ Some k → k ≡ v
some_held true v k e = absurd (let z : ◌≡◌ {A = ℕ} 0 1 = cc in omega arith)
some_held false v k e = cc

-- what `ok_or` refuses with
refusal : {T : Type 0} (o : Option T) (e u : LineError) → o ≡ None → ◌≡◌ {A = Result T LineError} (Err e) (ok_or o u) → e ≡ u
refusal o e u n h = cc

-- a refusal that is handed on: of the numbers, and of the line
row_refused : (tests : List (Bool × ℕ)) (row : List ℕ) (r : Result (List ℕ) LineError) (e : LineError) → IsErrAnd r (λ x. x ≡ e) → first tests ≡ line_error_code e
    → Reads tests row r
row_refused tests row (Ok x) e h f = absurd h
row_refused tests row (Err x) e h f = f ∙ ap line_error_code (sym h)

pub line_refused : (tests : List (Bool × ℕ)) (line lent : List ℕ) (r : Result ℕ LineError) (e : LineError) → IsErrAnd r (λ x. x ≡ e) → first tests ≡ line_error_code e
    → Writes tests line lent r lent
line_refused tests line lent (Ok x) e h f = absurd h
line_refused tests line lent (Err UnknownPlace) e h f = refused line lent tests (Err UnknownPlace) (ap line_error_code h ∙ sym f) (omega arith) refl
line_refused tests line lent (Err UnknownActivity) e h f = refused line lent tests (Err UnknownActivity) (ap line_error_code h ∙ sym f) (omega arith) refl
line_refused tests line lent (Err NoRoom) e h f = refused line lent tests (Err NoRoom) (ap line_error_code h ∙ sym f) (omega arith) refl

-- what is written of numbers that were read, as a function of them
pub row_written : (of : List ℕ → List ℕ) {tests : List (Bool × ℕ)} {row xs lent left : List ℕ} {r : Result ℕ LineError} → All (λ (t : Bool × ℕ). 0 < t.1) tests
    → (first tests ≡ 0) × (xs ≡ row) → Writes [] (of xs) lent r left → Writes tests (of row) lent r left
row_written of {tests} {row} {xs} {lent} {left} {r} a h w = passed (of row) lent tests r left h.0 a (same_line (ap of h.1) w)

module _ (b : List ℕ) where
  -- of a place
  module _ (q : ℕ) (o : Option PlaceCounts) (value : o ≡ place_read b q) (code : place_read_code o ≡ place_code b q) where
    pub place-unknown : (e : LineError) (r : Result (List ℕ) LineError) → IsErrAnd r (λ x. x ≡ e) → o ≡ None → ◌≡◌ {A = Result PlaceCounts LineError} (Err e) (ok_or o UnknownPlace) → Reads (place_tests b q) (place_row b q) r
    unfolding place_code
    place-unknown e r i n h = row_refused (place_tests b q) (place_row b q) r e i (sym code ∙ ap place_read_code n ∙ ap line_error_code (sym (refusal o e UnknownPlace n h)))

    pub place-counts : (k : PlaceCounts) → o ≡ Some k → (first (place_tests b q) ≡ 0) × ((q ∷ k.consumed ∷ k.jumps_in ∷ k.jumps_out ∷ []) ≡ place_row b q)
    unfolding place_code place_read
    place-counts k s =
        (sym code ∙ ap place_read_code s, ap (λ (k : PlaceCounts). q ∷ k.consumed ∷ k.jumps_in ∷ k.jumps_out ∷ []) (some_held (leb (net_at b).places q) _ k (sym value ∙ s)))

  -- of an activity
  module _ (a : ℕ) (o : Option ActCounts) (value : o ≡ act_read b a) (code : act_read_code o ≡ act_code b a) where
    pub act-unknown : (e : LineError) (r : Result (List ℕ) LineError) → IsErrAnd r (λ x. x ≡ e) → o ≡ None → ◌≡◌ {A = Result ActCounts LineError} (Err e) (ok_or o UnknownActivity) → Reads (act_tests b a) (act_row b a) r
    unfolding act_code
    act-unknown e r i n h = row_refused (act_tests b a) (act_row b a) r e i (sym code ∙ ap act_read_code n ∙ ap line_error_code (sym (refusal o e UnknownActivity n h)))

    pub act-counts : (k : ActCounts) → o ≡ Some k → (first (act_tests b a) ≡ 0) × ((a ∷ k.fired ∷ k.moved ∷ k.jumps ∷ []) ≡ act_row b a)
    unfolding act_code act_read
    act-counts k s =
        (sym code ∙ ap act_read_code s, ap (λ (k : ActCounts). a ∷ k.fired ∷ k.moved ∷ k.jumps ∷ []) (some_held (leb (net_at b).acts a) _ k (sym value ∙ s)))

  -- of a pair of places
  pub pair-stored : (x y n : ℕ) → pair_read b x y ≡ Some n → n ≡ stored_pair (net_at b) (state_at b) x y
  unfolding pair_read
  pair-stored x y n e = held (leb (net_at b).places x) e
    where
      held : (u : Bool) → pick u None (pick (leb (net_at b).places y) None (Some (stored_pair (net_at b) (state_at b) x y))) ≡ Some n → n ≡ stored_pair (net_at b) (state_at b) x y
      held true e = absurd (let z : ◌≡◌ {A = ℕ} 0 1 = cc in omega arith)
      held false e = some_held (leb (net_at b).places y) _ n e

  module _ (x y : ℕ) (o : Option ℕ) (value : o ≡ pair_read b x y) (code : pair_read_code o ≡ pair_code b x y) where
    pub pair-unknown : (e : LineError) (r : Result (List ℕ) LineError) → IsErrAnd r (λ x. x ≡ e) → o ≡ None → ◌≡◌ {A = Result ℕ LineError} (Err e) (ok_or o UnknownPlace) → Reads (pair_tests b x y) (pair_row b x y) r
    unfolding pair_code
    pair-unknown e r i n h = row_refused (pair_tests b x y) (pair_row b x y) r e i (sym code ∙ ap pair_read_code n ∙ ap line_error_code (sym (refusal o e UnknownPlace n h)))

    pub pair-count : (n : ℕ) → o ≡ Some n → (first (pair_tests b x y) ≡ 0) × ((x ∷ y ∷ n ∷ []) ≡ pair_row b x y)
    unfolding pair_code
    pair-count n s = (sym code ∙ ap pair_read_code s, ap (λ (n : ℕ). x ∷ y ∷ n ∷ []) (pair-stored x y n (sym value ∙ s)))

-- No line of a sound state of a loaded net has more than 41 bytes, so that with as much room 61 is never given; and the line of a
-- refusal has at most 30. Assumes nothing.
use Prim.Native.Nat.{ℕ, suc, ◌+◌, ◌*◌, ◌^◌, ◌≤◌, ◌<◌}
use Rattle.std.specs.Prelude.{Option, Some, None as Undefined}
use mathlib.Core.Bool.{Bool, true, false}
use mathlib.Core.Path.{◌≡◌, refl, ap}
use mathlib.Core.List.{List, [], ◌∷◌}
use native.Mathlib.Nat.{mul-le-mul, mul-le-mul_left, mul-le-mul_right}
use native.Mathlib.Omega.{arith}
use lib.Arith.{digits_lt}
use lib.Dec.{eqb}
use lib.ListN.{length, get_or, length-append}
use borrow.Author.Tests.{le-ltb, leb-false}
use Rattle.words.specs.Lists.{pick, one, total, sum_to}
use Rattle.words.specs.Refusals.{first}
use Rattle.words.proofs.Refusals.{None}
use Rattle.words.proofs.Sums.{term-le, sum_to-le, sum_to-mul, sum_to-append, sum_to-under}
use Rattle.net.specs.Net.{Net, Arc, Loaded}
use Rattle.replay.specs.Plain.{closers, closer_kinds}
use Rattle.replay.specs.State.{State, inputs, stored_consumed, stored_pair, stored_jumps_in, stored_jumps_out, stored_moved, stored_jumps, stored_transfers}
use Rattle.replay.specs.Sound.{Sound}
use Rattle.replay.specs.Calls.{net_at, state_at}
use Rattle.replay.proofs.Accepted.{closers-length, closers-kinds}
use Rattle.replay.proofs.Encode.{fired-le, jumps-le, closing-few, pairs-le}
use Rattle.replay_counts.specs.Reads.{place_tests, place_code, act_tests, act_code, pair_tests, pair_code}
use Rattle.text.proofs.DecimalLaws.{short}
use Rattle.fitness.specs.Fitness.{fitness, fitness_text}
use Rattle.text.specs.Fields.{word_text, field_text}
use Rattle.text.specs.declared.field.Word.{Word}
use Rattle.text.specs.declared.field.Word.TheVariants as word
use Rattle.text.specs.declared.field.Field.{Field}
use Rattle.text.specs.declared.field.Field.TheVariants as field
use Rattle.lines.specs.Lines.{fields_text, line_of}
use Rattle.report_lines.specs.ReportLines.{refused_line}
use Rattle.lines.specs.Answer.{line_code}
use Rattle.lines.proofs.LineLaws.{line-length}
use Rattle.report.specs.TrailLines.{trail_line_at, place_line_at, act_line_at, jump_line_at}
use Rattle.report.specs.Lengths.{max_line, LinesFit, HasRoom}

-- a number of at most k digits, and FIT, each with the space before it
number : (k n : ℕ) → n < 10 ^ suc k → length (field_text (field.Number n)) ≤ 2 + k
number k n h = omega (arith, short k n h)

fit : (jumps transfers : ℕ) → length (field_text (field.Fitness jumps transfers)) ≤ 6
fit jumps transfers = omega (arith, go (fitness jumps transfers))
  where
    go : (f : Option ℕ) → length (fitness_text f) ≤ 5
    go Undefined = omega arith
    go (Some n) = omega arith

-- fields one behind the other, by how long each can be
abbrev Short : List Field → List ℕ → Type 0
Short [] [] = Unit
Short [] (n ∷ ns) = ⊥
Short (f ∷ fs) [] = ⊥
Short (f ∷ fs) (n ∷ ns) = (length (field_text f) ≤ n) × Short fs ns

fields-short : (fs : List Field) (ns : List ℕ) → Short fs ns → length (fields_text fs) ≤ 1 + total (λ (n : ℕ). n) ns
fields-short [] (n ∷ ns) s = elim s [ ]
fields-short (f ∷ fs) [] s = elim s [ ]
fields-short [] [] s = omega arith
fields-short (f ∷ fs) (n ∷ ns) s = omega (arith, length-append (field_text f) (fields_text fs), s.0, fields-short fs ns s.1)

line-short : (w : Word) (fs : List Field) (ns : List ℕ) → Short fs ns → length (line_of w fs) ≤ length (word_text w) + (1 + total (λ (n : ℕ). n) ns)
line-short w fs ns s = omega (arith, line-length w fs, fields-short fs ns s)

-- four numbers, the first one below a power of ten and the others of at most seven digits, and FIT
counts-short : (w : Word) (k n x y z j t : ℕ) → n < 10 ^ suc k → x ≤ 8001024 → y ≤ 8001024 → z ≤ 8001024 → length (word_text w) + (33 + k) ≤ max_line
    → length (line_of w (field.Number n ∷ field.Number x ∷ field.Number y ∷ field.Number z ∷ field.Fitness j t ∷ [])) ≤ max_line
counts-short w k n x y z j t hn hx hy hz h = omega (
  arith,
  line-short w (field.Number n ∷ field.Number x ∷ field.Number y ∷ field.Number z ∷ field.Fitness j t ∷ []) ((2 + k) ∷ 8 ∷ 8 ∷ 8 ∷ 6 ∷ [])
      (number k n hn, (number 6 x (omega arith), (number 6 y (omega arith), (number 6 z (omega arith), (fit j t, tt))))),
)

-- how many elements pass a test
ones-le : {A : Type 0} (f : A → Bool) (xs : List A) → total (λ (x : A). one (f x)) xs ≤ length xs
ones-le f [] = omega arith
ones-le {A} f (x ∷ xs) = go (f x) (ones-le f xs)
  where
    go : (t : Bool) → total (λ (x : A). one (f x)) xs ≤ length xs → one t + total (λ (x : A). one (f x)) xs ≤ suc (length xs)
    go true h = omega arith
    go false h = omega arith

-- how large the counts of a sound state can be
module _ (N : Net) (L : Loaded N) (d : State) (S : Sound N d) where
  moved_sum : sum_to N.acts (λ (a : ℕ). stored_moved N d a) ≤ 8000000
  moved_sum = omega (
    arith,
    sum_to-le N.acts (λ (a : ℕ). stored_moved N d a) (λ (a : ℕ). get_or d.fired a 0 * 8) (λ a h. mul-le-mul_left (get_or d.fired a 0) (L.arcs-le a h)),
    sum_to-mul N.acts 8 (λ (a : ℕ). get_or d.fired a 0),
    S.fired-sum,
    S.events,
  )

  moved-le : (a : ℕ) → a < N.acts → stored_moved N d a ≤ 8000000
  moved-le a h = omega (arith, moved_sum, term-le N.acts (λ (a : ℕ). stored_moved N d a) a h)

  transfers-le : stored_transfers N d ≤ 8001024
  transfers-le = let f : length (closers d.kinds) ≤ 1024 = omega (arith, closers-length d.kinds, S.few) in omega (arith, moved_sum, mul-le-mul S.flag f)

  all-jumps-le : stored_jumps N d ≤ 8001024
  all-jumps-le = omega (arith, moved_sum, sum_to-le N.acts (λ (a : ℕ). get_or d.jumps a 0) (λ (a : ℕ). stored_moved N d a) S.jumps-le, closing-few N L d S)

  consumed-le : (q : ℕ) → stored_consumed N d q ≤ 8001024
  consumed-le q = omega (
    arith,
    moved_sum,
    sum_to-le N.acts (λ (a : ℕ). get_or d.fired a 0 * inputs N q a) (λ (a : ℕ). stored_moved N d a)
        (λ a h. mul-le-mul_left (get_or d.fired a 0) (ones-le (λ (x : Arc). eqb q x.0) (N.arcs a))),
    mul-le-mul S.flag (ones-le (λ (k : ℕ). eqb q (N.sink k)) (closer_kinds d.kinds)),
    ap length (closers-kinds d.kinds),
    S.few,
  )

  jumps-in-le : (q : ℕ) → q < N.places → stored_jumps_in N d q ≤ 8001024
  jumps-in-le q h = omega (arith, S.in-le q h, consumed-le q)

  jumps-out-le : (q : ℕ) → q < N.places → stored_jumps_out N d q ≤ 8001024
  jumps-out-le q h = omega (
    arith,
    sum_to-append N.places (q * N.places) (λ (i : ℕ). get_or d.pairs i 0),
    sum_to-under (q * N.places + N.places) (N.places * N.places) (λ (i : ℕ). get_or d.pairs i 0) (omega (arith, mul-le-mul_right N.places h)),
    S.pair-sum,
    all-jumps-le,
  )

-- the lines of a sound state
module _ (b : List ℕ) (L : Loaded (net_at b)) (S : Sound (net_at b) (state_at b)) where
  abbrev N : Net
  N = net_at b

  abbrev d : State
  d = state_at b

  trail-fits : length (trail_line_at b) ≤ max_line
  unfolding trail_line_at
  trail-fits =
      counts-short word.Trail 3 _ _ _ _ _ _ (omega (arith, S.few)) (omega (arith, S.events)) (all-jumps-le N L d S) (transfers-le N L d S) (omega arith)

  place-fits : (q : ℕ) → q < (net_at b).places → length (place_line_at b q) ≤ max_line
  unfolding place_line_at
  place-fits q h =
      counts-short word.Place 1 _ _ _ _ _ _ (omega (arith, L.places-le)) (consumed-le N L d S q) (jumps-in-le N L d S q h) (jumps-out-le N L d S q h) (omega arith)

  act-fits : (a : ℕ) → a < (net_at b).acts → length (act_line_at b a) ≤ max_line
  unfolding act_line_at
  act-fits a h =
      counts-short word.Act 1 _ _ _ _ _ _ (omega (arith, L.acts-le)) (omega (arith, fired-le N L d S a h)) (omega (arith, moved-le N L d S a h)) (omega (arith, jumps-le N L d S a h)) (omega arith)

  jump_fits : (x y : ℕ) → x < (net_at b).places → y < (net_at b).places → length (jump_line_at b x y) ≤ max_line
  unfolding jump_line_at
  jump_fits x y hx hy = go (stored_pair N d x y) (pairs-le N L d S (x * N.places + y) (digits_lt hx hy)) (eqb (stored_pair N d x y) 0)
    where
      go : (n : ℕ) → n ≤ 8001024 → (t : Bool) → length (pick t [] (line_of word.Jump (field.Number x ∷ field.Number y ∷ field.Number n ∷ []))) ≤ max_line
      go n h true = omega arith
      go n h false = omega (
        arith,
        line-short word.Jump (field.Number x ∷ field.Number y ∷ field.Number n ∷ []) (3 ∷ 3 ∷ 8 ∷ [])
            (number 1 x (omega (arith, L.places-le)), (number 1 y (omega (arith, L.places-le)), (number 6 n (omega arith), tt))),
      )

  pub lines_fit : LinesFit b
  lines_fit = record { trail = trail-fits; place = place-fits; act = act-fits; jump = jump_fits }

-- a line that fits if no test before 61 applies
room-code : (tests : List (Bool × ℕ)) (line lent : List ℕ) → (None tests → length line ≤ length lent) → line_code tests line lent ≡ first tests
unfolding line_code
room-code [] line lent h = rw (le-ltb (length lent) (length line) (h tt))
room-code ((true, n) ∷ tests) line lent h = refl
room-code ((false, n) ∷ tests) line lent h = room-code tests line lent (λ a. h (refl, a))

-- with room for the longest line, 61 is never given
module _ (b : List ℕ) (L : Loaded (net_at b)) (S : Sound (net_at b) (state_at b)) (lent : List ℕ) (room : max_line ≤ length lent) where
  pub has_room : HasRoom b lent
  unfolding place_code act_code pair_code
  has_room =
      let f = lines_fit b L S in
      record {
        trail = room-code [] (trail_line_at b) lent (λ a. omega (arith, f.trail));
        place = λ q. room-code (place_tests b q) (place_line_at b q) lent (λ a. omega (arith, f.place q (leb-false _ _ a.0)));
        act = λ q. room-code (act_tests b q) (act_line_at b q) lent (λ a. omega (arith, f.act q (leb-false _ _ a.0)));
        jump = λ x y. room-code (pair_tests b x y) (jump_line_at b x y) lent (λ a. omega (arith, f.jump x y (leb-false _ _ a.0) (leb-false _ _ a.1.0)));
      }

-- the line of a refusal, of any two numbers, and room for it
pub refused-fits : (code events : ℕ) → code < 4294967296 → events < 4294967296 → length (refused_line code events) ≤ 30
refused-fits code events h k = omega (
  arith,
  line-short word.Refused (field.Number code ∷ field.Number events ∷ []) (11 ∷ 11 ∷ []) (number 9 code (omega arith), (number 9 events (omega arith), tt)),
)

pub refused-room : (code events : ℕ) (lent : List ℕ) → code < 4294967296 → events < 4294967296 → 30 ≤ length lent → line_code [] (refused_line code events) lent ≡ 0
refused-room code events lent h k l = room-code [] (refused_line code events) lent (λ a. omega (arith, refused-fits code events h k))

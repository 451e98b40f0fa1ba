-- Restoring (taking up) a checkpoint (desk record): the refusals 41 to 47, and the second number of 43 and 44.
use Rattle.std.specs.Prelude.{ℕ, ◌*◌, Bool, not, List, [], ◌∷◌, ◌++◌, length, get_or, ltb, leb, eqb}
use Rattle.words.specs.Lists.{pick, any, either, both, any_to, sum_to}
use Rattle.words.specs.Refusals.{first}
use Rattle.words.specs.Words.{word, bodies_of, ends_at}
use Rattle.net.specs.Net.{Net}
use Rattle.net.specs.Table.{load_code}
use Rattle.replay.specs.Plain.{closers, register_code}
use Rattle.replay.specs.Register.{whole_body, position_bytes}
use Rattle.replay.specs.State.{State, stored_consumed, stored_pair, stored_jumps_in, stored_moved, stored_jumps}
use Rattle.replay.specs.Record.{table_in, counts_size}
use Rattle.replay.specs.Calls.{net_at, state_at}
use Rattle.replay.specs.Limits.{max_record, record_bodies}

-- 41: the length. 42: the layout. 43: the table is refused.
abbrev pub tests41 : List ℕ → List (Bool × ℕ)
tests41 b = (ltb (length b) 40, 41) ∷ (ltb max_record (length b), 41) ∷ []

abbrev pub tests42 : List ℕ → List (Bool × ℕ)
tests42 b = (not (ends_at (length b) (bodies_of record_bodies b)), 42) ∷ []

abbrev pub tests43 : List ℕ → List (Bool × ℕ)
tests43 b = (not (eqb (load_code (table_in b)) 0), 43) ∷ []

-- the counts body, of `size` bytes with `flag` as its first number, begins with a 1
abbrev pub begins_closed : ℕ → ℕ → Bool
begins_closed size flag = both (leb 4 size) (eqb flag 1)

-- no jump can lead from place x to place y: they are one place, or of different kinds
abbrev pub apart : Net → ℕ → ℕ → Bool
apart N x y = either (eqb x y ∷ not (eqb (N.kind_of x) (N.kind_of y)) ∷ [])

-- the net, the numbers of the bodies, and a body's length in bytes
module _ (N : Net) (d : State) (size : ℕ) where
  -- 44: the register's length is no multiple of 4 (its body is not whole rows); the register is refused
  abbrev pub tests44 : List (Bool × ℕ)
  tests44 = (not (whole_body N size), 44) ∷ (not (eqb (register_code N d.kinds) 0), 44) ∷ []

  -- the second number of 44, where `code` is the number: the register's, or 0 where its length is no multiple of 4
  abbrev pub second44 : ℕ → ℕ
  second44 code = pick (both (eqb code 44) (whole_body N size)) (register_code N d.kinds) 0

  -- 45: one row for each object; a place unknown; of another kind; an object off its sink in a closed trail
  abbrev pub tests45 : Bool → List (Bool × ℕ)
  tests45 closed =
      (not (eqb size (position_bytes (length d.kinds))), 45)
      ∷ (any_to (length d.kinds) (λ (o : ℕ). leb N.places (get_or d.places o 0)), 45)
      ∷ (any_to (length d.kinds) (λ (o : ℕ). not (eqb (N.kind_of (get_or d.places o 0)) (get_or d.kinds o 0))), 45)
      ∷ (both closed (any (λ (o : ℕ). not (eqb (get_or d.places o 0) (N.sink (get_or d.kinds o 0)))) (closers d.kinds)), 45)
      ∷ []

  -- 46: the length; the closed flag; the events; FIRED adds up to them; JUMPS above MOVED; the closing jumps, and none while open
  abbrev pub tests46 : List (Bool × ℕ)
  tests46 =
      (not (eqb size (4 * counts_size N)), 46)
      ∷ (ltb 1 d.closed, 46)
      ∷ (ltb 1000000 d.events, 46)
      ∷ (not (eqb (sum_to N.acts (λ (a : ℕ). get_or d.fired a 0)) d.events), 46)
      ∷ (any_to N.acts (λ (a : ℕ). ltb (stored_moved N d a) (get_or d.jumps a 0)), 46)
      ∷ (ltb (length (closers d.kinds)) d.closing, 46)
      ∷ (both (eqb d.closed 0) (not (eqb d.closing 0)), 46)
      ∷ []

  -- 47: the length; a jump from a place to itself or to another kind; the sum; IN above TAKEN
  abbrev pub tests47 : List (Bool × ℕ)
  tests47 =
      (not (eqb size (4 * (N.places * N.places))), 47)
      ∷ (any_to N.places (λ (x : ℕ). any_to N.places (λ (y : ℕ). both (apart N x y) (not (eqb (stored_pair N d x y) 0)))), 47)
      ∷ (not (eqb (sum_to (N.places * N.places) (λ (i : ℕ). get_or d.pairs i 0)) (stored_jumps N d)), 47)
      ∷ (any_to N.places (λ (q : ℕ). ltb (stored_consumed N d q) (stored_jumps_in N d q)), 47)
      ∷ []

-- 44 to 47: the lengths of the bodies of register, positions, counts and jumps, and whether the counts begin with a 1
abbrev pub body_tests : Net → State → ℕ → ℕ → ℕ → ℕ → Bool → List (Bool × ℕ)
body_tests N d register positions counts jumps closed =
    tests44 N d register ++ (tests45 N d positions closed ++ (tests46 N d counts ++ tests47 N d jumps))

-- taking up: the tests of the refusals 41 to 47, in the paper's order
abbrev pub restore_tests : List ℕ → List (Bool × ℕ)
restore_tests b =
    tests41 b ++ (tests42 b ++ (tests43 b
    ++ body_tests (net_at b) (state_at b) (word b 12) (word b 20) (word b 28) (word b 36) (begins_closed (word b 28) (word b (word b 24)))))

-- the number of the first refusal that applies; 0 where the record is taken up
unfoldable pub restore_code : List ℕ → ℕ
restore_code b = first (restore_tests b)

-- the second number: 43 also gives the table's; 44 the register's, or 0 where its length is no multiple of 4
unfoldable pub restore_second : List ℕ → ℕ
restore_second b =
    pick (eqb (restore_code b) 43) (load_code (table_in b)) (second44 (net_at b) (state_at b) (word b 12) (restore_code b))

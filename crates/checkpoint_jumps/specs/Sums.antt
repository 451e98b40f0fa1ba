-- The sums that test 47 makes.
use Rattle.std.specs.Prelude.{ℕ, ◌+◌, ◌*◌, ◌≤◌, ◌<◌, ◌≡◌, List, length, get_or, eqb}
use Rattle.words.specs.Lists.{pick, one, sum_to}
use Rattle.words.specs.Words.{words_of}
use Rattle.net.specs.Net.{Net, takes, input_of}

-- the jumps body's count from place x to place y, and this count where y is not of kind k
abbrev pub pair_in : Net → List ℕ → ℕ → ℕ → ℕ
pair_in N js x y = get_or (words_of js) (x * N.places + y) 0

abbrev pub foreign_in : Net → List ℕ → ℕ → ℕ → ℕ → ℕ
foreign_in N js x k y = pick (eqb k (N.kind_of y)) 0 (pair_in N js x y)

-- the counts of row x that no jump can have, summed: to x itself, and to places of other kinds
abbrev pub barred_in : Net → List ℕ → ℕ → ℕ
barred_in N js x = pair_in N js x x + sum_to N.places (foreign_in N js x (N.kind_of x))

-- 1 where activity a takes an object of kind k from place q
abbrev pub taken_by : Net → ℕ → ℕ → ℕ → ℕ
taken_by N a q k = pick (takes N a k) (one (eqb q (input_of N a k))) 0

-- a row of 64 sums, the first n of which are at most m
pub record AtMost (n m : ℕ) (row : List ℕ) : Type 0 where
  pub size : length row ≡ 64
  pub at : (q : ℕ) → q < n → get_or row q 0 ≤ m

-- to each of the first n sums f is added
pub record Added (n : ℕ) (before after : List ℕ) (f : ℕ → ℕ) : Type 0 where
  pub size : length after ≡ length before
  pub at : (q : ℕ) → q < n → get_or after q 0 ≡ get_or before q 0 + f q

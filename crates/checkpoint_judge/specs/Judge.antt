-- The first of 44 to 47 by the bytes of the bodies behind a record's table.
use Rattle.std.specs.Prelude.{ℕ, Bool, List, length}
use Rattle.words.specs.Refusals.{first}
use Rattle.words.specs.Words.{word}
use Rattle.net.specs.Net.{Net}
use Rattle.checkpoint.specs.Bodies.{body_state}
use Rattle.checkpoint.specs.Restore.{begins_closed, second44, body_tests}

-- counts in these bytes begin with a 1
abbrev pub closed_by : List ℕ → Bool
closed_by cs = begins_closed (length cs) (word cs 0)

-- the first of 44 to 47 that applies: N is the table's net, then the bytes of register, positions, counts and jumps
unfoldable pub judge_code : Net → List ℕ → List ℕ → List ℕ → List ℕ → ℕ
judge_code N ks ps cs js = first (body_tests N (body_state N ks ps cs js) (length ks) (length ps) (length cs) (length js) (closed_by cs))

-- the second number
unfoldable pub judge_second : Net → List ℕ → List ℕ → List ℕ → List ℕ → ℕ
judge_second N ks ps cs js = second44 N (body_state N ks ps cs js) (length ks) (judge_code N ks ps cs js)

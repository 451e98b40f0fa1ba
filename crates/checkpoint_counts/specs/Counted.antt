-- What the test of jumps may rely on, of registers and counts.
use Rattle.std.specs.Prelude.{ℕ, ◌≤◌, ◌≡◌, List, length, get_or}
use Rattle.words.specs.Words.{words_of}
use Rattle.net.specs.Net.{Net}
use Rattle.replay.specs.Plain.{register_code}
use Rattle.replay.specs.Register.{kinds_in}
use Rattle.replay.specs.Record.{counts_size}

-- registers to which 44 does not apply, and counts of the net's length whose first number is 0 or 1
pub record Counted (N : Net) (ks cs : List ℕ) : Type 0 where
  pub register : register_code N (kinds_in N ks) ≡ 0
  pub size : length (words_of cs) ≡ counts_size N
  pub flag : get_or (words_of cs) 0 0 ≤ 1

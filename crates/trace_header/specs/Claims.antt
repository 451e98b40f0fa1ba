-- What is claimed of opening: how much of the file it needs.
use Rattle.std.specs.Prelude.{ℕ, ◌+◌, ◌≤◌, ◌≡◌, List, ltb, length, take}
use Rattle.words.specs.Refusals.{first}
use Rattle.words.specs.Words.{word}
use Rattle.net.specs.Net.{Net}
use Rattle.replay.specs.Register.{max_register}
use Rattle.trace_header.specs.Opening.{contents_tests, contents_of, register_of, trace_code, open_code}

-- the contents: the first 16 bytes say all
abbrev pub HeadEnough : Net → Type 0
HeadEnough N = (h f : List ℕ) → take 16 h ≡ take 16 f → contents_of N h ≡ contents_of N f

-- opening: beside the contents, whether all bytes of the register are there, and its kinds where they are and are at most 1,024
abbrev pub OpenEnough : Net → Type 0
OpenEnough N = (f : List ℕ) (there : ℕ) (ks : List ℕ) → first (contents_tests N f) ≡ 0
    → ltb there (word f 4) ≡ ltb (length f) (16 + word f 4)
    → (word f 4 ≤ there → word f 4 ≤ max_register N → ks ≡ register_of N f)
    → open_code N (word f 4) there ks ≡ trace_code N f

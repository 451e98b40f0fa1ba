-- Answers as numbers.
use Rattle.std.specs.Prelude.{ℕ, ◌+◌, ◌*◌, ◌/◌, ◌%◌, eqb}
use Rattle.words.specs.Lists.{pick}

-- an answer: the refusal's number, 0 where the call was taken, in the low 32 bits; a second number in the high 32 bits
abbrev pub packed : ℕ → ℕ → ℕ
packed code high = code + 4294967296 * high

-- the two halves: CONFORM_NUMBER and CONFORM_SECOND of conform.h
abbrev pub number : ℕ → ℕ
number answer = answer % 4294967296

abbrev pub second : ℕ → ℕ
second answer = answer / 4294967296

-- the answer of a call that writes n bytes where it is taken
abbrev pub wrote : ℕ → ℕ → ℕ
wrote code n = packed code (pick (eqb code 0) n 0)

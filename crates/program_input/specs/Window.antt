-- What the contracts of a window say of it.
use Rattle.std.specs.Prelude.{ℕ, List, length, take}
use Rattle.program_input.specs.declared.InputWindow.{InputWindow}

-- the bytes that stand in it
abbrev pub window_bytes : InputWindow → List ℕ
window_bytes w = take w.len w.buf.now

-- how many fit
abbrev pub window_room : InputWindow → ℕ
window_room w = length w.buf.now

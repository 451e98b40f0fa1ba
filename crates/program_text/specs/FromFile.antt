-- What the program's functions give back is what the program prints for some trail file, of which the bytes that were read are the
-- front. What follows them no contract can say: it is what is read later.
use Rattle.std.specs.Prelude.{ℕ, ◌≡◌, List, ◌++◌, length, Some, Result}
use Rattle.net.specs.Table.{net_of}
use Rattle.replay.specs.Calls.{start_record}
use Rattle.replay.specs.Register.{kinds_in}
use Rattle.trace_header.specs.declared.Bodies.{Bodies}
use Rattle.trace_header.specs.Opening.{contents_of}
use Rattle.program_output.specs.declared.Refused.{Refused}
use Rattle.program_output.specs.Ending.{ending_text}
use Rattle.trace_reader.specs.Followed.{Followed}
use Rattle.program_events.specs.Window.{Begins, OfSomeFile}
use Rattle.program_text.specs.Program.{events_text, program_text}

-- r, with the bytes rec that are lent for the trail, has the text for the table and a trail file that begins with the bytes
-- `front`, and is no longer where they do not fill the room; an empty front in no room says nothing of the file
pub record FromFile (table front : List ℕ) (room : ℕ) (r : Result ℕ Refused) (rec : List ℕ) : Type 0 where
  pub file : List ℕ
  pub begins : Begins front room file
  pub text : ending_text r rec ≡ program_text table file

-- the same of what stands behind contents that claim bodies of so many bytes
pub record BehindContents (table : List ℕ) (bodies : Bodies) (front : List ℕ) (room : ℕ) (r : Result ℕ Refused) (rec : List ℕ) : Type 0 where
  pub rest : List ℕ
  pub begins : Begins front room rest
  pub text : (head : List ℕ) → length head ≡ 16 → contents_of (net_of table) head ≡ Some bodies → ending_text r rec ≡ program_text table (head ++ rest)

-- the same of what stands behind a register that is taken: its events, carried out on the trail that is started
abbrev pub BehindRegister : (table register : List ℕ) (body : ℕ) (front : List ℕ) (room : ℕ) (r : Result ℕ Refused) (rec : List ℕ) → Type 0
BehindRegister table register body front room r rec =
    OfSomeFile (net_of table) (kinds_in (net_of table) register) body (start_record table (kinds_in (net_of table) register)) front room (λ (d : Followed). ending_text r rec ≡ events_text d)

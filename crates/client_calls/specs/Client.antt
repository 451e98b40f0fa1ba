-- What each exported call answers, and the lent bytes that it leaves, as functions of the bytes at entry.
use Rattle.std.specs.Prelude.{ℕ, List, length, eqb}
use Rattle.words.specs.Lists.{pick, over}
use Rattle.net.specs.Table.{net_of, load_code}
use Rattle.replay.specs.Plain.{Ask}
use Rattle.replay.specs.Register.{whole_rows, kinds_in}
use Rattle.replay.specs.Calls.{ask_code, ask_bytes, start_record, start_code}
use Rattle.checkpoint.specs.Restore.{restore_second}
use Rattle.checkpoint.specs.Calls.{save_code, save_bytes}
use Rattle.checkpoint.specs.Take.{take_code}
use Rattle.client_answers.specs.Answers.{packed, wrote}
use Rattle.client_check.specs.OnTrail.{on_trail, left_by}

-- loading
unfoldable pub load_answer : List ℕ → ℕ
load_answer table = packed (load_code table) 0

-- starting: the table's numbers, 11 also for a register of no whole rows, 12 and 61
unfoldable pub begin_code : List ℕ → List ℕ → ℕ → ℕ
begin_code table objects room =
    pick (eqb (load_code table) 0) (pick (whole_rows (net_of table) objects) (start_code table (kinds_in (net_of table) objects) room) 11) (load_code table)

unfoldable pub start_answer : List ℕ → List ℕ → ℕ → ℕ
start_answer table objects room = wrote (begin_code table objects room) (length (start_record table (kinds_in (net_of table) objects)))

unfoldable pub start_leaves : List ℕ → List ℕ → List ℕ → List ℕ
start_leaves table objects lent =
    pick (eqb (begin_code table objects (length lent)) 0) (over (start_record table (kinds_in (net_of table) objects)) lent) lent

-- an event, a close
unfoldable pub ask_answer : List ℕ → Ask → ℕ
ask_answer b q = on_trail b (packed (ask_code b q) 0)

unfoldable pub ask_leaves : List ℕ → Ask → List ℕ
ask_leaves b q = left_by b (ask_bytes b q) b

-- restoring the record r into the lent bytes of a trail; saving the trail b
unfoldable pub restore_answer : List ℕ → ℕ → ℕ
restore_answer r room = packed (take_code r room) (pick (eqb (take_code r room) 0) (length r) (restore_second r))

unfoldable pub save_answer : List ℕ → ℕ → ℕ
save_answer b room = on_trail b (wrote (save_code b room) (length b))

unfoldable pub save_leaves : List ℕ → List ℕ → List ℕ
save_leaves b lent = left_by b (save_bytes b lent) lent

-- The lines of the report by their number, and the parts in which it is put into lent bytes.
use Rattle.std.specs.Prelude.{ℕ, zero, suc, ◌+◌, ◌*◌, ◌-◌, ◌/◌, ◌%◌, ◌≡◌, List, [], ◌++◌, length, ltb}
use Rattle.words.specs.Lists.{pick, upto, over}
use Rattle.net.specs.Net.{Net}
use Rattle.replay.specs.Calls.{net_at}
use Rattle.report.specs.TrailLines.{trail_line_at, place_line_at, act_line_at}
use Rattle.report.specs.Report.{text_of, pair_line_at}
use Rattle.report_parts.specs.declared.Part.{Part}

-- how many lines the report has, on a net and of a trail's bytes; that of a pair without jumps is empty
unfoldable pub lines_on : Net → ℕ
lines_on N = 1 + N.places + N.acts + N.places * N.places

abbrev pub lines_in : List ℕ → ℕ
lines_in b = lines_on (net_at b)

-- line i: the trail's, then those of the places, of the activities and of the pairs of places, row by row
unfoldable pub line_at : List ℕ → ℕ → List ℕ
line_at b zero = trail_line_at b
line_at b (suc i) =
    let places : ℕ = (net_at b).places in
    let acts : ℕ = (net_at b).acts in
    let k : ℕ = i - places - acts in
    pick (ltb i places) (place_line_at b i)
    (pick (ltb (i - places) acts) (act_line_at b (i - places)) (pair_line_at b (k / places, k % places)))

-- n lines from line i on, one behind the other
abbrev pub lines_from : List ℕ → ℕ → ℕ → List ℕ
lines_from b n i = text_of (line_at b) (upto n i)

-- how many of the `left` lines from line i on fit into `room` bytes, one behind the other: up to the first that does not
abbrev pub fitting : List ℕ → ℕ → ℕ → ℕ → ℕ
fitting b zero i room = 0
fitting b (suc left) i room =
    pick (ltb room (length (line_at b i))) 0 (suc (fitting b left (suc i) (room - length (line_at b i))))

-- how many of all lines from line i on fit, and these lines
unfoldable pub fits : List ℕ → ℕ → ℕ → ℕ
fits b i room = fitting b (lines_in b - i) i room

unfoldable pub part_from : List ℕ → ℕ → ℕ → List ℕ
part_from b i room = lines_from b (fits b i room) i

-- putting the lines from line i on into the bytes `lent` is answered r and leaves `left`: the number of the line behind those
-- that fit, how many bytes these take, and these in front of the other bytes, which stay as they were
pub record Puts (b : List ℕ) (i : ℕ) (lent : List ℕ) (r : Part) (left : List ℕ) : Type 0 where
  pub next : r.next ≡ i + fits b i (length lent)
  pub size : r.size ≡ length (part_from b i (length lent))
  pub bytes : left ≡ over (part_from b i (length lent)) lent

-- what is put into a buffer of `room` bytes so many times, from line i on and each time from where the last part ends
abbrev pub parts_from : List ℕ → ℕ → ℕ → ℕ → List ℕ
parts_from b room zero i = []
parts_from b room (suc times) i = part_from b i room ++ parts_from b room times (i + fits b i room)

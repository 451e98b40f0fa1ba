-- The events of a trail file (document 01 "Trail file, program, sheet"), the body behind its register: reading at a position.
use Rattle.std.specs.Prelude.{ℕ, ◌+◌, ◌*◌, Bool, List, [], ◌∷◌, ◌++◌, length, Some, None, Ok, ltb, eqb}
use Rattle.words.specs.Lists.{pick}
use Rattle.words.specs.Refusals.{first}
use Rattle.words.specs.Words.{word, words_at}
use Rattle.net.specs.Net.{Net}
use Rattle.replay.specs.Plain.{Event, trail_tests, activity_tests, object_tests, event_of}
use Rattle.trace_header.specs.Opening.{shape_tests}
use Rattle.trace_reader.specs.Answers.{Answer, unless}

-- the event whose first byte is byte i: activity, number of objects, objects
abbrev pub event_at : List ℕ → ℕ → Event
event_at b i = event_of (word b i) (words_at b (i + 8) (word b (i + 4)))

-- Position `at` of the events body is byte `from` of the bytes b, with which the file ends. At the body's end: 73 where
-- there are bytes behind it.
abbrev pub end_tests : List ℕ → ℕ → List (Bool × ℕ)
end_tests b from = (ltb from (length b), 73) ∷ []

abbrev pub end_found : List ℕ → ℕ → Answer
end_found b from = unless (first (end_tests b from)) (Ok None)

-- the event at byte `from`, and the next position
abbrev pub event_found : List ℕ → ℕ → ℕ → Answer
event_found b from at = Ok (Some (record { event = event_at b from; next = at + 8 + 4 * word b (from + 4) }))

-- reading in an events body of `body` bytes; `ks` is the register, `accepted` the number of events accepted before
module _ (N : Net) (ks : List ℕ) (accepted : ℕ) (b : List ℕ) (from body at : ℕ) where
  -- not at the body's end: the first two numbers in body and file; 21 to 24, of which 21 is for a closed trail and never applies; the
  -- objects in body and file; 25 to 27
  abbrev pub read_tests : List (Bool × ℕ)
  read_tests =
      let e : Event = event_at b from in
      (ltb body at, 73)
      ∷ (ltb body (at + 8), 73)
      ∷ (ltb (length b) (from + 8), 73)
      ∷ trail_tests 0 accepted
      ++ activity_tests N e.act (length e.objs)
      ++ (ltb body (at + 8 + 4 * word b (from + 4)), 73)
      ∷ (ltb (length b) (from + 8 + 4 * word b (from + 4)), 73)
      ∷ object_tests N ks e.act e.objs

  -- the number of the refusal; 0 where an event or the body's end is found
  unfoldable pub read_code : ℕ
  read_code = pick (eqb at body) (first (end_tests b from)) (first read_tests)

  -- what is found: the event, the end of the body, or a refusal
  unfoldable pub read_from : Answer
  read_from = pick (eqb at body) (end_found b from) (unless (first read_tests) (event_found b from at))

-- reading at a position of a trail file's events body: the number, and what is found
unfoldable pub read_at_code : Net → List ℕ → ℕ → List ℕ → ℕ → ℕ
read_at_code N ks accepted f at =
    pick (eqb (first (shape_tests N f)) 0) (read_code N ks accepted f (16 + word f 4 + at) (word f 12) at) (first (shape_tests N f))

unfoldable pub read_at : Net → List ℕ → ℕ → List ℕ → ℕ → Answer
read_at N ks accepted f at = unless (first (shape_tests N f)) (read_from N ks accepted f (16 + word f 4 + at) (word f 12) at)

-- What is claimed of all events of a trail file: they are the body's, one behind the other, and what they leave is the plain run's.
use Rattle.std.specs.Prelude.{ℕ, ◌+◌, ◌*◌, ◌≡◌, List, [], ◌∷◌, ◌++◌, map, length}
use Rattle.words.specs.Lists.{All}
use Rattle.net.specs.Net.{Net}
use Rattle.net.specs.Table.{net_of}
use Rattle.replay.specs.Plain.{Event, event, close, start, run, answers}
use Rattle.replay.specs.State.{state_of}
use Rattle.replay.specs.Record.{encode, words_from}
use Rattle.replay.specs.Calls.{start_record}
use Rattle.trace_reader.specs.Trace.{read_code}
use Rattle.trace_reader.specs.Followed.{Followed, closed_after, final, events_read}

-- events as the numbers of a body: activity, number of objects, objects
abbrev pub numbers : List Event → List ℕ
numbers [] = []
numbers (e ∷ es) = e.act ∷ length e.objs ∷ (e.objs ++ numbers es)

-- The events es are those of a body of `body` bytes that stands in f from byte `from` on: their numbers are the first there, one
-- event behind the other; the code is that of reading behind them, and 0 only where they are the whole body.
pub record AllOf (N : Net) (ks f : List ℕ) (body from : ℕ) (es : List Event) (code : ℕ) : Type 0 where
  pub stand : words_from f from (length (numbers es)) ≡ numbers es
  pub code_is : code ≡ read_code N ks (length es) f (from + 4 * length (numbers es)) body (4 * length (numbers es))
  pub whole : code ≡ 0 → 4 * length (numbers es) ≡ body

-- of a table, the kinds of the objects, and a body of `body` bytes that begins at byte `from` of f
module _ (table ks f : List ℕ) (body from : ℕ) where
  -- the events that are handed out, and what comes of them on a started trail
  abbrev pub read : List Event
  read = events_read (net_of table) ks f body from

  abbrev pub came : Followed
  came = final (net_of table) ks f body (start_record table ks) from 0 0

  -- the trail is the record of the plain run over these events, each of which is accepted; and of that run closed, where
  -- none was refused
  pub record PlainRun : Type 0 where
    pub trail : came.trail ≡ encode table (state_of (net_of table) (run (net_of table) (start ks) (map event read)))
    pub accepted : came.accepted ≡ length read
    pub taken : All (λ (c : ℕ). c ≡ 0) (answers (net_of table) (start ks) (map event read))
    pub closed : came.code ≡ 0 → closed_after came ≡ encode table (state_of (net_of table) (run (net_of table) (start ks) (map event read ++ close ∷ [])))
    pub all : AllOf (net_of table) ks f body from read came.code

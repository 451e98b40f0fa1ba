-- The rows hold, by computing. Assumes nothing.
use mathlib.Core.Path.{refl}
use Rattle.words.specs.Words.{word, words_of, bytes_of, bodies_from, bodies_of, body_of}
use Rattle.net.specs.Table.{net_of, marked, load_code}
use Rattle.net.specs.Rows.{table_m}
use Rattle.replay.specs.Record.{encode, words_from, table_in, state_in}
use Rattle.replay.specs.Calls.{net_at, state_at, ask_code, ask_bytes, start_record}
use Rattle.text.specs.Decimal.{decimal}
use Rattle.fitness.specs.Fitness.{thousandths, fitness}
use Rattle.lines.specs.Lines.{line_of}
use Rattle.report.specs.TrailLines.{trail_line_at, place_line_at, act_line_at, jump_line_at}
use Rattle.report.specs.Report.{report_at}
use Rattle.trace_header.specs.Opening.{register_of, trace_code}
use Rattle.trace_reader.specs.Trace.{read_from}
use Rattle.trace_reader.specs.Followed.{followed, final, closed_after}
use Rattle.program_text.specs.Program.{events_text, program_text}
use Rattle.program_text.specs.Rows.{trail_of, fourth, rows, RowsHold}

pub rows-hold : RowsHold
unfolding rows trail_of fourth table_m load_code marked net_of word words_of bytes_of bodies_from bodies_of body_of encode words_from table_in state_in net_at state_at ask_code ask_bytes start_record decimal thousandths fitness line_of trail_line_at place_line_at act_line_at jump_line_at report_at register_of trace_code read_from followed final closed_after events_text program_text
rows-hold = (refl, (refl, (refl, (refl, tt))))

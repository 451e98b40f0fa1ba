-- The rows hold, by computing. Assumes nothing.
use mathlib.Core.Path.{refl}
use Rattle.words.specs.Words.{word, words_of, bytes_of, bodies_from, bodies_of, body_of}
use Rattle.net.specs.Table.{net_of, marked, load_code}
use Rattle.net.specs.Rows.{table_m}
use Rattle.net.specs.Rows as T
use Rattle.replay.specs.Record.{encode, words_from, table_in, state_in}
use Rattle.replay.specs.Calls.{net_at, state_at, ask_code, ask_bytes, start_record}
use Rattle.checkpoint.specs.Take.{take_code}
use Rattle.checkpoint.specs.Calls.{save_code}
use Rattle.checkpoint_rows.specs.Rows.{RowsHold}

pub rows-hold : RowsHold
unfolding T.rows table_m load_code marked net_of word words_of bytes_of bodies_from bodies_of body_of encode words_from table_in state_in net_at state_at ask_code ask_bytes start_record take_code save_code
rows-hold = (refl, (refl, (refl, ((refl, refl), ((refl, refl), ((refl, refl), ((refl, refl), ((refl, refl), ((refl, refl), ((refl, refl), ((refl, refl), tt)))))))))))

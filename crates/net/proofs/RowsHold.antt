-- Every row holds, computed. Assumes nothing.
use mathlib.Core.Path.{refl}
use Rattle.words.specs.Words.{word, words_of, bytes_of, bodies_from, bodies_of, body_of}
use Rattle.net.specs.Table.{marked, load_code}
use Rattle.net.specs.Rows.{table_m, rows, order_rows, RowsHold}

pub rows-hold : RowsHold
unfolding rows order_rows table_m load_code marked word words_of bytes_of bodies_from bodies_of body_of
rows-hold = (refl, (refl, (refl, (refl, (refl, (refl, (refl, (refl, tt))))))))

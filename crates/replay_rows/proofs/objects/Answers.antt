-- A row for each object. Assumes nothing.
use mathlib.Core.Path.{sym, ◌∙◌}
use Rattle.words.proofs.Words.{length-words}
use Rattle.replay_rows.proofs.objects.Goals as goal

pub returns : goal.returns
returns c = c.rows_in.ensures ∙ sym (length-words c.args.register.now)

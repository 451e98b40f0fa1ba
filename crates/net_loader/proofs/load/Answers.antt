-- A refused table leaves the lent words, and the words of one that is taken become theirs. Assumes nothing.
use Rattle.words.proofs.Refusals.{passed_on}
use Rattle.net_loader.proofs.LoadLaws.{refused_words, taken_words}
use mathlib.Core.Path.{◌∙◌}
use Rattle.net_loader.proofs.load.Goals as goal

pub returns-in_err-load_fresh : goal.returns-in_err-load_fresh
returns-in_err-load_fresh c = (passed_on _ _ _ c.from_residual.ensures.1 ∙ c.in_err-load_fresh.ensures.0, refused_words _ _ _ c.in_err-load_fresh.ensures.0)

pub returns : goal.returns
returns c = (c.in_ok-load_fresh.ensures.0, c.copy_all.ensures ∙ taken_words _ _ _ c.in_ok-load_fresh.ensures.0 c.in_ok-load_fresh.ensures.1)

-- The measure is the number, which each call makes smaller. Assumes nothing.
use Rattle.text.proofs.decimal.+width.Given as goal

abbrev pub decreases-width : goal.decreases-width
decreases-width l = l.n

-- The measure is the number, which each call makes smaller. Assumes nothing.
use Rattle.text.proofs.decimal.+put.Given as goal

abbrev pub decreases-put : goal.decreases-put
decreases-put l = l.n

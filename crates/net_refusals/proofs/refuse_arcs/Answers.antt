-- Words to which none of 4 to 7 applies. Assumes nothing.
use mathlib.Core.Path.{sym, ◌∙◌}
use Rattle.net_refusals.proofs.RuledBy.{ruled-by}
use Rattle.net_refusals.proofs.refuse_arcs.Goals as goal

pub invariant_of-ruled : goal.invariant_of-ruled
invariant_of-ruled c = record { ruled = ruled-by _ c.requires (sym c.bad_arcs.ensures ∙ c.if-bad_arcs.false) }

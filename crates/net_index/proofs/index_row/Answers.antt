-- An arc is stored at its kind, and the words before the look-up words stay. Assumes nothing.
use native.Mathlib.Omega.{arith}
use mathlib.Core.Path.{◌≡◌, sym, ◌∙◌}
use mathlib.Core.List.{List}
use lib.ListN.{get_or, take, drop}
use Rattle.words.specs.Lists.{pair_up}
use Rattle.words.proofs.Parts.{cut-length, cut_at}
use Rattle.net.specs.Net.{Arc}
use Rattle.net.specs.Held.{net_in, arcs_in}
use Rattle.net.proofs.Views.{arcs-length}
use Rattle.net_index.proofs.Indexed.{row_more, same_set, same-arcs, same-kind}
use Rattle.net_index.proofs.index_row.Goals as goal

pub loop-i-preserved : goal.loop-i-preserved
loop-i-preserved c =
    let l = c.loop-i in let a = c.args in let S = l.invariant.1 in let R = c.requires.ruled in
    let xs : List Arc = pair_up (arcs_in a.t.now) in
    let arc-is : get_or (take a.n (drop a.from xs)) l.i (0, 0) ≡ c.arc-p.result = cut_at xs a.from a.n l.i (0, 0) (omega arith) ∙ rw (← same-arcs _ _ S R) (sym c.arc-p.ensures) in
    let kind-is : c.wide-k.result ≡ (net_in a.t.now).kind_of c.arc-p.result.0 = c.wide-k.ensures ∙ rw c.places.ensures (same-kind _ _ S R _) in (
      rw kind-is
          (row_more _ a.base _ l.i l.t c.arc-p.result (omega (arith, cut-length xs a.from a.n (omega (arith, c.requires.bounded.0, arcs-length _ R.sized R.arcs-few)))) arc-is
          ∙ l.invariant.0),
      same_set _ _ _ _ (omega (arith, c.requires.bounded.1)) S,
    )

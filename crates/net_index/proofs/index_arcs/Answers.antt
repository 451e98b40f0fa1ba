-- The arcs of an activity are stored, and the words before the look-up words stay. Assumes nothing.
use Prim.Native.Nat.{◌+◌, ◌*◌}
use native.Mathlib.Omega.{arith}
use mathlib.Core.Path.{◌≡◌, sym, ◌∙◌}
use lib.ListN.{get_or, take, drop}
use Rattle.words.specs.Lists.{pair_up}
use Rattle.net.specs.Held.{net_in, counts_in, arcs_in}
use Rattle.net.proofs.Views.{counts-length}
use Rattle.net_index.proofs.Indexed.{rows_more, rows_end, same_row, same-arcs, same-net, same-few, same-count, rows-left}
use Rattle.net_index.proofs.index_arcs.Goals as goal

pub index_row-requires-clause-bounded : goal.index_row-requires-clause-bounded
index_row-requires-clause-bounded c =
    let l = c.loop-a in let S = l.invariant.2 in let R = c.requires in
    omega (arith, c.wide-size.ensures, same-count _ _ S R l.a (omega arith), rows-left _ _ S R l.a (omega arith), l.invariant.0, same-few _ _ S R, R.sized.acts)

pub loop-a-preserved : goal.loop-a-preserved
loop-a-preserved c =
    let l = c.loop-a in let S = l.invariant.2 in let R = c.requires in let w = c.args.t.now in
    let size-is : c.wide-size.result ≡ get_or (counts_in w) l.a 0 = c.wide-size.ensures ∙ same-count _ _ S R l.a (omega arith) in
    let e : 1172 + 8 * (l.a + 1) ≡ 1172 + 8 * l.a + 8 = omega arith in (
      omega (arith, size-is, rows-left _ _ S R l.a (omega arith), l.invariant.0),
      rw (e, c.index_row.ensures, same-net _ _ S R, same-arcs _ _ S R, size-is)
          (rows_more _ _ _ l.a l.from (1172 + 8 * l.a) l.t (omega (arith, counts-length _ R.sized)) ∙ l.invariant.1),
      rw c.index_row.ensures (same_row (net_in l.t).kind_of (1172 + 8 * l.a) (take c.wide-size.result (drop l.from (pair_up (arcs_in l.t)))) _ _ (omega arith) S),
    )

pub returns : goal.returns
returns c =
    let l = c.loop-a in
    sym (rows_end _ _ _ l.a l.from (1172 + 8 * l.a) l.t (omega (arith, counts-length _ c.requires.sized))) ∙ l.invariant.1

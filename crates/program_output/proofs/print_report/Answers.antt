-- The buffer has room for a line, so each turn prints one line or more, and at the end all lines are printed. Assumes nothing.
use native.Mathlib.Omega.{arith}
use lib.ListN.{length}
use Rattle.report_parts.proofs.SizeLaws.{some_fits}
use Rattle.program_output.proofs.Printing.{printed-part, printed-all, part-within}
use borrow.Author.Rules.{rules}
use Rattle.program_output.proofs.print_report.Goals as goal

pub loop-i-smaller : goal.loop-i-smaller
loop-i-smaller g c =
    let l = c.loop-i in
    omega (arith, c.put_lines-part.ensures.next, some_fits c.args.trail.now.net.words.now c.args.trail.now.rec.now c.args.trail.now.ready l.i (length l.out) (omega arith) (omega (arith, l.invariant.room)))

pub loop-i-preserved : goal.loop-i-preserved
loop-i-preserved g c =
    let l = c.loop-i in
    let p = c.put_lines-part in
    record {
      count = l.invariant.count;
      room = omega arith;
      within = omega (arith, part-within c.args.trail.now.rec.now l.i l.out p.result _ p.ensures (omega arith), l.invariant.count);
      printed = printed-part c.args.trail.now.rec.now _ _ l.i l.invariant.printed l.out p.result _ p.ensures _ (search rules);
    }

pub returns : goal.returns
returns g c =
    let l = c.loop-i in
    λ t. printed-all c.args.trail.now.rec.now _ _ l.i l.invariant.printed (omega (arith, l.invariant.count, l.invariant.within))

-- The numbers one behind the other, where there is room for all. Assumes nothing.
use Prim.Native.Nat.{ℕ, ◌*◌}
use mathlib.Core.List.{List}
use mathlib.Core.Path.{ap, sym, ◌∙◌}
use native.Mathlib.Omega.{arith}
use lib.ListN.{length, drop_of_length-le}
use lib.Seq.{sets}
use Rattle.words.specs.Words.{bytes_of}
use Rattle.words.proofs.Words.{length-words, length-bytes}
use Rattle.words.proofs.Over.{sets_over}
use Rattle.lines.proofs.LineLaws.{no_room, with-room}
use Rattle.client_counts.proofs.NumberLaws.{put_next}
use Rattle.client_counts.proofs.write_row.Goals as goal

pub returns-then-out-n : goal.returns-then-out-n
returns-then-out-n c = no_room (bytes_of c.args.row.now) c.args.out.now (omega (arith, length-bytes c.args.row.now))

pub put_word-requires : goal.put_word-requires
put_word-requires c = omega (arith, length-words c.loop-i.out)

pub loop-i-preserved : goal.loop-i-preserved
loop-i-preserved c = put_next c.args.row.now c.loop-i.out _ c.loop-i.i c.loop-i-test.true c.put_word.ensures ∙ c.loop-i.invariant

pub returns : goal.returns
unfolding bytes_of
returns c =
    let row = c.args.row.now in
    let all = ap (λ (xs : List ℕ). sets c.loop-i.out (4 * c.loop-i.i) (bytes_of xs)) (drop_of_length-le row c.loop-i-test.false) in
    with-room (bytes_of row) c.args.out.now (4 * length row) c.loop-i.out (omega (arith, length-bytes row)) (sym (length-bytes row)) (omega arith)
    (sym all ∙ c.loop-i.invariant ∙ sets_over (bytes_of row) c.args.out.now (omega (arith, length-bytes row)))

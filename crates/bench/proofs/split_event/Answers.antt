-- The event of the first row, and the body behind it, where the row is whole. Assumes nothing.
use Prim.Native.Nat.{ℕ, ◌+◌, ◌-◌, ◌*◌}
use mathlib.Core.Path.{◌≡◌, ap, ◌∙◌}
use native.Mathlib.Omega.{arith}
use lib.ListN.{length, take, drop, length-drop}
use Rattle.words.proofs.Words.{length-words}
use Rattle.words.proofs.Over.{part}
use Rattle.bench.proofs.Rows.{body-end, body-event}
use Rattle.bench.proofs.split_event.Goals as goal

pub returns-then-numbers-lt2 : goal.returns-then-numbers-lt2
returns-then-numbers-lt2 c = body-end c.args.body.now (omega (arith, length-words c.args.body.now))

pub get_word-requires : goal.get_word-requires
get_word-requires c = omega (arith, length-words c.args.body.now)

pub returns-then-numbers-count : goal.returns-then-numbers-count
returns-then-numbers-count c =
    body-end c.args.body.now (omega (arith, length-words c.args.body.now, c.wide-count.ensures, c.get_word.ensures))

pub get_word-requires-2 : goal.get_word-requires-2
get_word-requires-2 c = omega (arith, length-words c.args.body.now)

pub returns : goal.returns
returns c =
    let body = c.args.body.now in
    let n = c.wide-count.result in
    let size : 8 + 4 * n - 8 ≡ 4 * n = omega arith in
    let end : 8 + 4 * n ≡ 4 * (2 + n) = omega arith in
    let rest = part body (8 + 4 * n) in (
      body-event body c.get_word-2.result n _ _ c.get_word-2.ensures (c.wide-count.ensures ∙ c.get_word.ensures) (omega (arith, length-words body)) (ap (λ (k : ℕ). take k (drop 8 body)) size) (rest ∙ ap (λ (k : ℕ). drop k body) end),
      omega (arith, ap length rest, length-drop (8 + 4 * n) body, length-words body),
    )

-- A register that is too long is refused, however much of it is there. Assumes nothing.
use mathlib.Core.Path.{sym}
use mathlib.Core.List.{[]}
use native.Mathlib.Omega.{arith}
use Rattle.std.proofs.lemmas.Result.{err_from_is_err_and}
use Rattle.words.specs.Words.{words_of}
use Rattle.program_open.proofs.Opening.{refused-code, too-long}
use Rattle.program_text.proofs.Texts.{register-passed}
use Rattle.program_open.proofs.open_bodies.Goals as goal
use Rattle.program_open.proofs.open_bodies.Goals.{then-most-claimed+in_ok-opening_refusal, else-most-claimed}

pub returns-in_err-opening_refusal-clause-text : goal.returns-in_err-opening_refusal-clause-text
unfolding words_of
returns-in_err-opening_refusal-clause-text g c =
    let k = c.args.claimed.now in
    let p = err_from_is_err_and c.from_residual.result c.from_residual.ensures.1 in
    rw (p.1, p.2, refused-code _ _ [] _ _ _ k.tabled.tabled c.in_err-opening_refusal.ensures) (register-passed _ k.tabled.tabled.taken k.bodies c.skip-there.result c.args.rec.now (omega arith))

pub read_register-requires-clause-short : goal.read_register-requires-clause-short
read_register-requires-clause-short g c = elim c.if-most-claimed.branch [
  | then-most-claimed+in_ok-opening_refusal w ↦ absurd (too-long _ _ _ _ (omega arith) (sym w.in_ok-opening_refusal.ensures))
  | else-most-claimed w ↦ omega arith
]

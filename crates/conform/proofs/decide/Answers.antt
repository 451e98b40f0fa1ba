-- A table that is not refused is loaded. Assumes nothing.
use mathlib.Core.Path.{sym}
use Rattle.net.proofs.HeldLaws.{loaded-tabled}
use Rattle.net.specs.Answer.{load_error_code}
use Rattle.net.specs.contracts.LoadErrorRefusal.TheImpl.Laws.{not_zero-law}
use Rattle.std.proofs.lemmas.Result.{err_from_is_err_and}
use Rattle.program_text.proofs.Texts.{load-refused}
use Rattle.conform.proofs.decide.Goals as goal

pub returns-in_err-load_fresh-clause-text : goal.returns-in_err-load_fresh-clause-text
returns-in_err-load_fresh-clause-text g c =
    let e = c.in_err-load_fresh in
    let p = err_from_is_err_and c.from_residual.result c.from_residual.ensures.1 in
    rw (p.1, p.2) (load-refused c.args.table.now (load_error_code e.field-0.0) c.args.rec.now e.ensures.0 (not_zero-law e.field-0.0))

pub loaded-tabled-requires : goal.loaded-tabled-requires
loaded-tabled-requires g c =
    let z = sym c.in_ok-load_fresh.ensures.0 in
    loaded-tabled c.args.table.now z c.load_fresh.new.t (c.in_ok-load_fresh.ensures.1 z)

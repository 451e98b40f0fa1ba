-- A refused table stops the call; else its words hold its net. Assumes nothing.
use mathlib.Core.Path.{sym, ◌∙◌}
use Rattle.net.proofs.HeldLaws.{loaded-tabled}
use Rattle.net.specs.contracts.LoadErrorRefusal.TheImpl.Laws.{not_zero-law}
use Rattle.client_start.proofs.Starts.{table-stops}
use Rattle.client_start.proofs.start.Goals as goal

pub returns-in-Err : goal.returns-in-Err
returns-in-Err c =
    let a = c.args in
    let all = table-stops a.table.now a.objects.now a.trail.now (λ z. not_zero-law c.in-Err.refused (c.in-Err.ensures.0 ∙ z)) _ _ (c.number.ensures ∙ c.in-Err.ensures.0) c.pack.ensures in
    record { answer = all.0; trail_after = all.1 }

pub loaded-requires : goal.loaded-requires
loaded-requires c =
    let z = sym c.in-Ok.ensures.0 in
    loaded-tabled _ z _ (c.in-Ok.ensures.1 z)

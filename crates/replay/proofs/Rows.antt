-- The rows hold, by computing; T3 is a permitted run and T4 is none. Assumes nothing.
use mathlib.Core.Path.{◌≡◌, refl}
use native.Mathlib.Omega.{arith}
use Rattle.words.specs.Lists.{All}
use Rattle.replay.specs.Plain.{Event, Plain, refusal, start, with_accepted, with_flag}
use Rattle.replay.specs.Counts.{all_jumps}
use Rattle.replay.specs.Rows.{M, Row, three, third, fourth, events_of, RowsHold, PermittedRows}
use Rattle.replay.proofs.Accepted.{Fitting, accepted}
use Rattle.replay.proofs.Permit.{permitted}

pub rows-hold : RowsHold M
unfolding M
rows-hold = (refl, (refl, (refl, (refl, (refl, (refl, (refl, (refl, tt))))))))

-- a row's run, closed
abbrev closed : Row → Plain
closed r = with_flag (with_accepted (start three) (events_of r.asks)) 1

fits : {e : Event} → refusal M three 0 0 e ≡ 0 → Fitting M three e
fits {e} z = (accepted M three 0 0 e z).fits

third-fits : All (Fitting M three) (events_of third.asks)
unfolding M
third-fits = (fits refl, (fits refl, (fits refl, (fits refl, (fits refl, (fits refl, tt))))))

fourth-fits : All (Fitting M three) (events_of fourth.asks)
unfolding M
fourth-fits = (fits refl, (fits refl, (fits refl, (fits refl, (fits refl, tt)))))

third-none : all_jumps M (closed third) ≡ 0
unfolding M
third-none = refl

fourth-one : all_jumps M (closed fourth) ≡ 1
unfolding M
fourth-one = refl

pub permitted-rows : PermittedRows M
unfolding M
permitted-rows = ((permitted M (closed third) third-fits refl).0 third-none, λ P. omega (arith, fourth-one, (permitted M (closed fourth) fourth-fits refl).1 P))

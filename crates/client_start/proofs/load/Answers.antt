-- The number of the table. Assumes nothing.
use mathlib.Core.Path.{ap, ◌∙◌}
use Prim.Native.Nat.{ℕ}
use Rattle.client_answers.specs.Answers.{packed}
use Rattle.client_calls.specs.Client.{load_answer}
use Rattle.client_start.proofs.load.Goals as goal

pub returns : goal.returns
unfolding load_answer
returns c = c.pack.ensures ∙ ap (λ (n : ℕ). packed n 0) (c.code.ensures ∙ c.load_fresh.ensures.0)

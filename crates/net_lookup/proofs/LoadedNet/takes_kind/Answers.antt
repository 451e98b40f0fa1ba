-- `takes_kind` meets its contract: the look-up word is 0 just where the activity takes none of the kind.
-- Assumes nothing.
use Prim.Native.Nat.{ℕ}
use mathlib.Core.Bool.{Bool, true, false, not}
use mathlib.Core.Path.{◌≡◌, refl, ap, ◌∙◌}
use native.Mathlib.Omega.{arith}
use lib.Dec.{eqb}
use borrow.Author.Tests.{ne_eqb}
use Rattle.words.specs.Lists.{pick}
use Rattle.net.specs.Net.{Arc}
use Rattle.net.specs.Held.{pack}
use Rattle.net_lookup.proofs.LoadedNet.takes_kind.Goals as goal

-- 0, or an arc's number, which is never 0
test : (t : Bool) (x : Arc) → not (eqb (pick t (pack x) 0) 0) ≡ t
test true x = ap not (ne_eqb (pack x) 0 (λ e. omega arith))
test false x = refl

pub returns : goal.returns
returns c = ap (λ (x : ℕ). not (eqb x 0)) c.arc_word.ensures ∙ test _ _

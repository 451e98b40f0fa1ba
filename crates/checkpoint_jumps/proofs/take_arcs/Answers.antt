-- Each kind adds what it takes; all kinds together take the activity's inputs. Assumes nothing.
use Rattle.std.proofs.Common.{◌≡◌, ℕ, ◌*◌, arith, ap, ◌∙◌}
use Rattle.words.specs.Lists.{sum_to}
use Rattle.net.specs.Held.{net_in}
use Rattle.net.proofs.HeldLaws.{held-loaded}
use Rattle.checkpoint_jumps.specs.Sums.{taken_by}
use Rattle.checkpoint_jumps.proofs.Adding.{added-same, most-le}
use Rattle.checkpoint_jumps.proofs.Bounds.{few_acts, few_kinds}
use Rattle.checkpoint_jumps.proofs.Taking.{taken-inputs, taken-grown}
use Rattle.checkpoint_jumps.proofs.take_arcs.Goals as goal

pub take_kind-requires-clause-at_most : goal.take_kind-requires-clause-at_most
take_kind-requires-clause-at_most c =
    let a = c.args in
    let w = a.net.now.words.now in
    let H = a.net.now.held in
    most-le (taken-grown (net_in w) a.a a.fired c.loop-k.k _ (omega arith) (omega (arith, few_kinds w H)) c.requires.at_most c.loop-k.invariant) 2199023255552 (omega (arith, few_acts w H))

pub returns-clause-added : goal.returns-clause-added
returns-clause-added c =
    let a = c.args in
    let w = a.net.now.words.now in
    let N = net_in w in
    let e : c.loop-k.k ≡ N.kinds = omega arith in
    added-same c.loop-k.invariant (λ q h. ap (λ (k : ℕ). sum_to k (λ (j : ℕ). a.fired * taken_by N a.a q j)) e ∙ taken-inputs N q a.a a.fired (held-loaded w a.net.now.held) c.requires.known_act)

pub returns-clause-still_at_most : goal.returns-clause-still_at_most
returns-clause-still_at_most c =
    let a = c.args in
    let w = a.net.now.words.now in
    taken-grown (net_in w) a.a a.fired c.loop-k.k _ (omega arith) (omega (arith, few_kinds w a.net.now.held)) c.requires.at_most c.loop-k.invariant

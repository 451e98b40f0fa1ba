-- One sum grows where the activity takes the kind. Assumes nothing.
use Rattle.std.proofs.Common.{◌≡◌, true, arith, sym, ◌∙◌}
use Rattle.net.specs.Net.{takes}
use Rattle.net.specs.Held.{net_in}
use Rattle.checkpoint_jumps.proofs.Bounds.{few_places, input_place}
use Rattle.checkpoint_jumps.proofs.Taking.{kind-added}
use Rattle.checkpoint_jumps.proofs.take_kind.Goals as goal

pub returns-then-takes_kind : goal.returns-then-takes_kind
returns-then-takes_kind c =
    let a = c.args in
    let w = a.net.now.words.now in
    let H = a.net.now.held in
    let t : takes (net_in w) a.a a.k ≡ true = sym c.takes_kind.ensures ∙ c.if-takes_kind.true in
    kind-added (net_in w) a.a a.k a.fired a.taken.now c.input-p.result _ t c.input-p.ensures
    (omega (arith, c.requires.at_most.size, few_places w H, input_place w H a.a a.k c.requires.known_act.0 t)) (omega arith)

-- `arcs` meets its contract: how many arcs an activity has, by its word. Assumes nothing.
use mathlib.Core.Path.{sym, ◌∙◌}
use native.Mathlib.Omega.{arith}
use Rattle.net.proofs.HeldLaws.{held-loaded, held-arcs}
use Rattle.net_lookup.proofs.LoadedNet.arcs.Goals as goal

pub overflow_add-a : goal.overflow_add-a
overflow_add-a c = omega (arith, (held-loaded c.args.self.now.words.now c.args.self.now.held).acts-le)

pub offset_bounds-self-a : goal.offset_bounds-self-a
offset_bounds-self-a c = omega (arith, (held-loaded c.args.self.now.words.now c.args.self.now.held).acts-le)

pub bounds-self-a : goal.bounds-self-a
bounds-self-a c = omega (arith, (held-loaded c.args.self.now.words.now c.args.self.now.held).acts-le)

pub returns : goal.returns
returns c =
    c.wide.ensures ∙ sym (held-arcs c.args.self.now.words.now c.args.self.now.held c.args.a c.requires.known_act)

-- `kind_of` meets its contract: the kind of a place, by its word. Assumes nothing.
use mathlib.Core.Path.{sym, ◌∙◌}
use native.Mathlib.Omega.{arith}
use Rattle.net.proofs.Views.{places_is, kind_at}
use Rattle.net.proofs.HeldLaws.{held-loaded, held-sized}
use Rattle.net_lookup.proofs.LoadedNet.kind_of.Goals as goal

pub overflow_add-p : goal.overflow_add-p
overflow_add-p c = omega (arith, (held-loaded c.args.self.now.words.now c.args.self.now.held).places-le)

pub offset_bounds-self-p : goal.offset_bounds-self-p
offset_bounds-self-p c = omega (arith, (held-loaded c.args.self.now.words.now c.args.self.now.held).places-le)

pub bounds-self-p : goal.bounds-self-p
bounds-self-p c = omega (arith, (held-loaded c.args.self.now.words.now c.args.self.now.held).places-le)

pub returns : goal.returns
returns c =
    let w = c.args.self.now.words.now in
    let z = held-sized w c.args.self.now.held in
    c.wide.ensures ∙ sym (kind_at w z c.args.p (omega (arith, places_is w z, c.requires.known_place)))

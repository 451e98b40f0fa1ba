-- `sink` meets its contract: the sink of a kind, by its word. Assumes nothing.
use mathlib.Core.Path.{sym, ◌∙◌}
use native.Mathlib.Omega.{arith}
use Rattle.net.proofs.Views.{kinds-is, sink-at}
use Rattle.net.proofs.HeldLaws.{held-loaded, held-sized}
use Rattle.net_lookup.proofs.LoadedNet.sink.Goals as goal

pub overflow_mul-k : goal.overflow_mul-k
overflow_mul-k c = omega (arith, (held-loaded c.args.self.now.words.now c.args.self.now.held).kinds-le)

pub overflow_add-k : goal.overflow_add-k
overflow_add-k c = omega (arith, (held-loaded c.args.self.now.words.now c.args.self.now.held).kinds-le)

pub offset_bounds-self-k : goal.offset_bounds-self-k
offset_bounds-self-k c = omega (arith, (held-loaded c.args.self.now.words.now c.args.self.now.held).kinds-le)

pub bounds-self-k : goal.bounds-self-k
bounds-self-k c = omega (arith, (held-loaded c.args.self.now.words.now c.args.self.now.held).kinds-le)

pub returns : goal.returns
returns c =
    let w = c.args.self.now.words.now in
    let z = held-sized w c.args.self.now.held in
    c.wide.ensures ∙ sym (sink-at w z c.args.k (omega (arith, kinds-is w z, c.requires.known_kind)))

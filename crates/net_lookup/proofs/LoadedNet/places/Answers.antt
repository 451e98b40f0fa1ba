-- `places` meets its contract: how many places, as the words' front says. Assumes nothing.
use mathlib.Core.Path.{sym, ◌∙◌}
use Rattle.net.proofs.Views.{places_is}
use Rattle.net.proofs.HeldLaws.{held-sized}
use Rattle.net_lookup.proofs.LoadedNet.places.Goals as goal

pub returns : goal.returns
returns c =
    let w = c.args.self.now.words.now in
    c.wide.ensures ∙ sym (places_is w (held-sized w c.args.self.now.held))

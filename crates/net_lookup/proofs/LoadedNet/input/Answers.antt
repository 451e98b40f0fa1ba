-- `input` meets its contract: the input place of a kind, out of the look-up word. Assumes nothing.
use Rattle.net.proofs.HeldLaws.{unpacked}
use Rattle.net_lookup.proofs.LoadedNet.input.Goals as goal

pub returns : goal.returns
returns c =
    (unpacked c.args.self.now.words.now c.args.self.now.held c.args.a c.args.k c.arc_word.result c.requires.known_act.0 c.requires.known_act.2 c.arc_word.ensures).0

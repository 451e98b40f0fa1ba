-- `arc_word` meets its contract: the word at the activity's row and the kind. Assumes nothing.
use Prim.Native.Nat.{◌+◌, ◌*◌, ◌-◌, ◌<◌}
use mathlib.Core.Path.{◌∙◌}
use native.Mathlib.Omega.{arith}
use lib.ListN.{length, drop, length-take, length-drop}
use lib.Seq.{get_or-take, get_or-drop}
use Rattle.net.proofs.HeldLaws.{held-loaded, held-sized, index_at}
use Rattle.net_lookup.proofs.LoadedNet.arc_word.Goals as goal

pub overflow_mul-row : goal.overflow_mul-row
overflow_mul-row c = omega (arith, (held-loaded c.args.self.now.words.now c.args.self.now.held).acts-le)

pub overflow_add-row : goal.overflow_add-row
overflow_add-row c = omega (arith, (held-loaded c.args.self.now.words.now c.args.self.now.held).acts-le)

pub offset_bounds-all-row : goal.offset_bounds-all-row
offset_bounds-all-row c = omega (arith, (held-loaded c.args.self.now.words.now c.args.self.now.held).acts-le)

pub slice_bounds-words-count : goal.slice_bounds-words-count
slice_bounds-words-count c = omega (arith, (held-loaded c.args.self.now.words.now c.args.self.now.held).acts-le, (held-sized c.args.self.now.words.now c.args.self.now.held).size)

pub slice_bounds-words-start : goal.slice_bounds-words-start
slice_bounds-words-start c = omega (arith, (held-loaded c.args.self.now.words.now c.args.self.now.held).acts-le, (held-sized c.args.self.now.words.now c.args.self.now.held).size)

pub offset_bounds-words-k : goal.offset_bounds-words-k
offset_bounds-words-k c = omega (arith, (held-loaded c.args.self.now.words.now c.args.self.now.held).kinds-le, c.requires.known_act)

pub bounds-words-k : goal.bounds-words-k
bounds-words-k c =
    let L = held-loaded c.args.self.now.words.now c.args.self.now.held in
    simp (length-take, length-drop) (omega (arith, L.acts-le, L.kinds-le, (held-sized c.args.self.now.words.now c.args.self.now.held).size, c.requires.known_act))

pub returns : goal.returns
returns c =
    let w = c.args.self.now.words.now in
    let inside : c.args.k < length w - (1172 + 8 * c.args.a) = omega (arith, (held-loaded w c.args.self.now.held).acts-le, (held-loaded w c.args.self.now.held).kinds-le, (held-sized w c.args.self.now.held).size, c.requires.known_act) in
    c.wide.ensures ∙ get_or-take (length w - (1172 + 8 * c.args.a)) (drop (1172 + 8 * c.args.a) w) c.args.k 0 inside ∙ get_or-drop (1172 + 8 * c.args.a) w c.args.k 0
    ∙ index_at w c.args.self.now.held c.args.a c.args.k c.requires.known_act.0 c.requires.known_act.1

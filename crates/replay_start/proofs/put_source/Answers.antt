-- The kind is known, so its source is a place. Assumes nothing.
use Prim.Native.Nat.{◌<◌}
use native.Mathlib.Omega.{arith}
use Rattle.net.specs.Held.{net_in}
use Rattle.net.proofs.HeldLaws.{held-loaded}
use Rattle.replay_start.proofs.put_source.Goals as goal

pub overflow_cast-q : goal.overflow_cast-q
overflow_cast-q c =
    let r = c.args.register.now in
    let k : c.wide-k.result < (net_in r.net.words.now).kinds = rw (c.wide-k.ensures, c.kind.ensures) (r.known.kind c.args.o c.requires.known_object.0) in
    let L = held-loaded r.net.words.now r.net.held in
    omega (arith, c.source-q.ensures, L.source_in c.wide-k.result k, L.places-le)

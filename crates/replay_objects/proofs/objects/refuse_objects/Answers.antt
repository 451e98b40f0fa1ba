-- Each return by the tests passed on the way. Assumes nothing.
use mathlib.Core.Bool.{true, false}
use mathlib.Core.Path.{refl, sym}
use native.Mathlib.Omega.{arith}
use Prim.Native.Nat.{◌/◌, ◌≤◌}
use lib.ListN.{length, replicate}
use lib.Seq.{length-take-le}
use Rattle.words.specs.Words.{words_of}
use Rattle.words.proofs.Words.{length-words}
use Rattle.net.specs.Held.{net_in}
use Rattle.replay.specs.Register.{kinds_in}
use Rattle.replay_objects.proofs.ObjectLaws.{same-left}
use Rattle.replay_objects.proofs.objects.refuse_objects.Goals as goal

pub slice_bounds-kinds-end : goal.slice_bounds-kinds-end
slice_bounds-kinds-end c = omega (arith, length-words c.args.objs.now, c.requires.bounded.0)

pub slice_bounds-two_of_kind-end : goal.slice_bounds-two_of_kind-end
slice_bounds-two_of_kind-end c =
    let inside : length c.args.objs.now / 4 ≤ length c.take_kinds.new.kinds = omega (arith, length-words c.args.objs.now, c.requires.bounded.0, c.take_kinds.array_long) in
    omega (arith, length-take-le (length c.args.objs.now / 4) c.take_kinds.new.kinds inside)

pub two_of_kind-requires : goal.two_of_kind-requires
two_of_kind-requires c =
    let inside : length c.args.objs.now / 4 ≤ length c.take_kinds.new.kinds = omega (arith, length-words c.args.objs.now, c.requires.bounded.0, c.take_kinds.array_long) in
    omega (arith, length-take-le (length c.args.objs.now / 4) c.take_kinds.new.kinds inside, length-words c.args.objs.now, c.requires.bounded.0)

pub returns-then-two_of_kind : goal.returns-then-two_of_kind
returns-then-two_of_kind c =
    let a = c.args in let t = c.in_ok-take_kinds.ensures in record {
      code = same-left (net_in a.register.now.net.words.now) (kinds_in (net_in a.register.now.net.words.now) a.register.now.bytes.now) (words_of a.objs.now) (replicate 8 0) c.take_kinds.new.kinds a.act refl c.requires.bounded.0 t.code t.kinds _ c.two_of_kind.result true (sym (length-words a.objs.now)) c.two_of_kind.ensures c.if-two_of_kind.true;
    }

pub returns : goal.returns
returns c =
    let a = c.args in let t = c.in_ok-take_kinds.ensures in record {
      code = same-left (net_in a.register.now.net.words.now) (kinds_in (net_in a.register.now.net.words.now) a.register.now.bytes.now) (words_of a.objs.now) (replicate 8 0) c.take_kinds.new.kinds a.act refl c.requires.bounded.0 t.code t.kinds _ c.two_of_kind.result false (sym (length-words a.objs.now)) c.two_of_kind.ensures c.if-two_of_kind.false;
    }

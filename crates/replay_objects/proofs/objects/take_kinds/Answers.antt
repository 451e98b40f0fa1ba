-- An object more by its number and its kind; each return by what is left to find there. Assumes nothing.
use Prim.Native.Nat.{ℕ, ◌<◌}
use mathlib.Core.Bool.{not}
use mathlib.Core.Path.{◌≡◌, ap, ◌∙◌}
use native.Mathlib.Omega.{arith}
use lib.ListN.{length, get_or}
use Rattle.words.specs.Words.{words_of}
use Rattle.words.proofs.Words.{length-words}
use Rattle.net.specs.Held.{net_in}
use Rattle.replay.specs.Register.{kinds_in}
use Rattle.replay_objects.proofs.ObjectLaws.{left-unknown, left-known, store-one, one_more}
use Rattle.replay_objects.proofs.objects.take_kinds.Goals as goal

pub get_word-requires : goal.get_word-requires
get_word-requires c = omega (arith, length-words c.args.objs.now)

pub returns-then-size-o-clause-code : goal.returns-then-size-o-clause-code
returns-then-size-o-clause-code c =
    let a = c.args in
    left-unknown (net_in a.register.now.net.words.now) (kinds_in (net_in a.register.now.net.words.now) a.register.now.bytes.now) (words_of a.objs.now) a.act c.loop-i.i (omega (arith, length-words a.objs.now)) c.loop-i.foreign (omega (arith, c.objects-size.ensures, c.wide-o.ensures, c.get_word.ensures)) ∙ c.loop-i.invariant.0

pub bounds-kinds-i : goal.bounds-kinds-i
bounds-kinds-i c = omega (arith, length-words c.args.objs.now, c.requires.bounded.0)

pub overflow_add-foreign : goal.overflow_add-foreign
overflow_add-foreign c = omega (arith, c.from-foreign.ensures, one_more (not c.takes_kind.result), c.loop-i.invariant.1, length-words c.args.objs.now, c.requires.bounded.0)

pub loop-i-preserved : goal.loop-i-preserved
loop-i-preserved c =
    let a = c.args in let l = c.loop-i in
    let object-is : c.wide-o.result ≡ get_or (words_of a.objs.now) l.i 0 = c.wide-o.ensures ∙ c.get_word.ensures in
    let kind-is : c.kind-k.result ≡ get_or (kinds_in (net_in a.register.now.net.words.now) a.register.now.bytes.now) (get_or (words_of a.objs.now) l.i 0) 0 = c.kind-k.ensures ∙ ap (λ (o : ℕ). get_or (kinds_in (net_in a.register.now.net.words.now) a.register.now.bytes.now) o 0) object-is in
    let h : l.i < length (words_of a.objs.now) = omega (arith, length-words a.objs.now) in (
      rw (c.from-foreign.ensures, c.takes_kind.ensures, c.wide.ensures, kind-is) (left-known (net_in a.register.now.net.words.now) (kinds_in (net_in a.register.now.net.words.now) a.register.now.bytes.now) (words_of a.objs.now) a.act l.i h l.foreign (omega (arith, c.objects-size.ensures, object-is))) ∙ l.invariant.0,
      omega (arith, c.from-foreign.ensures, one_more (not c.takes_kind.result), l.invariant.1),
      rw kind-is (store-one (net_in a.register.now.net.words.now) (kinds_in (net_in a.register.now.net.words.now) a.register.now.bytes.now) (words_of a.objs.now) a.act l.i h l.kinds) ∙ l.invariant.2,
    )

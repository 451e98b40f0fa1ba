-- `sink_objects` meets its contract: an object more by its kind's sink; past the last, the jumps are added. Assumes nothing.
use native.Mathlib.Omega.{arith}
use Rattle.replay_moves.proofs.Layouts.{placed_at}
use Rattle.replay_close.proofs.Sinks.{sink-start, kind-known, sink-in, can-sink, sink-turn, can-add-jumps}
use Rattle.replay_close.proofs.sink_objects.Goals as goal

pub loop-o-init : goal.loop-o-init
loop-o-init c = (omega arith, sink-start _ _ _ c.requires.ready c.requires.laid_out)

pub sink-sink-requires : goal.sink-sink-requires
sink-sink-requires c = let r = c.requires in let l = c.loop-o in
    record { known_kind = rw (c.wide-k.ensures, c.get_kind.ensures) (kind-known _ _ _ r.ready r.laid_out l.o l.jumps _ l.invariant.1 c.loop-o-test.true) }

pub overflow_cast-sink : goal.overflow_cast-sink
overflow_cast-sink c = let r = c.requires in let l = c.loop-o in
    rw (c.sink-sink.ensures, c.wide-k.ensures, c.get_kind.ensures) (omega (arith, sink-in _ _ _ r.ready r.laid_out l.o l.jumps _ l.invariant.1 c.loop-o-test.true, (placed_at _ _ _ r.ready r.laid_out).places-few))

pub move_object-jumps-requires : goal.move_object-jumps-requires
move_object-jumps-requires c = let r = c.requires in let l = c.loop-o in
    rw (c.sink-sink.ensures, c.wide-k.ensures, c.get_kind.ensures) (can-sink _ _ _ r.ready r.laid_out l.o l.jumps _ l.invariant.1 c.loop-o-test.true)

pub loop-o-preserved : goal.loop-o-preserved
loop-o-preserved c = let r = c.requires in let l = c.loop-o in let m = c.move_object-jumps in
    (omega (arith, m.ensures.2), rw (m.ensures.0, m.ensures.1, c.sink-sink.ensures, c.wide-k.ensures, c.get_kind.ensures) (sink-turn _ _ _ r.ready r.laid_out l.o l.jumps _ l.invariant.1 c.loop-o-test.true))

pub add-requires : goal.add-requires
add-requires c = let l = c.loop-o in rw c.closing_at.ensures (can-add-jumps _ _ _ c.requires.ready c.requires.laid_out l.o l.jumps _ l.invariant.1 l.auto.o-end)

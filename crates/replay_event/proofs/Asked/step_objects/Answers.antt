-- `step_objects` meets its contract: an object more by its number, its kind and its arc; past the last, the jumps are added. Assumes nothing.
use native.Mathlib.Omega.{arith}
use Rattle.replay_event.proofs.Asks.{few_objects}
use Rattle.replay_event.proofs.Steps.{step_in, step_kind, step_taken, step_out, step_can, step_add, step_end}
use Rattle.replay_event.proofs.Asked.step_objects.Goals as goal

pub get_word-requires : goal.get_word-requires
get_word-requires c = let l = c.loop-i in step_in _ _ c.requires l.i l.jumps _ l.invariant.1 c.loop-i-test.true

pub get_kind-requires : goal.get_kind-requires
get_kind-requires c = let l = c.loop-i in rw (c.wide-o.ensures, c.get_word.ensures) (step_kind _ _ c.requires l.i l.jumps _ l.invariant.1 c.loop-i-test.true)

pub input-inp-requires : goal.input-inp-requires
input-inp-requires c = let l = c.loop-i in
    record { known_act = rw (c.wide-k.ensures, c.get_kind.ensures, c.wide-o.ensures, c.get_word.ensures) (step_taken _ _ c.requires l.i l.jumps _ l.invariant.1 c.loop-i-test.true) }

pub output-out-requires : goal.output-out-requires
output-out-requires c = let l = c.loop-i in
    record { known_act = rw (c.wide-k.ensures, c.get_kind.ensures, c.wide-o.ensures, c.get_word.ensures) (step_taken _ _ c.requires l.i l.jumps _ l.invariant.1 c.loop-i-test.true) }

pub overflow_cast-out : goal.overflow_cast-out
overflow_cast-out c = let l = c.loop-i in
    rw (c.output-out.ensures, c.wide-k.ensures, c.get_kind.ensures, c.wide-o.ensures, c.get_word.ensures) (omega (arith, step_out _ _ c.requires l.i l.jumps _ l.invariant.1 c.loop-i-test.true))

pub move_object-jumps-requires : goal.move_object-jumps-requires
move_object-jumps-requires c = let l = c.loop-i in
    rw (c.input-inp.ensures, c.wide-k.ensures, c.get_kind.ensures, c.wide-o.ensures, c.get_word.ensures) (step_can _ _ c.requires l.i l.jumps _ l.invariant.1 c.loop-i-test.true)

pub overflow_add-jumps : goal.overflow_add-jumps
overflow_add-jumps c = let l = c.loop-i in
    omega (arith, c.move_object-jumps.ensures.2, l.invariant.0, step_in _ _ c.requires l.i l.jumps _ l.invariant.1 c.loop-i-test.true, few_objects _ _ c.requires.counted)

pub add-requires : goal.add-requires
add-requires c = let l = c.loop-i in rw c.jumps_at.ensures (step_add _ _ c.requires l.i l.jumps _ l.invariant.1 l.auto.i-end)

pub returns : goal.returns
returns c = let l = c.loop-i in rw (c.add.ensures, c.jumps_at.ensures) (step_end _ _ c.requires l.i l.jumps _ l.invariant.1 c.loop-i-test.false)

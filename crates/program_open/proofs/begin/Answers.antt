-- The record of the started trail is in front of the lent bytes, and the trail is followed from there. Assumes nothing.
use native.Mathlib.Omega.{arith}
use lib.ListN.{drop, length-take}
use Rattle.replay_start.proofs.StartLaws.{table-few, register-rows, kinds-known}
use Rattle.program_open.proofs.Opening.{size-fits, started, started-follows}
use Rattle.program_text.proofs.Texts.{begun}
use Rattle.program_open.proofs.begin.Goals as goal

pub record_bytes-size-requires : goal.record_bytes-size-requires
record_bytes-size-requires g c = let S = c.args.start.now.startable in record { bounded = (table-few _ _ _ S c.requires.registered, register-rows _ _ _ S c.requires.registered) }

pub slice_bounds-follow-end : goal.slice_bounds-follow-end
slice_bounds-follow-end g c = omega (arith, size-fits _ _ _ c.args.start.now.startable c.requires.registered c.record_bytes-size.result c.record_bytes-size.ensures)

pub slice_bounds-follow-end-2 : goal.slice_bounds-follow-end-2
slice_bounds-follow-end-2 g c = simp length-take (omega (arith, size-fits _ _ _ c.args.start.now.startable c.requires.registered c.record_bytes-size.result c.record_bytes-size.ensures))

pub invariant_of-register : goal.invariant_of-register
invariant_of-register g c = record { known = kinds-known _ _ _ c.args.start.now.startable c.requires.registered }

pub follow-requires-clause-follows : goal.follow-requires-clause-follows
follow-requires-clause-follows g c =
    let S = c.args.start.now.startable in
    started-follows _ _ _ S c.requires.registered _ (started _ _ _ S c.requires.registered c.args.rec.now c.start.new.rec c.record_bytes-size.result c.requires.room c.start.ensures.rec_after c.record_bytes-size.ensures)

pub returns : goal.returns
returns g c =
    let S = c.args.start.now.startable in
    let front = started _ _ _ S c.requires.registered c.args.rec.now c.start.new.rec c.record_bytes-size.result c.requires.room c.start.ensures.rec_after c.record_bytes-size.ensures in
    let all = begun _ _ _ S c.args.body _ _ c.follow.result _ c.follow.new.rec (drop c.record_bytes-size.result c.start.new.rec) front c.follow.ensures.ends c.follow.ensures.ready in
    record { text = all.0; printable = all.1 }

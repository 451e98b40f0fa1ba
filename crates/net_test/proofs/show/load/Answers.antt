-- The words of a table that is taken are those that loading leaves.
use Rattle.std.proofs.Common.{◌≡◌, ℕ, List, sym, ◌∙◌}
use Rattle.net.specs.Table.{load_code}
use Rattle.net.specs.Held.{loaded_words, after_load}
use Rattle.net.proofs.HeldLaws.{loaded-tabled}
use Rattle.net_test.proofs.show.load.Goals as goal

loaded : (b w : List ℕ) → load_code b ≡ 0 → after_load b w ≡ loaded_words b
unfolding after_load
loaded b w e = rw e

pub invariant_of-net : goal.invariant_of-net
invariant_of-net g c =
    let s = c.args.s.now in
    let z : load_code s ≡ 0 = sym c.in-Ok.ensures.0 in
    record { held = (loaded-tabled s z _ (c.in-Ok.ensures.1 ∙ loaded s _ z)).held }

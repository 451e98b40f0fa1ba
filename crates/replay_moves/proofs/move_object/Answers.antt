-- `move_object` meets its contract: its test of the two places as a number is `jumps_to`. Assumes nothing.
use Rattle.std.proofs.Common.{rules, Bool, true, false, ◌≡◌, refl}
use Rattle.std.specs.Int.{from_bool}
use Rattle.std.proofs.Math.Bool.{not}
use Rattle.words.specs.Lists.{pick}
use Rattle.replay_moves.specs.Moves.{go_words}
use Rattle.replay_moves.proofs.move_object.Goals as goal

one_where_other : (same : Bool) → from_bool (not same) ≡ pick same 0 1
one_where_other true = refl
one_where_other false = refl

pub returns : goal.returns
unfolding go_words
returns c = search (rules, one_where_other)

-- The pair's number, row by row. Assumes nothing.
use Rattle.replay_stored.proofs.Trail.pair.Goals as goal

pub pair_index-requires : goal.pair_index-requires
pair_index-requires c = (c.layout-lay.ensures.pair c.args.x c.args.y c.requires.known_places.0 c.requires.known_places.1).at.small

pub get_behind-requires : goal.get_behind-requires
get_behind-requires c = rw c.pair_index.ensures (c.layout-lay.ensures.pair c.args.x c.args.y c.requires.known_places.0 c.requires.known_places.1).at.there

-- `take_close` meets its contract: the trail is closed once its objects are on their sinks. Assumes nothing.
use borrow.Author.Rules.{rules}
use mathlib.Core.Path.{refl}
use native.Mathlib.Omega.{arith}
use Rattle.replay_close.proofs.Sinks.{can-close, close-bytes}
use Rattle.replay_close.proofs.take_close.Goals as goal

pub put_word-requires : goal.put_word-requires
put_word-requires c = rw (c.closed_at.ensures, c.sink_objects.ensures) (can-close _ _ _ c.requires.ready c.requires.laid_out)

pub returns : goal.returns
returns c = let r = c.requires in
    close-bytes _ _ _ r.ready r.laid_out _ r.is_open (rw (c.put_word.ensures.words, c.closed_at.ensures, c.sink_objects.ensures) refl) (omega arith) (λ i. search rules) (λ i. search rules)

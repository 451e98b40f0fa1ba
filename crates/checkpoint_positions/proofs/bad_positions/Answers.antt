-- Each object has a kind that the net knows, and a row in both bodies; the search for a misplaced one is the test. Assumes nothing.
use Rattle.std.proofs.Common.{ℕ, ◌<◌, ◌≡◌, length, get_or, List, [], arith, rules, tests, refl, ◌∙◌}
use Rattle.std.proofs.lemmas.Iterator.{serves_from_Range, YieldsList-from_range}
use Rattle.std.proofs.lemmas.Iterator.Search.{any_from_yields_List}
use Rattle.words.specs.Words.{words_of}
use Rattle.words.proofs.Lists.{All-at}
use Rattle.words.proofs.Words.{length-words}
use Rattle.net.specs.Held.{net_in}
use Rattle.replay.proofs.Accepted.{registered}
use Rattle.checkpoint.specs.Bodies.{body_state}
use Rattle.checkpoint_positions.proofs.Placing.{positions-hit}
use Rattle.checkpoint_positions.specs.Positions.{bad_position}
use Rattle.checkpoint_positions.proofs.bad_positions.Goals as goal

pub any-requires-clause-callable : goal.any-requires-clause-callable
any-requires-clause-callable c =
    let N = net_in c.args.net.now.words.now in
    let K : List ℕ = words_of c.args.ks.now in
    let known : (o : ℕ) → o < length K → get_or K o 0 < N.kinds = All-at (λ (k : ℕ). k < N.kinds) 0 K (registered N K c.requires.registered).kinds in
    let rows : length (words_of c.args.ps.now) ≡ length K = omega (arith, length-words c.args.ps.now) in
    serves_from_Range (λ x q h. search (rules, tests)) (λ x a b. search (rules, arith))

pub returns-else-ps-position_bytes : goal.returns-else-ps-position_bytes
returns-else-ps-position_bytes c =
    let N = net_in c.args.net.now.words.now in
    let d = body_state N c.args.ks.now c.args.ps.now [] [] in
    any_from_yields_List (λ (o : ℕ). bad_position N c.args.closed (get_or d.kinds o 0) (get_or d.places o 0)) _ _ c.any.result c.any.ensures.ran (YieldsList-from_range 0 c.objects-n.result (length d.kinds) refl (omega arith)) (λ x b q k. search (rules, tests))
    ∙ positions-hit N d (length c.args.ps.now) c.args.closed (omega arith)

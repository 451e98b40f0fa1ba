-- The sum of the numbers read is the sum below n; it fits. Assumes nothing.
use Rattle.std.proofs.Common.{ℕ, ◌+◌, ◌*◌, get_or, arith, rules, tests, ◌∙◌}
use Rattle.std.specs.List.{range_with_len}
use Rattle.std.proofs.lemmas.Iterator.{YieldsList-from_map, YieldsList-from_range}
use Rattle.std.proofs.lemmas.Iterator.Consumers.{sum_by_from_yields_List, fits_by_from_yields_list}
use Rattle.words.specs.Words.{words_of}
use Rattle.checkpoint_counts.proofs.Counting.{sum_by-below, most-words}
use Rattle.checkpoint_counts.proofs.sum_every.Goals as goal

pub sum-requires-clause-fits : goal.sum-requires-clause-fits
sum-requires-clause-fits c =
    let a = c.args in
    let f : ℕ → ℕ = λ i. get_or (words_of a.cs.now) (a.from + 2 * i) 0 in
    let xs = range_with_len 0 a.n in
    fits_by_from_yields_list f xs c.map.result _
    (YieldsList-from_map _ f (YieldsList-from_range 0 a.n a.n c.map.ensures.source (omega arith)) c.map.ensures.closure (λ x r q k. search (rules, tests)))
    (omega (arith, sum_by-below f a.n, most-words a.cs.now (λ i. omega (arith, c.type_inv.cs i)) a.from a.n (omega arith)))

pub returns : goal.returns
returns c =
    let a = c.args in
    let f : ℕ → ℕ = λ i. get_or (words_of a.cs.now) (a.from + 2 * i) 0 in
    let xs = range_with_len 0 a.n in
    let e =
    sum_by_from_yields_List f xs c.map.result _ c.sum.ensures.ran
    (YieldsList-from_map _ f (YieldsList-from_range 0 a.n a.n c.map.ensures.source (omega arith)) c.map.ensures.closure (λ x r q k. search (rules, tests)))
    ∙ sum_by-below f a.n in
    (e, omega (arith, e, most-words a.cs.now (λ i. omega (arith, c.type_inv.cs i)) a.from a.n (omega arith)))

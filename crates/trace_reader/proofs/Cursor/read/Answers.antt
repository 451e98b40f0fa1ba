-- The two lengths are numbers of four bytes each. Assumes nothing.
use Prim.Native.Nat.{ℕ, ◌<◌}
use mathlib.Core.List.{List}
use mathlib.Core.Path.{sym, ◌∙◌}
use native.Mathlib.Omega.{arith}
use lib.ListN.{get_or}
use borrow.Author.Rules.{rules}
use Rattle.net.specs.Net.{Net}
use Rattle.net.specs.Held.{net_in}
use Rattle.trace_header.proofs.OpenLaws.{contents-bodies, head-there}
use Rattle.trace_reader.proofs.ReadLaws.{word_small}
use Rattle.trace_reader.proofs.Cursor.read.Goals as goal

pub read_body-requires : goal.read_body-requires
read_body-requires c =
    let N : Net = net_in c.args.register.now.net.words.now in
    let f : List ℕ = c.args.file.now in
    let bytes : (i : ℕ) → get_or f i 0 < 256 = λ i. search rules in
    let q = contents-bodies N f _ (sym c.read_contents.ensures.answer ∙ c.in_ok-bodies.ensures.ok_part) in
    record { in_bounds = omega (arith, head-there N f q.0, q.1, q.2, word_small f bytes 4, word_small f bytes 12) }

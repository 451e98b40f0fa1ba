-- The whole report (the sheet), of a plain run and of a trail's bytes. The order of the jump lines is left free by the paper: it is
-- row by row here, and a pair without jumps writes nothing.
use Rattle.std.specs.Prelude.{ℕ, List, [], ◌∷◌, ◌++◌, length}
use Rattle.words.specs.Lists.{upto}
use Rattle.net.specs.Net.{Net}
use Rattle.replay.specs.Plain.{Plain}
use Rattle.replay.specs.Counts.{transfers, all_jumps, consumed, jumps_in, jumps_out, pair_jumps, fired, moved, jumps}
use Rattle.replay.specs.Calls.{net_at}
use Rattle.replay.specs.Rows.{pairs_below}
use Rattle.report_lines.specs.ReportLines.{trail_line, place_line, act_line, jump_line}
use Rattle.report.specs.TrailLines.{trail_line_at, place_line_at, act_line_at, jump_line_at}

-- the texts of the elements, one behind the other
abbrev pub text_of : {A : Type 0} → (A → List ℕ) → List A → List ℕ
text_of f [] = []
text_of f (x ∷ xs) = f x ++ text_of f xs

-- the lines of a plain run, from its counts
module _ (N : Net) (p : Plain) where
  abbrev pub trail_line_of : List ℕ
  trail_line_of = trail_line (length p.kinds) (length p.events) (all_jumps N p) (transfers N p)

  abbrev pub place_line_of : ℕ → List ℕ
  place_line_of q = place_line q (consumed N p q) (jumps_in N p q) (jumps_out N p q)

  abbrev pub act_line_of : ℕ → List ℕ
  act_line_of a = act_line a (fired N p a) (moved N p a) (jumps N p a)

  abbrev pub jump_line_of : ℕ × ℕ → List ℕ
  jump_line_of x = jump_line x.0 x.1 (pair_jumps N p x.0 x.1)

  unfoldable pub report_of : List ℕ
  report_of =
      trail_line_of
      ++ (text_of place_line_of (upto N.places 0) ++ (text_of act_line_of (upto N.acts 0) ++ text_of jump_line_of (pairs_below N.places)))

-- the same of the net and the state in a trail's bytes
abbrev pub pair_line_at : List ℕ → ℕ × ℕ → List ℕ
pair_line_at b x = jump_line_at b x.0 x.1

unfoldable pub report_at : List ℕ → List ℕ
report_at b =
    trail_line_at b
    ++ (text_of (place_line_at b) (upto (net_at b).places 0)
    ++ (text_of (act_line_at b) (upto (net_at b).acts 0) ++ text_of (pair_line_at b) (pairs_below (net_at b).places)))

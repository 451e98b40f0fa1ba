-- The number of the bodies' first refusal, test by test. Assumes nothing.
use Prim.Native.Nat.{ℕ}
use mathlib.Core.Bool.{Bool, true, false, not}
use mathlib.Core.Path.{◌≡◌, refl, ap, ◌∙◌}
use mathlib.Core.List.{List, [], ◌∷◌, ◌++◌}
use lib.ListN.{length}
use lib.Dec.{eqb}
use borrow.Author.Tests.{eq-eqb, ne_eqb}
use Rattle.words.specs.Lists.{pick, All}
use Rattle.words.specs.Refusals.{first}
use Rattle.net.specs.Net.{Net}
use Rattle.replay.specs.Plain.{register_code}
use Rattle.replay.specs.Register.{whole_rows, kinds_in}
use Rattle.replay_objects.specs.RegisterAnswers.{register_error_code}
use Rattle.replay_objects.specs.contracts.register.RegisterErrorRefusal.TheImpl.Laws.{not_zero-law}
use Rattle.replay_objects.specs.declared.register.RegisterError.{RegisterError}
use Rattle.checkpoint.specs.Bodies.{body_state, hit}
use Rattle.checkpoint.specs.Restore.{tests45, tests46, tests47}
use Rattle.checkpoint_judge.specs.Judge.{closed_by, judge_code, judge_second}
use native.Mathlib.Omega.{arith}

-- a register's refusal has a number, under a name that the code can give to the check
pub register_refused : (e : RegisterError) → register_error_code e ≡ 0 → ⊥
register_refused = not_zero-law

-- tests that all give n
first-hit : (n : ℕ) (ts rest : List (Bool × ℕ)) → All (λ (t : Bool × ℕ). t.1 ≡ n) ts → first (ts ++ rest) ≡ pick (hit ts) n (first rest)
first-hit n [] rest a = refl
first-hit n (t ∷ ts) rest a = go t.0 (first-hit n ts rest a.1)
  where
    go : (b : Bool) → first (ts ++ rest) ≡ pick (hit ts) n (first rest) → pick b t.1 (first (ts ++ rest)) ≡ pick (pick b true (hit ts)) n (first rest)
    go true e = a.0
    go false e = e

module _ (N : Net) (ks ps cs js : List ℕ) where
  abbrev code : ℕ
  code = judge_code N ks ps cs js

  abbrev second : ℕ
  second = judge_second N ks ps cs js

  abbrev hit45 : Bool
  hit45 = hit (tests45 N (body_state N ks ps [] []) (length ps) (closed_by cs))

  abbrev hit46 : Bool
  hit46 = hit (tests46 N (body_state N ks [] cs []) (length cs))

  abbrev hit47 : Bool
  hit47 = hit (tests47 N (body_state N ks [] cs js) (length js))

  code_is : code ≡ pick (not (whole_rows N ks)) 44 (pick (not (eqb (register_code N (kinds_in N ks)) 0)) 44 (pick hit45 45 (pick hit46 46 (pick hit47 47 0))))
  unfolding judge_code
  code_is =
      ap (λ (n : ℕ). pick (not (whole_rows N ks)) 44 (pick (not (eqb (register_code N (kinds_in N ks)) 0)) 44 n))
      (first-hit 45 (tests45 N (body_state N ks ps cs js) (length ps) (closed_by cs)) (tests46 N (body_state N ks ps cs js) (length cs) ++ tests47 N (body_state N ks ps cs js) (length js)) (refl, (refl, (refl, (refl, tt))))
      ∙ ap (pick hit45 45)
      (first-hit 46 (tests46 N (body_state N ks ps cs js) (length cs)) (tests47 N (body_state N ks ps cs js) (length js)) (refl, (refl, (refl, (refl, (refl, (refl, (refl, tt)))))))
      ∙ ap (pick hit46 46) (last (tests47 N (body_state N ks ps cs js) (length js)) (refl, (refl, (refl, (refl, tt)))))))
    where
      last : (ts : List (Bool × ℕ)) → All (λ (t : Bool × ℕ). t.1 ≡ 47) ts → first ts ≡ pick (hit ts) 47 0
      last [] a = refl
      last (t ∷ ts) a = go t.0 (last ts a.1)
        where
          go : (b : Bool) → first ts ≡ pick (hit ts) 47 0 → pick b t.1 (first ts) ≡ pick (pick b true (hit ts)) 47 0
          go true e = a.0
          go false e = e

  -- it is never 43
  pub judge-not-43 : eqb code 43 ≡ false
  judge-not-43 = rw code_is (go (not (whole_rows N ks)) (not (eqb (register_code N (kinds_in N ks)) 0)) hit45 hit46 hit47)
    where
      go : (a b c d e : Bool) → eqb (pick a 44 (pick b 44 (pick c 45 (pick d 46 (pick e 47 0))))) 43 ≡ false
      go true b c d e = refl
      go false true c d e = refl
      go false false true d e = refl
      go false false false true e = refl
      go false false false false true = refl
      go false false false false false = refl

  -- any other number than 44 has no second
  pub no_second : (code ≡ 44 → ⊥) → second ≡ 0
  unfolding judge_second
  no_second n = rw (ne_eqb code 44 n) refl

  pub judge_rows : whole_rows N ks ≡ false → code ≡ 44
  judge_rows n = rw (code_is, n) refl

  pub rows_second : whole_rows N ks ≡ false → second ≡ 0
  unfolding judge_second
  rows_second n = rw (judge_rows n, n) refl

  module _ (w : whole_rows N ks ≡ true) where
    pub judge_register : (register_code N (kinds_in N ks) ≡ 0 → ⊥) → code ≡ 44
    judge_register n = rw (code_is, w, ne_eqb (register_code N (kinds_in N ks)) 0 n) refl

    pub register_second : (register_code N (kinds_in N ks) ≡ 0 → ⊥) → second ≡ register_code N (kinds_in N ks)
    unfolding judge_second
    register_second n = rw (judge_register n, w) refl

    module _ (r : register_code N (kinds_in N ks) ≡ 0) where
      pub judge_positions : hit45 ≡ true → code ≡ 45
      judge_positions h = rw (code_is, w, eq-eqb (register_code N (kinds_in N ks)) 0 r, h) refl

      pub judge_counts : hit45 ≡ false → hit46 ≡ true → code ≡ 46
      judge_counts p h = rw (code_is, w, eq-eqb (register_code N (kinds_in N ks)) 0 r, p, h) refl

      pub judge_jumps : hit45 ≡ false → hit46 ≡ false → hit47 ≡ true → code ≡ 47
      judge_jumps p c h = rw (code_is, w, eq-eqb (register_code N (kinds_in N ks)) 0 r, p, c, h) refl

      pub judge_taken : hit45 ≡ false → hit46 ≡ false → hit47 ≡ false → code ≡ 0
      judge_taken p c h = rw (code_is, w, eq-eqb (register_code N (kinds_in N ks)) 0 r, p, c, h) refl

-- the steps of the judge: 44, and 45 to 47
pub ruleset register = (register_refused, judge_rows, rows_second, judge_register, register_second)

pub ruleset bodies = (judge_positions, judge_counts, judge_jumps, judge_taken, no_second)

-- What a function that is handed to a call writes of a trail.
use Rattle.std.specs.Prelude.{ℕ, ◌≤◌, Bool, ◌≡◌, List, Result}
use Rattle.std.specs.Fn.{Once}
use denote.Ref.{Bor, MutBor}
use Rattle.lines.specs.Answer.{size_of, Writes}
use Rattle.lines.specs.declared.LineError.{LineError}
use Rattle.replay_stored.specs.declared.Trail.{Trail}

module _ {F : Type 0} (put : Once F (Bor Trail × (MutBor (List ℕ) × Unit)) (Result ℕ LineError × (MutBor (List ℕ) × Unit))) (f : F) where
  -- no more bytes than a line has
  pub record PutsFew : Type 0 where
    pub few : (t : Bor Trail) (o : MutBor (List ℕ)) (r : Result ℕ LineError) (o' : MutBor (List ℕ)) → put.post f (t, (o, tt)) (r, (o', tt)) → size_of r ≤ 113

  -- of a trail of the bytes b, behind these tests, this line into the bytes `lent`
  pub record PutsLine (b : List ℕ) (tests : List (Bool × ℕ)) (line lent : List ℕ) : Type 0 where
    pub puts : (t : Bor Trail) (o : MutBor (List ℕ)) (r : Result ℕ LineError) (o' : MutBor (List ℕ)) → t.now.rec.now ≡ b → o.now ≡ lent → put.post f (t, (o, tt)) (r, (o', tt))
        → Writes tests line lent r o'.now

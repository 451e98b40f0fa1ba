-- The passes of test 9 mark exactly what arcs reach, from one source or from the sources of all kinds at once. Assumes nothing.
use Prim.Native.Nat.{ℕ, zero, suc, ◌+◌, ◌-◌, ◌≤◌, ◌<◌}
use mathlib.Core.Bool.{Bool, true, false}
use mathlib.Core.Logic.{◌⊎◌, inl, inr, ◌↔◌}
use mathlib.Core.Path.{◌≡◌, refl, ap, sym, ◌∙◌, subst}
use mathlib.Core.List.{List, [], ◌∷◌}
use native.Mathlib.Omega.{arith}
use native.Mathlib.Decide.{ℕ_discrete}
use native.Mathlib.Numerals.{add-one}
use lib.ListN.{length, get_or, set, drop, replicate, length-set, length-replicate, drop_of_length-le}
use lib.Seq.{drop-cons, get_or-set_same, get_or-set_other, set-get_or}
use lib.Dec.{eqb}
use borrow.Author.Tests.{eqb-true, eqb-false, eq-eqb, ne_eqb}
use Rattle.words.specs.Lists.{pick, All, In, here, there, one, total}
use Rattle.words.proofs.Lists.{All-in, All-to, zeros-at, clash}
use Rattle.net.specs.Net.{Net, Arc, GoodArc}
use Rattle.net.specs.Table.{pass, passes, marked}
use Rattle.net.specs.Ruled.{marks_to, source_marks}

-- q is reached from s by the arcs of a list
pub data Walk (xs : List Arc) (s : ℕ) : ℕ → Type 0 where
  rest : Walk xs s s
  on : (x : Arc) → In x xs → Walk xs s x.0 → Walk xs s x.1

-- q is reached by the arcs of a list from a place that is marked at the beginning
pub data From (xs : List Arc) (m₀ : List ℕ) : ℕ → Type 0 where
  start : (p : ℕ) → get_or m₀ p 0 ≡ 1 → From xs m₀ p
  along : (x : Arc) → In x xs → From xs m₀ x.0 → From xs m₀ x.1

-- Each mark is reached.
abbrev Sound : List Arc → List ℕ → List ℕ → Type 0
Sound xs m₀ m = (p : ℕ) → get_or m p 0 ≡ 1 → From xs m₀ p

set_cases : (m : List ℕ) (y p : ℕ) → get_or (set m y 1) p 0 ≡ 1 → (p ≡ y) ⊎ (get_or m p 0 ≡ 1)
set_cases m y p e = go (ℕ_discrete p y)
  where
    go : Dec (p ≡ y) → (p ≡ y) ⊎ (get_or m p 0 ≡ 1)
    go (yes q) = inl q
    go (no n) = inr (rw (get_or-set_other m y p 1 0 n) at e)

set-sound : (xs : List Arc) (m₀ : List ℕ) (y : ℕ) (m : List ℕ) → From xs m₀ y → Sound xs m₀ m → Sound xs m₀ (set m y 1)
set-sound xs m₀ y m r h p e = go (set_cases m y p e)
  where
    go : (p ≡ y) ⊎ (get_or m p 0 ≡ 1) → From xs m₀ p
    go (inl q) = rw q r
    go (inr g) = h p g

pass-sound : (all : List Arc) (m₀ : List ℕ) (xs : List Arc) → ((x : Arc) → In x xs → In x all) → (m : List ℕ) → Sound all m₀ m → Sound all m₀ (pass xs m)
pass-sound all m₀ [] i m h = h
pass-sound all m₀ (x ∷ xs) i m h = pass-sound all m₀ xs (λ y j. i y (there j)) _ (go (eqb (get_or m x.0 0) 1) refl)
  where
    go : (b : Bool) → eqb (get_or m x.0 0) 1 ≡ b → Sound all m₀ (pick b (set m x.1 1) m)
    go true e = set-sound all m₀ x.1 m (along x (i x here) (h x.0 (eqb-true _ _ e))) h
    go false e = h

passes-sound : (xs : List Arc) (m₀ : List ℕ) (n : ℕ) (m : List ℕ) → Sound xs m₀ m → Sound xs m₀ (passes n xs m)
passes-sound xs m₀ zero m h = h
passes-sound xs m₀ (suc n) m h = passes-sound xs m₀ n (pass xs m) (pass-sound xs m₀ xs (λ x i. i) m h)

-- how many marks are 1
ones : List ℕ → ℕ
ones m = total (λ (v : ℕ). one (eqb v 1)) m

ones-le : (m : List ℕ) → ones m ≤ length m
unfolding ones
ones-le [] = omega arith
ones-le (v ∷ m) = go (eqb v 1) (ones-le m)
  where
    go : (b : Bool) → total (λ (v : ℕ). one (eqb v 1)) m ≤ length m → one b + total (λ (v : ℕ). one (eqb v 1)) m ≤ suc (length m)
    go true h = omega arith
    go false h = omega arith

ones-ge : (m : List ℕ) (p : ℕ) → get_or m p 0 ≡ 1 → 1 ≤ ones m
unfolding ones
ones-ge [] p e = absurd (omega arith)
ones-ge (v ∷ m) zero e = rw (eq-eqb v 1 e) (omega arith)
ones-ge (v ∷ m) (suc p) e = omega (arith, ones-ge m p e)

ones-set : (m : List ℕ) (y : ℕ) → y < length m → (get_or m y 0 ≡ 1 → ⊥) → ones (set m y 1) ≡ suc (ones m)
unfolding ones
ones-set [] y h n = absurd (omega arith)
ones-set (v ∷ m) zero h n = rw (ne_eqb v 1 n) (omega arith)
ones-set (v ∷ m) (suc y) h n = omega (arith, ones-set m y (omega arith) n)

abbrev Known : ℕ → List Arc → Type 0
Known P xs = All (λ (x : Arc). x.1 < P) xs

abbrev Closed : List Arc → List ℕ → Type 0
Closed xs m = All (λ (x : Arc). get_or m x.0 0 ≡ 1 → get_or m x.1 0 ≡ 1) xs

-- a mark that is set again
pub set-again : (m : List ℕ) (y : ℕ) → get_or m y 0 ≡ 1 → set m y 1 ≡ m
set-again m y q = ap (set m y) (sym q) ∙ set-get_or m y 0

-- A pass marks more, or there is nothing left to mark.
abbrev Cases : List Arc → List ℕ → List ℕ → Type 0
Cases xs m m' = (ones m < ones m') ⊎ ((m' ≡ m) × Closed xs m)

pass-cases : (P : ℕ) (xs : List Arc) (m : List ℕ) → length m ≡ P → Known P xs → Cases xs m (pass xs m)
pass-cases P [] m l k = inr (refl, tt)
pass-cases P (x ∷ xs) m l k = go (eqb (get_or m x.0 0) 1) refl (ℕ_discrete (get_or m x.1 0) 1) (λ m l. pass-cases P xs m l k.1)
  where
    more : (get_or m x.0 0 ≡ 1 → get_or m x.1 0 ≡ 1) → (m' : List ℕ) → Cases xs m m' → Cases (x ∷ xs) m m'
    more h m' (inl g) = inl g
    more h m' (inr e) = inr (e.0, (h, e.1))

    grown : (y m' : List ℕ) → ones y ≡ suc (ones m) → Cases xs y m' → Cases (x ∷ xs) m m'
    grown y m' e (inl g) = inl (omega arith)
    grown y m' e (inr g) = inl (omega (arith, ap ones g.0))

    go : (b : Bool) → eqb (get_or m x.0 0) 1 ≡ b → Dec (get_or m x.1 0 ≡ 1) → ((m : List ℕ) → length m ≡ P → Cases xs m (pass xs m)) → Cases (x ∷ xs) m (pass xs (pick b (set m x.1 1) m))
    go false e d r = more (λ q. absurd (eqb-false _ _ e q)) _ (r m l)
    go true e (yes q) r = more (λ z. q) _ (subst (λ (y : List ℕ). Cases xs m (pass xs y)) (sym (set-again m x.1 q)) (r m l))
    go true e (no n) r = grown (set m x.1 1) _ (ones-set m x.1 (omega (arith, k.0)) n) (r (set m x.1 1) (length-set m x.1 1 ∙ l))

length-pass : (xs : List Arc) (m : List ℕ) → length (pass xs m) ≡ length m
length-pass [] m = refl
length-pass (x ∷ xs) m = length-pass xs _ ∙ go (eqb (get_or m x.0 0) 1)
  where
    go : (b : Bool) → length (pick b (set m x.1 1) m) ≡ length m
    go true = length-set m x.1 1
    go false = refl

-- marks that a pass leaves, any number of passes leaves
pub passes_stay : (n : ℕ) (xs : List Arc) (m : List ℕ) → pass xs m ≡ m → passes n xs m ≡ m
passes_stay zero xs m e = refl
passes_stay (suc n) xs m e = rw e (passes_stay n xs m e)

passes-closed : (P n : ℕ) (xs : List Arc) (m : List ℕ) → length m ≡ P → Known P xs → P < ones m + n → Closed xs (passes n xs m)
passes-closed P zero xs m l k h = absurd (omega (arith, ones-le m))
passes-closed P (suc n) xs m l k h = go (pass-cases P xs m l k) (passes-closed P n xs (pass xs m) (length-pass xs m ∙ l) k)
  where
    go : Cases xs m (pass xs m) → (P < ones (pass xs m) + n → Closed xs (passes n xs (pass xs m))) → Closed xs (passes n xs (pass xs m))
    go (inl g) r = r (omega arith)
    go (inr e) r = subst (Closed xs) (sym (ap (passes n xs) e.0 ∙ passes_stay n xs m e.0)) e.1

-- a mark stays
set-kept : (m : List ℕ) (y p : ℕ) → get_or m p 0 ≡ 1 → get_or (set m y 1) p 0 ≡ 1
set-kept m y p e = go (ℕ_discrete p y)
  where
    go : Dec (p ≡ y) → get_or (set m y 1) p 0 ≡ 1
    go (yes q) = subst (λ (y : ℕ). get_or (set m y 1) p 0 ≡ 1) q (ap (λ (l : List ℕ). get_or l p 0) (set-again m p e) ∙ e)
    go (no n) = get_or-set_other m y p 1 0 n ∙ e

pass_kept : (xs : List Arc) (m : List ℕ) (p : ℕ) → get_or m p 0 ≡ 1 → get_or (pass xs m) p 0 ≡ 1
pass_kept [] m p e = e
pass_kept (x ∷ xs) m p e = pass_kept xs _ p (go (eqb (get_or m x.0 0) 1))
  where
    go : (b : Bool) → get_or (pick b (set m x.1 1) m) p 0 ≡ 1
    go false = e
    go true = set-kept m x.1 p e

passes_kept : (n : ℕ) (xs : List Arc) (m : List ℕ) (p : ℕ) → get_or m p 0 ≡ 1 → get_or (passes n xs m) p 0 ≡ 1
passes_kept zero xs m p e = e
passes_kept (suc n) xs m p e = passes_kept n xs (pass xs m) p (pass_kept xs m p e)

-- After as many passes as there are marks, what is marked is what is reached from the first marks, of which there is one at s.
pub from_is : (P s : ℕ) (xs : List Arc) (m₀ : List ℕ) → length m₀ ≡ P → get_or m₀ s 0 ≡ 1 → Known P xs → (q : ℕ) → (get_or (passes P xs m₀) q 0 ≡ 1) ↔ From xs m₀ q
from_is P s xs m₀ l e k q = (passes-sound xs m₀ P m₀ (λ p h. start p h) q, back q)
  where
    shut : Closed xs (passes P xs m₀)
    shut = passes-closed P P xs m₀ l k (omega (arith, ones-ge m₀ s e))

    back : (q : ℕ) → From xs m₀ q → get_or (passes P xs m₀) q 0 ≡ 1
    back q (start p h) = passes_kept P xs m₀ p h
    back q (along x i r) = All-in _ xs shut x i (back x.0 r)

-- the marks that begin with s alone
module _ (P s : ℕ) (h : s < P) where
  alone : List ℕ
  alone = set (replicate P 0) s 1

  alone-length : length alone ≡ P
  unfolding alone
  alone-length = length-set (replicate P 0) s 1 ∙ length-replicate {A = ℕ} P 0

  alone_at : get_or alone s 0 ≡ 1
  unfolding alone
  alone_at = get_or-set_same (replicate P 0) s 1 0 (omega (arith, length-replicate {A = ℕ} P 0))

  alone-only : (p : ℕ) → get_or alone p 0 ≡ 1 → p ≡ s
  unfolding alone
  alone-only p e = go (set_cases (replicate P 0) s p e)
    where
      go : (p ≡ s) ⊎ (get_or {A = ℕ} (replicate P 0) p 0 ≡ 1) → p ≡ s
      go (inl q) = q
      go (inr g) = absurd (omega (arith, zeros-at P p))

  to-walk : (xs : List Arc) (q : ℕ) → From xs alone q → Walk xs s q
  to-walk xs q (start p e) = rw (alone-only p e) rest
  to-walk xs q (along x i r) = on x i (to-walk xs x.0 r)

  of-walk : (xs : List Arc) (q : ℕ) → Walk xs s q → From xs alone q
  of-walk xs q rest = start s alone_at
  of-walk xs q (on x i r) = along x i (of-walk xs x.0 r)

-- Place q is marked exactly where it is reached from s.
pub marked-is : (P s q : ℕ) (xs : List Arc) → s < P → All (λ (x : Arc). x.1 < P) xs → (marked P xs s q ≡ true) ↔ Walk xs s q
unfolding marked alone
marked-is P s q xs h k =
    let r = from_is P s xs (alone P s h) (alone-length P s h) (alone_at P s h) k q in
    (λ e. to-walk P s h xs q (r.0 (eqb-true _ _ e)), λ w. eq-eqb _ _ (r.1 (of-walk P s h xs q w)))

-- The sources of all kinds marked at once.
same_bool : (a b : Bool) → (a ≡ true → b ≡ true) → (b ≡ true → a ≡ true) → a ≡ b
same_bool true true f g = refl
same_bool true false f g = clash (sym (f refl))
same_bool false true f g = clash (sym (g refl))
same_bool false false f g = refl

pub marks-length : (N : Net) (n : ℕ) (m : List ℕ) → length (marks_to N n m) ≡ length m
marks-length N zero m = refl
marks-length N (suc n) m = length-set (marks_to N n m) (N.source n) 1 ∙ marks-length N n m

marks-at : (N : Net) (n : ℕ) (m : List ℕ) (k : ℕ) → k < n → N.source k < length m → get_or (marks_to N n m) (N.source k) 0 ≡ 1
marks-at N zero m k h l = absurd (omega arith)
marks-at N (suc n) m k h l = go (ℕ_discrete k n) (λ h. marks-at N n m k h l)
  where
    go : Dec (k ≡ n) → (k < n → get_or (marks_to N n m) (N.source k) 0 ≡ 1) → get_or (set (marks_to N n m) (N.source n) 1) (N.source k) 0 ≡ 1
    go (yes q) r = subst (λ (j : ℕ). get_or (set (marks_to N n m) (N.source j) 1) (N.source k) 0 ≡ 1) q (get_or-set_same (marks_to N n m) (N.source k) 1 0 (omega (arith, marks-length N n m)))
    go (no d) r = set-kept (marks_to N n m) (N.source n) (N.source k) (r (omega arith))

-- a mark among the sources is the source of some kind
record SomeSource (N : Net) (n p : ℕ) : Type 0 where
  kind : ℕ
  below : kind < n
  is : p ≡ N.source kind

marks-only : (N : Net) (n : ℕ) (m : List ℕ) → ((p : ℕ) → get_or m p 0 ≡ 1 → ⊥) → (p : ℕ) → get_or (marks_to N n m) p 0 ≡ 1 → SomeSource N n p
marks-only N zero m z p e = absurd (z p e)
marks-only N (suc n) m z p e = go (set_cases (marks_to N n m) (N.source n) p e) (marks-only N n m z p)
  where
    go : (p ≡ N.source n) ⊎ (get_or (marks_to N n m) p 0 ≡ 1) → (get_or (marks_to N n m) p 0 ≡ 1 → SomeSource N n p) → SomeSource N (suc n) p
    go (inl q) r = record { kind = n; below = omega arith; is = q }
    go (inr g) r = let s = r g in record { kind = s.kind; below = omega (arith, s.below); is = s.is }

-- Where arcs join places of one kind and the source of each kind is of that kind, a place of kind k is marked from all
-- sources exactly where it is marked from the source of kind k.
module _ (N : Net) (xs : List Arc)
    (few : N.places ≤ 64)
    (inside : (k : ℕ) → k < N.kinds → N.source k < N.places)
    (kind : (k : ℕ) → k < N.kinds → N.kind_of (N.source k) ≡ k)
    (good : All (GoodArc N) xs) where
  begin : List ℕ
  begin = source_marks N (replicate 64 0)

  to-own : (k : ℕ) → k < N.kinds → (q : ℕ) → From xs begin q → N.kind_of q ≡ k → Walk xs (N.source k) q
  unfolding begin
  to-own k h q (start p e) o = go (marks-only N N.kinds (replicate 64 0) (λ p e. omega (arith, zeros-at 64 p)) q e)
    where
      go : SomeSource N N.kinds q → Walk xs (N.source k) q
      go s = subst (λ (y : ℕ). Walk xs (N.source k) y) (ap N.source (sym o ∙ ap N.kind_of s.is ∙ kind s.kind s.below) ∙ sym s.is) rest
  to-own k h q (along x i r) o = on x i (to-own k h x.0 r (sym (All-in (GoodArc N) xs good x i).same ∙ o))

  of-own : (k : ℕ) → k < N.kinds → (q : ℕ) → Walk xs (N.source k) q → From xs begin q
  unfolding begin
  of-own k h q rest = start (N.source k) (marks-at N N.kinds (replicate 64 0) k h (omega (arith, inside k h)))
  of-own k h q (on x i r) = along x i (of-own k h x.0 r)

  pub joint-is : (k : ℕ) → k < N.kinds → (q : ℕ) → N.kind_of q ≡ k → eqb (get_or (passes 64 xs (source_marks N (replicate 64 0))) q 0) 1 ≡ marked N.places xs (N.source k) q
  unfolding begin
  joint-is k h q o =
      let own = marked-is N.places (N.source k) q xs (inside k h) (All-to (GoodArc N) (λ (x : Arc). x.1 < N.places) (λ x g. g.out) xs good) in
      let all = from_is 64 (N.source k) xs begin (marks-length N N.kinds (replicate 64 0)) (marks-at N N.kinds (replicate 64 0) k h (omega (arith, inside k h)))
      (All-to (GoodArc N) (λ (x : Arc). x.1 < 64) (λ x g. omega (arith, g.out, few)) xs good) q in
      same_bool _ _ (λ e. own.1 (to-own k h q (all.0 (eqb-true _ _ e)) o)) (λ e. eq-eqb _ _ (all.1 (of-own k h q (own.0 e))))

-- a pass from arc i on, whose places are p and q
module _ (xs : List Arc) (i : ℕ) (m : List ℕ) where
  pub pass-turn : (p q : ℕ) → i < length xs → get_or xs i (0, 0) ≡ (p, q) → pass (drop i xs) m ≡ pass (drop (i + 1) xs) (pick (eqb (get_or m p 0) 1) (set m q 1) m)
  pass-turn p q h e = rw (add-one, drop-cons xs i (0, 0) h, e)

  pub pass-end : length xs ≤ i → pass (drop i xs) m ≡ m
  pass-end h = rw (drop_of_length-le xs h)

-- what is left of n passes after i of them
module _ (n : ℕ) (xs : List Arc) (i : ℕ) (m : List ℕ) where
  pub passes-turn : i < n → passes (n - i) xs m ≡ passes (n - (i + 1)) xs (pass xs m)
  passes-turn h = let e : n - i ≡ suc (n - (i + 1)) = omega arith in ap (λ (j : ℕ). passes j xs m) e

  pub passes-end : n ≤ i → passes (n - i) xs m ≡ m
  passes-end h = let e : n - i ≡ 0 = omega arith in ap (λ (j : ℕ). passes j xs m) e

-- Legs of different objects: each object is judged by the places at the entry, and is left where its leg says. So an
-- event's legs, and the close's. Assumes nothing.
use Prim.Native.Nat.{ℕ, zero, suc, ◌+◌, ◌≤◌, ◌<◌}
use mathlib.Core.Bool.{Bool, true, false}
use mathlib.Core.Path.{◌≡◌, refl, ap, ap₂, sym, ◌∙◌}
use mathlib.Core.List.{List, [], ◌∷◌, map}
use native.Mathlib.Omega.{arith}
use lib.ListN.{length, get_or, set, length-set}
use lib.Seq.{get_or-set_same, get_or-set_other}
use lib.Dec.{eqb}
use borrow.Author.Tests.{eqb-false}
use Rattle.words.specs.Lists.{pick, All, has, twice, upto}
use Rattle.words.proofs.Lists.{clash, All-to, All-map, All-unmap, All-zip, any_none, upto-in}
use Rattle.net.specs.Net.{Net}
use Rattle.replay.specs.Plain.{Event, Leg, Hop, hops, walked, object_kinds, closers, leg, legs, ending, endings}
use Rattle.replay.specs.Claims.{judged, EventAtOnce, CloseAtOnce}
use Rattle.replay.proofs.Accepted.{Fitting}

-- the legs are of different objects
abbrev pub Apart : List Leg → Type 0
Apart [] = Unit
Apart (l ∷ ls) = All (λ (m : Leg). m.obj ≡ l.obj → ⊥) ls × Apart ls

-- judged by the places qs, which are ps for these legs' objects
judged-alike : (ls : List Leg) (ps qs : List ℕ) → All (λ (m : Leg). get_or qs m.obj 0 ≡ get_or ps m.obj 0) ls → Apart ls → hops qs ls ≡ map (judged ps) ls
judged-alike [] ps qs e a = refl
judged-alike (l ∷ ls) ps qs e a = ap₂ (λ (n : ℕ) (hs : List Hop). record { act = l.act; from = n; to = l.inp } ∷ hs) e.0
    (judged-alike ls ps (set qs l.obj l.out) (All-zip _ _ _ (λ m n q. get_or-set_other qs l.obj m.obj l.out 0 n ∙ q) ls a.0 e.1) a.1)

every : {A : Type 0} (P : A → Type 0) → ((x : A) → P x) → (xs : List A) → All P xs
every P f [] = tt
every P f (x ∷ xs) = (f x, every P f xs)

pub judged-at-entry : (ls : List Leg) (ps : List ℕ) → Apart ls → hops ps ls ≡ map (judged ps) ls
judged-at-entry ls ps a = judged-alike ls ps ps (every (λ (m : Leg). get_or ps m.obj 0 ≡ get_or ps m.obj 0) (λ m. refl) ls) a

-- the places after a walk: as many, those of the legs' objects, those of the others
pub walked-size : (ls : List Leg) (ps : List ℕ) → length (walked ps ls) ≡ length ps
walked-size [] ps = refl
walked-size (l ∷ ls) ps = walked-size ls (set ps l.obj l.out) ∙ length-set ps l.obj l.out

walked-other : (ls : List Leg) (ps : List ℕ) (o : ℕ) → All (λ (m : Leg). m.obj ≡ o → ⊥) ls → get_or (walked ps ls) o 0 ≡ get_or ps o 0
walked-other [] ps o n = refl
walked-other (l ∷ ls) ps o n = walked-other ls (set ps l.obj l.out) o n.1 ∙ get_or-set_other ps l.obj o l.out 0 (λ e. n.0 (sym e))

walked-own : (ls : List Leg) (ps : List ℕ) → Apart ls → All (λ (l : Leg). l.obj < length ps) ls → All (λ (l : Leg). get_or (walked ps ls) l.obj 0 ≡ l.out) ls
walked-own [] ps a h = tt
walked-own (l ∷ ls) ps a h = (
  walked-other ls (set ps l.obj l.out) l.obj a.0 ∙ get_or-set_same ps l.obj l.out 0 h.0,
  walked-own ls (set ps l.obj l.out) a.1 (All-to (λ (m : Leg). m.obj < length ps) (λ (m : Leg). m.obj < length (set ps l.obj l.out)) (λ m q. rw length-set q) ls h.1),
)

-- an object that is none of these
pub not-among : (o : ℕ) (os : List ℕ) → has o os ≡ false → All (λ (x : ℕ). x ≡ o → ⊥) os
not-among o os h = any_none (eqb o) (λ (x : ℕ). x ≡ o → ⊥) (λ x f q. eqb-false _ _ f (sym q)) os h

module _ (N : Net) (ks : List ℕ) where
  -- objects of different kinds are different
  pub apart-legs : (a : ℕ) (os : List ℕ) → twice (object_kinds ks os) ≡ false → Apart (map (leg N ks a) os)
  apart-legs a [] e = tt
  apart-legs a (o ∷ os) e = go (has (get_or ks o 0) (object_kinds ks os)) refl e (apart-legs a os)
    where
      go : (b : Bool) → has (get_or ks o 0) (object_kinds ks os) ≡ b → pick b true (twice (object_kinds ks os)) ≡ false → (twice (object_kinds ks os) ≡ false → Apart (map (leg N ks a) os)) → Apart (map (leg N ks a) (o ∷ os))
      go true h e r = clash e
      go false h e r = (
        All-map (leg N ks a) (λ (m : Leg). m.obj ≡ o → ⊥) os
            (All-to (λ (x : ℕ). get_or ks o 0 ≡ get_or ks x 0 → ⊥) (λ (x : ℕ). x ≡ o → ⊥) (λ x n q. n (ap (λ (z : ℕ). get_or ks z 0) (sym q))) os
            (All-unmap (λ (o : ℕ). get_or ks o 0) (λ (k : ℕ). get_or ks o 0 ≡ k → ⊥) os (any_none (eqb (get_or ks o 0)) (λ (k : ℕ). get_or ks o 0 ≡ k → ⊥) (λ k f. eqb-false _ _ f) (object_kinds ks os) h))),
        r e,
      )

  upto-above : (n i j : ℕ) → i ≤ j → All (λ (o : ℕ). i ≤ o) (upto n j)
  upto-above zero i j h = tt
  upto-above (suc n) i j h = (h, upto-above n i (suc j) (omega arith))

  apart-upto : (n i : ℕ) → Apart (map (ending N ks) (upto n i))
  apart-upto zero i = tt
  apart-upto (suc n) i = (All-map (ending N ks) (λ (m : Leg). m.obj ≡ i → ⊥) (upto n (suc i)) (All-to (λ (o : ℕ). suc i ≤ o) (λ (o : ℕ). o ≡ i → ⊥) (λ o h e. omega arith) (upto n (suc i)) (upto-above n (suc i) (suc i) (omega arith))), apart-upto n (suc i))

  pub apart-endings : Apart (endings N ks)
  apart-endings = apart-upto (length ks) 0

  -- the close leaves each object that it takes on its sink
  pub all-sunk : (ps : List ℕ) → length ks ≤ length ps → All (λ (o : ℕ). get_or (walked ps (endings N ks)) o 0 ≡ N.sink (get_or ks o 0)) (closers ks)
  all-sunk ps f =
      All-unmap (ending N ks) (λ (l : Leg). get_or (walked ps (endings N ks)) l.obj 0 ≡ l.out) (closers ks) (walked-own (endings N ks) ps apart-endings
      (All-map (ending N ks) (λ (l : Leg). l.obj < length ps) (closers ks) (All-to (λ (o : ℕ). o < 0 + length ks) (λ (o : ℕ). o < length ps) (λ o q. omega arith) (closers ks) (upto-in (length ks) 0))))

  module _ (ps : List ℕ) (size : length ps ≡ length ks) where
    pub close-at-once : CloseAtOnce N ks ps
    close-at-once = record {
      at_entry = judged-at-entry (endings N ks) ps apart-endings;
      size = walked-size (endings N ks) ps;
      own = all-sunk ps (omega arith);
      others = λ o h. walked-other (endings N ks) ps o (All-map (ending N ks) (λ (m : Leg). m.obj ≡ o → ⊥) (closers ks) (not-among o (closers ks) h));
    }

    -- of an event whose objects are known, no two of one kind
    pub event-at-once : (e : Event) → Fitting N ks e → EventAtOnce N ks ps e
    event-at-once e F = record {
      at_entry = judged-at-entry (legs N ks e) ps apart;
      leaves = record {
        size = walked-size (legs N ks e) ps;
        own = All-unmap (leg N ks e.act) (λ (l : Leg). get_or (walked ps (legs N ks e)) l.obj 0 ≡ l.out) e.objs (walked-own (legs N ks e) ps apart
            (All-map (leg N ks e.act) (λ (l : Leg). l.obj < length ps) e.objs (All-to (λ (o : ℕ). o < length ks) (λ (o : ℕ). o < length ps) (λ o h. omega arith) e.objs F.known)));
        others = λ o h. walked-other (legs N ks e) ps o (All-map (leg N ks e.act) (λ (m : Leg). m.obj ≡ o → ⊥) e.objs (not-among o e.objs h));
      };
    }
      where
        apart : Apart (legs N ks e)
        apart = apart-legs e.act e.objs F.once

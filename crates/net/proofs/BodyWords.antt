-- Words that hold a table's bodies: what stands where in them. Assumes nothing.
use Prim.Native.Nat.{ℕ, ◌+◌, ◌*◌, ◌/◌, ◌≤◌, ◌<◌}
use mathlib.Core.Logic.{inl, inr}
use mathlib.Core.Path.{◌≡◌, ap, ◌∙◌}
use mathlib.Core.List.{List, [], ◌∷◌}
use native.Mathlib.Omega.{arith}
use lib.ListN.{length, get_or, take, drop, replicate, length-replicate}
use lib.Seq.{sets, length-sets}
use Rattle.words.proofs.Lists.{zeros-at}
use Rattle.words.proofs.Sets.{view-sets, view-same, word_same, word-apart}
use Rattle.net.specs.Net.{Arc}
use Rattle.net.specs.Table.{net_from}
use Rattle.net.specs.Held.{ends_in, places_in, counts_in, arcs_in, net_in, index_rows, front_words, body_words, Sized}
use Rattle.net.proofs.IndexLaws.{rows-length, rows-view, rows_before}
use Rattle.net.specs.Limits.{net_words}

-- the first three bodies have room
pub record FitFront (ends places counts : List ℕ) : Type 0 where
  pub ends-few : length ends ≤ 16
  pub ends-even : 2 * (length ends / 2) ≡ length ends
  pub places-few : length places ≤ 64
  pub counts-few : length counts ≤ 64

-- the arcs have room
pub record FitArcs (arcs : List ℕ) : Type 0 where
  pub arcs-few : length arcs ≤ 1024
  pub arcs-even : 2 * (length arcs / 2) ≡ length arcs

-- what words that hold the first three bodies have
pub record Front (ends places counts : List ℕ) (n : ℕ) (w : List ℕ) : Type 0 where
  pub size : length w ≡ net_words
  pub kinds-at : get_or w 0 0 ≡ length ends / 2
  pub places-at : get_or w 1 0 ≡ length places
  pub acts-at : get_or w 2 0 ≡ length counts
  pub arcs-at : get_or w 3 0 ≡ n
  pub ends-are : take (length ends) (drop 4 w) ≡ ends
  pub places-are : take (length places) (drop 20 w) ≡ places
  pub counts-are : take (length counts) (drop 84 w) ≡ counts

module _ (ends places counts : List ℕ) (F : FitFront ends places counts) (n : ℕ) where
  module _ (z : List ℕ) (size : length z ≡ net_words) where
    heads : List ℕ
    heads = length ends / 2 ∷ length places ∷ length counts ∷ n ∷ []

    s0 : List ℕ
    s0 = sets z 0 heads

    s1 : List ℕ
    s1 = sets s0 4 ends

    s2 : List ℕ
    s2 = sets s1 20 places

    s3 : List ℕ
    s3 = sets s2 84 counts

    size0 : length s0 ≡ net_words
    unfolding s0
    size0 = length-sets z 0 heads ∙ size

    size1 : length s1 ≡ net_words
    unfolding s1
    size1 = length-sets s0 4 ends ∙ size0

    size2 : length s2 ≡ net_words
    unfolding s2
    size2 = length-sets s1 20 places ∙ size1

    head_at_lem : (j : ℕ) → j < 4 → get_or s3 j 0 ≡ get_or heads j 0
    unfolding s0 s1 s2 s3 heads
    head_at_lem j h =
        let e : j ≡ 0 + j = omega arith in
        word-apart s2 84 counts j 0 (inl (omega arith))
        ∙ word-apart s1 20 places j 0 (inl (omega arith))
        ∙ word-apart s0 4 ends j 0 (inl (omega arith))
        ∙ ap (λ (i : ℕ). get_or s0 i 0) e
        ∙ word_same z 0 heads j 0 (omega arith) h

    stored : Front ends places counts n s3
    unfolding s1 s2 s3 heads
    stored =
        record {
          size = length-sets s2 84 counts ∙ size2;
          kinds-at = head_at_lem 0 (omega arith);
          places-at = head_at_lem 1 (omega arith);
          acts-at = head_at_lem 2 (omega arith);
          arcs-at = head_at_lem 3 (omega arith);
          ends-are =
              view-sets s2 4 (length ends) 84 counts (inl (omega (arith, F.ends-few)))
              ∙ view-sets s1 4 (length ends) 20 places (inl (omega (arith, F.ends-few)))
              ∙ view-same s0 4 ends (omega (arith, F.ends-few, size0));
          places-are =
              view-sets s2 20 (length places) 84 counts (inl (omega (arith, F.places-few)))
              ∙ view-same s1 20 places (omega (arith, F.places-few, size1));
          counts-are = view-same s2 84 counts (omega (arith, F.counts-few, size2));
        }

    behind : (j : ℕ) → 1172 ≤ j → get_or s3 j 0 ≡ get_or z j 0
    unfolding s0 s1 s2 s3 heads
    behind j h =
        word-apart s2 84 counts j 0 (inr (omega (arith, F.counts-few)))
        ∙ word-apart s1 20 places j 0 (inr (omega (arith, F.places-few)))
        ∙ word-apart s0 4 ends j 0 (inr (omega (arith, F.ends-few)))
        ∙ word-apart z 0 heads j 0 (inr (omega arith))

  pub front-words : Front ends places counts n (front_words ends places counts n)
  unfolding front_words s0 s1 s2 s3 heads
  front-words = stored (replicate net_words 0) (length-replicate {A = ℕ} net_words 0)

  front-behind : (j : ℕ) → 1172 ≤ j → get_or (front_words ends places counts n) j 0 ≡ 0
  unfolding front_words s0 s1 s2 s3 heads
  front-behind j h = behind (replicate net_words 0) (length-replicate {A = ℕ} net_words 0) j h ∙ zeros-at net_words j

  module _ (w : List ℕ) (H : Front ends places counts n w) where
    pub ends-in : ends_in w ≡ ends
    unfolding ends_in
    ends-in = ap (λ (n : ℕ). take n (drop 4 w)) (ap (λ (n : ℕ). 2 * n) H.kinds-at ∙ F.ends-even) ∙ H.ends-are

    pub places-in : places_in w ≡ places
    unfolding places_in
    places-in = ap (λ (n : ℕ). take n (drop 20 w)) H.places-at ∙ H.places-are

    pub counts-in : counts_in w ≡ counts
    unfolding counts_in
    counts-in = ap (λ (n : ℕ). take n (drop 84 w)) H.acts-at ∙ H.counts-are

    pub sized : Sized w
    sized =
        record {
          size = H.size;
          kinds = omega (arith, H.kinds-at, F.ends-few);
          places = omega (arith, H.places-at, F.places-few);
          acts = omega (arith, H.acts-at, F.counts-few);
        }

-- what words that hold all four bodies have
pub record Holds (ends places counts arcs w : List ℕ) : Type 0 where
  pub front : Front ends places counts (length arcs / 2) w
  pub arcs-are : take (length arcs) (drop 148 w) ≡ arcs

module _ (ends places counts arcs : List ℕ) (F : FitFront ends places counts) (G : FitArcs arcs) where
  -- the arcs stored behind the first three bodies
  pub with-arcs : (w : List ℕ) → Front ends places counts (length arcs / 2) w → Holds ends places counts arcs (sets w 148 arcs)
  with-arcs w H =
      record {
        front =
            record {
              size = length-sets w 148 arcs ∙ H.size;
              kinds-at = word-apart w 148 arcs 0 0 (inl (omega arith)) ∙ H.kinds-at;
              places-at = word-apart w 148 arcs 1 0 (inl (omega arith)) ∙ H.places-at;
              acts-at = word-apart w 148 arcs 2 0 (inl (omega arith)) ∙ H.acts-at;
              arcs-at = word-apart w 148 arcs 3 0 (inl (omega arith)) ∙ H.arcs-at;
              ends-are = view-sets w 4 (length ends) 148 arcs (inl (omega (arith, F.ends-few))) ∙ H.ends-are;
              places-are = view-sets w 20 (length places) 148 arcs (inl (omega (arith, F.places-few))) ∙ H.places-are;
              counts-are = view-sets w 84 (length counts) 148 arcs (inl (omega (arith, F.counts-few))) ∙ H.counts-are;
            };
        arcs-are = view-same w 148 arcs (omega (arith, G.arcs-few, H.size));
      }

  pub body-words : Holds ends places counts arcs (body_words ends places counts arcs)
  unfolding body_words
  body-words = with-arcs (front_words ends places counts (length arcs / 2)) (front-words ends places counts F (length arcs / 2))

  pub no_words : (j : ℕ) → 1172 ≤ j → get_or (body_words ends places counts arcs) j 0 ≡ 0
  unfolding body_words
  no_words j h = word-apart (front_words ends places counts (length arcs / 2)) 148 arcs j 0 (inr (omega (arith, G.arcs-few))) ∙ front-behind ends places counts F (length arcs / 2) j h

  -- the look-up words stand behind the bodies
  pub indexed : (kind_of : ℕ → ℕ) (rs : List (List Arc)) (w : List ℕ) → Holds ends places counts arcs w → Holds ends places counts arcs (index_rows kind_of 1172 rs w)
  indexed kind_of rs w K = let H = K.front in
      record {
        front =
            record {
              size = rows-length kind_of 1172 rs w ∙ H.size;
              kinds-at = rows_before kind_of 1172 rs w 0 (omega arith) ∙ H.kinds-at;
              places-at = rows_before kind_of 1172 rs w 1 (omega arith) ∙ H.places-at;
              acts-at = rows_before kind_of 1172 rs w 2 (omega arith) ∙ H.acts-at;
              arcs-at = rows_before kind_of 1172 rs w 3 (omega arith) ∙ H.arcs-at;
              ends-are = rows-view kind_of 1172 rs w 4 (length ends) (omega (arith, F.ends-few)) ∙ H.ends-are;
              places-are = rows-view kind_of 1172 rs w 20 (length places) (omega (arith, F.places-few)) ∙ H.places-are;
              counts-are = rows-view kind_of 1172 rs w 84 (length counts) (omega (arith, F.counts-few)) ∙ H.counts-are;
            };
        arcs-are = rows-view kind_of 1172 rs w 148 (length arcs) (omega (arith, G.arcs-few)) ∙ K.arcs-are;
      }

  module _ (w : List ℕ) (H : Holds ends places counts arcs w) where
    pub arcs-in : arcs_in w ≡ arcs
    unfolding arcs_in
    arcs-in = ap (λ (n : ℕ). take n (drop 148 w)) (ap (λ (n : ℕ). 2 * n) H.front.arcs-at ∙ G.arcs-even) ∙ H.arcs-are

    pub net-in : net_in w ≡ net_from ends places counts arcs
    unfolding net_in
    net-in = let n : ℕ = length arcs / 2 in rw (ends-in ends places counts F n w H.front, places-in ends places counts F n w H.front, counts-in ends places counts F n w H.front, arcs-in)

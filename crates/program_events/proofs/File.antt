-- The bytes that were read through a window are a file, and what was carried out is what comes of its events. Assumes nothing.
use Prim.Native.Nat.{ℕ, ◌+◌, ◌-◌, ◌≤◌, ◌<◌}
use mathlib.Core.Bool.{Bool, true, false}
use mathlib.Core.Path.{◌≡◌, refl, ap, sym, subst, ◌∙◌}
use mathlib.Core.List.{List, [], ◌++◌, append-nil, append_assoc}
use native.Mathlib.Omega.{arith}
use lib.ListN.{length, take, drop, length-append, take-append-drop}
use lib.Seq.{length-take-le, take_at, take-append_seam, drop-append_seam}
use Rattle.std.specs.Prelude.{Result, Ok, Err, eqb}
use Rattle.std.specs.Result.{IsErrAnd}
use Rattle.words.specs.Lists.{pick}
use Rattle.net.specs.Net.{Net}
use Rattle.replay.specs.Plain.{close}
use Rattle.replay.specs.Calls.{ask_bytes}
use Rattle.trace_reader.specs.Followed.{Followed, closed_after, final}
use Rattle.program_output.specs.declared.Refused.{Refused}
use Rattle.program_step.specs.OneStep.{Spot, Outcome}
use Rattle.program_events.specs.Ends.{ending_after, left_by, goes_on, refused_by}
use Rattle.program_events.specs.Window.{Filled, Kept, Begins, OfSomeFile}

module _ (N : Net) (ks : List ℕ) (body : ℕ) (trail front : List ℕ) (room : ℕ) where
  -- The bytes read so far: those used, and those in the window. Whatever follows them, which is nothing where they do not
  -- fill it, the file begins with those that were read first, and what comes of all events from the trail on comes of them from
  -- here on.
  pub record Read (rec bytes : List ℕ) (s : Spot) : Type 0 where
    pub used : List ℕ
    pub begins : (g : List ℕ) → (length bytes < room → g ≡ []) → Begins front room (used ++ (bytes ++ g))
    pub same : (g : List ℕ) → (length bytes < room → g ≡ []) → final N ks (used ++ (bytes ++ g)) body trail 0 0 0 ≡ final N ks (used ++ (bytes ++ g)) body rec (length used) s.at s.accepted

  -- nothing is used yet
  pub read-start : Read trail front (record { from = 0; at = 0; accepted = 0 })
  read-start = record {
    used = [];
    begins = λ g h. record {
      part = take-append_seam front g;
      last = λ l. ap (λ (g : List ℕ). front ++ g) (h l) ∙ append-nil front;
    };
    same = λ g h. refl;
  }

  -- a turn in a window of n bytes
  module _ (rec buf : List ℕ) (n : ℕ) (s : Spot) (R : Read rec (take n buf) s) (here : s.from ≡ 0) (within : n ≤ length buf) (fits : length buf ≡ room) (left : List ℕ) (r : Outcome) (K : Kept N ks body (Filled buf n) rec s left r) where
    abbrev file : List ℕ → List ℕ
    file g = R.used ++ (take n buf ++ g)

    size : length (take n buf) ≡ n
    size = length-take-le n buf within

    part_of : (g : List ℕ) → (n < room → g ≡ []) → Filled buf n (file g) (length R.used)
    part_of g e = record {
      part = sym (ap (take n) (drop-append_seam R.used (take n buf ++ g)) ∙ take_at (take n buf) g n size);
      last = λ h. omega (arith, ap (length {A = ℕ}) (e (omega arith)), length-append R.used (take n buf ++ g), length-append (take n buf) g, size);
    }

    turned : (g : List ℕ) → (n < room → g ≡ []) → final N ks (file g) body trail 0 0 0 ≡ goes_on N ks (file g) body (length R.used) left r
    turned g e =
        let k : length R.used ≡ length R.used + s.from = omega arith in
        R.same g (λ l. e (omega (arith, size)))
        ∙ ap (λ (k : ℕ). final N ks (file g) body rec k s.at s.accepted) k
        ∙ K.same (file g) (length R.used) (part_of g e)

    pub read-over : r.over ≡ true → OfSomeFile N ks body trail front room (◌≡◌ (left_by left r))
    unfolding goes_on
    read-over o = record { file = file []; begins = R.begins [] (λ h. refl); came = sym (rw o at (turned [] (λ h. refl))) }

    -- the next turn: what was not used stands at the window's front, and the others are new
    module _ (o : r.over ≡ false) (full : n ≡ length buf) (inside : r.spot.from ≤ n) (new : List ℕ) (old : take (n - r.spot.from) new ≡ drop r.spot.from (take n buf)) where
      abbrev k : ℕ
      k = r.spot.from

      abbrev fresh : List ℕ
      fresh = drop (n - k) new

      old-first : new ≡ drop k (take n buf) ++ fresh
      old-first = sym (take-append-drop (n - k) new) ∙ ap (λ (l : List ℕ). l ++ fresh) old

      passed : length (R.used ++ take k (take n buf)) ≡ length R.used + k
      passed = length-append R.used (take k (take n buf)) ∙ ap (λ (m : ℕ). length R.used + m) (length-take-le k (take n buf) (omega (arith, size)))

      going : (g : List ℕ) → final N ks (file g) body trail 0 0 0 ≡ final N ks (file g) body left (length R.used + k) r.spot.at r.spot.accepted
      unfolding goes_on
      going g = rw o at (turned g (λ h. absurd (omega arith)))

      whole : (g : List ℕ) → file (fresh ++ g) ≡ (R.used ++ take k (take n buf)) ++ (new ++ g)
      whole g =
          ap (λ (l : List ℕ). R.used ++ (l ++ (fresh ++ g))) (sym (take-append-drop k (take n buf)))
          ∙ ap (λ (l : List ℕ). R.used ++ l) (append_assoc (take k (take n buf)) (drop k (take n buf)) (fresh ++ g) ∙ ap (λ (l : List ℕ). take k (take n buf) ++ l) (sym (append_assoc (drop k (take n buf)) fresh g) ∙ ap (λ (l : List ℕ). l ++ g) (sym old-first)))
          ∙ sym (append_assoc R.used (take k (take n buf)) (new ++ g))

      pub read-on : Read left new (record { from = 0; at = r.spot.at; accepted = r.spot.accepted })
      read-on = record {
        used = R.used ++ take k (take n buf);
        begins = λ g h. subst (Begins front room) (whole g) (R.begins (fresh ++ g) (λ l. absurd (omega (arith, size))));
        same = λ g h.
            subst (λ (f : List ℕ). final N ks f body trail 0 0 0 ≡ final N ks f body left (length (R.used ++ take k (take n buf))) r.spot.at r.spot.accepted) (whole g)
            (going (fresh ++ g) ∙ ap (λ (i : ℕ). final N ks (file (fresh ++ g)) body left i r.spot.at r.spot.accepted) (sym passed));
      }

-- what stands in a refusal, or y
abbrev refusal_in : Refused → Result Unit Refused → Refused
refusal_in y (Ok x) = y
refusal_in y (Err x) = x

-- by whether an event was refused (b: none was): what is handed on, and what is to be printed
abbrev put_so : Bool → Refused → Result Unit Refused
put_so b y = pick b (Ok tt) (Err y)

abbrev printed : Bool → ℕ → Refused → Result ℕ Refused
printed b n y = pick b (Ok n) (Err y)

a-refusal : (b : Bool) (n : ℕ) (closed left : List ℕ) (x y : Refused) (r : Result Unit Refused) → r ≡ Err x → r ≡ put_so b y → (printed false n x ≡ printed b n y) × (left ≡ pick b closed left)
a-refusal true n closed left x y r is e = absurd (cc (sym e ∙ is))
a-refusal false n closed left x y r is e = (ap (λ (x : Refused). printed false n x) (ap (refusal_in x) (sym is ∙ e)), refl)

no-refusal : (b : Bool) (n : ℕ) (closed left : List ℕ) (y : Refused) (r : Result Unit Refused) → r ≡ Ok tt → r ≡ put_so b y → (printed true n y ≡ printed b n y) × (closed ≡ pick b closed left)
no-refusal true n closed left y r is e = (refl, refl)
no-refusal false n closed left y r is e = absurd (cc (sym is ∙ e))

refusal-is : (e : Result ℕ Refused) (x : Refused) → IsErrAnd e (λ y. y ≡ x) → e ≡ Err x
refusal-is (Ok n) x told = absurd told
refusal-is (Err y) x told = ap Err told

-- the end: a refusal leaves the trail as it is, else it is closed
module _ (N : Net) (ks : List ℕ) (body : ℕ) (trail front : List ℕ) (room : ℕ) (left : List ℕ) (r : Result Unit Refused) (O : OfSomeFile N ks body trail front room (λ (d : Followed). (r ≡ refused_by d) × (left ≡ d.trail))) where
  abbrev Ends : Result ℕ Refused → List ℕ → Type 0
  Ends e b = OfSomeFile N ks body trail front room (λ (d : Followed). (e ≡ ending_after d) × (b ≡ closed_after d))

  abbrev came : Followed
  came = final N ks O.file body trail 0 0 0

  pub end-refused : (x : Refused) → r ≡ Err x → (e : Result ℕ Refused) → IsErrAnd e (λ y. y ≡ x) → Ends e left
  unfolding closed_after ending_after
  end-refused x is e told =
      let p = a-refusal (eqb came.code 0) (length (closed_after came)) (ask_bytes came.trail close) came.trail x (record { code = came.code; events = came.accepted }) r is O.came.0 in
      record { file = O.file; begins = O.begins; came = (refusal-is e x told ∙ p.0, O.came.1 ∙ p.1) }

  pub end-closed : r ≡ Ok tt → (closed : List ℕ) → closed ≡ ask_bytes left close → Ends (Ok (length closed)) closed
  unfolding closed_after ending_after
  end-closed is closed e =
      let p = no-refusal (eqb came.code 0) (length (closed_after came)) (ask_bytes came.trail close) came.trail (record { code = came.code; events = came.accepted }) r is O.came.0 in
      let c : closed ≡ closed_after came = e ∙ ap (λ (b : List ℕ). ask_bytes b close) O.came.1 ∙ p.1 in
      record { file = O.file; begins = O.begins; came = (ap (λ (b : List ℕ). Ok (length b)) c ∙ p.0, c) }

-- What comes of all events of a file is not changed by steps in a window of it. Assumes nothing.
use Prim.Native.Nat.{ℕ, suc, ◌+◌, ◌-◌, ◌*◌, ◌≤◌, ◌<◌}
use mathlib.Core.Bool.{false}
use mathlib.Core.Path.{◌≡◌, refl, ap, ap₂, sym, ◌∙◌}
use mathlib.Core.List.{List, [], ◌++◌, append-nil}
use native.Mathlib.Decide.{dec_le}
use native.Mathlib.Omega.{arith}
use lib.ListN.{length, take, drop, length-drop, take-append-drop, drop_of_length-le}
use lib.Seq.{length-take-le, take-append-le, drop-append-le, drop-drop, take_all}
use Rattle.std.specs.Prelude.{Option, Some, None, Result, Ok, Err}
use Rattle.net.specs.Net.{Net, Loaded}
use Rattle.replay.specs.Plain.{event}
use Rattle.replay.specs.Calls.{ask_bytes}
use Rattle.trace_reader.specs.declared.TraceError.{TraceError}
use Rattle.trace_reader.specs.Answers.{EventRead, Answer}
use Rattle.trace_reader.specs.Trace.{read_from}
use Rattle.trace_reader.proofs.WindowLaws.{window-enough}
use Rattle.trace_reader.specs.Followed.{by_found, followed, final}
use Rattle.program_step.specs.declared.Following.{Following}
use Rattle.program_step.specs.OneStep.{Spot, Outcome, stops, trail_after, outcome_after, step_trail, step_outcome}
use Rattle.program_step.specs.Outcomes.{outcome_of}
use Rattle.program_events.specs.Ends.{goes_on}
use Rattle.program_events.specs.Window.{Window, Filled, Kept}

-- reading goes on at a spot
abbrev pub going : Spot → Outcome
going s = record { spot = s; over = false; code = 0 }

-- 40 bytes of a list, and of what it is the front of
front : (a rest : List ℕ) → (length a < 40 → rest ≡ []) → take 40 a ≡ take 40 (a ++ rest)
front a rest h = go (dec_le 40 (length a))
  where
    go : Dec (40 ≤ length a) → take 40 a ≡ take 40 (a ++ rest)
    go (yes l) = sym (take-append-le 40 a rest l)
    go (no m) = let e : rest ≡ [] = h (omega arith) in ap (take 40) (sym (append-nil a) ∙ ap (λ (r : List ℕ). a ++ r) (sym e))

-- the window from one of its bytes on, as `&w[from..]` gives it
abbrev pub window_from : List ℕ → ℕ → List ℕ
window_from w from = take (length w - from) (drop from w)

-- a spot of a window, with enough bytes left for a step
module _ (w : List ℕ) (least : ℕ) (f : List ℕ) (i : ℕ) (W : Window w least f i) (from : ℕ) (enough : least ≤ length w - from) (inside : from ≤ length w) where
  rest : List ℕ
  rest = drop (length w) (drop i f)

  behind-window : w ++ rest ≡ drop i f
  unfolding rest
  behind-window = ap (λ (l : List ℕ). l ++ drop (length w) (drop i f)) W.part ∙ take-append-drop (length w) (drop i f)

  no-rest : length (drop from w) < 40 → rest ≡ []
  unfolding rest
  no-rest h = drop_of_length-le (drop i f) {i = length w} (omega (arith, length-drop from w, length-drop i f, W.last (omega (arith, length-drop from w))))

  same_bytes : take 40 (window_from w from) ≡ take 40 (drop (i + from) f)
  same_bytes =
      ap (take 40) (take_all (length w - from) (drop from w) (omega (arith, length-drop from w)))
      ∙ front (drop from w) rest no-rest
      ∙ ap (take 40) (sym (drop-append-le from w rest inside) ∙ ap (drop from) behind-window ∙ drop-drop from i f)

  -- reading there is reading in the file
  read_same : (N : Net) → Loaded N → (ks : List ℕ) (n body at : ℕ) → read_from N ks n (window_from w from) 0 body at ≡ read_from N ks n f (i + from) body at
  read_same N L ks n body at = window-enough N L ks n (window_from w from) f (i + from) same_bytes body at

module _ (N : Net) (ks : List ℕ) (body : ℕ) where
  -- all events from a byte of a file on are the one there and all behind it
  module _ (f : List ℕ) (i : ℕ) (trail : List ℕ) (at n : ℕ) (few : n ≤ 1000000) where
    abbrev spot : Spot
    spot = record { from = 0; at = at; accepted = n }

    by-found : (a : Answer)
        → by_found a (λ (r : EventRead). followed N ks f body (1000001 - (n + 1)) (ask_bytes trail (event r.event)) (i + 8 + 4 * length r.event.objs) r.next (n + 1)) (λ (c : ℕ). record { trail = trail; accepted = n; code = c })
        ≡ goes_on N ks f body i (trail_after trail a) (outcome_after spot a)
    unfolding final goes_on
    by-found (Ok (Some r)) = ap (λ (k : ℕ). followed N ks f body (1000001 - (n + 1)) (ask_bytes trail (event r.event)) k r.next (n + 1)) (omega arith)
    by-found (Ok None) = refl
    by-found (Err c) = refl

    pub final-step : (a : Answer) → a ≡ read_from N ks n f i body at → final N ks f body trail i at n ≡ goes_on N ks f body i (trail_after trail a) (outcome_after spot a)
    unfolding final followed
    final-step a q =
        let k : 1000001 - n ≡ suc (1000001 - (n + 1)) = omega arith in
        ap (λ (k : ℕ). followed N ks f body k trail i at n) k
        ∙ by-found (read_from N ks n f i body at)
        ∙ ap (λ (a : Answer). goes_on N ks f body i (trail_after trail a) (outcome_after spot a)) (sym q)

  -- what is found from byte `from` of a window on stands there in the window
  shifted : (f : List ℕ) (i from : ℕ) (left : List ℕ) (g : Following) (r : Result (Option ℕ) TraceError) → goes_on N ks f body (i + from) left (outcome_of 0 g r) ≡ goes_on N ks f body i left (outcome_of from g r)
  unfolding goes_on
  shifted f i from left g (Ok (Some n)) = ap (λ (k : ℕ). final N ks f body left k g.at g.accepted) (omega arith)
  shifted f i from left g (Ok None) = refl
  shifted f i from left g (Err e) = refl

  -- where nothing is done yet
  pub kept-start : (P : List ℕ → ℕ → Type 0) (trail : List ℕ) (s : Spot) → Kept N ks body P trail s trail (going s)
  unfolding goes_on
  kept-start P trail s = record { same = λ f i p. refl }

  -- where it is not over the spot alone counts
  pub kept-going : (P : List ℕ → ℕ → Type 0) (trail : List ℕ) (s : Spot) (left : List ℕ) (r : Outcome) → Kept N ks body P trail s left r → r.over ≡ false → Kept N ks body P trail s left (going r.spot)
  unfolding goes_on
  kept-going P trail s left r K o = record { same = λ f i p. rw o at (K.same f i p) }

  -- a step more
  pub kept_step : Loaded N → (w : List ℕ) (least : ℕ) (trail : List ℕ) (start : Spot) (rec : List ℕ) (s : Spot) (left : List ℕ) (g : Following) (r : Result (Option ℕ) TraceError)
      → Kept N ks body (Window w least) trail start rec (going s) → least ≤ length w - s.from → s.from ≤ length w → s.accepted ≤ 1000000
      → left ≡ step_trail N ks (window_from w s.from) body rec (record s { from = 0 }) → outcome_of 0 g r ≡ step_outcome N ks (window_from w s.from) body (record s { from = 0 })
      → Kept N ks body (Window w least) trail start left (outcome_of s.from g r)
  unfolding goes_on step_trail step_outcome
  kept_step L w least trail start rec s left g r K enough inside few p q = record {
    same = λ f i W.
        K.same f i W
        ∙ final-step f (i + s.from) rec s.at s.accepted few (read_from N ks s.accepted (window_from w s.from) 0 body s.at) (read_same w least f i W s.from enough inside N L ks s.accepted body s.at)
        ∙ ap₂ (goes_on N ks f body (i + s.from)) (sym p) (sym q)
        ∙ shifted f i s.from left g r;
  }

  -- where it is over the byte does not count
  pub kept-over : (P : List ℕ → ℕ → Type 0) (trail : List ℕ) (start : Spot) (left : List ℕ) (s : Spot) (from c : ℕ) → Kept N ks body P trail start left (stops s c) → Kept N ks body P trail start left (stops (record s { from = from }) c)
  unfolding goes_on
  kept-over P trail start left s from c K = record { same = K.same }

  -- a window that is the first n bytes of a buffer, with 40 bytes left for each step where they fill it
  pub kept-filled : (buf : List ℕ) (n least : ℕ) (trail : List ℕ) (s : Spot) (left : List ℕ) (r : Outcome) → n ≤ length buf → (length buf ≤ n → 40 ≤ least)
      → Kept N ks body (Window (take n buf) least) trail s left r → Kept N ks body (Filled buf n) trail s left r
  kept-filled buf n least trail s left r within enough K = record { same = λ f i F. K.same f i (window f i F) }
    where
      size : length (take n buf) ≡ n
      size = length-take-le n buf within

      last : (f : List ℕ) (i : ℕ) → Filled buf n f i → least < 40 → Dec (length buf ≤ n) → i + length (take n buf) ≡ length f
      last f i F h (yes l) = absurd (omega (arith, enough l))
      last f i F h (no m) = ap (λ (k : ℕ). i + k) size ∙ F.last (omega arith)

      window : (f : List ℕ) (i : ℕ) → Filled buf n f i → Window (take n buf) least f i
      window f i F = record { part = F.part ∙ ap (λ (k : ℕ). take k (drop i f)) (sym size); last = λ h. last f i F h (dec_le (length buf) n) }

-- What is given back has the program's text, by what of the trail file was read: contents, register, events. Assumes nothing.
use Prim.Native.Nat.{ℕ, ◌+◌, ◌≤◌, ◌<◌}
use mathlib.Core.Bool.{Bool, true, false}
use mathlib.Core.Path.{◌≡◌, refl, ap, ap₂, sym, subst, ◌∙◌}
use mathlib.Core.List.{List, [], ◌++◌}
use native.Mathlib.Omega.{arith}
use lib.Dec.{eqb}
use lib.ListN.{length, take, drop, replicate, length-append, length-replicate}
use lib.Seq.{take-append-le, take-append_seam, take_all, take_at, drop_at, drop-drop}
use borrow.Author.Tests.{eq-eqb, ne_eqb}
use Rattle.std.specs.Prelude.{Result, Ok, Err, Some, None}
use Rattle.words.specs.Lists.{pick}
use Rattle.words.specs.Refusals.{first}
use Rattle.words.specs.Words.{word}
use Rattle.net.specs.Net.{Net}
use Rattle.net.specs.Table.{net_of, load_code}
use Rattle.net.specs.Held.{net_in}
use Rattle.net.proofs.Promise.{promise}
use Rattle.replay.specs.Calls.{start_record}
use Rattle.replay.specs.Ready.{Ready}
use Rattle.replay.specs.Register.{max_register, kinds_in}
use Rattle.replay_start.specs.Startable.{Startable}
use Rattle.report_lines.specs.ReportLines.{refused_line}
use Rattle.report.specs.Report.{report_at}
use Rattle.trace_header.specs.declared.Bodies.{Bodies}
use Rattle.trace_header.specs.Opening.{contents_tests, contents_of, register_of, trace_code, open_code}
use Rattle.trace_header.proofs.OpenLaws.{contents-bodies, head-there, open_broken, open-enough, head-enough, not-refused}
use Rattle.trace_header.proofs.SameBytes.{ltb-same}
use Rattle.program_output.specs.declared.Refused.{Refused}
use Rattle.program_output.specs.Ending.{at_once, ending_text, Printable}
use Rattle.trace_reader.specs.Followed.{Followed, closed_after, final}
use Rattle.program_events.specs.Ends.{ending_after}
use Rattle.program_events.specs.Window.{Begins, OfSomeFile}
use Rattle.trace_reader.proofs.Behind.{final-behind}
use Rattle.program_text.specs.Program.{events_text, program_text}
use Rattle.program_text.specs.FromFile.{FromFile, BehindContents, BehindRegister}

-- a file of which nothing was read, and one of which all was
begins-none : (f : List ℕ) → Begins [] 0 f
begins-none f = record { part = refl; last = λ h. absurd (omega arith) }

begins-all : (f : List ℕ) (room : ℕ) → Begins f room f
begins-all f room = record { part = take_all (length f) f (omega arith); last = λ h. refl }

-- a file that goes on behind what was read
begins-more : (front : List ℕ) (room : ℕ) (g : List ℕ) → room ≤ length front → Begins front room (front ++ g)
begins-more front room g h = record { part = take-append_seam front g; last = λ l. absurd (omega arith) }

-- less is known before it is read
module _ (table front : List ℕ) (room : ℕ) (r : Result ℕ Refused) (rec : List ℕ) where
  pub from-file : FromFile table front room r rec → FromFile table [] 0 r rec
  from-file F = record { file = F.file; begins = begins-none F.file; text = F.text }

  pub behind-contents : (bodies : Bodies) → BehindContents table bodies front room r rec → BehindContents table bodies [] 0 r rec
  behind-contents bodies B = record { rest = B.rest; begins = begins-none B.rest; text = B.text }

  pub behind-register : (register : List ℕ) (body : ℕ) → BehindRegister table register body front room r rec → BehindRegister table register body [] 0 r rec
  behind-register register body B = record { file = B.file; begins = begins-none B.file; came = B.came }

-- the table is refused
pub load-refused : (table : List ℕ) (code : ℕ) (rec : List ℕ) → code ≡ load_code table → (code ≡ 0 → ⊥) → FromFile table [] 0 (Err (at_once code)) rec
unfolding program_text
load-refused table code rec e m = record { file = []; begins = begins-none []; text = rw (← e, ne_eqb code 0 m) refl }

-- a table that loads
module _ (table : List ℕ) (good : load_code table ≡ 0) where
  abbrev N : Net
  N = net_of table

  -- the trail file is refused when it is opened
  refused-text : (f : List ℕ) (code : ℕ) → code ≡ trace_code N f → (code ≡ 0 → ⊥) → refused_line code 0 ≡ program_text table f
  unfolding program_text
  refused-text f code e m = rw (eq-eqb (load_code table) 0 good, ← e, ne_eqb code 0 m) refl

  -- its contents are broken
  pub contents-refused : (head rec : List ℕ) → contents_of N head ≡ None → FromFile table head 16 (Err (at_once 71)) rec
  contents-refused head rec e = record { file = head; begins = begins-all head 16; text = refused-text head 71 (open_broken N head e) (λ z. omega arith) }

  -- its contents are not broken
  pub contents-taken : (head : List ℕ) (bodies : Bodies) (r : Result ℕ Refused) (rec : List ℕ) → length head ≤ 16 → contents_of N head ≡ Some bodies → BehindContents table bodies [] 0 r rec → FromFile table head 16 r rec
  contents-taken head bodies r rec h e B =
      let l : 16 ≤ length head = head-there N head (contents-bodies N head bodies e).0 in
      record { file = head ++ B.rest; begins = begins-more head 16 B.rest l; text = B.text head (omega arith) e }

  -- what opening goes by, where the contents are not broken
  module _ (head rest : List ℕ) (bodies : Bodies) (sixteen : length head ≡ 16) (claims : contents_of N head ≡ Some bodies) where
    abbrev f : List ℕ
    f = head ++ rest

    abbrev claimed : ℕ
    claimed = bodies.register

    said : (first (contents_tests N f) ≡ 0) × (claimed ≡ word f 4) × (bodies.events ≡ word f 12)
    said = contents-bodies N f bodies (sym (head-enough N head f (sym (take-append-le 16 head rest (omega arith)))) ∙ claims)

    register-is : register_of N f ≡ kinds_in N (take claimed rest)
    unfolding register_of
    register-is = ap₂ (λ (n : ℕ) (l : List ℕ). kinds_in N (take n l)) (sym said.1) (drop_at head rest 16 sixteen)

    opens : (there : ℕ) (ks : List ℕ) → (there < claimed → length rest < claimed) → (length rest < claimed → there < claimed) → (claimed ≤ there → claimed ≤ max_register N → ks ≡ kinds_in N (take claimed rest))
        → open_code N claimed there ks ≡ trace_code N f
    opens there ks less more kinds =
        let w : claimed ≡ word f 4 = said.1 in
        let n : length f ≡ 16 + length rest = omega (arith, length-append head rest) in
        subst (λ (c : ℕ). open_code N c there ks ≡ trace_code N f) (sym w)
        (open-enough N f there ks said.0
        (ltb-same there (word f 4) (length f) (16 + word f 4) (λ l. omega (arith, less (omega arith))) (λ l. omega (arith, more (omega arith))))
        (λ h l. kinds (omega arith) (omega arith) ∙ sym register-is))

    opened-text : trace_code N f ≡ 0 → program_text table f ≡ events_text (final N (kinds_in N (take claimed rest)) (drop claimed rest) bodies.events (start_record table (kinds_in N (take claimed rest))) 0 0 0)
    unfolding program_text
    opened-text z =
        let w : claimed ≡ word f 4 = said.1 in
        let d : drop (16 + word f 4) f ≡ drop claimed rest = sym (drop-drop (word f 4) 16 f) ∙ ap₂ (λ (n : ℕ) (l : List ℕ). drop n l) (sym w) (drop_at head rest 16 sixteen) in
        rw (eq-eqb (load_code table) 0 good, eq-eqb (trace_code N f) 0 z)
        (ap events_text (final-behind N (promise table good) (register_of N f) f (word f 12) (16 + word f 4) (start_record table (register_of N f))
        ∙ rw (d, register-is, ← said.2) refl))

  -- a register that claims so many bytes, of which those given are there
  module _ (register : List ℕ) (bodies : Bodies) (rec : List ℕ) (few : length register ≤ bodies.register) where
    pub register-refused : (code : ℕ) → code ≡ open_code N bodies.register (length register) (kinds_in N register) → (code ≡ 0 → ⊥) → BehindContents table bodies register bodies.register (Err (at_once code)) rec
    register-refused code e m = record {
      rest = register;
      begins = begins-all register bodies.register;
      text = λ head s b. refused-text (head ++ register) code
          (e ∙ opens head register bodies s b (length register) (kinds_in N register) (λ l. l) (λ l. l) (λ l h. ap (kinds_in N) (sym (take_all bodies.register register few)))) m;
    }

    pub register-taken : (r : Result ℕ Refused) → open_code N bodies.register (length register) (kinds_in N register) ≡ 0 → BehindRegister table register bodies.events [] 0 r rec → BehindContents table bodies register bodies.register r rec
    register-taken r z B =
        let h : bodies.register ≤ length register = (not-refused N bodies.register (length register) (kinds_in N register) z).0 in
        let n : length register ≡ bodies.register = omega arith in
        let t : take bodies.register (register ++ B.file) ≡ register = take_at register B.file bodies.register n in
        let d : drop bodies.register (register ++ B.file) ≡ B.file = drop_at register B.file bodies.register n in
        record {
          rest = register ++ B.file;
          begins = begins-more register bodies.register B.file h;
          text = λ head s b.
              B.came
              ∙ sym (opened-text head (register ++ B.file) bodies s b
              (sym (opens head (register ++ B.file) bodies s b (length register) (kinds_in N register) (λ l. absurd (omega arith)) (λ l. absurd (omega (arith, length-append register B.file))) (λ l k. ap (kinds_in N) (sym t))) ∙ z)
              ∙ rw (t, d) refl);
        }

  -- a register longer than the longest that is taken, of which so many bytes are there
  pub register-passed : (bodies : Bodies) (there : ℕ) (rec : List ℕ) → max_register N < bodies.register → BehindContents table bodies [] 0 (Err (at_once (open_code N bodies.register there []))) rec
  register-passed bodies there rec h = record {
    rest = replicate there 0;
    begins = begins-none (replicate there 0);
    text = λ head s b.
        let n = length-replicate {A = ℕ} there 0 in
        refused-text (head ++ replicate there 0) (open_code N bodies.register there [])
        (opens head (replicate there 0) bodies s b there [] (λ l. omega (arith, n)) (λ l. omega (arith, n)) (λ l k. absurd (omega arith)))
        (λ z. let e = (not-refused N bodies.register there [] z).1 in omega (arith, e));
  }

-- the events are followed: the trail stands in front of the lent bytes
module _ (d : Followed) (r : Result ℕ Refused) (part b : List ℕ) (e : r ≡ ending_after d) (left : part ≡ closed_after d) (front : take (length part) b ≡ part) where
  whole : take (length (closed_after d)) b ≡ closed_after d
  whole = rw (← left) front

  pub followed-text : ending_text r b ≡ events_text d
  unfolding ending_after events_text
  followed-text = rw e (go (eqb d.code 0))
    where
      go : (x : Bool) → ending_text (pick x (Ok (length (closed_after d))) (Err (record { code = d.code; events = d.accepted }))) b ≡ pick x (report_at (closed_after d)) (refused_line d.code d.accepted)
      go true = ap report_at whole
      go false = refl

  pub followed-printable : (t : List ℕ) → Ready t part → length part ≤ length b → Printable t b r
  unfolding ending_after
  followed-printable t R h = rw e (go (eqb d.code 0))
    where
      go : (x : Bool) → Printable t b (pick x (Ok (length (closed_after d))) (Err (record { code = d.code; events = d.accepted })))
      go true = (omega (arith, ap (length {A = ℕ}) left), subst (Ready t) (left ∙ sym whole) R)
      go false = tt

-- the trail was started and followed
pub begun : (t table register : List ℕ) → Startable t table register → (body : ℕ) (front : List ℕ) (room : ℕ) (r : Result ℕ Refused) (trail part tail : List ℕ) → trail ≡ start_record table (kinds_in (net_of table) register)
    → OfSomeFile (net_in t) (kinds_in (net_in t) register) body trail front room (λ (d : Followed). (r ≡ ending_after d) × (part ≡ closed_after d)) → Ready t part
    → BehindRegister table register body front room r (part ++ tail) × Printable t (part ++ tail) r
begun t table register S body front room r trail part tail e O R =
    let d : Followed = final (net_of table) (kinds_in (net_of table) register) O.file body (start_record table (kinds_in (net_of table) register)) 0 0 0 in
    let q : final (net_in t) (kinds_in (net_in t) register) O.file body trail 0 0 0 ≡ d = ap₂ (λ (N : Net) (l : List ℕ). final N (kinds_in N register) O.file body l 0 0 0) S.tabled.net e in
    let a : r ≡ ending_after d = O.came.0 ∙ ap ending_after q in
    let b : part ≡ closed_after d = O.came.1 ∙ ap closed_after q in (
      record { file = O.file; begins = O.begins; came = followed-text d r part (part ++ tail) a b (take-append_seam part tail) },
      followed-printable d r part (part ++ tail) a b (take-append_seam part tail) t R (omega (arith, length-append part tail)),
    )

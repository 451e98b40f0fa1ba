-- The net (document 01 "The net"; 001, Definition 2), and what loading promises of one.
use Rattle.std.specs.Prelude.{ℕ, ◌≤◌, ◌<◌, Bool, false, ◌≡◌, List, [], ◌∷◌, map, length, eqb}
use Rattle.words.specs.Lists.{pick, All, In, has, twice}

-- an arc of an activity: its input place and its output place
abbrev pub Arc : Type 0
Arc = ℕ × ℕ

-- kinds, places and activities are numbered from 0; each activity has a list of arcs
pub record Net : Type 0 where
  pub kinds : ℕ
  pub places : ℕ
  pub acts : ℕ
  pub kind_of : ℕ → ℕ
  pub source : ℕ → ℕ
  pub sink : ℕ → ℕ
  pub arcs : ℕ → List Arc

-- the kinds that arcs take
abbrev pub kinds_of : Net → List Arc → List ℕ
kinds_of N xs = map (λ (x : Arc). N.kind_of x.0) xs

-- the kinds that an activity takes, arc by arc
abbrev pub arc_kinds : Net → ℕ → List ℕ
arc_kinds N a = kinds_of N (N.arcs a)

-- activity a takes objects of kind k
abbrev pub takes : Net → ℕ → ℕ → Bool
takes N a k = has k (arc_kinds N a)

-- the first arc of kind k in a list
abbrev pub arc_of : (ℕ → ℕ) → ℕ → List Arc → Arc
arc_of kind_of k [] = (0, 0)
arc_of kind_of k (x ∷ xs) = pick (eqb (kind_of x.0) k) x (arc_of kind_of k xs)

-- the place from which, and the place to which, activity a moves an object of kind k
abbrev pub input_of : Net → ℕ → ℕ → ℕ
input_of N a k = (arc_of N.kind_of k (N.arcs a)).0

abbrev pub output_of : Net → ℕ → ℕ → ℕ
output_of N a k = (arc_of N.kind_of k (N.arcs a)).1

-- place q is reached from place s by arcs: each arc of any activity is a step by itself
pub data Reaches (N : Net) (s : ℕ) : ℕ → Type 0 where
  stay : Reaches N s s
  along : (a : ℕ) → a < N.acts → (x : Arc) → In x (N.arcs a) → Reaches N s x.0 → Reaches N s x.1

-- an arc joins two known places of one kind
pub record GoodArc (N : Net) (x : Arc) : Type 0 where
  pub inp : x.0 < N.places
  pub out : x.1 < N.places
  pub same : N.kind_of x.1 ≡ N.kind_of x.0

-- What loading promises of a net, and all that a replay relies on of it. Of the table's bytes it relies on their number alone: at most
-- 4,704 (`replay: Intact`) and a multiple of 4 (`replay: Ready`), which loading gives too.
pub record Loaded (N : Net) : Type 0 where
  pub kinds-ge : 1 ≤ N.kinds
  pub kinds-le : N.kinds ≤ 8
  pub places-ge : 2 ≤ N.places
  pub places-le : N.places ≤ 64
  pub acts-ge : 1 ≤ N.acts
  pub acts-le : N.acts ≤ 64
  pub kind-in : (p : ℕ) → p < N.places → N.kind_of p < N.kinds
  pub source_in : (k : ℕ) → k < N.kinds → N.source k < N.places
  pub source_of : (k : ℕ) → k < N.kinds → N.kind_of (N.source k) ≡ k
  pub sink-in : (k : ℕ) → k < N.kinds → N.sink k < N.places
  pub sink-of : (k : ℕ) → k < N.kinds → N.kind_of (N.sink k) ≡ k
  pub ends-differ : (k : ℕ) → k < N.kinds → N.source k ≡ N.sink k → ⊥
  pub arcs-ge : (a : ℕ) → a < N.acts → 1 ≤ length (N.arcs a)
  pub arcs-le : (a : ℕ) → a < N.acts → length (N.arcs a) ≤ 8
  pub arc-good : (a : ℕ) → a < N.acts → All (GoodArc N) (N.arcs a)
  pub arc-once : (a : ℕ) → a < N.acts → twice (arc_kinds N a) ≡ false
  pub reached : (k : ℕ) → k < N.kinds → Reaches N (N.source k) (N.sink k)

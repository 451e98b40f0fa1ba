-- What the readers of counts give: unknown numbers, and the counts of known ones. Assumes nothing.
use Prim.Native.Nat.{ℕ, ◌≤◌, ◌<◌}
use mathlib.Core.Path.{◌≡◌, subst}
use mathlib.Core.List.{List}
use lib.ListN.{length, get_or}
use borrow.Author.Tests.{le-leb, lt-leb}
use Rattle.std.specs.Prelude.{Option, Some, None}
use Rattle.net.specs.Net.{Net}
use Rattle.net.specs.Held.{net_in}
use Rattle.replay.specs.State.{stored_consumed, stored_pair, stored_jumps_in, stored_jumps_out, stored_moved, stored_jumps, stored_transfers}
use Rattle.replay.specs.Calls.{net_at, state_at}
use Rattle.replay.specs.Ready.{Ready}
use Rattle.replay_counts.specs.Reads.{place_read, place_code, act_read, act_code, pair_read, pair_code, trail_read}
use Rattle.replay_counts.specs.declared.PlaceCounts.{PlaceCounts}
use Rattle.replay_counts.specs.declared.ActCounts.{ActCounts}
use Rattle.replay_counts.specs.declared.TrailCounts.{TrailCounts}

module _ (w b : List ℕ) (R : Ready w b) where
  places-le : (q : ℕ) → (net_in w).places ≤ q → (net_at b).places ≤ q
  places-le q = subst (λ (N : Net). N.places ≤ q) R.net

  places-lt : (q : ℕ) → q < (net_in w).places → q < (net_at b).places
  places-lt q = subst (λ (N : Net). q < N.places) R.net

  -- a place
  pub place-unknown : (q : ℕ) → (net_in w).places ≤ q → (None ≡ place_read b q) × (51 ≡ place_code b q)
  unfolding place_read place_code
  place-unknown q h = let e = le-leb (net_at b).places q (places-le q h) in (rw e, rw e)

  pub place-known : (q c i o : ℕ) → q < (net_in w).places → c ≡ stored_consumed (net_in w) (state_at b) q → i ≡ stored_jumps_in (net_in w) (state_at b) q → o ≡ stored_jumps_out (net_in w) (state_at b) q
      → (◌≡◌ {A = Option PlaceCounts} (Some (record { consumed = c; jumps_in = i; jumps_out = o })) (place_read b q)) × (0 ≡ place_code b q)
  unfolding place_read place_code
  place-known q c i o h e f g = let l = lt-leb (net_at b).places q (places-lt q h) in (rw (e, f, g, l, R.net), rw l)

  -- an activity
  pub act-unknown : (a : ℕ) → (net_in w).acts ≤ a → (None ≡ act_read b a) × (52 ≡ act_code b a)
  unfolding act_read act_code
  act-unknown a h = let e = le-leb (net_at b).acts a (subst (λ (N : Net). N.acts ≤ a) R.net h) in (rw e, rw e)

  pub act-known : (a f m j : ℕ) → a < (net_in w).acts → f ≡ get_or (state_at b).fired a 0 → m ≡ stored_moved (net_in w) (state_at b) a → j ≡ get_or (state_at b).jumps a 0
      → (◌≡◌ {A = Option ActCounts} (Some (record { fired = f; moved = m; jumps = j })) (act_read b a)) × (0 ≡ act_code b a)
  unfolding act_read act_code
  act-known a f m j h e g i = let l = lt-leb (net_at b).acts a (subst (λ (N : Net). a < N.acts) R.net h) in (rw (e, g, i, l, R.net), rw l)

  -- a pair of places
  pub from-unknown : (x y : ℕ) → (net_in w).places ≤ x → (None ≡ pair_read b x y) × (51 ≡ pair_code b x y)
  unfolding pair_read pair_code
  from-unknown x y h = let e = le-leb (net_at b).places x (places-le x h) in (rw e, rw e)

  pub to-unknown : (x y : ℕ) → x < (net_in w).places → (net_in w).places ≤ y → (None ≡ pair_read b x y) × (51 ≡ pair_code b x y)
  unfolding pair_read pair_code
  to-unknown x y h g = let k = lt-leb (net_at b).places x (places-lt x h) in let e = le-leb (net_at b).places y (places-le y g) in (rw (k, e), rw (k, e))

  pub pair-known : (x y n : ℕ) → x < (net_in w).places → y < (net_in w).places → n ≡ stored_pair (net_in w) (state_at b) x y
      → (Some n ≡ pair_read b x y) × (0 ≡ pair_code b x y)
  unfolding pair_read pair_code
  pair-known x y n h g e = let k = lt-leb (net_at b).places x (places-lt x h) in let l = lt-leb (net_at b).places y (places-lt y g) in (rw (e, k, l, R.net), rw (k, l))

  -- the whole trail
  pub trail_is : (n e j t : ℕ) → n ≡ length (state_at b).kinds → e ≡ (state_at b).events → j ≡ stored_jumps (net_in w) (state_at b) → t ≡ stored_transfers (net_in w) (state_at b)
      → ◌≡◌ {A = TrailCounts} (record { objects = n; events = e; jumps = j; transfers = t }) (trail_read b)
  unfolding trail_read
  trail_is n e j t p q r s = rw (p, q, r, s, R.net)

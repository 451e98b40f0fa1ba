-- What is claimed of FIT's rounding (A.7), over whole numbers: how far n thousandths are from 1 - jumps/transfers is how far
-- n * transfers is from 1000 * (transfers - jumps), in parts of transfers. Proved in `proofs/RoundingLaws.antt`.
use Rattle.std.specs.Prelude.{ℕ, ◌+◌, ◌*◌, ◌-◌, ◌≤◌, ◌<◌, ◌↔◌, ◌≡◌}
use Rattle.fitness.specs.Fitness.{thousandths}

-- n thousandths are less than one thousandth away from 1 - jumps/transfers
pub record Near (n jumps transfers : ℕ) : Type 0 where
  pub below : n * transfers < 1000 * (transfers - jumps) + transfers
  pub above : 1000 * (transfers - jumps) < n * transfers + transfers

-- n is the thousandth nearest to it: at most half of one away, and less than half where n is the lower one, since halves go up
pub record Nearest (n jumps transfers : ℕ) : Type 0 where
  pub half_up : 2 * (n * transfers) ≤ 2 * (1000 * (transfers - jumps)) + transfers
  pub under-half : 2 * (1000 * (transfers - jumps)) < 2 * (n * transfers) + transfers

-- n is FIT's thousandths as A.7 asks for them: near, and the nearest unless that is 1.000 in spite of a jump, and then 0.999. It is
-- 1.000 where the jumps are at most one in 2,000 transfers.
pub record Rounded (n jumps transfers : ℕ) : Type 0 where
  pub near : Near n jumps transfers
  pub no_jump : jumps ≡ 0 → n ≡ 1000
  pub with-a-jump : 1 ≤ jumps → n ≤ 999
  pub to-nearest : (1 ≤ jumps → transfers < 2000 * jumps) → Nearest n jumps transfers
  pub at-the-cap : 1 ≤ jumps → 2000 * jumps ≤ transfers → n ≡ 999

-- the thousandths are so, and no other number is
abbrev pub RoundedSo : Type 0
RoundedSo = (n jumps transfers : ℕ) → 1 ≤ transfers → jumps ≤ transfers → Rounded n jumps transfers ↔ (n ≡ thousandths jumps transfers)

-- more jumps never raise them
abbrev pub NeverRaised : Type 0
NeverRaised = (jumps more transfers : ℕ) → jumps ≤ more → thousandths more transfers ≤ thousandths jumps transfers

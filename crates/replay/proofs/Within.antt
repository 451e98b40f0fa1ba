-- In a sound state no count of jumps exceeds what it is a part of, also where no trail wrote the state. Assumes nothing.
use Prim.Native.Nat.{ℕ, zero, suc, ◌*◌, ◌≤◌}
use mathlib.Core.Path.{◌≡◌, refl}
use native.Mathlib.Omega.{arith}
use lib.ListN.{length, get_or}
use Rattle.words.proofs.Sums.{sum_to-le}
use Rattle.net.specs.Net.{Net}
use Rattle.replay.specs.Plain.{closers}
use Rattle.replay.specs.State.{State, stored_moved}
use Rattle.replay.specs.Sound.{Sound}
use Rattle.replay.specs.Claims.{PartOf, JumpsWithin}

part_of : {j t : ℕ} → j ≤ t → PartOf j t
part_of h = record { at_most = h; uncut = omega arith }

-- the closing jumps: none while open, and not more than the objects taken once closed
closing-within : (c j n : ℕ) → c ≤ 1 → j ≤ n → (c ≡ 0 → j ≡ 0) → j ≤ c * n
closing-within zero j n h l o = omega (arith, o refl)
closing-within (suc c) j n h l o = omega arith

pub jumps-within : (N : Net) (d : State) → Sound N d → JumpsWithin N d
jumps-within N d S = record {
  of-trail = part_of (omega (
    arith,
    sum_to-le N.acts (λ (a : ℕ). get_or d.jumps a 0) (λ (a : ℕ). stored_moved N d a) S.jumps-le,
    closing-within d.closed d.closing (length (closers d.kinds)) S.flag S.closing-le S.closing-open,
  ));
  of-place = λ q h. part_of (S.in-le q h);
  of-act = λ a h. part_of (S.jumps-le a h);
}

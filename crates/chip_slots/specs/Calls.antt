-- What a row of calls leaves of a disk besides its bytes (this project's own).
use Rattle.std.specs.Prelude.{◌≡◌, ◌≤◌, ◌+◌, ℕ}
use Rattle.chip_slots.specs.declared.disk.ChipDisk.{Ghosts as DiskOf}

-- At most so many device calls lead from the one disk to the other.
pub record DeviceCalls {D : Type 0} (G : DiskOf D) (most : ℕ) (old new : D) : Type 0 where
  pub tells : G.tells old → G.tells new
  pub size : G.size new ≡ G.size old
  pub later : G.moment old ≤ G.moment new
  pub soon : G.moment new ≤ G.moment old + most
  pub spare : G.spare old ≤ G.spare new + most
  pub faults : G.faults old ≤ G.faults new

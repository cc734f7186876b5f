-- No device call changes how many bytes a disk has.
use Rattle.std.specs.Prelude.{◌≡◌, ℕ, zero, suc, List, [], ◌∷◌, length, take, refl}
use Rattle.std.proofs.Common.{ap, ◌∙◌}
use Rattle.chip_slots.specs.Crash.{Standing}
use Rattle.chip_slots.specs.Recorded.{Did, Idle, Wrote, Torn, Synced, over, put, after_call, played, fresh, DiskValue, told_by}

over_size : (bytes old : List ℕ) → length (over bytes old) ≡ length old
over_size [] old = refl
over_size (b ∷ bytes) [] = refl
over_size (b ∷ bytes) (o ∷ old) = ap suc (over_size bytes old)

pub put_size : (at : ℕ) (bytes old : List ℕ) → length (put at bytes old) ≡ length old
put_size zero bytes old = over_size bytes old
put_size (suc at) bytes [] = refl
put_size (suc at) bytes (o ∷ old) = ap suc (put_size at bytes old)

call_size : (d : Did) (s : Standing) → length (after_call d s).bytes ≡ length s.bytes
call_size Idle s = refl
call_size (Wrote at bytes) s = put_size at bytes s.bytes
call_size (Torn at size) s = refl
call_size Synced s = refl

pub played_size : (s : Standing) (ds : List Did) → length (played s ds).bytes ≡ length s.bytes
played_size s [] = refl
played_size s (d ∷ ds) = played_size (after_call d s) ds ∙ call_size d s

pub measured_now : (d : DiskValue) → length (told_by d (length d.done)).bytes ≡ length d.first
measured_now d = played_size (fresh d.first) (take (length d.done) d.done)

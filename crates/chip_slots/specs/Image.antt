-- What a chip's memory reads as: slots of 8,192 bytes, each behind a gate of one byte (this project's own).
use Rattle.std.specs.Prelude.{◌+◌, ◌*◌, ◌/◌, ◌%◌, ℕ, zero, suc, List, Option, Some, None, Bool, ◌&&◌, take, drop, length, slice_index, if◌then◌else◌, ◌==◌, nat_lt, option_map}
use Rattle.eac_base.specs.Bytes.{is_within}
use Rattle.chip_verify.specs.Trust.{Trust}
use Rattle.chip_slots.specs.Slot.{record_of}

-- A trust with its generation, where there is one.
abbrev pub Reading : Type 0
Reading = Option (Trust × ℕ)

-- ---- slots

-- A memory has 2 to 16 slots and nothing else.
abbrev pub is_memory : ℕ → Bool
is_memory size = (size % 8192 == 0) && is_within 2 16 (size / 8192)

abbrev pub slots_in : List ℕ → ℕ
slots_in image = length image / 8192

abbrev pub gate : List ℕ → ℕ → ℕ
gate image slot = slice_index image (8192 * slot)

abbrev pub behind_gate : List ℕ → ℕ → List ℕ
behind_gate image slot = take 8191 (drop (8192 * slot + 1) image)

-- A gate is open where it is A5.
abbrev pub is_open : ℕ → Bool
is_open gate = gate == 0xa5

-- What a slot says: nothing behind a closed gate.
abbrev pub slot_says : ℕ → List ℕ → ℕ → Reading
slot_says slots image slot = if is_open (gate image slot) then record_of slots slot (behind_gate image slot) else None

-- ---- the whole memory

-- The one of greater generation.
abbrev pub newer : Reading → Reading → Reading
newer (Some a) (Some b) = if nat_lt a.1 b.1 then Some b else Some a
newer (Some a) None = Some a
newer None b = b

-- The greatest generation among the first n.
abbrev pub greatest : (ℕ → Reading) → ℕ → Reading
greatest says zero = None
greatest says (suc n) = newer (says n) (greatest says n)

-- What an image reads as: of the slots that say something the one of the greatest generation. None where no slot says
-- anything, or the length is no memory's.
abbrev pub reads : List ℕ → Reading
reads image = if is_memory (length image) then greatest (slot_says (slots_in image) image) (slots_in image) else None

-- The trust alone.
abbrev pub trust_read : List ℕ → Option Trust
trust_read image = option_map (λ r. r.0) (reads image)

-- How many imports were made on each chip (this project's own).
use Rattle.std.specs.Prelude.{ℕ, List, slice_index_or, slice_set}
use Rattle.chip_events.specs.declared.count.ImportCount.{ImportCount}

-- that of this chip, zero beyond the list
abbrev pub count_at : List ℕ → ℕ → ℕ
count_at counts chip = slice_index_or counts chip 0

-- with this one in its chip's place
abbrev pub counts_with : List ℕ → ImportCount → List ℕ
counts_with counts now = slice_set counts now.chip now.count

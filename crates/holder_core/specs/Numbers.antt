-- The numbers of a party's own keys (this project's own).
use Rattle.std.specs.Prelude.{ℕ, ◌+◌, List, ◌++◌, length}
use Rattle.holder_reference.specs.Sequence.{five_digits}
use Rattle.keeper.specs.declared.rows.Row.{Row}

-- the reference of a holder's key of this number
abbrev pub numbered : List ℕ → ℕ → List ℕ
numbered holder number = holder ++ five_digits number

-- a party has so many keys at most, numbered from 1
abbrev pub most_keys : ℕ
most_keys = 99999

-- the reference of the next key, by the own rows that there are
abbrev pub reference_after : List ℕ → List Row → List ℕ
reference_after holder own = numbered holder (length own + 1)

use Rattle.std.proofs.Common.{◌≡◌, length}
use Rattle.std.specs.Prelude.{◌++◌}
use Rattle.std.specs.Option.{option_map}
use Rattle.eac_base.specs.Text.{hex_bytes}
use Rattle.plain_text.proofs.hexadecimal.read_bytes.Given as goal

-- the bytes so far and those of what is left are those of all
abbrev pub invariant-loop-high : goal.invariant-loop-high
invariant-loop-high l = hex_bytes l.hex ≡ option_map (λ bytes. l.bytes ++ bytes) (hex_bytes l.rest)

abbrev pub decreases-loop-high : goal.decreases-loop-high
decreases-loop-high l = length l.rest

use Rattle.std.proofs.Common.{take}
use Rattle.std.specs.Option.{option_copied}
use Rattle.terminal_desk.specs.Chain.{own_certificates}
use Rattle.eac_net.specs.Handed.{NewestIn}
use Rattle.eac_net.proofs.chips.handing.newest_certificate.Given as goal

abbrev pub invariant-loop-row : goal.invariant-loop-row
invariant-loop-row l = NewestIn (own_certificates (take l.row-index l.own)) (option_copied l.newest)

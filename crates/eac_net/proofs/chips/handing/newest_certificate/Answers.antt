use Rattle.std.proofs.Common.{List, take, sym, subst}
use Rattle.std.specs.Option.{option_copied}
use Rattle.keeper.specs.declared.rows.Settled.{Settled}
use Rattle.terminal_desk.specs.Chain.{own_certificates}
use Rattle.eac_net.specs.Handed.{NewestIn}
use Rattle.eac_net.proofs.Newest.{certificates_more}
use Rattle.eac_net.proofs.chips.handing.newest_certificate.Goals as goal

pub loop-row-preserved : goal.loop-row-preserved
loop-row-preserved c =
    subst (λ (l : List Settled). NewestIn l (option_copied c.newest_with-newest.result)) (sym (certificates_more c.args.own.now c.loop-row.row-index c.row-item.result c.loop-row-test.true c.row-item.is))
    (c.newest_with-newest.ensures (own_certificates (take c.loop-row.row-index c.args.own.now)) c.loop-row.invariant)

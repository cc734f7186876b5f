use Rattle.eac_net.specs.Objects.{outside}
use Rattle.std.proofs.Common.{refl}
use Rattle.eac_net.proofs.Applyings.{apply_steps}
use Rattle.eac_net.proofs.Signings.{still_says}
use Rattle.eac_net.proofs.acting.applying.apply.Goals as goal

pub returns-clause-steps : goal.returns-clause-steps
returns-clause-steps g c disks =
    apply_steps c.args.setup.now c.request-made.ensures.legal c.args.asking.holder c.args.asking.authority c.args.asking.root c.requires.fits c.args.world.now c.conclude.new.world
    (outside g.B.Keeper g.P.SignatureProvider disks c.args.keeper.now c.args.provider.now) (outside g.B.Keeper g.P.SignatureProvider disks c.request-made.new.keeper c.request-made.new.provider) refl
    c.request-made.result c.request-made.ensures.cause (still_says _ _ _ _ _ _ c.request-made.ensures.provider) c.request-made.ensures.signed c.applied-happened.result c.conclude.result
    c.args.line.now c.conclude.new.line c.conclude.ensures c.applied-happened.ensures c.request-made.ensures.told c.request-made.ensures.asked c.requires.parties

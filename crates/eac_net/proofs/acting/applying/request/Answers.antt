use Rattle.std.proofs.Common.{refl, ap}
use Rattle.holder_core.specs.Requesting.{home_signer}
use Rattle.holder_core.proofs.Causes.{quiet_seen}
use Rattle.holder_core.proofs.Signings.{signs_none}
use Rattle.eac_net.proofs.Homes.{told_request, request_cause}
use Rattle.eac_net.proofs.acting.applying.request.Goals as goal

pub returns-in_err-home-clause-signed : goal.returns-in_err-home-clause-signed
returns-in_err-home-clause-signed g c = signs_none _ _ refl

pub returns-clause-told : goal.returns-clause-told
returns-clause-told g c = told_request c.args.setup.now (g.P.SignatureProvider.says c.make_request.new.provider) (g.P.SignatureProvider.holds c.args.provider.now) (g.P.SignatureProvider.holds c.make_request.new.provider) (g.P.SignatureProvider.signed c.args.provider.now, g.P.SignatureProvider.signed c.make_request.new.provider)
    c.args.holder c.args.authority c.args.root _ _ _ c.name_of-name.ensures.name c.name_of-asked.ensures.name
    c.name_of-below.ensures.name c.in_ok-home.home _ (ap home_signer c.as_ref.ensures.value) c.make_request.result _ _ _ c.in_ok-home.ensures.told c.make_request.ensures.requests

pub returns-clause-cause : goal.returns-clause-cause
returns-clause-cause g c = request_cause c.args.setup.now (g.P.SignatureProvider.says c.make_request.new.provider) (g.P.SignatureProvider.holds c.args.provider.now) (g.P.SignatureProvider.holds c.make_request.new.provider) (g.P.SignatureProvider.signed c.args.provider.now, g.P.SignatureProvider.signed c.make_request.new.provider)
    c.args.holder c.args.authority c.args.root _ _ _ c.name_of-name.ensures.name c.name_of-asked.ensures.name
    c.name_of-below.ensures.name c.in_ok-home.home _ (ap home_signer c.as_ref.ensures.value) c.make_request.result _ _ _ (quiet_seen _ _ _ _ refl c.in_ok-home.ensures.cause) c.in_ok-home.ensures.asked c.make_request.ensures.cause

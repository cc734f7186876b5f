use Rattle.chip_verify.specs.Views.{seen_issuer}
use Rattle.chip_verify.proofs.TakenKeys.{key_has_room, link_fits}
use Rattle.chip_verify.proofs.next.next.Goals as goal

pub link-requires-clause-key : goal.link-requires-clause-key
link-requires-clause-key c = key_has_room c.args.cert.now c.requires.view

pub link-requires-clause-link : goal.link-requires-clause-link
link-requires-clause-link c = link_fits c.args.state.now c.args.session.now c.args.cert.now (seen_issuer c.args.issuer) c.requires.view c.requires.taken c.in-Cvca.is

pub verified-requires : goal.verified-requires
verified-requires c = key_has_room c.args.cert.now c.requires.view

use Rattle.holder_core.proofs.TakingsCa.{whole_storable}
use Rattle.holder_core.proofs.taking_ca.row_below.Goals as goal

pub returns-clause-storable : goal.returns-clause-storable
returns-clause-storable c = record { key = whole_storable c.args.cert.now c.args.issuer.now.key c.in_ok-key.key c.requires.cert c.requires.issuer c.in_ok-key.ensures; settled = c.in_ok-settled.ensures.storable }

-- What lies in a stored form, as the definitions speak of it.
use Rattle.signature_provider.specs.declared.key.Key.{Key}
use Rattle.keeper.specs.declared.rows.Settled.{Settled}
use Rattle.keeper_sqlite.specs.declared.views.KeyParts.{KeyParts}
use Rattle.keeper_sqlite.specs.declared.views.SettledParts.{SettledParts}

abbrev pub seen_key : KeyParts → Key
seen_key k =
    record { algorithm = k.algorithm; domain = k.domain.now; point = k.point.now; cofactor = k.cofactor.now }

abbrev pub seen_settled : SettledParts → Settled
seen_settled s =
    record { certificate = s.certificate.now; issuer = s.issuer; template = s.template; from = s.from; until = s.until }

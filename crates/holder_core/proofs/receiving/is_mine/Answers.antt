use Rattle.std.proofs.Common.{Ok, Err}
use Rattle.cvc_grammar.specs.Views.{seen_cert}
use Rattle.holder_core.proofs.Readings.{cert_read}
use Rattle.holder_core.proofs.Receivings.{told_mine, told_unread, looks_mine}
use Rattle.holder_core.proofs.receiving.is_mine.Goals as goal

pub returns-in_ok-own-in-Ok-clause-told : goal.returns-in_ok-own-in-Ok-clause-told
returns-in_ok-own-in-Ok-clause-told g c = told_mine _ _ c.args.party c.args.bytes.now (seen_cert c.in-Ok.cert) c.in_ok-own-in-Ok.own c.is_some.result (cert_read c.args.bytes.now (Ok (seen_cert c.in-Ok.cert)) c.in-Ok.ensures.exact) c.is_some.ensures c.in_ok-own-in-Ok.ensures.told

pub returns-in_ok-own-in-Ok-clause-asked : goal.returns-in_ok-own-in-Ok-clause-asked
returns-in_ok-own-in-Ok-clause-asked g c = looks_mine c.args.party c.args.bytes.now (seen_cert c.in-Ok.cert) c.in_ok-own-in-Ok.own c.is_some.result (cert_read c.args.bytes.now (Ok (seen_cert c.in-Ok.cert)) c.in-Ok.ensures.exact) c.is_some.ensures c.in_ok-own-in-Ok.ensures.asked

pub returns-in-Err-clause-told : goal.returns-in-Err-clause-told
returns-in-Err-clause-told g c = told_unread _ c.args.party c.args.bytes.now c.in-Err.field-0 (cert_read c.args.bytes.now (Err c.in-Err.field-0) c.in-Err.ensures.exact)

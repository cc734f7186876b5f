use Rattle.signature_provider.proofs.Tables.{table_honest}
use Rattle.signature_provider.proofs.laws.table_is_honest.Goals as goal

pub returns : goal.returns
returns c = table_honest c.args.provider.now.rows

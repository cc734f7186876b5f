use Rattle.signature_provider.proofs.Tables.{table_honest}
use Rattle.signature_provider.proofs.table.TableProviderSignatureProvider.sign.Goals as goal

pub returns-clause-honest : goal.returns-clause-honest
returns-clause-honest c = λ _. table_honest c.add_row.new.rows.items

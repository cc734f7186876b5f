use Rattle.signature_provider.proofs.Tables.{table_honest}
use Rattle.signature_provider.proofs.table.TableProviderSignatureProvider.new_key.Goals as goal

pub returns-clause-honest : goal.returns-clause-honest
returns-clause-honest c = λ _. table_honest c.self.inside.rows.items

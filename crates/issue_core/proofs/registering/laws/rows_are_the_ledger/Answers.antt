use Rattle.issue_core.proofs.RegisterDesk.RowLaws.{added_rows}
use Rattle.issue_core.proofs.registering.laws.rows_are_the_ledger.Goals as goal

pub returns : goal.returns
returns c = added_rows

use Rattle.issue_core.proofs.IssuingDesk.ListsOwe.{by_lists}
use Rattle.issue_core.proofs.issuing.laws.lists_owe.Goals as goal

pub returns : goal.returns
returns c = λ said setup desk day bytes rows unique readable. by_lists said setup desk day bytes rows unique readable

use Rattle.std.proofs.Common.{◌++◌, ap, ◌∙◌}
use Rattle.keeper.specs.Rows.{table_of}
use Rattle.keeper_sqlite.specs.StoredRow.{stored_text}
use Rattle.keeper_sqlite.specs.ReadingOrder.{read_stored}
use Rattle.keeper_sqlite.proofs.Again.{again}
use Rattle.keeper_sqlite.proofs.body.write_row_body.Goals as goal

pub returns-clause-again : goal.returns-clause-again
returns-clause-again c =
    ap (read_stored (table_of c.args.part.now)) (c.in_ok-push_part.ensures.text ∙ ap (λ (o : _). o ++ stored_text c.args.part.now) c.new-out.ensures)
    ∙ again c.args.part.now c.requires c.in_ok-push_part.ensures.legal

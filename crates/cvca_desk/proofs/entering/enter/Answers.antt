use Rattle.holder_core.proofs.Causes.{cause_kept}
use Rattle.cvca_desk.proofs.Enterings.{row_storable, told_entered, asked_added}
use Rattle.cvca_desk.proofs.entering.enter.Goals as goal

pub add_row-requires : goal.add_row-requires
add_row-requires g c = row_storable _ _ _ _ c.args.desk c.args.due.now c.in_ok-made.made _ c.in_ok-made.ensures.made c.own_row-row.ensures

pub returns-clause-told : goal.returns-clause-told
returns-clause-told g c = told_entered _ _ _ _ c.args.desk c.args.due.now _ _ c.in_ok-made.made _ _ c.in_ok-made.ensures.made c.own_row-row.ensures c.add_row.ensures.told

pub returns-clause-asked : goal.returns-clause-asked
returns-clause-asked g c = asked_added _ _ _ _ c.args.desk c.args.due.now c.in_ok-made.made c.in_ok-made.ensures.made _ (g.B.Keeper.faults c.args.keeper.now, g.B.Keeper.faults c.add_row.new.keeper) c.add_row.ensures.cause

pub returns-clause-cause : goal.returns-clause-cause
returns-clause-cause g c = cause_kept _ _ _ _ c.add_row.ensures.cause (c.in_ok-made.ensures.cause.quiet (λ e. absurd (cc)))

use Rattle.std.proofs.Common.{List, ◌∙◌, subst}
use Rattle.keeper.specs.declared.rows.Row.{Row}
use Rattle.terminal_desk.specs.Chain.{own_certificates}
use Rattle.eac_net.specs.Handed.{IsNewest}
use Rattle.eac_net.proofs.Newest.{founded}
use Rattle.eac_net.proofs.chips.handing.root_due.Goals as goal

pub returns-in-Ok-from_slice-clause-hands : goal.returns-in-Ok-from_slice-clause-hands
returns-in-Ok-from_slice-clause-hands g c =
    founded g.B.Keeper c.args.keeper.now c.list_rows.new.keeper c.args.authority c.in-Ok.own c.in-Ok.ensures.told c.in-Ok.ensures.asked (c.in-Ok.ensures.cause.quiet (λ e. absurd (cc)))
    c.in-Some.newest.now c.in-Ok-from_slice.root (subst (λ (l : List Row). IsNewest (own_certificates l) c.in-Some.newest.now) c.as_slice.ensures c.in-Some.ensures) (c.in-Ok-from_slice.ensures ∙ c.as_slice-in-Some.ensures)

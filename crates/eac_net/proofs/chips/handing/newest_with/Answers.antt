use Rattle.std.proofs.Common.{[], ◌∷◌, ◌++◌, sym, subst}
use Rattle.std.specs.Prelude.{option_to_list}
use Rattle.std.specs.declared.option.Option.{Option}
use Rattle.std.specs.Option.{option_copied}
use Rattle.keeper.specs.declared.rows.Settled.{Settled}
use Rattle.eac_net.specs.Handed.{IsNewest}
use Rattle.eac_net.proofs.Newest.{newest_more}
use Rattle.eac_net.proofs.chips.handing.newest_with.Goals as goal

pub returns-in-Some : goal.returns-in-Some
returns-in-Some c front is =
    subst (λ (o : Option Settled). IsNewest (front ++ option_to_list o) c.newer.result.now) c.in-Some.ensures
    (subst (λ (s : Settled). IsNewest (front ++ c.in-Some.next.now ∷ []) s) (sym c.newer.ensures) (newest_more front (option_copied c.args.newest) c.in-Some.next.now is))

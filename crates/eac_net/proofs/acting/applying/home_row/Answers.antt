use Rattle.std.proofs.Common.{sym, ◌∙◌}
use Rattle.eac_net.specs.Acting as words
use Rattle.eac_net.proofs.Homes.{home_asked}
use Rattle.eac_net.proofs.acting.applying.home_row.Goals as goal

pub returns-clause-asked : goal.returns-clause-asked
returns-clause-asked g c = home_asked c.args.setup.now (words.home_named c.args.setup.now c.args.authority c.args.holder.now) c.in-Some.reference
    (sym c.home_reference.ensures ∙ c.in-Some.is) c.in_ok-found.found c.signing.result c.signing.ensures.same c.in_ok-found.ensures.asked

use Rattle.eac_cli.proofs.Fields.{two_pushed}
use Rattle.eac_cli.proofs.show.push_dates.Goals as goal

pub returns : goal.returns
returns c = two_pushed c.push_day-2.result _ _ _ _ _ (c.in_ok-push_day.ensures) c.push_day-2.ensures

use Rattle.std.proofs.Common.{rules, refl}
use Rattle.cv_dates.proofs.Jiff.{date_is}
use Rattle.cv_dates.proofs.calendar.calendar_date.Goals as goal

pub returns-in-Ok-clause-found : goal.returns-in-Ok-clause-found
returns-in-Ok-clause-found c = (λ _. date_is c.args.year c.args.month c.args.day c.to_plain.result c.requires.year (search rules), λ _. refl)

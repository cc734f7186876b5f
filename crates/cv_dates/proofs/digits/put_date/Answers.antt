use Rattle.std.proofs.Common.{rules, subst, sym}
use Rattle.cv_dates.specs.Calendar.{IsDateOf}
use Rattle.cv_dates.proofs.Months.{is_date_of}
use Rattle.cv_dates.proofs.Jiff.{digits_are}
use Rattle.cv_dates.proofs.digits.put_date.Goals as goal

pub returns-clause-digits : goal.returns-clause-digits
returns-clause-digits c = digits_are c.args.day c.year_in_century-year.result c.date_at-date.result (search rules) c.date_at-date.ensures c.year_in_century-year.ensures

pub returns-clause-named : goal.returns-clause-named
returns-clause-named c = subst (IsDateOf c.args.day) (sym (returns-clause-digits c)) (is_date_of c.args.day (search rules))

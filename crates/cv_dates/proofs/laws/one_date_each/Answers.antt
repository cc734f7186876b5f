use Rattle.cv_dates.proofs.DateLaws.{each_day_is_read, read_is_the_text, dates_are_read}
use Rattle.cv_dates.proofs.laws.one_date_each.Goals as goal

pub returns-clause-read : goal.returns-clause-read
returns-clause-read c = each_day_is_read

pub returns-clause-text : goal.returns-clause-text
returns-clause-text c = read_is_the_text

pub returns-clause-exact : goal.returns-clause-exact
returns-clause-exact c = dates_are_read

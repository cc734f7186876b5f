use Rattle.cv_dates.proofs.SortLaws.{dates_sort_as_days, texts_sort_as_days}
use Rattle.cv_dates.proofs.laws.dates_sort_as_days.Goals as goal

pub returns-clause-digits : goal.returns-clause-digits
returns-clause-digits c = dates_sort_as_days

pub returns-clause-texts : goal.returns-clause-texts
returns-clause-texts c = texts_sort_as_days

use Rattle.std.proofs.Common.{refl, arith, ◌∙◌, ◌≡◌}
use Rattle.std.specs.Prelude.{true}
use Rattle.cv_dates.specs.Calendar.{day_number, is_date}
use Rattle.cv_dates.proofs.Months.{named_is}
use Rattle.cv_dates.proofs.Jiff.{same_number, is_date-from_jiff, named_number}
use Rattle.cv_dates.proofs.calendar.named_day.Goals as goal
use Rattle.cv_dates.proofs.calendar.named_day.Goals.{After-number_in}

date_there : (c : After-number_in) → is_date c.args.year c.args.month c.args.day ≡ true
date_there c = is_date-from_jiff c.args.year c.args.month c.args.day c.requires.year (c.in-Some.ensures.found.0 refl)

number_there : (c : After-number_in) → c.number_in.result ≡ day_number c.args.year c.args.month c.args.day
number_there c =
    let d = c.in-Some.date in
    c.number_in.ensures ∙ same_number c.args.month c.args.day c.args.year d.month d.day c.in-Some.ensures.value.1 c.in-Some.ensures.value.2

pub numbered-requires : goal.numbered-requires
numbered-requires c = omega (arith, number_there c, (named_is c.args.year c.args.month c.args.day (date_there c)).0)

pub returns-in-Some : goal.returns-in-Some
returns-in-Some c = named_number c.args.year c.args.month c.args.day c.numbered.result (date_there c.before) (c.numbered.ensures ∙ number_there c.before)

use Rattle.std.proofs.Common.{◌≡◌, ◌+◌, pos, ◌+ℤ◌, subst, arith}
use Rattle.jiff_core.specs.Calendar.{days_from_civil}
use Rattle.cv_dates.specs.Calendar.{day_number}
use Rattle.cv_dates.proofs.Jiff.{number_is}
use Rattle.cv_dates.proofs.calendar.number_in.Goals as goal

count : (c : goal.After-days_since_min) → c.days_since_min.result ≡ 4_382_544 + day_number c.args.year c.args.date.month c.args.date.day
count c =
    let d = c.args.date in
    number_is c.args.year d.month d.day c.days_since_min.result c.requires.low d.month_in.0 d.month_in.1 d.day_in.0
    (subst (λ y. days_from_civil y d.month d.day +ℤ pos 4_371_587 ≡ pos c.days_since_min.result) c.requires.same c.days_since_min.ensures.value)

pub overflow_sub-result : goal.overflow_sub-result
overflow_sub-result c = omega (arith, count c)

pub returns : goal.returns
returns c = omega (arith, count c)

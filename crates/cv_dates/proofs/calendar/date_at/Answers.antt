use Rattle.std.proofs.Common.{ap, ◌∙◌, ℕ, ◌+◌, pos}
use Rattle.cv_dates.proofs.Jiff.{date_found}
use Rattle.cv_dates.proofs.calendar.date_at.Goals as goal

pub returns : goal.returns
returns c = date_found c.args.day c.from_days_since_min.result (search (c.number.ensures.legal, c.number.ensures.number)) (c.from_days_since_min.ensures ∙ ap (λ (n : ℕ). pos (n + 4_382_544)) c.number.ensures.number)

use Rattle.std.proofs.Common.{rules, arith}
use Rattle.cv_dates.specs.Calendar.{day_from_text, IsTextOf}
use Rattle.cv_dates.proofs.DateLaws.{found_of, only_of}
use Rattle.cv_dates.proofs.TextLaws.{text_answers, texts_are_read}
use Rattle.cv_dates.proofs.text.day_from_text.Goals as goal

pub returns-clause-exact : goal.returns-clause-exact
returns-clause-exact c = text_answers c.args.text.now c.read_date.result (omega arith) (search rules) c.read_date.ensures.exact

pub returns-clause-found : goal.returns-clause-found
returns-clause-found c =
    found_of (day_from_text c.args.text.now) (λ day. IsTextOf day c.args.text.now) c.read_date.result (returns-clause-exact c) (λ n. (texts_are_read c.args.text.now n).0)

pub returns-clause-only : goal.returns-clause-only
returns-clause-only c = λ n h. only_of (day_from_text c.args.text.now) n c.read_date.result (returns-clause-exact c) ((texts_are_read c.args.text.now n).1 h)

use Rattle.std.proofs.Common.{refl}
use Rattle.cvca_desk.proofs.Foundings.{told_first, told_rows, told_signs}
use Rattle.cvca_desk.proofs.founding.found_by.Goals as goal

pub returns-in-Ok-clause-founds : goal.returns-in-Ok-clause-founds
returns-in-Ok-clause-founds g c = told_rows _ _ _ _ c.args.desk c.args.day c.args.terms.now _ _ _ (told_first _ _ _ _ c.args.desk c.args.day c.args.terms.now _ _ _ c.in_ok-count.count _ c.in-Ok.days _ refl c.in-Ok.ensures c.in_ok-count.ensures.told c.found_first.ensures.told)

pub returns-in-Ok-clause-signed : goal.returns-in-Ok-clause-signed
returns-in-Ok-clause-signed g c = told_signs _ _ _ _ c.args.desk c.args.day c.args.terms.now _ _ _ (told_first _ _ _ _ c.args.desk c.args.day c.args.terms.now _ _ _ c.in_ok-count.count _ c.in-Ok.days _ refl c.in-Ok.ensures c.in_ok-count.ensures.told c.found_first.ensures.told)

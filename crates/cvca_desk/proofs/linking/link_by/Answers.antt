use Rattle.std.proofs.Common.{refl}
use Rattle.cvca_desk.proofs.Causes.{cause_as}
use Rattle.cvca_desk.proofs.Linkings.{told_next, told_rows, told_signs, misses_link}
use Rattle.cvca_desk.proofs.Numberings.{told_exact}
use Rattle.cvca_desk.proofs.linking.link_by.Goals as goal

pub returns-clause-links : goal.returns-clause-links
returns-clause-links g c = told_rows _ _ _ _ c.args.desk c.args.day c.args.terms.now _ _ _ (told_next _ _ _ _ c.args.desk c.args.day c.args.terms.now _ _ _ c.in_ok-own.own _ _ _ c.in-Ok.plan _ refl c.as_slice.ensures c.len.ensures c.in-Ok.ensures.plans c.in_ok-own.ensures.told c.link_next.ensures.told)

pub returns-clause-signed : goal.returns-clause-signed
returns-clause-signed g c = told_signs _ _ _ _ c.args.desk c.args.day c.args.terms.now _ _ _ (told_next _ _ _ _ c.args.desk c.args.day c.args.terms.now _ _ _ c.in_ok-own.own _ _ _ c.in-Ok.plan _ refl c.as_slice.ensures c.len.ensures c.in-Ok.ensures.plans c.in_ok-own.ensures.told c.link_next.ensures.told)

pub returns-clause-exact : goal.returns-clause-exact
returns-clause-exact g c = told_exact _ _ _ _ c.args.desk c.args.day c.args.terms.now _ _ _ (told_next _ _ _ _ c.args.desk c.args.day c.args.terms.now _ _ _ c.in_ok-own.own _ _ _ c.in-Ok.plan _ refl c.as_slice.ensures c.len.ensures c.in-Ok.ensures.plans c.in_ok-own.ensures.told c.link_next.ensures.told)

pub returns-clause-cause : goal.returns-clause-cause
returns-clause-cause g c = cause_as _ _ _ _ _ _ (c.in_ok-own.ensures.cause.quiet (λ e. absurd (cc))) (misses_link _ c.args.desk c.args.day c.args.terms.now c.in_ok-own.own _ c.in-Ok.plan c.in_ok-own.ensures.asked c.as_slice.ensures c.in-Ok.ensures.plans) c.link_next.ensures.cause

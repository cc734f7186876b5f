use Rattle.std.proofs.Common.{◌≡◌, ◌++◌, ap, ◌∙◌, append_assoc}
use Rattle.std.proofs.lemmas.Result.{on_ok_weaker}
use Rattle.tlv_core.specs.Object.{object}
use Rattle.cv_dates.specs.Calendar.{date_of}
use Rattle.keeper_sqlite.proofs.writing.push_dates.Goals as goal

pub returns-clause-text : goal.returns-clause-text
returns-clause-text c =
    let o0 = c.args.out.now in
    let first = object 0x89 (date_of c.args.from) in
    let second = object 0x8a (date_of c.args.until) in
    let pushed : c.push_object.new.out ≡ o0 ++ first = c.in_ok-push_object.ensures ∙ ap (λ (d : _). o0 ++ object 0x89 d) c.put_date.ensures.digits in
    on_ok_weaker c.push_object-2.result
    (λ e. e ∙ ap (λ (d : _). c.push_object.new.out ++ object 0x8a d) c.put_date-2.ensures.digits ∙ ap (λ (o : _). o ++ second) pushed ∙ append_assoc o0 first second)
    c.push_object-2.ensures

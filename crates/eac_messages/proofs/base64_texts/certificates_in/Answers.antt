use Rattle.std.proofs.Common.{sym, ◌∙◌, subst}
use Rattle.eac_base.specs.Answers.{Answers}
use Rattle.serde_json.specs.View.{view}
use Rattle.eac_messages.specs.Body.{refused_message}
use Rattle.eac_messages.proofs.TextItems.{items_judged, certificates_spelled}
use Rattle.eac_messages.proofs.base64_texts.certificates_in.Goals as goal

pub returns-clause-exact : goal.returns-clause-exact
returns-clause-exact c =
    let judged = items_judged (view c.args.object.now) _ c.in_ok-items.ensures (sym c.are_texts.ensures ∙ c.if-not-are_texts.false) in
    subst (λ s. Answers (λ l. l) refused_message c.all_bytes_of.result s) (sym judged) c.all_bytes_of.ensures.exact

pub returns-clause-found : goal.returns-clause-found
returns-clause-found c = certificates_spelled (view c.args.object.now) _ c.all_bytes_of.result c.in_ok-items.ensures c.all_bytes_of.ensures.spelled

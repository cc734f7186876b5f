use Rattle.std.proofs.Common.{sym, ◌∙◌, ◌&&◌, ◌||◌, not}
use Rattle.signature_provider.specs.Key.{is_key, key_fits, is_elliptic, has_domain}
use Rattle.cvc_grammar.specs.Views.{seen_key}
use Rattle.cvc_grammar.proofs.RequestViews.{true_and}
use Rattle.cvc_grammar.proofs.request.view.is_request_key.Goals as goal

pub returns : goal.returns
returns c =
    let k = seen_key c.args.parts in
    c.has_its_domain.ensures ∙ sym (true_and (is_key k && key_fits k) (not (is_elliptic k.algorithm) || has_domain k) c.requires)

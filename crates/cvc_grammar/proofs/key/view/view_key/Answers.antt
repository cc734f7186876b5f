use Rattle.cvc_grammar.specs.Views.{seen_key}
use Rattle.std.specs.Prelude.{option_map}
use Rattle.cvc_grammar.proofs.KeyViews.{key_steps}
use Rattle.cvc_grammar.proofs.key.view.view_key.Goals as goal

pub returns : goal.returns
returns c =
    key_steps c.args.content.now c.in-Ok.identifier.now c.in-Ok.values.now c.in-Ok.tag c.in_ok-algorithm.algorithm (option_map seen_key c.legal_key.result)
    c.in-Ok.ensures.exact c.if-tag-ne6.false c.in_ok-algorithm.ensures c.legal_key.ensures

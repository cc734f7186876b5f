use Rattle.std.proofs.Common.{refl, arith}
use Rattle.std.proofs.lemmas.List.{length-append}
use Rattle.tlv_core.specs.Object.{object}
use Rattle.signature_provider.specs.Key.{algorithm_identifier, key_values}
use Rattle.cvc_grammar.proofs.key.writing.content_size.Goals as goal

pub returns : goal.returns
returns c =
    let k = c.args.key.now in
    let identifier = algorithm_identifier k.algorithm in
    omega (arith, c.object_size.ensures.exact identifier refl, c.values_size.ensures, length-append (object 0x06 identifier) (key_values k))

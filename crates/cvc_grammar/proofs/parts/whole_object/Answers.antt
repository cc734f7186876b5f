use Rattle.cvc_grammar.specs.Views.{part_of}
use Rattle.cvc_grammar.proofs.Views.{whole_object}
use Rattle.cvc_grammar.proofs.parts.whole_object.Goals as goal

pub returns-clause-whole : goal.returns-clause-whole
returns-clause-whole c =
    whole_object c.args.tag (part_of c.args.part) (part_of c.in_ok-content.content) (part_of c.in_ok-content.rest) c.split_at.result.0.now
    c.are_bytes.ensures c.in_ok-content.ensures.exact c.split_at.ensures.front

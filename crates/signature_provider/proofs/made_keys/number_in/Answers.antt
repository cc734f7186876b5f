use Rattle.signature_provider.proofs.NumberedKeys.{short_point, long_point}
use Rattle.signature_provider.proofs.made_keys.number_in.Goals as goal

pub returns-in-8 : goal.returns-in-8
returns-in-8 c = λ algorithm number fits same. c.number_of.ensures number fits (short_point algorithm number c.args.point.now same c.in-8.is)

pub returns-in-13 : goal.returns-in-13
returns-in-13 c = λ algorithm number fits same. c.number_of-in-13.ensures number fits (long_point algorithm number c.args.point.now same c.in-13.is)

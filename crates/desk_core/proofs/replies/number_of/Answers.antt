use Rattle.desk_core.proofs.Numbers.{number_is, not_refused}
use Rattle.desk_core.proofs.replies.number_of.Goals as goal

pub returns : goal.returns
returns c = number_is c.args.request.now _ c.in-Ok.ensures.exact

pub unreachable-requires : goal.unreachable-requires
unreachable-requires c = not_refused c.args.request.now c.in-Err.field-0 c.requires c.in-Err.ensures.exact

use Rattle.std.proofs.Common.{sym, subst}
use Rattle.keeper.specs.Index.{IsIndex}
use Rattle.keeper.proofs.changing.push.Goals as goal

pub returns-in_err-file-clause-index : goal.returns-in_err-file-clause-index
returns-in_err-file-clause-index c = c.in_err-file.ensures.kept _ (subst (IsIndex c.args.index.now) (sym c.reserve.ensures.items) c.requires.index)

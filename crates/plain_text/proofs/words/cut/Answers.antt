use Rattle.std.proofs.Common.{arith}
use Rattle.plain_text.proofs.Cuts.{cut_some, cut_none}
use Rattle.plain_text.proofs.words.cut.Goals as goal

pub returns-then-at-line-clause-pieces : goal.returns-then-at-line-clause-pieces
returns-then-at-line-clause-pieces c = cut_some c.args.line.now c.first_at-at.result c.first_at-at.ensures (omega arith)

pub returns-else-at-line-clause-pieces : goal.returns-else-at-line-clause-pieces
returns-else-at-line-clause-pieces c = cut_none c.args.line.now (omega arith)

use Rattle.std.proofs.Common.{ap, ◌∙◌}
use Rattle.keeper.specs.Headings.{list_at}
use Rattle.keeper.proofs.Indexes.{holder_places}
use Rattle.keeper.proofs.index.Index.of_holder.Goals as goal

pub returns : goal.returns
returns c = λ rows is. c.at.ensures ∙ ap (list_at c.args.self.now.holders.lists) c.at_holder.ensures ∙ holder_places c.args.self.now.holders.lists rows c.args.table c.args.desk c.args.holder.now is.holders

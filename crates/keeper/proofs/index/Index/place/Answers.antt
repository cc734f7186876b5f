use Rattle.std.proofs.Common.{ap, ◌∙◌}
use Rattle.std.specs.BTreeMap.{get}
use Rattle.keeper.specs.Headings.{heading_cmp}
use Rattle.keeper.proofs.Indexes.{key_place}
use Rattle.keeper.proofs.index.Index.place.Goals as goal

pub returns : goal.returns
returns c = λ rows is. c.at.ensures ∙ ap (get heading_cmp c.args.self.now.keys.places) c.at_row.ensures ∙ key_place c.args.self.now.keys.places rows c.args.table c.args.desk c.args.reference.now is.keys

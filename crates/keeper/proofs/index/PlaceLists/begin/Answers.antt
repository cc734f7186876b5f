use Rattle.std.proofs.Common.{rules, sym, []}
use Rattle.keeper.specs.Headings.{with_place}
use Rattle.keeper.proofs.PlaceLists.{becomes}
use Rattle.keeper.proofs.index.PlaceLists.begin.Goals as goal

pub returns-clause-pushed : goal.returns-clause-pushed
returns-clause-pushed c = becomes (with_place c.args.place) c.args.self.now.lists c.insert.new.self c.args.heading c.push.new.self [] (search rules) (search rules) (sym c.requires)

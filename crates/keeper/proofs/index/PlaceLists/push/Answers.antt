use Rattle.std.proofs.Common.{rules, ap, []}
use Rattle.std.specs.Option.{unwrap_or}
use Rattle.keeper.specs.Headings.{with_place}
use Rattle.keeper.proofs.PlaceLists.{becomes, stay_lists, ok_so, err_so}
use Rattle.keeper.proofs.index.PlaceLists.push.Goals as goal

pub returns-in-Some-clause-pushed : goal.returns-in-Some-clause-pushed
returns-in-Some-clause-pushed c = ok_so c.push.result (λ is. becomes (with_place c.args.place) c.args.self.now.lists (c.get_mut.follows.lender c.push.new.self) c.args.heading c.push.new.self c.in-Some.places.now ((c.get_mut.follows.holds c.push.new.self).3 (search rules)) is (ap (λ o. unwrap_or o []) c.in-Some.ensures.value)) c.push.ensures.pushed

pub returns-in-Some-clause-kept : goal.returns-in-Some-clause-kept
returns-in-Some-clause-kept c = err_so c.push.result (λ is. stay_lists c.args.self.now.lists (c.get_mut.follows.lender c.push.new.self) c.args.heading c.push.new.self c.in-Some.places.now ((c.get_mut.follows.holds c.push.new.self).3 (search rules)) is (ap (λ o. unwrap_or o []) c.in-Some.ensures.value)) c.push.ensures.kept

use Rattle.std.proofs.Common.{rules, refl, ap, []}
use Rattle.std.specs.Option.{unwrap_or}
use Rattle.keeper.specs.Headings.{without_last}
use Rattle.keeper.proofs.PlaceLists.{becomes, becomes_nothing}
use Rattle.keeper.proofs.index.PlaceLists.drop_last.Goals as goal

pub returns-in-Some : goal.returns-in-Some
returns-in-Some c = becomes without_last c.args.self.now.lists (c.get_mut.follows.lender c.drop_last.new.self) c.args.heading.now c.drop_last.new.self c.in-Some.places.now ((c.get_mut.follows.holds c.drop_last.new.self).3 (search rules)) c.drop_last.ensures (ap (λ o. unwrap_or o []) c.in-Some.ensures.value)

pub returns-in_default : goal.returns-in_default
returns-in_default c = becomes_nothing without_last c.args.self.now.lists c.get_mut.follows.lender-at-none c.args.heading.now (search rules) refl c.in_default.ensures.value

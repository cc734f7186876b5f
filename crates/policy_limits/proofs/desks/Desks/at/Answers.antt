use Rattle.std.specs.Option.{option_copied}
use Rattle.policy_limits.proofs.DeskLists.{found_in, found_nowhere}
use Rattle.policy_limits.proofs.desks.Desks.at.Goals as goal

pub returns-in-Some : goal.returns-in-Some
returns-in-Some c = found_in c.args.desk c.args.holder.now c.args.self.now.lists c.in-Some.list.now (option_copied c.at_desk.result) c.in-Some.ensures.value c.at_desk.ensures

pub returns-in-None : goal.returns-in-None
returns-in-None c = found_nowhere c.args.desk c.args.holder.now c.args.self.now.lists c.in-None.ensures.value

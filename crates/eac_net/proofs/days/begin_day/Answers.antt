use Rattle.eac_base.specs.declared.failures.NoMemory.{NoMemory}
use Rattle.eac_net.proofs.Calendar.{day_steps}
use Rattle.eac_net.proofs.days.begin_day.Goals as goal

pub returns-clause-steps : goal.returns-clause-steps
returns-clause-steps c setup o was = day_steps setup c.args.day c.args.world.now o NoMemory tt c.args.line.now was

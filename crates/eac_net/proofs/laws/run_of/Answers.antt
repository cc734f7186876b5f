use Rattle.eac_net.proofs.Histories.{run_of}
use Rattle.eac_net.proofs.laws.run_of.Goals as goal

pub returns : goal.returns
returns g c = run_of g.D.ChipDisk c.chips_survive_crashes.ensures.survive

use Rattle.eac_cli.proofs.Ends.{shown, shown_length}
use Rattle.eac_cli.proofs.tool.show_source.Goals as goal

pub returns-clause-shown : goal.returns-clause-shown
returns-clause-shown g c = shown _ _ c.read_and_show.result _ _ _ _ _ _ c.read_and_show.ensures.shows c.read_and_show.ensures.read.0 c.read_and_show.ensures.write.0

pub returns-clause-too_long : goal.returns-clause-too_long
returns-clause-too_long g c = shown_length _ _ c.read_and_show.result _ (Unit {0}) _ _ _ _ c.read_and_show.ensures.shows c.read_and_show.ensures.read.0

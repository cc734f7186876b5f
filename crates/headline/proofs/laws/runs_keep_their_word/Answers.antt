use Rattle.headline.proofs.Headlines.{runs_keep_their_word}
use Rattle.headline.proofs.laws.runs_keep_their_word.Goals as goal

pub returns : goal.returns
returns g c = runs_keep_their_word g.D.ChipDisk

use Rattle.chip_slots.proofs.RunsOfActs.{fits_of}
use Rattle.chip_slots.proofs.laws.images_fit.Goals as goal

pub returns : goal.returns
returns c = fits_of

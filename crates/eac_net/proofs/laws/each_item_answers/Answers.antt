use Rattle.eac_net.proofs.EachItem.{each_item}
use Rattle.eac_net.proofs.laws.each_item_answers.Goals as goal

pub returns : goal.returns
returns c = each_item

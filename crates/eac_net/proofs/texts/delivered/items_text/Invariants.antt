use Rattle.eac_net.specs.Delivered.{item_text}
use Rattle.eac_net.proofs.Listing.{IsWritten}
use Rattle.eac_net.proofs.texts.delivered.items_text.Given as goal

abbrev pub invariant-loop-at : goal.invariant-loop-at
invariant-loop-at l = IsWritten item_text l.items l.at l.text

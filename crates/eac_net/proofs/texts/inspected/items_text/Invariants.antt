use Rattle.eac_net.specs.Inspected.{taken_text}
use Rattle.eac_net.proofs.Listing.{IsWritten}
use Rattle.eac_net.proofs.texts.inspected.items_text.Given as goal

abbrev pub invariant-loop-at : goal.invariant-loop-at
invariant-loop-at l = IsWritten taken_text l.taken l.at l.text

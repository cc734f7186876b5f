use Rattle.std.proofs.Common.{◌≡◌, drop, is_some}
use Rattle.serde_json.specs.View.{items_view}
use Rattle.eac_messages.specs.Body.{texts_of}
use Rattle.eac_messages.proofs.base64_texts.are_texts.Given as goal

abbrev pub invariant-items : goal.invariant-items
invariant-items l = is_some (texts_of (items_view l.items)) ≡ is_some (texts_of (items_view (drop l.item-index l.items)))

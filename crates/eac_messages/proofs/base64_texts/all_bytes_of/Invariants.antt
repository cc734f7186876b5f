use Rattle.std.proofs.Common.{◌≡◌, drop, take}
use Rattle.serde_json.specs.View.{items_view}
use Rattle.eac_messages.specs.Steps.{items_bytes}
use Rattle.eac_messages.proofs.TextItems.{after, AreTexts}
use Rattle.eac_messages.proofs.base64_texts.all_bytes_of.Given as goal

abbrev pub invariant-items : goal.invariant-items
invariant-items l = record {
  so_far : items_bytes (items_view l.items) ≡ after l.lists (items_bytes (items_view (drop l.item-index l.items)));
  texts : AreTexts (take l.item-index l.items) l.lists;
}

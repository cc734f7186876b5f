use Rattle.std.proofs.Common.{◌≡◌, map, take}
use Rattle.serde_json.specs.View.{view}
use Rattle.eac_messages.specs.Base64.{base64_text}
use Rattle.eac_messages.proofs.base64_texts.base64_values.Given as goal

abbrev pub invariant-lists : goal.invariant-lists
invariant-lists l = map view l.items.items ≡ map base64_text (take l.at l.lists)

use Rattle.std.proofs.Common.{◌≡◌, ap, ◌∙◌, map, take, length, arith}
use Rattle.std.proofs.Math.Seq.{take-length}
use Rattle.serde_json.specs.Data.{array}
use Rattle.serde_json.specs.View.{items_of}
use Rattle.serde_json.proofs.Views.{view-Array}
use Rattle.eac_messages.specs.Base64.{base64_text}
use Rattle.eac_messages.proofs.TextItems.{values_kept, values_of_lists}
use Rattle.eac_messages.proofs.base64_texts.base64_values.Goals as goal

pub lists-preserved : goal.lists-preserved
lists-preserved c =
    values_kept c.lists.items.items _ c.in_ok-base64_value.field-0 c.args.lists.now c.lists.at _ c.in-Some.ensures c.in_ok-base64_value.ensures c.in_ok-push.ensures.items c.lists.invariant

pub returns : goal.returns
returns c =
    let all = c.args.lists.now in
    let end : c.lists.at ≡ length all = omega (arith, c.lists.auto.at-end, c.lists-test.false, c.len-at-end.ensures) in
    let whole : take c.lists.at all ≡ all = ap (λ n. take n all) end ∙ take-length all in
    view-Array c.lists.items ∙ ap (λ ds. array (items_of ds)) (c.lists.invariant ∙ ap (map base64_text) whole) ∙ ap array (values_of_lists all)

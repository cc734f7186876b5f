use Rattle.eac_messages.proofs.TextItems.{item_judged, bytes_kept, texts_kept, all_spelled}
use Rattle.eac_messages.proofs.base64_texts.all_bytes_of.Goals as goal

pub items-preserved : goal.items-preserved
items-preserved c =
    let item = c.item-item.result in
    let pushed = c.in_ok-push_octets.ensures.pushed in
    record {
      so_far = bytes_kept c.items.lists c.push_octets.new.self c.in_ok-bytes.bytes c.args.items.now c.items.item-index item _ c.items-test.true c.item-item.is
          (item_judged _ _ _ c.in-Some.ensures c.in_ok-bytes.ensures.exact) pushed c.items.invariant.so_far;
      texts = texts_kept c.items.lists c.push_octets.new.self c.in-Some.text.now c.in_ok-bytes.bytes c.args.items.now c.items.item-index item c.items-test.true c.item-item.is c.in-Some.ensures
          c.in_ok-bytes.ensures.spelled pushed c.items.invariant.texts;
    }

pub returns-clause-spelled : goal.returns-clause-spelled
returns-clause-spelled c = all_spelled c.args.items.now c.items.lists c.items.item-index c.items-test.false c.items.invariant.texts

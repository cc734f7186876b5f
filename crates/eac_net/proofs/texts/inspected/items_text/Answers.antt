use Rattle.std.proofs.Common.{◌≡◌, ◌++◌, sym, ◌∙◌}
use Rattle.eac_net.specs.Delivered.{behind}
use Rattle.eac_net.specs.Inspected.{taken_text}
use Rattle.eac_net.proofs.Listing.{written_more}
use Rattle.eac_net.proofs.texts.inspected.items_text.Goals as goal

pub loop-at-preserved : goal.loop-at-preserved
loop-at-preserved c =
    let more : c.as_slice.result.now ≡ taken_text c.in-Some.item.now = cc (c.as_slice.ensures, c.in_ok-more.ensures) in
    written_more taken_text c.args.taken.now c.loop-at.at c.in-Some.item.now c.loop-at.text c.push_at.new.text (sym c.in-Some.ensures)
    (c.in_ok-push_at.ensures ∙ (λ j. c.loop-at.text ++ behind c.loop-at.at (more j))) c.loop-at.invariant

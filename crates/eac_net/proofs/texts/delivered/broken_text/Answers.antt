use Rattle.std.proofs.Common.{◌≡◌, ◌++◌, length, sym, ◌∙◌}
use Rattle.std.specs.Prelude.{map}
use Rattle.eac_net.specs.Delivered.{fault_words, item_text, behind, listed}
use Rattle.eac_net.proofs.Listing.{joined_last}
use Rattle.eac_net.proofs.texts.delivered.broken_text.Goals as goal

pub returns : goal.returns
returns c =
    let before : c.in_ok-text.text ≡ listed 0 (map item_text c.args.items.now) = c.in_ok-text.ensures in
    let place : c.len.result ≡ length c.args.items.now = c.len.ensures in
    let more : c.as_slice.result.now ≡ fault_words c.args.fault.now = cc (c.as_slice.ensures, c.in_ok-more.ensures) in
    c.in_ok-push_at.ensures ∙ (λ j. before j ++ behind (place j) (more j)) ∙ sym (joined_last c.args.items.now (fault_words c.args.fault.now))

use Rattle.std.proofs.Common.{◌≡◌, ◌++◌, length, sym, ◌∙◌}
use Rattle.std.specs.Prelude.{map}
use Rattle.eac_net.specs.Delivered.{behind, listed}
use Rattle.eac_net.specs.Inspected.{taken_text}
use Rattle.eac_net.proofs.Listing.{written_last}
use Rattle.eac_net.proofs.texts.inspected.ended_text.Goals as goal

pub returns : goal.returns
returns c =
    let before : c.in_ok-text.text ≡ listed 0 (map taken_text c.args.taken.now) = c.in_ok-text.ensures in
    let place : c.len.result ≡ length c.args.taken.now = c.len.ensures in
    c.in_ok-push_at.ensures ∙ (λ j. before j ++ behind (place j) c.args.last.now) ∙ sym (written_last taken_text c.args.taken.now c.args.last.now)

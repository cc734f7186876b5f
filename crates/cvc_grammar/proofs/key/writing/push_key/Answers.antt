use Rattle.std.proofs.Common.{◌≡◌, ◌++◌, ℕ, length, ap}
use Rattle.tlv_core.specs.Object.{object, tag_bytes, length_bytes}
use Rattle.signature_provider.specs.Key.{algorithm_identifier, key_values, key_content, key_object}
use Rattle.cvc_grammar.proofs.Pushes.{then_pushed, where_ok, pushed_as}
use Rattle.cvc_grammar.proofs.key.writing.push_key.Goals as goal

pub returns : goal.returns
returns c =
    let k = c.args.key.now in
    let o0 = c.args.out.now in
    let o1 = c.push_head.new.out in
    let o2 = c.push_identifier.new.out in
    let o3 = c.push_values.new.out in
    let size = c.content_size.result in
    let head = tag_bytes 0x7f49 ++ length_bytes (length (key_content k)) in
    let identifier = object 0x06 (algorithm_identifier k.algorithm) in
    let e1 = pushed_as o0 o1 (tag_bytes 0x7f49 ++ length_bytes size) head (ap (λ (n : ℕ). tag_bytes 0x7f49 ++ length_bytes n) c.content_size.ensures) c.in_ok-push_head.ensures in
    where_ok c.push_values.result (o3 ≡ o2 ++ key_values k) (o3 ≡ o0 ++ key_object k)
    (λ e3. then_pushed o0 o1 o3 head (identifier ++ key_values k) e1 (then_pushed o1 o2 o3 identifier (key_values k) c.in_ok-push_identifier.ensures e3))
    c.push_values.ensures

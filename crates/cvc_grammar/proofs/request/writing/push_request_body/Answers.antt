use Rattle.std.proofs.Common.{◌≡◌, ◌++◌, ap, sym, ◌&&◌, ◌||◌, not}
use Rattle.tlv_core.specs.Object.{object}
use Rattle.signature_provider.specs.Key.{is_key, key_fits, key_object, is_elliptic, has_domain}
use Rattle.cvc_grammar.specs.Certificate.{extensions_text, profile_object}
use Rattle.cvc_grammar.specs.Request.{authority_text, request_body_content}
use Rattle.cvc_grammar.proofs.KeyAgain.{and_both}
use Rattle.cvc_grammar.proofs.RequestAgain.{regrouped}
use Rattle.cvc_grammar.proofs.Pushes.{then_pushed, where_ok, pushed_as}
use Rattle.cvc_grammar.proofs.request.writing.push_request_body.Goals as goal

pub push_key-requires : goal.push_key-requires
push_key-requires c =
    let k = c.args.body.now.key in
    (and_both (is_key k) (key_fits k) (and_both (is_key k && key_fits k) (not (is_elliptic k.algorithm) || has_domain k) c.requires.key).0).1

pub returns-clause-text : goal.returns-clause-text
returns-clause-text c =
    let b = c.args.body.now in
    let o0 = c.args.out.now in
    let o1 = c.push_object.new.out in
    let o2 = c.push_authority.new.out in
    let o3 = c.push_key.new.out in
    let o4 = c.push_object-2.new.out in
    let o5 = c.push_extensions.new.out in
    let x = extensions_text b.extensions in
    let h = object 0x5f20 b.holder in
    let k = key_object b.key in
    let a = authority_text b.authority in
    let e4 = pushed_as o3 o4 (object 0x5f20 c.as_slice.result.now) h (ap (object 0x5f20) c.as_slice.ensures.bytes) c.in_ok-push_object-2.ensures in
    where_ok c.push_extensions.result (o5 ≡ o4 ++ x) (o5 ≡ o0 ++ request_body_content b)
    (λ e5. pushed_as o0 o5 (profile_object ++ (a ++ (k ++ (h ++ x)))) (request_body_content b) (sym (regrouped profile_object a k h x))
    (then_pushed o0 o1 o5 profile_object (a ++ (k ++ (h ++ x))) c.in_ok-push_object.ensures
    (then_pushed o1 o2 o5 a (k ++ (h ++ x)) c.in_ok-push_authority.ensures.text
    (then_pushed o2 o3 o5 k (h ++ x) c.in_ok-push_key.ensures
    (then_pushed o3 o4 o5 h x e4 e5))))) c.push_extensions.ensures

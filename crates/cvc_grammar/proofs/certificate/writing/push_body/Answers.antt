use Rattle.std.proofs.Common.{◌≡◌, ◌++◌, ap, sym}
use Rattle.tlv_core.specs.Object.{object}
use Rattle.signature_provider.specs.Key.{is_key, key_fits, key_object}
use Rattle.cv_dates.specs.Calendar.{date_of}
use Rattle.chat_rights.specs.Template.{template_text}
use Rattle.cvc_grammar.specs.Certificate.{extensions_text, profile_object, body_content}
use Rattle.cvc_grammar.proofs.KeyAgain.{and_both}
use Rattle.cvc_grammar.proofs.CertAgain.{regrouped}
use Rattle.cvc_grammar.proofs.Pushes.{then_pushed, where_ok, pushed_as}
use Rattle.cvc_grammar.proofs.certificate.writing.push_body.Goals as goal

pub push_key-requires : goal.push_key-requires
push_key-requires c = (and_both (is_key c.args.body.now.key) (key_fits c.args.body.now.key) c.requires.key).1

pub returns-clause-text : goal.returns-clause-text
returns-clause-text c =
    let b = c.args.body.now in
    let o0 = c.args.out.now in
    let o1 = c.push_object.new.out in
    let o2 = c.push_object-2.new.out in
    let o3 = c.push_key.new.out in
    let o4 = c.push_object-3.new.out in
    let o5 = c.push_object-4.new.out in
    let o6 = c.push_object-5.new.out in
    let o7 = c.push_object-6.new.out in
    let o8 = c.push_extensions.new.out in
    let x = extensions_text b.extensions in
    let u = object 0x5f24 (date_of b.until) in
    let f = object 0x5f25 (date_of b.from) in
    let t = object 0x7f4c (template_text b.template) in
    let h = object 0x5f20 b.holder in
    let k = key_object b.key in
    let a = object 0x42 b.authority in
    let e2 = pushed_as o1 o2 (object 0x42 c.as_slice.result.now) a (ap (object 0x42) c.as_slice.ensures.bytes) c.in_ok-push_object-2.ensures in
    let e4 = pushed_as o3 o4 (object 0x5f20 c.as_slice-2.result.now) h (ap (object 0x5f20) c.as_slice-2.ensures.bytes) c.in_ok-push_object-3.ensures in
    let e5 = pushed_as o4 o5 (object 0x7f4c c.put_template-template.result) t (ap (object 0x7f4c) c.put_template-template.ensures.text) c.in_ok-push_object-4.ensures in
    let e6 = pushed_as o5 o6 (object 0x5f25 c.put_date-from.result) f (ap (object 0x5f25) c.put_date-from.ensures.digits) c.in_ok-push_object-5.ensures in
    let e7 = pushed_as o6 o7 (object 0x5f24 c.put_date-until.result) u (ap (object 0x5f24) c.put_date-until.ensures.digits) c.in_ok-push_object-6.ensures in
    where_ok c.push_extensions.result (o8 ≡ o7 ++ x) (o8 ≡ o0 ++ body_content b)
    (λ e8. pushed_as o0 o8 (profile_object ++ (a ++ (k ++ (h ++ (t ++ (f ++ (u ++ x))))))) (body_content b) (sym (regrouped profile_object a k h t f u x))
    (then_pushed o0 o1 o8 profile_object (a ++ (k ++ (h ++ (t ++ (f ++ (u ++ x)))))) c.in_ok-push_object.ensures
    (then_pushed o1 o2 o8 a (k ++ (h ++ (t ++ (f ++ (u ++ x))))) e2
    (then_pushed o2 o3 o8 k (h ++ (t ++ (f ++ (u ++ x)))) c.in_ok-push_key.ensures
    (then_pushed o3 o4 o8 h (t ++ (f ++ (u ++ x))) e4
    (then_pushed o4 o5 o8 t (f ++ (u ++ x)) e5
    (then_pushed o5 o6 o8 f (u ++ x) e6
    (then_pushed o6 o7 o8 u x e7 e8)))))))) c.push_extensions.ensures

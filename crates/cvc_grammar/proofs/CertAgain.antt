-- A certificate that was written is read.
use Rattle.std.proofs.Common.{◌≡◌, ℕ, ◌<◌, ◌≤◌, Bool, true, false, cond, leb, List, [], ◌∷◌, ◌++◌, length, Ok, Option, Some, None, refl, sym, ap, ◌∙◌, append_assoc, arith}
use Rattle.std.specs.Prelude.{IsTrue}
use Rattle.std.proofs.lemmas.List.{length-append, append-nil}
use Rattle.std.proofs.lemmas.Bool.{le-leb, leb-true}
use Rattle.eac_base.specs.Bytes.{is_empty}
use Rattle.tlv_core.specs.Object.{object, tag_bytes, length_bytes}
use Rattle.cv_dates.specs.Calendar.{date_of}
use Rattle.chat_rights.specs.declared.Template.{Template}
use Rattle.chat_rights.specs.Kinds.{identifier_of, rights_fit}
use Rattle.chat_rights.specs.Template.{template_text, read_template, template_byte}
use Rattle.chat_rights.specs.declared.Kind.{Kind}
use Rattle.chat_rights.specs.declared.Kind.TheVariants.{Inspection}
use Rattle.signature_provider.specs.declared.key.Key.{Key}
use Rattle.signature_provider.specs.Key.{is_key, key_fits, key_content, key_object, key_values, algorithm_identifier, is_elliptic}
use Rattle.cvc_grammar.specs.declared.certificate.CertBody.{CertBody}
use Rattle.cvc_grammar.specs.declared.certificate.Cert.{Cert}
use Rattle.cvc_grammar.specs.Certificate.{profile_object, extensions_text, body_content, body_text, signature_object, cert_text, HasLegalFields, IsLegalCert, is_signature, is_key_of_body, longest_cert}
use Rattle.cvc_grammar.specs.ReadingOrder.{Part, Found, expected, reference_in, date_in, profile_in, key_in, template_in, extensions_in, signature_in, cert_body_in, signed_in, whole, read_cert}
use Rattle.cvc_grammar.specs.Laws.{ReadAfterWrite, OneText, OneCert}
use Rattle.cvc_grammar.proofs.Opened.{opened, ReadAs, reference_read, date_read, one_read}
use Rattle.chat_rights.proofs.Templates.{template_again}
use Rattle.cvc_grammar.proofs.KeyAgain.{key_again, and_both}

-- Bytes with nothing behind them.
pub at_end : (text bytes : List ℕ) → bytes ≡ text → bytes ≡ text ++ []
at_end text bytes e = e ∙ sym (append-nil text)

-- An object is longer than its content.
pub longer : (tag : ℕ) (c : List ℕ) → length c ≤ length (object tag c)
longer tag c = omega (arith, length-append (tag_bytes tag ++ length_bytes (length c)) c)

pub profile_read : (more : List ℕ) (part : Part) → part.bytes ≡ profile_object ++ more → (rest : Part) × (profile_in part ≡ Ok rest) × (rest.bytes ≡ more)
profile_read more part e =
    let o = opened 0x5f29 (0 ∷ []) more part refl (omega arith) e in
    (o.found.rest, rw (o.is_found, o.content_is) refl, o.rest_is)

pub key_read : (k : Key) (more : List ℕ) (part : Part) → IsTrue (is_key k) → IsTrue (key_fits k) → length k.point < 65536 → part.bytes ≡ key_object k ++ more → ReadAs (key_in part) k more
key_read k more part legal fits short e =
    let size : length (key_object k) ≤ 1024 = leb-true _ _ fits in
    let o = opened 0x7f49 (key_content k) more part refl (omega (arith, longer 0x7f49 (key_content k))) e in
    record { rest = o.found.rest; is_read = rw (o.is_found, o.content_is, key_again k legal short, o.size, fits) refl; rest_is = o.rest_is }

template_short : (kind : Kind) (byte : ℕ) → length (object 0x06 (identifier_of kind) ++ object 0x53 (byte ∷ [])) < 65536
template_short Inspection byte = omega arith

template_step : (c : List ℕ) (t : Template) (part : Part) (f : Found) → expected 0x7f4c part ≡ Ok f → f.content.bytes ≡ c → read_template c ≡ Ok t → template_in part ≡ Ok (t, f.rest)
template_step c t part f e s r = rw (e, s, r) refl

template_read : (t : Template) (more : List ℕ) (part : Part) → IsTrue (rights_fit t.kind t.rights) → part.bytes ≡ object 0x7f4c (template_text t) ++ more → ReadAs (template_in part) t more
template_read t more part h e =
    let o = opened 0x7f4c (template_text t) more part refl (template_short t.kind (template_byte t)) e in
    record { rest = o.found.rest; is_read = template_step (template_text t) t part o.found o.is_found o.content_is (template_again t h); rest_is = o.rest_is }

extension_step : (part : Part) (f : Found) (c : List ℕ) → is_empty part.bytes ≡ false → expected 0x65 part ≡ Ok f → f.content.bytes ≡ c → f.rest.bytes ≡ [] → extensions_in part ≡ Ok (Some c)
extension_step part f c full e s r = rw (full, e, r, s) refl

pub extensions_read : (x : Option (List ℕ)) (part : Part) → length (extensions_text x) < 65536 → part.bytes ≡ extensions_text x → extensions_in part ≡ Ok x
extensions_read None part short e = rw e refl
extensions_read (Some c) part short e =
    let o = opened 0x65 c [] part refl (omega (arith, longer 0x65 c)) (at_end (object 0x65 c) part.bytes e) in
    extension_step part o.found c (ap is_empty e) o.is_found o.content_is o.rest_is

signature_step : (part : Part) (f : Found) (c : List ℕ) → expected 0x5f37 part ≡ Ok f → f.content.bytes ≡ c → is_signature c ≡ true → signature_in part ≡ Ok (c, f.rest)
signature_step part f c e s h = rw (e, s, h) refl

pub signature_read : (s more : List ℕ) (part : Part) → IsTrue (is_signature s) → part.bytes ≡ signature_object s ++ more → ReadAs (signature_in part) s more
signature_read s more part h e =
    let o = opened 0x5f37 s more part refl (let parts = and_both (leb 1 (length s)) (leb (length s) 512) h in omega (arith, leb-true (length s) 512 parts.1)) e in
    record { rest = o.found.rest; is_read = signature_step part o.found s o.is_found o.content_is h; rest_is = o.rest_is }

-- ---- the body

pub regrouped : (a b c d e f g h : List ℕ) → a ++ b ++ c ++ d ++ e ++ f ++ g ++ h ≡ a ++ (b ++ (c ++ (d ++ (e ++ (f ++ (g ++ h))))))
regrouped a b c d e f g h = simp append_assoc

-- What else the sizes have to be.
pub record Sizes (b : CertBody) : Type 0 where
  pub point : length b.key.point < 65536
  pub extensions : length (extensions_text b.extensions) < 65536

body_steps : (part : Part) (b : CertBody) (p1 p2 p3 p4 p5 p6 p7 : Part) → profile_in part ≡ Ok p1 → reference_in 0x42 p1 ≡ Ok (b.authority, p2) → key_in p2 ≡ Ok (b.key, p3)
    → reference_in 0x5f20 p3 ≡ Ok (b.holder, p4) → template_in p4 ≡ Ok (b.template, p5) → date_in 0x5f25 p5 ≡ Ok (b.from, p6) → date_in 0x5f24 p6 ≡ Ok (b.until, p7)
    → extensions_in p7 ≡ Ok b.extensions → cert_body_in part ≡ Ok b
body_steps part b p1 p2 p3 p4 p5 p6 p7 e1 e2 e3 e4 e5 e6 e7 e8 = rw (e1, e2, e3, e4, e5, e6, e7, e8) refl

pub body_read : (b : CertBody) (part : Part) → HasLegalFields b → IsTrue (is_key_of_body b) → Sizes b → part.bytes ≡ body_content b → cert_body_in part ≡ Ok b
body_read b part legal key sizes e =
    let x = extensions_text b.extensions in
    let u = object 0x5f24 (date_of b.until) ++ x in
    let f = object 0x5f25 (date_of b.from) ++ u in
    let t = object 0x7f4c (template_text b.template) ++ f in
    let h = object 0x5f20 b.holder ++ t in
    let k = key_object b.key ++ h in
    let a = object 0x42 b.authority ++ k in
    let keys = and_both (is_key b.key) (key_fits b.key) key in
    let start = profile_read a part (e ∙ regrouped profile_object (object 0x42 b.authority) (key_object b.key) (object 0x5f20 b.holder) (object 0x7f4c (template_text b.template)) (object 0x5f25 (date_of b.from)) (object 0x5f24 (date_of b.until)) x) in
    let authority = reference_read 0x42 b.authority k start.0 refl legal.authority start.2 in
    let key_r = key_read b.key h authority.rest keys.0 keys.1 sizes.point authority.rest_is in
    let holder = reference_read 0x5f20 b.holder t key_r.rest refl legal.holder key_r.rest_is in
    let template = template_read b.template f holder.rest legal.rights holder.rest_is in
    let from = date_read 0x5f25 b.from u template.rest refl legal.from template.rest_is in
    let until = date_read 0x5f24 b.until x from.rest refl legal.until from.rest_is in
    let ext = extensions_read b.extensions until.rest sizes.extensions until.rest_is in
    body_steps part b start.0 authority.rest key_r.rest holder.rest template.rest from.rest until.rest start.1 authority.is_read key_r.is_read holder.is_read template.is_read from.is_read until.is_read ext

-- ---- the whole certificate

values_longer : (b : Bool) (d p c : List ℕ) → length p ≤ length (cond b (d ++ object 0x86 p ++ c) p)
values_longer true d p c = omega (arith, length-append (d ++ object 0x86 p) c, length-append d (object 0x86 p), longer 0x86 p)
values_longer false d p c = omega arith

pub point_short : (k : Key) → IsTrue (key_fits k) → length k.point ≤ 1024
point_short k fits =
    omega (
      arith,
      leb-true (length (key_object k)) 1024 fits,
      longer 0x7f49 (key_content k),
      length-append (object 0x06 (algorithm_identifier k.algorithm)) (key_values k),
      values_longer (is_elliptic k.algorithm) k.domain k.point k.cofactor,
    )

pub signed_steps : (part : Part) (f : Found) (s : List ℕ) (rest : Part) → expected 0x7f4e part ≡ Ok f → signature_in f.rest ≡ Ok (s, rest) → rest.bytes ≡ [] → signed_in part ≡ Ok (f.content, s)
signed_steps part f s rest e1 e2 e3 = rw (e1, e2, e3) refl

whole_steps : (bytes : List ℕ) (c : Cert) (f : Found) (body : Part) → leb (length bytes) longest_cert ≡ true → expected 0x7f21 (whole bytes) ≡ Ok f → f.rest.bytes ≡ [] → signed_in f.content ≡ Ok (body, c.signature)
    → cert_body_in body ≡ Ok c.body → read_cert bytes ≡ Ok c
whole_steps bytes c f body e0 e1 e2 e3 e4 = rw (e0, e1, e2, e3, e4) refl

pub cert_again : (c : Cert) → HasLegalFields c.body → IsLegalCert c → read_cert (cert_text c) ≡ Ok c
cert_again c legal can =
    let b = c.body in
    let inner = body_text b ++ signature_object c.signature in
    let all = can.size in
    let inner_size : length inner ≤ 1792 = omega (arith, all, longer 0x7f21 inner) in
    let body_size : length (body_content b) ≤ 1792 = omega (arith, inner_size, length-append (body_text b) (signature_object c.signature), longer 0x7f4e (body_content b)) in
    let keys = and_both (is_key b.key) (key_fits b.key) can.key in
    let before = profile_object ++ object 0x42 b.authority ++ key_object b.key ++ object 0x5f20 b.holder ++ object 0x7f4c (template_text b.template) ++ object 0x5f25 (date_of b.from) ++ object 0x5f24 (date_of b.until) in
    let sizes : Sizes b = record { point = omega (arith, point_short b.key keys.1); extensions = omega (arith, body_size, length-append before (extensions_text b.extensions)) } in
    let o = opened 0x7f21 inner [] (whole (cert_text c)) refl (omega (arith, inner_size)) (sym (append-nil (cert_text c))) in
    let body = opened 0x7f4e (body_content b) (signature_object c.signature) o.found.content refl (omega (arith, body_size)) o.content_is in
    let signature = signature_read c.signature [] body.found.rest can.signature (at_end (signature_object c.signature) body.found.rest.bytes body.rest_is) in
    whole_steps (cert_text c) c o.found body.found.content (le-leb (length (cert_text c)) 1792 all) o.is_found o.rest_is
    (signed_steps o.found.content body.found c.signature signature.rest body.is_found signature.is_read signature.rest_is)
    (body_read b body.found.content legal can.key sizes body.content_is)

pub read_after_write : ReadAfterWrite
read_after_write c bytes is = ap read_cert is.spelling ∙ cert_again c is.fields is.limits

-- ---- one text, one certificate

pub one_text : OneText
one_text c one other p q = p.spelling ∙ sym q.spelling

pub one_cert : OneCert
one_cert c d bytes p q = one_read (read_cert bytes) c d (read_after_write c bytes p) (read_after_write d bytes q)

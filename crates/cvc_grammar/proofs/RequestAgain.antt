-- A request that was written is read.
use Rattle.std.proofs.Common.{◌≡◌, ℕ, ◌<◌, ◌≤◌, true, false, ◌&&◌, leb, eqb, List, [], ◌++◌, length, Ok, Option, Some, None, refl, sym, ap, ◌∙◌, append_assoc, arith}
use Rattle.std.specs.Prelude.{IsTrue, IfSome}
use Rattle.std.proofs.lemmas.List.{length-append, append-nil}
use Rattle.std.proofs.lemmas.Bool.{le-leb, leb-true}
use Rattle.tlv_core.specs.Object.{object, is_tag}
use Rattle.tlv_core.proofs.Objects.{object_again}
use Rattle.holder_reference.specs.Reference.{is_reference}
use Rattle.signature_provider.specs.declared.key.Key.{Key}
use Rattle.signature_provider.specs.Key.{is_key, key_fits, key_content, key_object}
use Rattle.cvc_grammar.specs.declared.request.RequestBody.{RequestBody}
use Rattle.cvc_grammar.specs.declared.request.Outer.{Outer}
use Rattle.cvc_grammar.specs.declared.request.Request.{Request}
use Rattle.cvc_grammar.specs.Certificate.{profile_object, extensions_text, signature_object, is_signature}
use Rattle.cvc_grammar.specs.Request.{authority_text, request_body_content, request_body_text, request_text, longest_request, is_request_key, HasLegalParts, IsLegalRequest}
use Rattle.cvc_grammar.specs.ReadingOrder.{Part, Found, found_in, object_in, expected, profile_in, reference_in, key_in, extensions_in, signature_in, signed_in, whole}
use Rattle.cvc_grammar.specs.RequestOrder.{authority_in, request_key_in, request_body_in, request_in, authenticated_in, read_request}
use Rattle.cvc_grammar.specs.RequestLaws.{ReadAfterWrite, OneText, OneRequest}
use Rattle.cvc_grammar.proofs.Opened.{opened, ReadAs, reference_read, reference_again, one_read}
use Rattle.cvc_grammar.proofs.KeyAgain.{and_both}
use Rattle.cvc_grammar.proofs.CertAgain.{at_end, longer, profile_read, key_read, extensions_read, signature_read, point_short, signed_steps}

object_is : (tag : ℕ) (c more : List ℕ) (part : Part) → IsTrue (is_tag tag) → length c < 65536 → part.bytes ≡ object tag c ++ more → object_in part ≡ Ok (found_in part (record { tag = tag; content = c; rest = more }))
object_is tag c more part known short e = rw (e) (rw (object_again tag c more known short) refl)

-- ---- the body

found_reference : (part : Part) (f : Found) (r : List ℕ) (rest : Part) → object_in part ≡ Ok f → f.tag ≡ 0x42 → reference_in 0x42 part ≡ Ok (r, rest) → authority_in part ≡ Ok (Some r, rest)
found_reference part f r rest e t s = rw (s, e, t) refl

no_reference : (part : Part) (f : Found) → object_in part ≡ Ok f → eqb f.tag 0x42 ≡ false → authority_in part ≡ Ok (None, part)
no_reference part f e t = rw (e, t) refl

authority_read : (a : Option (List ℕ)) (k : Key) (more : List ℕ) (part : Part) → IfSome a (λ r. IsTrue (is_reference r)) → IsTrue (key_fits k) → part.bytes ≡ authority_text a ++ (key_object k ++ more) → ReadAs (authority_in part) a (key_object k ++ more)
authority_read None k more part legal fits e =
    let size : length (key_object k) ≤ 1024 = leb-true _ _ fits in
    let o = object_is 0x7f49 (key_content k) more part refl (omega (arith, longer 0x7f49 (key_content k))) e in
    record { rest = part; is_read = no_reference part _ o refl; rest_is = e }
authority_read (Some r) k more part legal fits e =
    let short = reference_again r legal in
    let o = object_is 0x42 r (key_object k ++ more) part refl short.0 e in
    let read = reference_read 0x42 r (key_object k ++ more) part refl legal e in
    record { rest = read.rest; is_read = found_reference part _ r read.rest o refl read.is_read; rest_is = read.rest_is }

request_key_step : (part : Part) (k : Key) (rest : Part) → key_in part ≡ Ok (k, rest) → is_request_key k ≡ true → request_key_in part ≡ Ok (k, rest)
request_key_step part k rest e h = rw (e, h) refl

body_steps : (part : Part) (b : RequestBody) (p1 p2 p3 p4 : Part) → profile_in part ≡ Ok p1 → authority_in p1 ≡ Ok (b.authority, p2) → request_key_in p2 ≡ Ok (b.key, p3) → reference_in 0x5f20 p3 ≡ Ok (b.holder, p4)
    → extensions_in p4 ≡ Ok b.extensions → request_body_in part ≡ Ok b
body_steps part b p1 p2 p3 p4 e1 e2 e3 e4 e5 = rw (e1, e2, e3, e4, e5) refl

pub regrouped : (a b c d e : List ℕ) → a ++ b ++ c ++ d ++ e ≡ a ++ (b ++ (c ++ (d ++ e)))
regrouped a b c d e = simp append_assoc

body_read : (b : RequestBody) (part : Part) → IfSome b.authority (λ r. IsTrue (is_reference r)) → IsTrue (is_reference b.holder) → IsTrue (is_request_key b.key) → length (extensions_text b.extensions) < 65536
    → part.bytes ≡ request_body_content b → request_body_in part ≡ Ok b
body_read b part legal holder key short e =
    let x = extensions_text b.extensions in
    let h = object 0x5f20 b.holder ++ x in
    let k = key_object b.key ++ h in
    let a = authority_text b.authority ++ k in
    let keys = and_both (is_key b.key && key_fits b.key) _ key in
    let two = and_both (is_key b.key) (key_fits b.key) keys.0 in
    let start = profile_read a part (e ∙ regrouped profile_object (authority_text b.authority) (key_object b.key) (object 0x5f20 b.holder) x) in
    let authority = authority_read b.authority b.key h start.0 legal two.1 start.2 in
    let key_r = key_read b.key h authority.rest two.0 two.1 (let p = point_short b.key two.1 in omega arith) authority.rest_is in
    let holder_r = reference_read 0x5f20 b.holder x key_r.rest refl holder key_r.rest_is in
    let ext = extensions_read b.extensions holder_r.rest short holder_r.rest_is in
    body_steps part b start.0 authority.rest key_r.rest holder_r.rest start.1 authority.is_read (request_key_step authority.rest b.key key_r.rest key_r.is_read key) holder_r.is_read ext

-- ---- the bare request

request_steps : (part body : Part) (b : RequestBody) (inner : List ℕ) (outer : Option Outer) (r : Request) → signed_in part ≡ Ok (body, inner) → request_body_in body ≡ Ok b
    → record { body = b; inner = inner; outer = outer } ≡ r → request_in part outer ≡ Ok r
request_steps part body b inner outer r e1 e2 e3 = rw (e1, e2) (ap (λ (x : Request). Ok x) e3)

bare_read : (r : Request) (part : Part) → IfSome r.body.authority (λ a. IsTrue (is_reference a)) → IsTrue (is_reference r.body.holder) → IsTrue (is_request_key r.body.key) → IsTrue (is_signature r.inner)
    → length (request_body_text r.body ++ signature_object r.inner) ≤ longest_request → part.bytes ≡ request_body_text r.body ++ signature_object r.inner → request_in part r.outer ≡ Ok r
bare_read r part legal holder key inner size e =
    let b = r.body in
    let body_size : length (request_body_content b) ≤ 2304 = omega (arith, size, length-append (request_body_text b) (signature_object r.inner), longer 0x7f4e (request_body_content b)) in
    let before = profile_object ++ authority_text b.authority ++ key_object b.key ++ object 0x5f20 b.holder in
    let o = opened 0x7f4e (request_body_content b) (signature_object r.inner) part refl (omega (arith, body_size)) e in
    let signature = signature_read r.inner [] o.found.rest inner (at_end (signature_object r.inner) o.found.rest.bytes o.rest_is) in
    let body = body_read b o.found.content legal holder key (omega (arith, body_size, length-append before (extensions_text b.extensions))) o.content_is in
    request_steps part o.found.content b r.inner r.outer r (signed_steps part o.found r.inner signature.rest o.is_found signature.is_read signature.rest_is) body refl

-- ---- the whole request

bare_steps : (bytes : List ℕ) (f : Found) (r : Request) → leb (length bytes) longest_request ≡ true → object_in (whole bytes) ≡ Ok f → f.tag ≡ 0x7f21 → f.rest.bytes ≡ [] → request_in f.content None ≡ Ok r → read_request bytes ≡ Ok r
bare_steps bytes f r e0 e1 t n e2 = rw (e0, e1, t, n, e2) refl

outer_steps : (bytes : List ℕ) (f : Found) (r : Request) → leb (length bytes) longest_request ≡ true → object_in (whole bytes) ≡ Ok f → f.tag ≡ 0x67 → f.rest.bytes ≡ [] → authenticated_in f.content ≡ Ok r → read_request bytes ≡ Ok r
outer_steps bytes f r e0 e1 t n e2 = rw (e0, e1, t, n, e2) refl

authenticated_steps : (part : Part) (f : Found) (reference signature : List ℕ) (p q : Part) (r : Request) → expected 0x7f21 part ≡ Ok f → reference_in 0x42 f.rest ≡ Ok (reference, p) → signature_in p ≡ Ok (signature, q) → q.bytes ≡ []
    → request_in f.content (Some (record { reference = reference; signature = signature })) ≡ Ok r → authenticated_in part ≡ Ok r
authenticated_steps part f reference signature p q r e1 e2 e3 n e4 = rw (e1, e2, e3, n, e4) refl

-- An authenticated request's parts.
pub three : (a b c : List ℕ) → a ++ b ++ c ≡ a ++ (b ++ c)
three a b c = append_assoc a b c

request_of : RequestBody → List ℕ → Option Outer → Request
request_of b inner outer = record { body = b; inner = inner; outer = outer }

again : (b : RequestBody) (inner : List ℕ) (outer : Option Outer) → HasLegalParts (request_of b inner outer) → IsLegalRequest (request_of b inner outer) → read_request (request_text (request_of b inner outer)) ≡ Ok (request_of b inner outer)
unfolding request_of
again b inner None legal can =
    let r = request_of b inner None in
    let content = request_body_text b ++ signature_object inner in
    let text = object 0x7f21 content in
    let size = can.size in
    let inner_size : length content ≤ 2304 = omega (arith, size, longer 0x7f21 content) in
    let o = object_is 0x7f21 content [] (whole text) refl (omega (arith, inner_size)) (sym (append-nil text)) in
    let f = found_in (whole text) (record { tag = 0x7f21; content = content; rest = [] }) in
    bare_steps text f r (le-leb (length text) 2304 size) o refl refl (bare_read r f.content legal.body.authority legal.body.holder can.key can.inner inner_size refl)
again b inner (Some w) legal can =
    let r = request_of b inner (Some w) in
    let content = request_body_text b ++ signature_object inner in
    let bare = object 0x7f21 content in
    let signature = signature_object w.signature in
    let parts = bare ++ object 0x42 w.reference ++ signature in
    let text = object 0x67 parts in
    let size = can.size in
    let parts_size : length parts ≤ 2304 = omega (arith, size, longer 0x67 parts) in
    let bare_size : length content ≤ 2304 = omega (arith, parts_size, length-append (bare ++ object 0x42 w.reference) signature, length-append bare (object 0x42 w.reference), longer 0x7f21 content) in
    let o = object_is 0x67 parts [] (whole text) refl (omega (arith, parts_size)) (sym (append-nil text)) in
    let f = found_in (whole text) (record { tag = 0x67; content = parts; rest = [] }) in
    let first = opened 0x7f21 content (object 0x42 w.reference ++ signature) f.content refl (omega (arith, bare_size)) (three bare (object 0x42 w.reference) signature) in
    let reference = reference_read 0x42 w.reference signature first.found.rest refl legal.outer first.rest_is in
    let signed = signature_read w.signature [] reference.rest can.outer (at_end signature reference.rest.bytes reference.rest_is) in
    outer_steps text f r (le-leb (length text) 2304 size) o refl refl
    (authenticated_steps f.content first.found w.reference w.signature reference.rest signed.rest r first.is_found reference.is_read signed.is_read signed.rest_is
    (bare_read r first.found.content legal.body.authority legal.body.holder can.key can.inner bare_size first.content_is))

pub read_after_write : ReadAfterWrite
unfolding request_of
read_after_write r bytes is = ap read_request is.spelling ∙ again r.body r.inner r.outer is.parts is.limits

-- ---- one text, one request

pub one_text : OneText
one_text r one other p q = p.spelling ∙ sym q.spelling

pub one_request : OneRequest
one_request r s bytes p q = one_read (read_request bytes) r s (read_after_write r bytes p) (read_after_write s bytes q)

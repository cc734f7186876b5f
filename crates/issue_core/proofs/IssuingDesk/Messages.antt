-- What is signed, word by word.
use Rattle.std.proofs.Common.{◌≡◌, ℕ, Bool, true, List, [], ◌∷◌, ◌++◌, refl, sym, ap, ◌∙◌, subst}
use Rattle.std.specs.Prelude.{Option, Some, Ok, IsTrue, IfSome}
use Rattle.std.proofs.lemmas.List.{append-nil}
use Rattle.signature_provider.specs.Provider.{PublicKey, Says, Holds, Signed, public_key, viewed_key}
use Rattle.cvc_grammar.specs.declared.request.Request.{Request}
use Rattle.cvc_grammar.specs.declared.request.OuterView.{OuterView}
use Rattle.cvc_grammar.specs.declared.request.RequestView.{RequestView}
use Rattle.cvc_grammar.specs.declared.certificate.CertBody.{CertBody}
use Rattle.cvc_grammar.specs.declared.certificate.Cert.{Cert}
use Rattle.cvc_grammar.specs.Request.{request_body_text, outer_signed}
use Rattle.cvc_grammar.specs.RequestViews.{seen_outer, seen_request, IsRequestView}
use Rattle.cvc_grammar.specs.Certificate.{body_text, is_signature, IsCert}
use Rattle.cvc_grammar.specs.ReadingOrder.{read_cert}
use Rattle.cvc_grammar.specs.RequestOrder.{read_request}
use Rattle.cvc_grammar.proofs.CertAgain.{cert_again}
use Rattle.issue_core.specs.Issuing.Readings.{request_of, cert_of, inner_message, outer_message, cert_message}
use Rattle.issue_core.specs.declared.issuing.signer_row.Signer.{Signer}
use Rattle.issue_core.specs.declared.issuing.voucher_row.Voucher.{Voucher}
use Rattle.issue_core.specs.Issuing.SeenRules.{inner_says, outer_says}
use Rattle.issue_core.specs.Issuing.Calls.{IsSigned}
use Rattle.issue_core.specs.Issuing.Signed.{Pair, SignsMore}

pub reads : (bytes : List ℕ) → read_request bytes ≡ request_of bytes
unfolding request_of
reads bytes = refl

inner_is : (r : Request) → request_body_text r.body ≡ inner_message r
unfolding inner_message
inner_is r = refl

outer_is : (r : Request) (reference : List ℕ) → outer_signed r reference ≡ outer_message r reference
unfolding outer_message
outer_is r reference = refl

body_is : (b : CertBody) → body_text b ≡ cert_message b
unfolding cert_message
body_is b = refl

-- ---- verdicts, over the bytes that came

-- a view is one of the bytes that it shows
pub view_itself : (bytes : List ℕ) (v : RequestView) → IsRequestView bytes v → IsRequestView v.whole.now v
view_itself bytes v is = subst (λ (x : List ℕ). IsRequestView x v) (sym is.whole) is

pub inner_asked : (says : Says) (v : RequestView) → IsRequestView v.whole.now v → (b : Bool) → b ≡ says (viewed_key v.key) (v.body.now ++ []) v.inner.now → b ≡ inner_says says (seen_request v)
inner_asked says v is b e = e ∙ (λ i. says (viewed_key v.key) ((append-nil v.body.now ∙ is.body ∙ inner_is (seen_request v)) i) v.inner.now)

pub outer_asked : (says : Says) (v : RequestView) (o : OuterView) (w : Voucher) (key : PublicKey) (b : Bool) → v.bare.now ++ o.named.now ≡ outer_signed (seen_request v) o.reference → b ≡ says key (v.bare.now ++ o.named.now) o.signature.now → key ≡ public_key w.key → b ≡ outer_says says (seen_request v) (seen_outer o) w
outer_asked says v o w key b is e k = e ∙ (λ i. says (k i) ((is ∙ outer_is (seen_request v) o.reference) i) o.signature.now)

-- where there is an outer signature, these are the bytes that it is over
pub outer_over : (v : RequestView) (o : OuterView) → IsRequestView v.whole.now v → v.outer ≡ Some o → v.bare.now ++ o.named.now ≡ outer_signed (seen_request v) o.reference
outer_over v o is some = subst (λ (x : Option OuterView). IfSome x (λ q. v.bare.now ++ q.named.now ≡ outer_signed (seen_request v) q.reference)) some is.outer

-- ---- the certificate's signature

pub signed_is : (says : Says) (held : Holds) (s : Signer) (body : CertBody) (key : PublicKey) (message signature : List ℕ) → IsTrue (is_signature signature) → says key message signature ≡ true → held key ≡ true → key ≡ public_key s.key → message ≡ body_text body → IsSigned says held s body signature
signed_is says held s body key message signature size good is_held k m = record {
  size = size;
  good = (λ i. says (sym k i) (sym (m ∙ body_is body) i) signature) ∙ good;
  is_held = ap held (sym k) ∙ is_held;
}

-- the pair that was signed
pub signed_once : (signed : Signed × Signed) (s : Signer) (body : CertBody) (key : PublicKey) (message : List ℕ) → SignsMore signed ((key, message) ∷ []) → key ≡ public_key s.key → message ≡ body_text body → SignsMore signed ((public_key s.key, cert_message body) ∷ [])
signed_once signed s body key message more k m = subst (λ (p : Pair). SignsMore signed (p ∷ [])) (λ i. (k i, (m ∙ body_is body) i)) more

-- what was written is read
pub read_again : (c : Cert) (bytes : List ℕ) → IsCert c bytes → cert_of bytes ≡ Ok c
unfolding cert_of
read_again c bytes is = ap read_cert is.spelling ∙ cert_again c is.fields is.limits

-- Certificate requests, bare and authenticated: the one text of each (BSI TR-03110-3, certificate requests,
-- authenticated requests). The limit in bytes is this project's own.
use Rattle.std.specs.Prelude.{◌≡◌, ℕ, ◌≤◌, List, [], ◌++◌, length, Bool, ◌&&◌, ◌||◌, not, IsTrue, Option, Some, None, IfSome}
use Rattle.tlv_core.specs.Object.{object}
use Rattle.holder_reference.specs.Reference.{is_reference}
use Rattle.signature_provider.specs.Key.{key_object, is_key, key_fits, is_elliptic, has_domain}
use Rattle.signature_provider.specs.declared.key.Key.{Key}
use Rattle.cvc_grammar.specs.declared.request.RequestBody.{RequestBody}
use Rattle.cvc_grammar.specs.declared.request.Outer.{Outer}
use Rattle.cvc_grammar.specs.declared.request.Request.{Request}
use Rattle.cvc_grammar.specs.Certificate.{profile_object, extensions_text, signature_object, is_signature}

-- ---- texts

abbrev pub authority_text : Option (List ℕ) → List ℕ
authority_text None = []
authority_text (Some reference) = object 0x42 reference

abbrev pub request_body_content : RequestBody → List ℕ
request_body_content b = profile_object ++ authority_text b.authority ++ key_object b.key ++ object 0x5f20 b.holder
    ++ extensions_text b.extensions

-- What the inner signature is over: the whole body object.
abbrev pub request_body_text : RequestBody → List ℕ
request_body_text b = object 0x7f4e (request_body_content b)

-- The request without an outer part.
abbrev pub bare_text : Request → List ℕ
bare_text r = object 0x7f21 (request_body_text r.body ++ signature_object r.inner)

-- What an outer signature is over: the whole bare request and the whole object of the reference behind it.
abbrev pub outer_signed : Request → List ℕ → List ℕ
outer_signed r reference = bare_text r ++ object 0x42 reference

abbrev pub with_outer : Request → Option Outer → List ℕ
with_outer r None = bare_text r
with_outer r (Some o) = object 0x67 (outer_signed r o.reference ++ signature_object o.signature)

abbrev pub request_text : Request → List ℕ
request_text r = with_outer r r.outer

-- ---- limits

abbrev pub longest_request : ℕ
longest_request = 2304

-- In a request an elliptic key has its domain.
abbrev pub is_request_key : Key → Bool
is_request_key k = is_key k && key_fits k && (not (is_elliptic k.algorithm) || has_domain k)

-- What the types of its parts say of a request's body, and of a request.
pub record HasLegalReferences (b : RequestBody) : Type 0 where
  pub authority : IfSome b.authority (λ a. IsTrue (is_reference a))
  pub holder : IsTrue (is_reference b.holder)

pub record HasLegalParts (r : Request) : Type 0 where
  pub body : HasLegalReferences r.body
  pub outer : IfSome r.outer (λ o. IsTrue (is_reference o.reference))

-- What no type says of them, and what a writer asks for: of a body, of what is written without the outer part, of the
-- whole.
pub record IsLegalRequestBody (b : RequestBody) : Type 0 where
  pub key : IsTrue (is_request_key b.key)
  pub size : length (request_body_text b) ≤ longest_request

pub record IsLegalBare (r : Request) : Type 0 where
  pub key : IsTrue (is_request_key r.body.key)
  pub inner : IsTrue (is_signature r.inner)
  pub size : length (bare_text r) ≤ longest_request

pub record IsLegalRequest (r : Request) : Type 0 where
  pub key : IsTrue (is_request_key r.body.key)
  pub inner : IsTrue (is_signature r.inner)
  pub outer : IfSome r.outer (λ o. IsTrue (is_signature o.signature))
  pub size : length (request_text r) ≤ longest_request

-- ---- the bytes are the text of this request

pub record IsRequest (r : Request) (bytes : List ℕ) : Type 0 where
  pub parts : HasLegalParts r
  pub limits : IsLegalRequest r
  pub spelling : bytes ≡ request_text r

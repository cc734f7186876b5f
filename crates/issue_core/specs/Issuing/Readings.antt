-- What the bytes of requests and certificates say, each word by itself (BSI TR-03110-3, CV certificates and certificate
-- requests).
use Rattle.std.specs.Prelude.{ℕ, List, [], Option, Some, None, Result, Ok, Err}
use Rattle.cvc_grammar.specs.declared.request.Request.{Request}
use Rattle.cvc_grammar.specs.declared.certificate.Cert.{Cert}
use Rattle.cvc_grammar.specs.declared.certificate.CertBody.{CertBody}
use Rattle.cvc_grammar.specs.declared.refusal.CvcRefusal.{CvcRefusal}
use Rattle.cvc_grammar.specs.RequestOrder.{read_request}
use Rattle.cvc_grammar.specs.ReadingOrder.{read_cert}
use Rattle.cvc_grammar.specs.Request.{request_body_text, outer_signed}
use Rattle.cvc_grammar.specs.Certificate.{body_text}

-- ---- reading

-- the request that the bytes are, or why they are none
unfoldable pub request_of : List ℕ → Result Request CvcRefusal
request_of bytes = read_request bytes

unfoldable pub cert_of : List ℕ → Result Cert CvcRefusal
cert_of bytes = read_cert bytes

-- the request number: the reference of the new key
abbrev pub number_in : Result Request CvcRefusal → List ℕ
number_in (Ok r) = r.body.holder
number_in (Err e) = []

abbrev pub number_of : List ℕ → List ℕ
number_of bytes = number_in (request_of bytes)

abbrev pub body_in : Result Cert CvcRefusal → Option CertBody
body_in (Ok c) = Some c.body
body_in (Err e) = None

-- the body of a certificate's bytes
abbrev pub body_of : List ℕ → Option CertBody
body_of bytes = body_in (cert_of bytes)

-- ---- what is signed

-- the inner signature of a request is over its whole body object
unfoldable pub inner_message : Request → List ℕ
inner_message r = request_body_text r.body

-- the outer one is over the bare request and the whole object of the reference that signs
unfoldable pub outer_message : Request → List ℕ → List ℕ
outer_message r reference = outer_signed r reference

-- a certificate's signature is over its whole body object
unfoldable pub cert_message : CertBody → List ℕ
cert_message body = body_text body

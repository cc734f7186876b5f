-- What the bytes of certificates and requests say, and what is signed of them, each word by itself (BSI TR-03110-3, CV
-- certificates and certificate requests).
use Rattle.std.specs.Prelude.{ℕ, List, Result}
use Rattle.cvc_grammar.specs.declared.request.Request.{Request}
use Rattle.cvc_grammar.specs.declared.certificate.Cert.{Cert}
use Rattle.cvc_grammar.specs.declared.certificate.CertBody.{CertBody}
use Rattle.cvc_grammar.specs.declared.refusal.CvcRefusal.{CvcRefusal}
use Rattle.cvc_grammar.specs.RequestOrder.{read_request}
use Rattle.cvc_grammar.specs.ReadingOrder.{read_cert}
use Rattle.cvc_grammar.specs.Request.{request_body_text, outer_signed}
use Rattle.cvc_grammar.specs.Certificate.{body_text}
use Rattle.keeper.specs.declared.rows.Settled.{Settled}

-- the certificate that the bytes are, or why they are none
unfoldable pub cert_of : List ℕ → Result Cert CvcRefusal
cert_of bytes = read_cert bytes

unfoldable pub request_of : List ℕ → Result Request CvcRefusal
request_of bytes = read_request bytes

-- a certificate's signature is over its whole body object
unfoldable pub cert_message : CertBody → List ℕ
cert_message body = body_text body

-- the inner signature of a request is over its whole body object
unfoldable pub inner_message : Request → List ℕ
inner_message r = request_body_text r.body

-- the outer one is over the bare request and the whole object of the reference that signs
unfoldable pub outer_message : Request → List ℕ → List ℕ
outer_message r reference = outer_signed r reference

-- what a row settles by a certificate
abbrev pub settled_of : List ℕ → CertBody → Settled
settled_of bytes b = record { certificate = bytes; issuer = b.authority; template = b.template; from = b.from; until = b.until }

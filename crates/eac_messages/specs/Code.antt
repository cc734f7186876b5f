-- Return codes (after BSI TR-03129; their texts are this project's own).
use Rattle.std.specs.Prelude.{ℕ, List, [], ◌∷◌, Bool, true, false, Option, Some, None, if◌then◌else◌, codes}
use Rattle.std.specs.Str.{bytes_eq}
use Rattle.eac_messages.specs.declared.code.Code.{Code}
use Rattle.eac_messages.specs.declared.code.Code.TheVariants as kinds

abbrev pub code_text : Code → List ℕ
code_text kinds.CertAvailable = codes "ok_cert_available"
code_text kinds.Received = codes "ok_received"
code_text kinds.Syntax = codes "failure_syntax"
code_text kinds.NotAccepted = codes "failure_request_not_accepted"
code_text kinds.Expired = codes "failure_expired"
code_text kinds.Domain = codes "failure_domain_parameters"
code_text kinds.Inner = codes "failure_inner_signature"
code_text kinds.Outer = codes "failure_outer_signature"
code_text kinds.Internal = codes "failure_internal_error"

abbrev pub all_codes : List Code
all_codes =
    kinds.CertAvailable ∷ kinds.Received ∷ kinds.Syntax ∷ kinds.NotAccepted ∷ kinds.Expired ∷ kinds.Domain ∷ kinds.Inner
    ∷ kinds.Outer ∷ kinds.Internal ∷ []

-- The code with this text.
abbrev pub code_among : List Code → List ℕ → Option Code
code_among [] text = None
code_among (code ∷ others) text = if bytes_eq text (code_text code) then Some code else code_among others text

abbrev pub code_named : List ℕ → Option Code
code_named text = code_among all_codes text

-- The one code under which a reply has certificates.
abbrev pub carries_certificates : Code → Bool
carries_certificates kinds.CertAvailable = true
carries_certificates kinds.Received = false
carries_certificates kinds.Syntax = false
carries_certificates kinds.NotAccepted = false
carries_certificates kinds.Expired = false
carries_certificates kinds.Domain = false
carries_certificates kinds.Inner = false
carries_certificates kinds.Outer = false
carries_certificates kinds.Internal = false

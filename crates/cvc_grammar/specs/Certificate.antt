-- Card-verifiable certificates: the one text of each (BSI TR-03110-3, CV certificates, certificate profile). The limits
-- in bytes are this project's own.
use Rattle.std.specs.Prelude.{◌≡◌, ℕ, ◌≤◌, List, [], ◌∷◌, ◌++◌, length, Bool, ◌&&◌, IsTrue, Option, Some, None}
use Rattle.eac_base.specs.Bytes.{is_within}
use Rattle.tlv_core.specs.Object.{object}
use Rattle.holder_reference.specs.Reference.{is_reference}
use Rattle.cv_dates.specs.Calendar.{date_of, last_day}
use Rattle.chat_rights.specs.Kinds.{rights_fit}
use Rattle.chat_rights.specs.Template.{template_text}
use Rattle.signature_provider.specs.Key.{key_object, is_key, key_fits}
use Rattle.cvc_grammar.specs.declared.certificate.CertBody.{CertBody}
use Rattle.cvc_grammar.specs.declared.certificate.Cert.{Cert}

-- ---- texts

-- Version 1 of the profile.
abbrev pub profile_object : List ℕ
profile_object = object 0x5f29 (0x00 ∷ [])

abbrev pub extensions_text : Option (List ℕ) → List ℕ
extensions_text None = []
extensions_text (Some content) = object 0x65 content

abbrev pub body_content : CertBody → List ℕ
body_content b = profile_object ++ object 0x42 b.authority ++ key_object b.key ++ object 0x5f20 b.holder
    ++ object 0x7f4c (template_text b.template) ++ object 0x5f25 (date_of b.from) ++ object 0x5f24 (date_of b.until)
    ++ extensions_text b.extensions

-- What the signature is over: the whole body object.
abbrev pub body_text : CertBody → List ℕ
body_text b = object 0x7f4e (body_content b)

abbrev pub signature_object : List ℕ → List ℕ
signature_object s = object 0x5f37 s

abbrev pub cert_text : Cert → List ℕ
cert_text c = object 0x7f21 (body_text c.body ++ signature_object c.signature)

-- ---- limits

abbrev pub longest_cert : ℕ
longest_cert = 1792

abbrev pub longest_signature : ℕ
longest_signature = 512

abbrev pub is_signature : List ℕ → Bool
is_signature s = is_within 1 longest_signature (length s)

abbrev pub is_key_of_body : CertBody → Bool
is_key_of_body b = is_key b.key && key_fits b.key

-- What the types of its parts say of a body.
pub record HasLegalFields (b : CertBody) : Type 0 where
  pub authority : IsTrue (is_reference b.authority)
  pub holder : IsTrue (is_reference b.holder)
  pub rights : IsTrue (rights_fit b.template.kind b.template.rights)
  pub from : b.from ≤ last_day
  pub until : b.until ≤ last_day

-- What no type says of a body, and what a writer asks for: the key is in the grammar and within its limit, and so is
-- the text of the body.
pub record IsLegalBody (b : CertBody) : Type 0 where
  pub key : IsTrue (is_key_of_body b)
  pub size : length (body_text b) ≤ longest_cert

-- The same of a certificate.
pub record IsLegalCert (c : Cert) : Type 0 where
  pub key : IsTrue (is_key_of_body c.body)
  pub signature : IsTrue (is_signature c.signature)
  pub size : length (cert_text c) ≤ longest_cert

-- ---- the bytes are the text of this body, of this certificate

pub record IsBody (b : CertBody) (bytes : List ℕ) : Type 0 where
  pub fields : HasLegalFields b
  pub limits : IsLegalBody b
  pub spelling : bytes ≡ body_text b

pub record IsCert (c : Cert) (bytes : List ℕ) : Type 0 where
  pub fields : HasLegalFields c.body
  pub limits : IsLegalCert c
  pub spelling : bytes ≡ cert_text c

-- The order in which a certificate is read: the value, or the first step that fails. Which step comes before which is
-- this project's own; the objects are those of BSI TR-03110-3, certificate profile.
use Rattle.std.specs.Prelude.{ℕ, ◌+◌, ◌-◌, List, [], ◌∷◌, length, nat_le, ◌==◌, if◌then◌else◌, Option, Some, None, Result, Ok}
use Rattle.std.specs.Str.{bytes_eq}
use Rattle.eac_base.specs.Bytes.{is_empty}
use Rattle.eac_base.specs.Answers.{◌>>=◌, ◌>>◌, unless, refused_as, some_or}
use Rattle.tlv_core.specs.Object.{first_object, First}
use Rattle.holder_reference.specs.Reference.{read_reference}
use Rattle.cv_dates.specs.Calendar.{read_date}
use Rattle.chat_rights.specs.Template.{read_template}
use Rattle.chat_rights.specs.declared.Template.{Template}
use Rattle.signature_provider.specs.declared.key.Key.{Key}
use Rattle.cvc_grammar.specs.declared.refusal.ObjectFault.TheVariants as faults
use Rattle.cvc_grammar.specs.declared.refusal.CvcRefusal.{CvcRefusal}
use Rattle.cvc_grammar.specs.declared.refusal.CvcRefusal.TheVariants as refusals
use Rattle.cvc_grammar.specs.declared.certificate.CertBody.{CertBody}
use Rattle.cvc_grammar.specs.declared.certificate.Cert.{Cert}
use Rattle.cvc_grammar.specs.KeyObject.{read_key}
use Rattle.cvc_grammar.specs.Certificate.{longest_cert, is_signature}

-- ---- parts of the input, each with the place of its first byte in the whole input

pub record Part : Type 0 where
  pub place : ℕ
  pub bytes : List ℕ

abbrev pub whole : List ℕ → Part
whole bytes = record { place = 0; bytes = bytes }

-- The first object of a part: its tag, its content and what follows it.
pub record Found : Type 0 where
  pub tag : ℕ
  pub content : Part
  pub rest : Part

abbrev pub Step : Type 0 → Type 0
Step A = Result A CvcRefusal

-- A value that was read, and what follows it.
abbrev pub Read : Type 0 → Type 0
Read A = Result (A × Part) CvcRefusal

abbrev pub found_in : Part → First → Found
found_in part o = let after = part.place + (length part.bytes - length o.rest) in
    record {
      tag = o.tag;
      content = record { place = after - length o.content; bytes = o.content };
      rest = record { place = after; bytes = o.rest };
    }

abbrev pub object_in : Part → Step Found
object_in part = do
  o ← refused_as (λ e. refusals.Object part.place (faults.Tlv e)) (first_object part.bytes)
  Ok (found_in part o)

-- An object of this tag.
abbrev pub expected : ℕ → Part → Step Found
expected tag part = do
  o ← object_in part
  unless (o.tag == tag) (refusals.Object part.place faults.OtherTag)
  Ok o

abbrev pub nothing_in : Part → Step (Unit {0})
nothing_in part = unless (is_empty part.bytes) refusals.Trailing

-- ---- the objects of a body

abbrev pub profile_in : Part → Step Part
profile_in part = do
  o ← expected 0x5f29 part
  unless (bytes_eq o.content.bytes (0x00 ∷ [])) refusals.Profile
  Ok o.rest

abbrev pub reference_in : ℕ → Part → Read (List ℕ)
reference_in tag part = do
  o ← expected tag part
  reference ← refused_as refusals.Reference (read_reference o.content.bytes)
  Ok (reference, o.rest)

-- The whole object has at most 1,024 bytes.
abbrev pub key_in : Part → Read Key
key_in part = do
  o ← expected 0x7f49 part
  key ← some_or (read_key o.content.bytes) refusals.Key
  unless (nat_le (o.rest.place - part.place) 1024) refusals.Key
  Ok (key, o.rest)

abbrev pub template_in : Part → Read Template
template_in part = do
  o ← expected 0x7f4c part
  template ← refused_as refusals.Template (read_template o.content.bytes)
  Ok (template, o.rest)

abbrev pub date_in : ℕ → Part → Read ℕ
date_in tag part = do
  o ← expected tag part
  day ← refused_as refusals.Date (read_date o.content.bytes)
  Ok (day, o.rest)

-- Where bytes are left, the extensions and nothing else.
abbrev pub extensions_in : Part → Step (Option (List ℕ))
extensions_in part = if is_empty part.bytes then Ok None else do
  o ← expected 0x65 part
  nothing_in o.rest
  Ok (Some o.content.bytes)

abbrev pub cert_body_in : Part → Step CertBody
cert_body_in part = do
  start ← profile_in part
  authority ← reference_in 0x42 start
  key ← key_in authority.1
  holder ← reference_in 0x5f20 key.1
  template ← template_in holder.1
  from ← date_in 0x5f25 template.1
  until ← date_in 0x5f24 from.1
  extensions ← extensions_in until.1
  Ok (record {
    authority = authority.0;
    key = key.0;
    holder = holder.0;
    template = template.0;
    from = from.0;
    until = until.0;
    extensions = extensions;
  })

-- ---- a body and its signature

abbrev pub signature_in : Part → Read (List ℕ)
signature_in part = do
  o ← expected 0x5f37 part
  unless (is_signature o.content.bytes) (refusals.Object part.place faults.Size)
  Ok (o.content.bytes, o.rest)

-- The body's content and the signature, and nothing behind it.
abbrev pub signed_in : Part → Step (Part × List ℕ)
signed_in part = do
  body ← expected 0x7f4e part
  signature ← signature_in body.rest
  nothing_in signature.1
  Ok (body.content, signature.0)

-- The body is opened last: what stands around it is judged first.
abbrev pub signed_cert_in : Part → Step Cert
signed_cert_in part = do
  signed ← signed_in part
  body ← cert_body_in signed.0
  Ok (record { body = body; signature = signed.1 })

abbrev pub read_cert : List ℕ → Step Cert
read_cert bytes = do
  unless (nat_le (length bytes) longest_cert) refusals.TooLong
  o ← expected 0x7f21 (whole bytes)
  nothing_in o.rest
  signed_cert_in o.content

-- ---- the refusals by number

abbrev pub refusal_number : CvcRefusal → ℕ
refusal_number refusals.TooLong = 1
refusal_number (refusals.Object place fault) = 2
refusal_number refusals.Profile = 3
refusal_number refusals.Key = 4
refusal_number (refusals.Reference e) = 5
refusal_number (refusals.Template e) = 6
refusal_number (refusals.Date e) = 7
refusal_number refusals.Trailing = 8

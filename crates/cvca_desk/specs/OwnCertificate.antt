-- An authority's own certificate for a new key (BSI TR-03110-3, CV certificates and link certificates).
use Rattle.std.specs.Prelude.{◌≡◌, ℕ, List, [], ◌∷◌, ◌++◌, Option, Some, None, Ok, true}
use Rattle.chat_rights.specs.declared.Kind.TheVariants.{Inspection}
use Rattle.chat_rights.specs.declared.Role.TheVariants.{Cvca}
use Rattle.chat_rights.specs.declared.Template.{Template}
use Rattle.signature_provider.specs.Provider.{PublicKey, Says, Holds, MakesKey, public_key}
use Rattle.signature_provider.specs.declared.key.Key.{Key}
use Rattle.cvc_grammar.specs.Certificate.{IsCert}
use Rattle.cvc_grammar.specs.declared.certificate.Cert.{Cert}
use Rattle.cvc_grammar.specs.declared.certificate.CertBody.{CertBody}
use Rattle.keeper.specs.declared.rows.Row.{Row}
use Rattle.keeper.specs.declared.rows.Part.TheVariants as part
use Rattle.holder_core.specs.Readings.{cert_of, cert_message, settled_of}
use Rattle.holder_core.specs.Signers.{Signer}
use Rattle.cvca_desk.specs.declared.due.Due.{Due}

-- ---- who signs: an own row, or for the first certificate the new key itself

abbrev pub issuer_of : List ℕ → Option Signer → List ℕ
issuer_of reference (Some s) = s.reference
issuer_of reference None = reference

abbrev pub signing_key : Key → Option Signer → PublicKey
signing_key key (Some s) = public_key s.key
signing_key key None = public_key key

-- ---- what is certified

abbrev pub own_template : Due → Template
own_template d = record { kind = Inspection; role = Cvca; rights = d.terms.rights }

abbrev pub own_body : Due → Key → CertBody
own_body d key = record {
  authority = issuer_of d.reference d.by;
  key = key;
  holder = d.reference;
  template = own_template d;
  from = d.days.0;
  until = d.days.1;
  extensions = None;
}

-- The certificate that is due for a new key of its form: its body is as due, and signed as the provider says, with a key
-- that it holds.
pub record IsOwnCertificate (says : Says) (held holds : Holds) (d : Due) (key : Key) (bytes : List ℕ) : Type 0 where
  pub made : MakesKey held holds d.form key
  pub cert : Cert
  pub text : IsCert cert bytes
  pub read : cert_of bytes ≡ Ok cert
  pub body : cert.body ≡ own_body d key
  pub good : says (signing_key key d.by) (cert_message (own_body d key)) cert.signature ≡ true
  pub signs : holds (signing_key key d.by) ≡ true

-- ---- its row: it has no request, and is asked from the authority itself

abbrev pub own_row : (desk : ℕ) → Due → (bytes : List ℕ) → Key → Row
own_row desk d bytes key = record {
  desk = desk;
  reference = d.reference;
  part = part.Own (record {
    authority = d.terms.holder;
    request = [];
    key = key;
    settled = Some (settled_of bytes (own_body d key));
  });
}

-- ---- one call

-- What is due was made.
pub record OwnMade (says : Says) (held holds : Holds) (due : Option Due) : Type 0 where
  pub d : Due
  pub due_is : due ≡ Some d
  pub key : Key
  pub bytes : List ℕ
  pub certificate : IsOwnCertificate says held holds d key bytes

-- It was made and its row was added. The answer has its reference.
pub record WritesOwn {A : Type 0} (New : List ℕ → A) (says : Says) (held holds : Holds) (desk : ℕ) (due : Option Due) (before : List Row) (answer : A) (after : List Row) : Type 0 where
  pub made : OwnMade says held holds due
  pub answer_is : answer ≡ New made.d.reference
  pub rows : after ≡ before ++ own_row desk made.d made.bytes made.key ∷ []

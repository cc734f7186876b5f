-- The making of an own certificate.
use Rattle.std.proofs.Common.{◌≡◌, ◌⊎◌, inl, inr, ℕ, ◌≤◌, List, [], ◌∷◌, ◌++◌, length, Option, Some, None, Bool, true, false, cond, refl, sym, ap, ◌∙◌, subst}
use Rattle.std.specs.Prelude.{IsTrue, Result, Ok, Err}
use Rattle.tlv_core.specs.Object.{object}
use Rattle.signature_provider.specs.Provider.{PublicKey, Says, Holds, HoldsMore, Signed, MakesKey, public_key}
use Rattle.signature_provider.specs.declared.key.Key.{Key}
use Rattle.signature_provider.specs.declared.key.KeyForm.{KeyForm}
use Rattle.cvc_grammar.specs.declared.certificate.Cert.{Cert}
use Rattle.cvc_grammar.specs.declared.certificate.CertBody.{CertBody}
use Rattle.cvc_grammar.specs.Certificate.{signature_object, body_text, cert_text, longest_cert, IsBody, IsCert, IsLegalCert}
use Rattle.holder_core.specs.Readings.{cert_message}
use Rattle.holder_core.specs.Signers.{Signer, missing_of}
use Rattle.holder_core.specs.Signing.{Pair, SignsMore, IsSignature, ProviderCause}
use Rattle.holder_core.specs.declared.fault.HolderFault.{HolderFault}
use Rattle.holder_core.specs.declared.fault.HolderFault.TheVariants as fault
use Rattle.cvca_desk.specs.declared.due.Due.{Due}
use Rattle.cvca_desk.specs.declared.making.MadeOwn.{MadeOwn}
use Rattle.cvca_desk.specs.OwnCertificate.{signing_key, own_body, IsOwnCertificate}
use Rattle.cvca_desk.specs.Signing.{own_pair, SignsPair}
use Rattle.cvca_desk.specs.Entering.{IsCertified, SignsBody, IsMadeOwn, Makes}
use Rattle.cvca_desk.proofs.Messages.{body_is, read_again}

-- ---- a body is certified

abbrev pub cert_with : CertBody → List ℕ → Cert
cert_with b signature = record { body = b; signature = signature }

-- the bytes that were written are within the limit of a certificate
pub finish_size : (b : CertBody) (text bytes signature kept : List ℕ) → IsBody b text → bytes ≡ text → kept ≡ signature → IsLegalCert (cert_with b signature) → length (object 0x7f21 (bytes ++ signature_object kept)) ≤ longest_cert
finish_size b text bytes signature kept is same again legal =
    subst (λ (x : List ℕ). length (object 0x7f21 (x ++ signature_object kept)) ≤ longest_cert) (sym (same ∙ is.spelling))
    (subst (λ (x : List ℕ). length (object 0x7f21 (body_text b ++ signature_object x)) ≤ longest_cert) (sym again) legal.size)

body_of : (b : CertBody) (text bytes : List ℕ) → IsBody b text → bytes ≡ text → IsBody b bytes
body_of b text bytes is same = subst (λ (x : List ℕ). IsBody b x) (sym same) is

pub certified : (says : Says) (holds : Holds) (by : Option Signer) (b : CertBody) (text bytes message signature kept whole : List ℕ) → IsBody b text → bytes ≡ text → message ≡ text → kept ≡ signature → IsSignature says holds (signing_key b.key by) message signature → ((c : Cert) → IsBody c.body bytes → c.signature ≡ kept → IsCert c whole) → IsCertified says holds by b whole
certified says holds by b text bytes message signature kept whole is same read again s cert = record {
  cert = cert_with b signature;
  text = cert (cert_with b signature) (body_of b text bytes is same) (sym again);
  body = refl;
  good = (λ i. says (signing_key b.key by) (sym (read ∙ is.spelling ∙ body_is b) i) signature) ∙ s.good;
  signs = s.is_held;
}

pub signed_body : (signed : Signed × Signed) (by : Option Signer) (b : CertBody) (text message : List ℕ) → IsBody b text → message ≡ text → SignsMore signed ((signing_key b.key by, message) ∷ []) → SignsMore signed ((signing_key b.key by, cert_message b) ∷ [])
signed_body signed by b text message is read more = subst (λ (x : List ℕ). SignsMore signed ((signing_key b.key by, x) ∷ [])) (read ∙ is.spelling ∙ body_is b) more

-- ---- the key to sign with

by_held : (a b : Bool) (s r : List ℕ) → (IsTrue a → IsTrue b) → cond b None (Some s) ≡ Some r → cond a None (Some s) ≡ Some r
by_held true true s r m e = absurd (cc)
by_held false true s r m e = absurd (cc)
by_held false false s r m e = e
by_held true false s r m e = let no : false ≡ true = m refl in absurd (cc)

-- a key that is missing now was missing before
pub missed_before : (held later : Holds) → HoldsMore held later → (by : Option Signer) (r : List ℕ) → missing_of later by ≡ Some r → missing_of held by ≡ Some r
missed_before held later more None r e = absurd (cc)
missed_before held later more (Some s) r e = by_held (held (public_key s.key)) (later (public_key s.key)) s.reference r (more (public_key s.key)) e

-- ---- the whole

pub still_made : (held mid holds : Holds) (form : KeyForm) (k : Key) → HoldsMore mid holds → MakesKey held mid form k → MakesKey held holds form k
still_made held mid holds form k more m = record {
  algorithm = m.algorithm;
  domain = m.domain;
  cofactor = m.cofactor;
  legal = m.legal;
  now_held = more (public_key k) m.now_held;
  new_point = m.new_point;
}

made_at : (says : Says) (held holds : Holds) (signed : Signed × Signed) (d : Due) (k : Key) (bytes : List ℕ) → MakesKey held holds d.form k → IsCertified says holds d.by (own_body d k) bytes → SignsMore signed (own_pair d k ∷ []) → IsMadeOwn says held holds signed d (record { text = bytes; key = k })
made_at says held holds signed d k bytes made c more = record {
  certificate = record {
    made = made;
    cert = c.cert;
    text = c.text;
    read = read_again c.cert bytes c.text;
    body = c.body;
    good = c.good;
    signs = c.signs;
  };
  more = more;
}

more_signed : (first : Signed) (signed : Signed × Signed) (pairs : List Pair) → signed.0 ≡ first → SignsMore signed pairs → SignsMore (first, signed.1) pairs
more_signed first signed pairs same more = subst (λ (x : Signed). SignsMore (x, signed.1) pairs) same more

-- what a body that is due signed is its pair
pair_of : (signed : Signed × Signed) (d : Due) (k : Key) (b : CertBody) → b ≡ own_body d k → SignsMore signed ((signing_key b.key d.by, cert_message b) ∷ []) → SignsMore signed (own_pair d k ∷ [])
pair_of signed d k b is more = subst (λ (x : CertBody). SignsMore signed ((signing_key x.key d.by, cert_message x) ∷ [])) is more

pub own_made : (says : Says) (held mid holds : Holds) (first : Signed) (signed : Signed × Signed) (d : Due) (k : Key) (b : CertBody) (bytes : List ℕ) → MakesKey held mid d.form k → HoldsMore mid holds → signed.0 ≡ first → b ≡ own_body d k → IsCertified says holds d.by b bytes → SignsMore signed ((signing_key b.key d.by, cert_message b) ∷ []) → IsMadeOwn says held holds (first, signed.1) d (record { text = bytes; key = b.key })
own_made says held mid holds first signed d k b bytes made more same is c s =
    subst (λ (x : Key). IsMadeOwn says held holds (first, signed.1) d (record { text = bytes; key = x })) (sym (ap (λ (x : CertBody). x.key) is))
    (made_at says held holds (first, signed.1) d k bytes (still_made held mid holds d.form k more made)
    (subst (λ (x : CertBody). IsCertified says holds d.by x bytes) is c)
    (more_signed first signed (own_pair d k ∷ []) same (pair_of signed d k b is s)))

-- the body wasn't certified
pub unmade_cert : (T : Type 0) (says : Says) (held mid holds : Holds) (first : Signed) (signed : Signed × Signed) (d : Due) (k : Key) (b : CertBody) (missing : List ℕ → Type 0) (before now : ℕ) (f : HolderFault) → MakesKey held mid d.form k → HoldsMore mid holds → signed.0 ≡ first → b ≡ own_body d k → SignsBody {T = T} signed d.by b (Err f) → ProviderCause missing f before now → Makes says held holds (first, signed.1) d (Err f)
unmade_cert T says held mid holds first signed d k b missing before now fault.NoMemory made more same is (inl s) c = inl (s ∙ same)
unmade_cert T says held mid holds first signed d k b missing before now fault.NoMemory made more same is (inr s) c = inr (record {
  key = k;
  made = still_made held mid holds d.form k more made;
  more = more_signed first signed (own_pair d k ∷ []) same (pair_of signed d k b is s);
})
unmade_cert T says held mid holds first signed d k b missing before now fault.ProviderFault made more same is s c = s ∙ same
unmade_cert T says held mid holds first signed d k b missing before now (fault.NoKey r) made more same is s c = s ∙ same
unmade_cert T says held mid holds first signed d k b missing before now fault.KeeperFault made more same is s c = absurd c

pub unmade_again : (T : Type 0) (says : Says) (held mid holds : Holds) (first : Signed) (signed : Signed × Signed) (d : Due) (k : Key) (b : CertBody) (missing : List ℕ → Type 0) (before now : ℕ) (f : HolderFault) (r : Result MadeOwn HolderFault) → r ≡ Err f → MakesKey held mid d.form k → HoldsMore mid holds → signed.0 ≡ first → b ≡ own_body d k → SignsBody {T = T} signed d.by b (Err f) → ProviderCause missing f before now → Makes says held holds (first, signed.1) d r
unmade_again T says held mid holds first signed d k b missing before now f r was made more same is s c =
    subst (λ (x : Result MadeOwn HolderFault). Makes says held holds (first, signed.1) d x) (sym was) (unmade_cert T says held mid holds first signed d k b missing before now f made more same is s c)

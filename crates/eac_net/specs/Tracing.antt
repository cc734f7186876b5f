-- Where each body comes from that the provider says is signed (this project's own).
use Rattle.std.specs.Prelude.{◌≡◌, ◌⊎◌, ℕ, List, [], Some, true, false, Contains}
use Rattle.std.specs.List.{All}
use Rattle.signature_provider.specs.Provider.{PublicKey, public_key}
use Rattle.cvc_grammar.specs.declared.certificate.Cert.{Cert}
use Rattle.cvc_grammar.specs.declared.certificate.CertBody.{CertBody}
use Rattle.cvc_grammar.specs.Certificate.{IsCert, body_text}
use Rattle.keeper.specs.declared.rows.Row.{Row}
use Rattle.keeper.specs.declared.rows.Settled.{Settled}
use Rattle.keeper.specs.declared.rows.OwnPart.{OwnPart}
use Rattle.keeper.specs.declared.rows.Part.{Part}
use Rattle.keeper.specs.declared.rows.Part.TheVariants as part
use Rattle.keeper.specs.Rows.{is_settled, with_settled}
use Rattle.issue_core.specs.Issuing.Signed.{Pair}
use Rattle.eac_net.specs.Verdicts.{Verdict}

-- ---- certificates that desks made and keep

-- the desk's own row of this reference has this key
pub record IsOwnKey (rows : List Row) (desk : ℕ) (reference : List ℕ) (key : PublicKey) : Type 0 where
  pub row : Row
  pub own : OwnPart
  pub among : Contains rows row
  pub desk_is : row.desk ≡ desk
  pub reference_is : row.reference ≡ reference
  pub part_is : row.part ≡ part.Own own
  pub key_is : public_key own.key ≡ key

-- an own row of an authority: it is settled, and was made without a request
pub record IsUnasked (own : OwnPart) (bytes : List ℕ) : Type 0 where
  pub settled : Settled
  pub bare : own.request ≡ []
  pub settled_is : own.settled ≡ Some settled
  pub bytes_are : settled.certificate ≡ bytes

-- the certificate that a desk made and keeps in a row
abbrev pub Keeps : Part → List ℕ → Type 0
Keeps (part.Issued p) bytes = p.settled.certificate ≡ bytes
Keeps (part.Own own) bytes = IsUnasked own bytes
Keeps (part.Register r d) bytes = ⊥
Keeps (part.Ca p) bytes = ⊥

-- A desk made a certificate with this body and keeps it, and this is the key of that desk's own row that the body names.
pub record IsKept (rows : List Row) (key : PublicKey) (body : CertBody) : Type 0 where
  pub row : Row
  pub bytes : List ℕ
  pub cert : Cert
  pub among : Contains rows row
  pub kept : Keeps row.part bytes
  pub text : IsCert cert bytes
  pub body_is : cert.body ≡ body
  pub signer : IsOwnKey rows row.desk body.authority key

-- Each row stays as it is, but that an own row that waits may be settled.
abbrev pub Stay : List Row → List Row → Type 0
Stay before after = (row : Row) → Contains before row
    → Contains after row ⊎ ((settled : Settled) × (is_settled row.part ≡ false) × Contains after (with_settled settled row))

-- ---- what was signed

-- Whatever certificate has this message as its body's text: a desk made and keeps one with that body, under this key; or
-- the pair is one of those that no row was added for.
abbrev pub Traced : List Row → List Pair → Pair → Type 0
Traced rows lost pair = (cert : Cert) (bytes : List ℕ) → IsCert cert bytes → pair.1 ≡ body_text cert.body
    → IsKept rows pair.0 cert.body ⊎ Contains lost pair

abbrev pub AllTraced : List Row → List Pair → List Pair → Type 0
AllTraced rows lost pairs = All (Traced rows lost) pairs

-- a yes on a body is traced
abbrev pub IsTracedYes : List Row → List Pair → Verdict → Type 0
IsTracedYes rows lost v = v.yes ≡ true → Traced rows lost (v.question.key, v.question.message)

-- What a call of an issuing desk signed, where the rows are told (this project's own).
use Rattle.std.specs.Prelude.{◌≡◌, ◌⊎◌, ℕ, List, [], ◌∷◌, ◌++◌, Option, Some, None, option_map, Result, Ok, Err, IfSome, true}
use Rattle.signature_provider.specs.Provider.{PublicKey, Says, Holds, Signed, public_key}
use Rattle.cvc_grammar.specs.declared.certificate.Cert.{Cert}
use Rattle.cvc_grammar.specs.declared.certificate.CertBody.{CertBody}
use Rattle.cvc_grammar.specs.Certificate.{IsCert}
use Rattle.keeper.specs.declared.rows.Row.{Row}
use Rattle.ledger.specs.Ledger.{Outcome, Issued, Kept, Refused, Faulted, NoMemory, faces, kept_for}
use Rattle.ledger.specs.Story.{Decides}
use Rattle.issue_core.specs.Issuing.Readings.{request_of, cert_message}
use Rattle.issue_core.specs.declared.issuing.signer_row.Signer.{Signer}
use Rattle.issue_core.specs.Issuing.Rules.{Case, first_rule}
use Rattle.issue_core.specs.Issuing.Due.{due}
use Rattle.issue_core.specs.Issuing.Desk.{issuing, is_signed, Fault, KeeperFailed, ProviderFailed, KeyMissing}
use Rattle.issue_core.specs.Issuing.Rows.{entries_at, AreReadable, left_row}
use Rattle.issue_core.specs.Issuing.Calls.{delivery, is_held, signer_in, NamesKey}
use Rattle.issue_core.specs.declared.rule.Rule.{Rule}
use Rattle.issue_core.specs.declared.fault.IssueFault.{IssueFault}
use Rattle.issue_core.specs.declared.fault.IssueFault.TheVariants as fault

-- ---- pairs

-- a key and a message
abbrev pub Pair : Type 0
Pair = PublicKey × List ℕ

-- these pairs were signed, one after another, where what was signed is told before and after
abbrev pub SignsMore : Signed × Signed → List Pair → Type 0
SignsMore signed pairs = signed.1 ≡ option_map (λ (before : List Pair). before ++ pairs) signed.0

-- The pair that is due: the request is to be answered with a certificate, and these are the key of the row that signs and
-- the text of the body that is due.
pub record IsDuePair (c : Case) (before : List Row) (pair : Pair) : Type 0 where
  pub new : kept_for issuing (entries_at c.desk before) c.bytes ≡ None
  pub allowed : first_rule (faces issuing (entries_at c.desk before)) c ≡ None
  pub signer : Signer
  pub body : CertBody
  pub signer_is : signer_in c (request_of c.bytes) ≡ Some signer
  pub due_is : due c ≡ Some body
  pub named : body.authority ≡ signer.reference
  pub key : pair.0 ≡ public_key signer.key
  pub message : pair.1 ≡ cert_message body

-- ---- one delivery

-- A certificate was left: it has the body that is due, and that pair alone was signed.
pub record SignsLeft (c : Case) (before : List Row) (left : List ℕ) (signed : Signed × Signed) : Type 0 where
  pub pair : Pair
  pub is_due : IsDuePair c before pair
  pub cert : Cert
  pub body_is : cert.body ≡ is_due.body
  pub text : IsCert cert left
  pub more : SignsMore signed (pair ∷ [])

-- the outcomes after which what was signed may have no row
abbrev pub MayLose : Outcome (List ℕ) Rule Fault → Type 0
MayLose (Issued p) = ⊥
MayLose (Kept p) = ⊥
MayLose (Refused k) = ⊥
MayLose (Faulted KeeperFailed) = Unit {0}
MayLose (Faulted ProviderFailed) = ⊥
MayLose (Faulted (KeyMissing reference)) = ⊥
MayLose NoMemory = Unit {0}

-- The pair that is due was signed, and no row was added.
pub record SignsLost (c : Case) (before : List Row) (o : Outcome (List ℕ) Rule Fault) (signed : Signed × Signed) : Type 0 where
  pub pair : Pair
  pub is_due : IsDuePair c before pair
  pub may : MayLose o
  pub more : SignsMore signed (pair ∷ [])

-- what a delivery of this case with this outcome signed, by the certificate that it left
abbrev pub SignsDue : Case → List Row → Option (List ℕ) → Outcome (List ℕ) Rule Fault → Signed × Signed → Type 0
SignsDue c before (Some p) o signed = SignsLeft c before p signed
SignsDue c before None o signed = (signed.1 ≡ signed.0) ⊎ SignsLost c before o signed

-- What was signed in a delivery that leads from these rows to those: the pair of the row that it added, or one that is lost
-- with a fault of the keeper or want of memory, or nothing.
pub record SignsServed (c : Case) (o : Outcome (List ℕ) Rule Fault) (signed : Signed × Signed) (before after : List Row) : Type 0 where
  pub left : Option (List ℕ)
  pub rows : after ≡ before ++ left_row c.desk c.bytes left
  pub pairs : SignsDue c before left o signed

-- A delivery with what was signed in it, by one certificate that it left: `Serves` and `SignsServed` at once.
pub record Delivers (says : Says) (holds : Holds) (signed : Signed × Signed) (c : Case) (o : Outcome (List ℕ) Rule Fault) (k p : ℕ × ℕ) (before after : List Row) : Type 0 where
  pub left : Option (List ℕ)
  pub decides : Decides issuing (is_signed says) (entries_at c.desk before) (delivery c o left k p (is_held holds c))
  pub rows : after ≡ before ++ left_row c.desk c.bytes left
  pub signs : IfSome left (λ p. is_held holds c ≡ true)
  pub pairs : SignsDue c before left o signed
  pub names : NamesKey c o
  pub readable : AreReadable before → AreReadable after

-- ---- the making

-- one signing: this pair, or nothing
abbrev pub SignsOnce : {T E : Type 0} → Signed × Signed → Pair → Result T E → Type 0
SignsOnce signed pair (Ok x) = SignsMore signed (pair ∷ [])
SignsOnce signed pair (Err e) = signed.1 ≡ signed.0

-- A making that failed signed nothing, or memory was wanting after it had signed this pair.
abbrev pub Unmade : IssueFault → Signed × Signed → Pair → Type 0
Unmade e signed pair = (signed.1 ≡ signed.0) ⊎ ((e ≡ fault.NoMemory) × SignsMore signed (pair ∷ []))

abbrev pub MakeSigns : {T : Type 0} → Signed × Signed → Pair → Result T IssueFault → Type 0
MakeSigns signed pair (Ok made) = SignsMore signed (pair ∷ [])
MakeSigns signed pair (Err e) = Unmade e signed pair

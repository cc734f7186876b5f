-- One call of an issuing desk: one delivery, with the desk's issued rows before it as the earlier entries (this project's
-- own).
use Rattle.std.specs.Prelude.{◌≡◌, ◌⊎◌, ℕ, ◌≤◌, List, [], ◌∷◌, ◌++◌, length, Option, Some, None, Result, Ok, Err, IfSome, IsTrue, Bool, true, false, if◌then◌else◌}
use Rattle.std.specs.Str.{bytes_eq}
use Rattle.signature_provider.specs.Provider.{Says, Holds, public_key}
use Rattle.cvc_grammar.specs.declared.request.Request.{Request}
use Rattle.cvc_grammar.specs.declared.certificate.Cert.{Cert}
use Rattle.cvc_grammar.specs.declared.certificate.CertBody.{CertBody}
use Rattle.cvc_grammar.specs.Certificate.{is_signature, longest_cert, IsCert}
use Rattle.cvc_grammar.specs.declared.refusal.CvcRefusal.{CvcRefusal}
use Rattle.policy_limits.specs.Setup.{SetupValue}
use Rattle.policy_limits.specs.declared.registration.Registration.{Registration}
use Rattle.keeper.specs.declared.rows.Row.{Row}
use Rattle.keeper.specs.declared.rows.Part.{Part}
use Rattle.keeper.specs.declared.rows.Part.TheVariants as part
use Rattle.keeper.specs.declared.rows.Table.TheVariants as table
use Rattle.keeper.specs.declared.keeping.KeepRefusal.{KeepRefusal}
use Rattle.keeper.specs.declared.keeping.KeepRefusal.TheVariants as refusal
use Rattle.keeper.specs.Rows.{rows_of}
use Rattle.keeper.specs.Keeping.{MayAdd}
use Rattle.ledger.specs.Ledger.{Outcome, Issued, Kept, Refused, Faulted, NoMemory, faces}
use Rattle.ledger.specs.Story.{Decides}
use Rattle.issue_core.specs.Issuing.Readings.{request_of, cert_of, cert_message}
use Rattle.issue_core.specs.declared.issuing.signer_row.Signer.{Signer}
use Rattle.issue_core.specs.Issuing.Rules.{Case, Issue, signer, registered}
use Rattle.issue_core.specs.Issuing.Due.{due_body}
use Rattle.issue_core.specs.Issuing.Desk.{issuing, is_signed, Fault, KeeperFailed, ProviderFailed, KeyMissing, IssueDelivery}
use Rattle.issue_core.specs.Issuing.Rows.{entries_at, settled_of, AreReadable, left_row}
use Rattle.issue_core.specs.Issuing.SeenRules.{inner_says, outer_said, voucher_for}
use Rattle.issue_core.specs.declared.rule.Rule.{Rule}
use Rattle.issue_core.specs.declared.rule.Rule.TheVariants as rule
use Rattle.issue_core.specs.declared.fault.IssueFault.{IssueFault}
use Rattle.issue_core.specs.declared.fault.IssueFault.TheVariants as fault
use Rattle.issue_core.specs.declared.issuing.making.Made.{Made}
use Rattle.issue_core.specs.declared.issuing.serving.Call.{Call}
use Rattle.issue_core.specs.declared.issuing.serving.Answer.{Answer}
use Rattle.issue_core.specs.declared.issuing.serving.Answer.TheVariants as answer

-- ---- the case of a call

abbrev pub inner_said : Says → Result Request CvcRefusal → Bool
inner_said says (Ok r) = inner_says says r
inner_said says (Err e) = false

abbrev pub outer_bit : Says → List Issue → Case → Result Request CvcRefusal → Bool
outer_bit says es c (Ok r) = outer_said says r r.outer (voucher_for es c r r.outer (registered c r))
outer_bit says es c (Err e) = false

-- without its verdicts
abbrev pub bare_case : SetupValue → (desk day : ℕ) → List ℕ → List Row → Case
bare_case setup desk day bytes rows = record {
  setup = setup;
  desk = desk;
  own = rows_of table.Own desk rows;
  cas = rows_of table.Ca desk rows;
  day = day;
  bytes = bytes;
  inner = false;
  outer = false;
}

-- with what the provider says of the two signatures, asked or not
abbrev pub case_of : Says → SetupValue → (desk day : ℕ) → List ℕ → List Row → Case
case_of says setup desk day bytes rows =
    let c : Case = bare_case setup desk day bytes rows in
    record c { inner = inner_said says (request_of bytes); outer = outer_bit says (faces issuing (entries_at desk rows)) c (request_of bytes) }

-- this is the case of a call, whatever rows and verdicts it has
pub record IsCaseOf (c : Case) (call : Call) : Type 0 where
  pub setup : c.setup ≡ call.setup.now
  pub desk : c.desk ≡ call.desk
  pub day : c.day ≡ call.day
  pub bytes : c.bytes ≡ call.bytes.now

-- ---- the key to sign with

abbrev pub signer_held : Holds → Option Signer → Bool
signer_held holds (Some s) = holds (public_key s.key)
signer_held holds None = true

abbrev pub held_in : Holds → Case → Result Request CvcRefusal → Bool
held_in holds c (Ok r) = signer_held holds (signer c r)
held_in holds c (Err e) = true

-- whether the provider holds it; where there is none nothing is missing
abbrev pub is_held : Holds → Case → Bool
is_held holds c = held_in holds c (request_of c.bytes)

abbrev pub signer_in : Case → Result Request CvcRefusal → Option Signer
signer_in c (Ok r) = signer c r
signer_in c (Err e) = None

-- a key that is missing is told by the reference of its row
abbrev pub NamesKey : Case → Outcome (List ℕ) Rule Fault → Type 0
NamesKey c (Faulted (KeyMissing reference)) = (s : Signer) × (signer_in c (request_of c.bytes) ≡ Some s) × (s.reference ≡ reference)
NamesKey c (Faulted KeeperFailed) = Unit {0}
NamesKey c (Faulted ProviderFailed) = Unit {0}
NamesKey c (Issued p) = Unit {0}
NamesKey c (Kept p) = Unit {0}
NamesKey c (Refused k) = Unit {0}
NamesKey c NoMemory = Unit {0}

-- ---- one delivery

abbrev pub delivery : Case → Outcome (List ℕ) Rule Fault → Option (List ℕ) → ℕ × ℕ → ℕ × ℕ → Bool → IssueDelivery
delivery c o left k p held = record { case_of = c; outcome = o; left = left; keeper = k; provider = p; held = held }

-- A delivery of this case with this outcome leads from these rows to those. The provider says what the certificate's
-- signature needs, and held these keys before; the counts are those of the keeper and of the provider, before and after.
pub record Serves (says : Says) (holds : Holds) (c : Case) (o : Outcome (List ℕ) Rule Fault) (k p : ℕ × ℕ) (before after : List Row) : Type 0 where
  pub left : Option (List ℕ)
  pub decides : Decides issuing (is_signed says) (entries_at c.desk before) (delivery c o left k p (is_held holds c))
  pub rows : after ≡ before ++ left_row c.desk c.bytes left
  -- nothing is left under a key that isn't held
  pub signs : IfSome left (λ p. is_held holds c ≡ true)
  pub names : NamesKey c o
  pub readable : AreReadable before → AreReadable after

abbrev pub outcome_of : Result Answer IssueFault → Outcome (List ℕ) Rule Fault
outcome_of (Ok (answer.Issued p)) = Issued p
outcome_of (Ok (answer.Kept p)) = Kept p
outcome_of (Ok (answer.Refused k)) = Refused k
outcome_of (Err fault.KeeperFault) = Faulted KeeperFailed
outcome_of (Err fault.ProviderFault) = Faulted ProviderFailed
outcome_of (Err (fault.NoKey reference)) = Faulted (KeyMissing reference)
outcome_of (Err fault.NoMemory) = NoMemory

-- ---- answers by cases

-- what is answered where the reference has a row
abbrev pub kept_answer : Part → List ℕ → Answer
kept_answer (part.Issued p) bytes = if bytes_eq p.request bytes then answer.Kept p.settled.certificate else answer.Refused rule.Used
kept_answer (part.Register r d) bytes = answer.Refused rule.Used
kept_answer (part.Own p) bytes = answer.Refused rule.Used
kept_answer (part.Ca p) bytes = answer.Refused rule.Used

-- What is answered to an adding, as any keeper may answer it: that the key is there, by its row; that the table is full,
-- as the rule that says so.
abbrev pub added_answer : {U : Type 0} → Result U KeepRefusal → (certificate bytes : List ℕ) → Result Answer IssueFault
added_answer (Ok u) certificate bytes = Ok (answer.Issued certificate)
added_answer (Err (refusal.Twice kept)) certificate bytes = Ok (kept_answer kept.part bytes)
added_answer (Err refusal.Full) certificate bytes = Ok (answer.Refused rule.Full)
added_answer (Err refusal.Failed) certificate bytes = Err fault.KeeperFault
added_answer (Err refusal.Absent) certificate bytes = Err fault.NoMemory
added_answer (Err refusal.NoMemory) certificate bytes = Err fault.NoMemory

-- ---- the making

-- a body was signed, with a key that was held before
pub record IsSigned (says : Says) (held : Holds) (s : Signer) (body : CertBody) (signature : List ℕ) : Type 0 where
  pub size : IsTrue (is_signature signature)
  pub good : says (public_key s.key) (cert_message body) signature ≡ true
  pub is_held : held (public_key s.key) ≡ true

-- a certificate that was made, with a key that is held
pub record IsMade (says : Says) (held : Bool) (r : Request) (g : Registration) (s : Signer) (days : ℕ × ℕ) (made : Made) : Type 0 where
  pub cert : Cert
  pub text : IsCert cert made.text
  pub read : cert_of made.text ≡ Ok cert
  pub body : cert.body ≡ due_body r g s days
  pub signed : says (public_key s.key) (cert_message cert.body) cert.signature ≡ true
  pub settled : made.settled ≡ settled_of made.text cert.body
  pub is_held : held ≡ true
  pub size : length made.text ≤ longest_cert

-- ---- the adding, where the caller has looked

abbrev pub Enters : List Row → List Row → Row → List ℕ → Result Answer IssueFault → Type 0
Enters before after row certificate (Ok (answer.Issued p)) = (p ≡ certificate) × (after ≡ before ++ row ∷ [])
Enters before after row certificate (Ok (answer.Kept p)) = MayAdd before row → ⊥
Enters before after row certificate (Ok (answer.Refused k)) = MayAdd before row → ⊥
Enters before after row certificate (Err fault.KeeperFault) = (after ≡ before) ⊎ (after ≡ before ++ row ∷ [])
Enters before after row certificate (Err fault.NoMemory) = after ≡ before
Enters before after row certificate (Err fault.ProviderFault) = ⊥
Enters before after row certificate (Err (fault.NoKey r)) = ⊥

-- Why an answer came, for every keeper, whether it tells its rows or not (this project's own).
use Rattle.std.specs.Prelude.{◌≡◌, ◌⊎◌, ℕ, List, Option, Some, None, Result, Ok, Err, IfOk, IfSome, true, false, if◌then◌else◌}
use Rattle.std.specs.List.{All}
use Rattle.holder_reference.specs.Reference.{holder_part}
use Rattle.signature_provider.specs.Provider.{Says, Holds, public_key}
use Rattle.cvc_grammar.specs.declared.request.Request.{Request}
use Rattle.cvc_grammar.specs.declared.request.Outer.{Outer}
use Rattle.cvc_grammar.specs.declared.certificate.Cert.{Cert}
use Rattle.policy_limits.specs.Validity.{validity, minimum_days}
use Rattle.policy_limits.specs.declared.registration.Registration.{Registration}
use Rattle.policy_limits.specs.declared.registration.First.{First}
use Rattle.keeper.specs.declared.rows.Row.{Row}
use Rattle.keeper.specs.declared.rows.Table.TheVariants as table
use Rattle.keeper.specs.Rows.{table_of}
use Rattle.keeper.specs.Keeping.{IsAsked, IsDeskRow, IsHolderRow}
use Rattle.issue_core.specs.Issuing.Readings.{request_of, cert_of, cert_message}
use Rattle.issue_core.specs.declared.issuing.signer_row.Signer.{Signer}
use Rattle.issue_core.specs.declared.issuing.voucher_row.Voucher.{Voucher}
use Rattle.issue_core.specs.Issuing.Rules.{Case, signers, newest, registered, not_registered, or_else, is_home}
use Rattle.issue_core.specs.Issuing.Due.{due_body}
use Rattle.issue_core.specs.Issuing.Looks.{signer_at, issued_for, ca_in, HolderSeen}
use Rattle.issue_core.specs.Issuing.SeenRules.{first_seen, verdict_rule}
use Rattle.issue_core.specs.Issuing.Calls.{kept_answer}
use Rattle.issue_core.specs.declared.rule.Rule.{Rule}
use Rattle.issue_core.specs.declared.rule.Rule.TheVariants as rule
use Rattle.issue_core.specs.declared.fault.IssueFault.{IssueFault}
use Rattle.issue_core.specs.declared.issuing.seen.Held.{Held}
use Rattle.issue_core.specs.declared.issuing.seen.Seen.{Seen}
use Rattle.issue_core.specs.declared.issuing.serving.Answer.{Answer}
use Rattle.issue_core.specs.declared.issuing.serving.Answer.TheVariants as answer

-- ---- rows as they were asked for. There are such rows: that this keeper gave them isn't said, but where its rows are told.

-- some row under the request's number, as a look or an adding may give it, is answered so
pub record RowAnswers (c : Case) (a : Answer) : Type 0 where
  pub request : Request
  pub read : request_of c.bytes ≡ Ok request
  pub row : Row
  pub asked : IsAsked table.Issued c.desk request.body.holder row
  pub says : a ≡ kept_answer row.part c.bytes

-- the row that signs is the own row under the reference that the request names
pub record NamedSigns (desk : ℕ) (reference : List ℕ) (signer : Option Signer) : Type 0 where
  pub found : Option Row
  pub found_asked : IfSome found (IsAsked table.Own desk reference)
  pub signer_is : signer ≡ signer_at found

-- where it names none, the newest of the desk's own rows
pub record NewestSigns (desk : ℕ) (signer : Option Signer) : Type 0 where
  pub rows : List Row
  pub rows_asked : All (IsDeskRow table.Own desk) rows
  pub signer_is : signer ≡ newest (signers rows)

abbrev pub SignsAs : (desk : ℕ) → Option (List ℕ) → Option Signer → Type 0
SignsAs desk (Some reference) signer = NamedSigns desk reference signer
SignsAs desk None signer = NewestSigns desk signer

-- what vouches is an issued row of this holder under the reference that signs, else the row of its home authority
pub record VouchesAs (desk : ℕ) (first : First) (holder reference : List ℕ) (voucher : Option Voucher) : Type 0 where
  pub issued : Option Row
  pub issued_asked : IfSome issued (IsAsked table.Issued desk reference)
  pub ca : Option Row
  pub ca_asked : IfSome ca (IsAsked table.Ca desk reference)
  pub voucher_is : voucher ≡ or_else (issued_for holder issued) (if is_home first reference then ca_in ca else None)

abbrev pub OuterVouchesAs : (desk : ℕ) → First → (holder : List ℕ) → Option Outer → Option Voucher → Type 0
OuterVouchesAs desk first holder outer voucher = IfSome outer (λ o. VouchesAs desk first holder o.reference voucher)

-- how many issued rows of the holder there are, and how many of them haven't expired
pub record HeldAs (desk day : ℕ) (holder : List ℕ) (held : Held) : Type 0 where
  pub rows : List Row
  pub rows_asked : All (IsHolderRow table.Issued desk holder) rows
  pub counted : HolderSeen day rows held

-- this may be seen of rows that are as was asked for
pub record IsSeenAsked (desk day : ℕ) (r : Request) (g : Registration) (seen : Seen) : Type 0 where
  pub signs : SignsAs desk r.body.authority seen.signer
  pub vouches : OuterVouchesAs desk g.first (holder_part r.body.holder) r.outer seen.voucher
  pub held : HeldAs desk day (holder_part r.body.holder) seen.held

-- ---- how far the call came

-- the request was read, and its holder is registered
pub record IsAdmitted (c : Case) (r : Request) (g : Registration) : Type 0 where
  pub read : request_of c.bytes ≡ Ok r
  pub found : registered c r ≡ Some g
  pub active : g.suspended ≡ false

-- the request is of a registered holder, and this may be seen of the rows for it
pub record HasSeen (c : Case) (r : Request) (g : Registration) (seen : Seen) : Type 0 where
  pub admitted : IsAdmitted c r g
  pub asked : IsSeenAsked c.desk c.day r g seen

-- no rule is broken, by what was seen and by the verdicts
pub record IsCleared (said : Says) (c : Case) (r : Request) (g : Registration) (seen : Seen) : Type 0 where
  pub saw : HasSeen c r g seen
  pub unbroken : first_seen c.day r g seen ≡ None
  pub agreed : verdict_rule said r seen.voucher ≡ None

-- this certificate may be made
pub record MayMake (said : Says) (c : Case) (r : Request) (g : Registration) (s : Signer) (days : ℕ × ℕ) : Type 0 where
  pub seen : Seen
  pub cleared : IsCleared said c r g seen
  pub signer_is : seen.signer ≡ Some s
  pub dates : validity c.day g.days s.settled.until (minimum_days g.role) ≡ Some days

-- ---- why an answer came

pub record NotRegistered (c : Case) : Type 0 where
  pub request : Request
  pub read : request_of c.bytes ≡ Ok request
  pub unregistered : not_registered (registered c request) ≡ true

-- the first of the rules 4 to 12, by what was seen
pub record SeenBreaks (c : Case) (k : Rule) : Type 0 where
  pub request : Request
  pub registration : Registration
  pub seen : Seen
  pub saw : HasSeen c request registration seen
  pub first : first_seen c.day request registration seen ≡ Some k

-- none of them, and a verdict of this call is no
pub record VerdictBreaks (said : Says) (c : Case) (k : Rule) : Type 0 where
  pub request : Request
  pub registration : Registration
  pub seen : Seen
  pub saw : HasSeen c request registration seen
  pub unbroken : first_seen c.day request registration seen ≡ None
  pub first : verdict_rule said request seen.voucher ≡ Some k

-- no rule is broken, so that only the keeper's word to the adding can say that there is no room
pub record AddingBreaks (said : Says) (c : Case) : Type 0 where
  pub request : Request
  pub registration : Registration
  pub signer : Signer
  pub days : ℕ × ℕ
  pub may : MayMake said c request registration signer days

abbrev pub RefusalCause : Says → Case → Rule → Type 0
RefusalCause said c (rule.Syntax e) = request_of c.bytes ≡ Err e
RefusalCause said c rule.Used = RowAnswers c (answer.Refused rule.Used)
RefusalCause said c rule.Holder = NotRegistered c
RefusalCause said c rule.Authority = SeenBreaks c rule.Authority
RefusalCause said c rule.AuthorityExpired = SeenBreaks c rule.AuthorityExpired
RefusalCause said c rule.Domain = SeenBreaks c rule.Domain
RefusalCause said c rule.OuterMissing = SeenBreaks c rule.OuterMissing
RefusalCause said c rule.OuterUnknown = SeenBreaks c rule.OuterUnknown
RefusalCause said c rule.OuterExpired = SeenBreaks c rule.OuterExpired
RefusalCause said c rule.LiveLimit = SeenBreaks c rule.LiveLimit
RefusalCause said c rule.Short = SeenBreaks c rule.Short
RefusalCause said c rule.Full = SeenBreaks c rule.Full ⊎ AddingBreaks said c
RefusalCause said c rule.Inner = VerdictBreaks said c rule.Inner
RefusalCause said c rule.Outer = VerdictBreaks said c rule.Outer

-- the certificate that is due, signed with a key that was held
pub record IsMadeFor (said says : Says) (holds : Holds) (c : Case) (p : List ℕ) : Type 0 where
  pub request : Request
  pub registration : Registration
  pub signer : Signer
  pub days : ℕ × ℕ
  pub may : MayMake said c request registration signer days
  pub cert : Cert
  pub read : cert_of p ≡ Ok cert
  pub body : cert.body ≡ due_body request registration signer days
  pub signed : says (public_key signer.key) (cert_message cert.body) cert.signature ≡ true
  pub is_held : holds (public_key signer.key) ≡ true

-- The verdicts are those before the call; the certificate's signature is good after it, by a key that was held before it.
abbrev pub AnswerCause : (said says : Says) → Holds → Case → Answer → Type 0
AnswerCause said says holds c (answer.Issued p) = IsMadeFor said says holds c p
AnswerCause said says holds c (answer.Kept p) = RowAnswers c (answer.Kept p)
AnswerCause said says holds c (answer.Refused k) = RefusalCause said c k

-- why a call answered, where it did
abbrev pub Answered : (said says : Says) → Holds → Case → Result Answer IssueFault → Type 0
Answered said says holds c result = IfOk result (AnswerCause said says holds c)

-- ---- the adding

-- some row under this row's key is answered so
pub record StandsAs (row : Row) (bytes : List ℕ) (a : Answer) : Type 0 where
  pub kept : Row
  pub asked : IsAsked (table_of row.part) row.desk row.reference kept
  pub says : a ≡ kept_answer kept.part bytes

-- what may be answered to the adding of a row, whatever keeper is asked
abbrev pub AddingSays : Row → (certificate bytes : List ℕ) → Answer → Type 0
AddingSays row certificate bytes (answer.Issued p) = p ≡ certificate
AddingSays row certificate bytes (answer.Kept p) = StandsAs row bytes (answer.Kept p)
AddingSays row certificate bytes (answer.Refused k) = StandsAs row bytes (answer.Refused k) ⊎ (k ≡ rule.Full)

-- What is known before each step of a call of an issuing desk: one field for each way that the call can end there or go
-- on (this project's own).
use Rattle.std.specs.Prelude.{◌≡◌, ℕ, ◌<◌, List, length, Some, None, Ok, Err, true, false}
use Rattle.signature_provider.specs.Provider.{Says}
use Rattle.cvc_grammar.specs.declared.request.Request.{Request}
use Rattle.cvc_grammar.specs.declared.refusal.CvcRefusal.{CvcRefusal}
use Rattle.policy_limits.specs.declared.registration.Registration.{Registration}
use Rattle.keeper.specs.declared.rows.Row.{Row}
use Rattle.keeper.specs.declared.rows.Table.TheVariants as table
use Rattle.keeper.specs.Rows.{row_at, rows_of, most_rows}
use Rattle.ledger.specs.Ledger.{faces, kept_for, IsUnused}
use Rattle.issue_core.specs.Issuing.Readings.{request_of}
use Rattle.issue_core.specs.declared.issuing.signer_row.Signer.{Signer}
use Rattle.issue_core.specs.Issuing.Rules.{Case, signer, registered, first_rule}
use Rattle.issue_core.specs.Issuing.Due.{due, due_body}
use Rattle.issue_core.specs.Issuing.Desk.{issuing}
use Rattle.issue_core.specs.Issuing.Rows.{entries_at}
use Rattle.issue_core.specs.Issuing.Looks.{IsSeen}
use Rattle.issue_core.specs.Issuing.SeenRules.{first_seen, IsGranted, inner_says, outer_said, voucher_for, verdict_rule, Agrees}
use Rattle.issue_core.specs.Issuing.Calls.{kept_answer}
use Rattle.issue_core.specs.declared.rule.Rule.{Rule}
use Rattle.issue_core.specs.declared.rule.Rule.TheVariants as rule
use Rattle.issue_core.specs.declared.issuing.seen.Seen.{Seen}
use Rattle.issue_core.specs.declared.issuing.serving.Answer.{Answer}
use Rattle.issue_core.specs.declared.issuing.serving.Answer.TheVariants as answer

-- this rule is the first that is broken, and the request has no entry
pub record Breaks (c : Case) (rows : List Row) (k : Rule) : Type 0 where
  pub new : kept_for issuing (entries_at c.desk rows) c.bytes ≡ None
  pub first : first_rule (faces issuing (entries_at c.desk rows)) c ≡ Some k

-- this certificate may be made
pub record Ready (c : Case) (r : Request) (g : Registration) (s : Signer) (days : ℕ × ℕ) (rows : List Row) : Type 0 where
  pub read : request_of c.bytes ≡ Ok r
  pub unused : row_at table.Issued c.desk r.body.holder rows ≡ None
  pub room : length (rows_of table.Issued c.desk rows) < most_rows
  pub new : kept_for issuing (entries_at c.desk rows) c.bytes ≡ None
  pub number : IsUnused issuing (entries_at c.desk rows) r.body.holder
  pub allowed : first_rule (faces issuing (entries_at c.desk rows)) c ≡ None
  pub signer_is : signer c r ≡ Some s
  pub due_is : due c ≡ Some (due_body r g s days)

-- no rule up to 12 is broken, and this is granted
pub record Passed (said : Says) (c : Case) (r : Request) (g : Registration) (seen : Seen) (s : Signer) (days : ℕ × ℕ) (rows : List Row) : Type 0 where
  pub refused : (k : Rule) → verdict_rule said r seen.voucher ≡ Some k → Breaks c rows k
  pub ready : verdict_rule said r seen.voucher ≡ None → Ready c r g s days rows

-- the holder is registered and the reference is new
pub record Looked (said : Says) (c : Case) (r : Request) (g : Registration) (rows : List Row) : Type 0 where
  pub refused : (seen : Seen) (k : Rule) → IsSeen c.desk c.day r g rows seen → first_seen c.day r g seen ≡ Some k → Breaks c rows k
  pub passed : (seen : Seen) (s : Signer) (days : ℕ × ℕ) → IsSeen c.desk c.day r g rows seen → IsGranted c.day r g seen s days → Passed said c r g seen s days rows

-- the reference is new
pub record Fresh (said : Says) (c : Case) (r : Request) (rows : List Row) : Type 0 where
  pub unknown : registered c r ≡ None → Breaks c rows rule.Holder
  pub suspended : (g : Registration) → registered c r ≡ Some g → g.suspended ≡ true → Breaks c rows rule.Holder
  pub looked : (g : Registration) → registered c r ≡ Some g → g.suspended ≡ false → Looked said c r g rows

-- what a row under the request's reference says
abbrev pub Again : Case → List Row → Answer → Type 0
Again c rows (answer.Kept p) = kept_for issuing (entries_at c.desk rows) c.bytes ≡ Some p
Again c rows (answer.Refused k) = Breaks c rows k
Again c rows (answer.Issued p) = ⊥

-- the request was read
pub record WasRead (said : Says) (c : Case) (r : Request) (rows : List Row) : Type 0 where
  pub again : (row : Row) → row_at table.Issued c.desk r.body.holder rows ≡ Some row → Again c rows (kept_answer row.part c.bytes)
  pub fresh : row_at table.Issued c.desk r.body.holder rows ≡ None → Fresh said c r rows

-- What the lists say of a request, readable or not. This is what is owed of the rows alone: no call stands in it.
pub record ByLists (said : Says) (c : Case) (rows : List Row) : Type 0 where
  pub asked : (r : Request) → request_of c.bytes ≡ Ok r → WasRead said c r rows
  pub unread : (e : CvcRefusal) → request_of c.bytes ≡ Err e → Breaks c rows (rule.Syntax e)

-- ---- what the looks of a registered holder are owed

pub record Owed (said : Says) (c : Case) (r : Request) (g : Registration) (rows : List Row) : Type 0 where
  pub read : request_of c.bytes ≡ Ok r
  pub registered_is : registered c r ≡ Some g
  pub allowed : g.suspended ≡ false
  pub inner_is : c.inner ≡ inner_says said r
  pub outer_is : c.outer ≡ outer_said said r r.outer (voucher_for (faces issuing (entries_at c.desk rows)) c r r.outer (Some g))
  pub unused : row_at table.Issued c.desk r.body.holder rows ≡ None
  pub new : kept_for issuing (entries_at c.desk rows) c.bytes ≡ None
  pub number : IsUnused issuing (entries_at c.desk rows) r.body.holder
  pub agrees : (seen : Seen) → IsSeen c.desk c.day r g rows seen → Agrees (faces issuing (entries_at c.desk rows)) c r g seen

abbrev pub LookedWhereOwed : Type 0
LookedWhereOwed = (said : Says) (c : Case) (r : Request) (g : Registration) (rows : List Row) → Owed said c r g rows → Looked said c r g rows

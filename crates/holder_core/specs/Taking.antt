-- A certificate for a key of the party itself, as `take_certificate` takes it (after BSI TR-03129; the order of the
-- refusals is this project's own).
use Rattle.std.specs.Prelude.{◌≡◌, ◌⊎◌, ◌&&◌, ◌||◌, ℕ, List, Option, Some, None, Result, Ok, Err, Bool, false, not, option_and_then, if◌then◌else◌}
use Rattle.std.specs.Str.{bytes_eq}
use Rattle.eac_base.specs.Bytes.{is_empty}
use Rattle.signature_provider.specs.Key.{has_domain, same_algorithm}
use Rattle.signature_provider.specs.Provider.{Says, public_key}
use Rattle.signature_provider.specs.declared.key.Key.{Key}
use Rattle.signature_provider.specs.declared.key.KeyView.{KeyView}
use Rattle.cvc_grammar.specs.declared.certificate.Cert.{Cert}
use Rattle.cvc_grammar.specs.declared.certificate.CertView.{CertView}
use Rattle.cvc_grammar.specs.Views.{IsViewOf}
use Rattle.cvc_grammar.specs.declared.refusal.CvcRefusal.{CvcRefusal}
use Rattle.keeper.specs.declared.rows.Row.{Row}
use Rattle.keeper.specs.declared.rows.OwnPart.{OwnPart}
use Rattle.keeper.specs.declared.rows.CaPart.{CaPart}
use Rattle.keeper.specs.declared.rows.Settled.{Settled}
use Rattle.keeper.specs.declared.rows.Table.TheVariants as table
use Rattle.keeper.specs.declared.keeping.KeepRefusal.{KeepRefusal}
use Rattle.keeper.specs.declared.keeping.KeepRefusal.TheVariants as refusal
use Rattle.keeper.specs.Rows.{settled_rows}
use Rattle.keeper.specs.Keeping.{IsAsked, MaySettle}
use Rattle.holder_core.specs.Readings.{cert_of, cert_message, settled_of}
use Rattle.holder_core.specs.OwnRows.{own_part, own_at, ca_at, IsOwnAsked, IsCaAsked}
use Rattle.holder_core.specs.WritesOnce.{WritesOnce}
use Rattle.holder_core.specs.declared.fault.HolderFault.{HolderFault}
use Rattle.holder_core.specs.declared.fault.HolderFault.TheVariants as fault
use Rattle.holder_core.specs.declared.take_rule.Taken.{Taken}
use Rattle.holder_core.specs.declared.take_rule.Taken.TheVariants as taken
use Rattle.holder_core.specs.declared.take_rule.TakeRule.TheVariants as rule
use Rattle.holder_core.specs.declared.taking.Seen.{Seen}
use Rattle.holder_core.specs.declared.taking.JudgedOwn.{JudgedOwn}
use Rattle.holder_core.specs.declared.taking.JudgedOwn.TheVariants as judged

-- the view is one of some input
abbrev pub IsRead : CertView → Type 0
IsRead v = IsViewOf v.whole.now v

-- ---- the tests

-- the row has these bytes
abbrev pub is_kept_as : List ℕ → Option Settled → Bool
is_kept_as bytes (Some s) = bytes_eq s.certificate bytes
is_kept_as bytes None = false

-- algorithm or point differs from the row's key, or a domain is there
abbrev pub has_other_key : Key → Key → Bool
has_other_key key own = not (same_algorithm key.algorithm own.algorithm && bytes_eq key.point own.point) || has_domain key

-- the same of a key that lies in an input
abbrev pub view_differs : KeyView → Key → Bool
view_differs key own = not (same_algorithm key.algorithm own.algorithm && bytes_eq key.point.now own.point) || not (is_empty key.domain.now)

-- what the provider says of the certificate's signature by this key
abbrev pub cert_said : Says → Cert → Key → Bool
cert_said said c key = said (public_key key) (cert_message c.body) c.signature

-- ---- the answer, by the own key and the issuer that were seen

-- the row waits for its certificate, or has another
abbrev pub waiting_answer : List ℕ → Option Settled → Taken
waiting_answer reference (Some s) = taken.Refused (rule.Differs s.certificate)
waiting_answer reference None = taken.Stored reference

abbrev pub issued_answer : Says → Cert → Option Settled → Option CaPart → Taken
issued_answer said c kept None = taken.Refused rule.NoIssuer
issued_answer said c kept (Some issuer) =
    if cert_said said c issuer.key then waiting_answer c.body.holder kept else taken.Refused rule.Signature

abbrev pub take_seen : Says → List ℕ → Cert → Option OwnPart → Option CaPart → Taken
take_seen said bytes c None issuer = taken.Refused rule.NotMine
take_seen said bytes c (Some own) issuer =
    if is_kept_as bytes own.settled then taken.Already c.body.holder
    else (if has_other_key c.body.key own.key then taken.Refused rule.KeyDiffers else issued_answer said c own.settled issuer)

-- ---- over rows

abbrev pub take_in : Says → ℕ → List ℕ → List Row → Result Cert CvcRefusal → Taken
take_in said party bytes rows (Err e) = taken.Refused (rule.Syntax e)
take_in said party bytes rows (Ok c) = take_seen said bytes c (own_at party c.body.holder rows) (ca_at party c.body.authority rows)

-- the answer that is due: the first refusal in the order of the rules
abbrev pub take_due : Says → ℕ → List ℕ → List Row → Taken
take_due said party bytes rows = take_in said party bytes rows (cert_of bytes)

-- all but `Stored` come without a write
abbrev pub unwritten : Taken → Option Taken
unwritten (taken.Stored reference) = None
unwritten (taken.Already reference) = Some (taken.Already reference)
unwritten (taken.Refused k) = Some (taken.Refused k)

-- the own row of its holder reference settled with the certificate, every other row as it was
abbrev pub taken_rows : ℕ → List ℕ → List Row → Result Cert CvcRefusal → List Row
taken_rows party bytes rows (Ok c) = settled_rows party c.body.holder (settled_of bytes c.body) rows
taken_rows party bytes rows (Err e) = rows

-- one call with what was read of the bytes
abbrev pub TakesRead : Says → ℕ → List ℕ → Result Cert CvcRefusal → List Row → List Row → Result Taken HolderFault → Type 0
TakesRead said party bytes c before after result =
    WritesOnce (unwritten (take_in said party bytes before c)) None None
    (λ answer rows. (answer ≡ take_in said party bytes before c) × (rows ≡ taken_rows party bytes before c))
    before after result

-- one call
abbrev pub Takes : Says → ℕ → List ℕ → List Row → List Row → Result Taken HolderFault → Type 0
Takes said party bytes before after result = TakesRead said party bytes (cert_of bytes) before after result

-- ---- for every keeper

-- what a settling that was refused is answered, by the row that the keeper gives
abbrev pub again_answer : (bytes reference : List ℕ) → Option Settled → Taken
again_answer bytes reference (Some s) =
    if bytes_eq s.certificate bytes then taken.Already reference else taken.Refused (rule.Differs s.certificate)
again_answer bytes reference None = taken.Refused rule.NotMine

abbrev pub kept_answer : (bytes reference : List ℕ) → Row → Taken
kept_answer bytes reference row = again_answer bytes reference (option_and_then (λ own. own.settled) (own_part row.part))

-- What is answered to a settling, as any keeper may answer it: that the row has a certificate, by that row; that no such
-- row is there.
abbrev pub settled_answer : {U : Type 0} → (bytes reference : List ℕ) → Result U KeepRefusal → Result Taken HolderFault
settled_answer bytes reference (Ok u) = Ok (taken.Stored reference)
settled_answer bytes reference (Err (refusal.Twice row)) = Ok (kept_answer bytes reference row)
settled_answer bytes reference (Err refusal.Absent) = Ok (taken.Refused rule.NotMine)
settled_answer bytes reference (Err refusal.Failed) = Err fault.KeeperFault
settled_answer bytes reference (Err refusal.Full) = Err fault.NoMemory
settled_answer bytes reference (Err refusal.NoMemory) = Err fault.NoMemory

-- the row that the keeper says is settled, or that it says isn't there
pub record SettlesAgain (party : ℕ) (bytes reference : List ℕ) (answer : Taken) : Type 0 where
  pub kept : Row
  pub asked : IsAsked table.Own party reference kept
  pub says : answer ≡ kept_answer bytes reference kept

abbrev pub IsSettledAs : ℕ → (bytes reference : List ℕ) → Taken → Type 0
IsSettledAs party bytes reference answer =
    (answer ≡ taken.Stored reference) ⊎ ((answer ≡ taken.Refused rule.NotMine) ⊎ SettlesAgain party bytes reference answer)

-- The answer is due by rows as they were asked for. Where it is due to store, it is what the keeper says to the settling.
pub record TookBy (said : Says) (party : ℕ) (bytes : List ℕ) (c : Cert) (answer : Taken) : Type 0 where
  pub own : Option OwnPart
  pub own_asked : IsOwnAsked party c.body.holder own
  pub issuer : Option CaPart
  pub issuer_asked : IsCaAsked party c.body.authority issuer
  pub says : (unwritten (take_seen said bytes c own issuer) ≡ Some answer)
      ⊎ ((take_seen said bytes c own issuer ≡ taken.Stored c.body.holder) × IsSettledAs party bytes c.body.holder answer)

abbrev pub TakeCause : Says → ℕ → List ℕ → Result Cert CvcRefusal → Taken → Type 0
TakeCause said party bytes (Err e) answer = answer ≡ taken.Refused (rule.Syntax e)
TakeCause said party bytes (Ok c) answer = TookBy said party bytes c answer

-- why a call answered, where it did
abbrev pub TookAsked : Says → ℕ → List ℕ → Taken → Type 0
TookAsked said party bytes answer = TakeCause said party bytes (cert_of bytes) answer

-- ---- its steps

-- what was seen is what the rows keep
pub record IsSeen (party : ℕ) (c : Cert) (rows : List Row) (seen : Seen) : Type 0 where
  pub own : seen.own ≡ own_at party c.body.holder rows
  pub issuer : seen.issuer ≡ ca_at party c.body.authority rows

pub record IsSeenAsked (party : ℕ) (c : Cert) (seen : Seen) : Type 0 where
  pub own : IsOwnAsked party c.body.holder seen.own
  pub issuer : IsCaAsked party c.body.authority seen.issuer

-- what was judged: an answer without a write, or that the own row waits
abbrev pub Judges : Says → List ℕ → Cert → Option OwnPart → Option CaPart → JudgedOwn → Type 0
Judges said bytes c own issuer (judged.Answered answer) = unwritten (take_seen said bytes c own issuer) ≡ Some answer
Judges said bytes c own issuer judged.Waits = take_seen said bytes c own issuer ≡ taken.Stored c.body.holder

-- the same by its issuer
abbrev pub IssuedJudges : Says → Cert → Option Settled → Option CaPart → JudgedOwn → Type 0
IssuedJudges said c kept issuer (judged.Answered answer) = unwritten (issued_answer said c kept issuer) ≡ Some answer
IssuedJudges said c kept issuer judged.Waits = issued_answer said c kept issuer ≡ taken.Stored c.body.holder

abbrev pub judged_waiting : Option Settled → JudgedOwn
judged_waiting (Some s) = judged.Answered (taken.Refused (rule.Differs s.certificate))
judged_waiting None = judged.Waits

-- a settling with this certificate, where the caller has looked
abbrev pub Settling : ℕ → List ℕ → Settled → List Row → List Row → Result Taken HolderFault → Type 0
Settling party reference s before after (Ok (taken.Stored r)) = (r ≡ reference) × (after ≡ settled_rows party reference s before)
Settling party reference s before after (Ok (taken.Already r)) = MaySettle before party reference → ⊥
Settling party reference s before after (Ok (taken.Refused k)) = MaySettle before party reference → ⊥
Settling party reference s before after (Err fault.KeeperFault) = (after ≡ before) ⊎ (after ≡ settled_rows party reference s before)
Settling party reference s before after (Err fault.NoMemory) = after ≡ before
Settling party reference s before after (Err fault.ProviderFault) = ⊥
Settling party reference s before after (Err (fault.NoKey r)) = ⊥

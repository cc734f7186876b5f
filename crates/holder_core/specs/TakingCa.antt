-- A certificate of an authority, as `take_ca` takes it (after BSI TR-03129; the order of the refusals is this project's
-- own).
use Rattle.std.specs.Prelude.{◌≡◌, ◌⊎◌, ◌&&◌, ◌||◌, ℕ, List, [], ◌∷◌, ◌++◌, Option, Some, None, Result, Ok, Err, Bool, true, false, not, option_and_then, if◌then◌else◌}
use Rattle.std.specs.Str.{bytes_eq}
use Rattle.chat_rights.specs.declared.Role.{Role}
use Rattle.chat_rights.specs.declared.Role.TheVariants.{Cvca, Domestic, Foreign, Terminal}
use Rattle.signature_provider.specs.Key.{has_domain, is_elliptic, same_algorithm}
use Rattle.signature_provider.specs.Provider.{Says}
use Rattle.signature_provider.specs.declared.key.Key.{Key}
use Rattle.cvc_grammar.specs.declared.certificate.Cert.{Cert}
use Rattle.cvc_grammar.specs.declared.certificate.CertBody.{CertBody}
use Rattle.cvc_grammar.specs.declared.refusal.CvcRefusal.{CvcRefusal}
use Rattle.keeper.specs.declared.rows.Row.{Row}
use Rattle.keeper.specs.declared.rows.CaPart.{CaPart}
use Rattle.keeper.specs.declared.rows.Part.TheVariants as part
use Rattle.keeper.specs.declared.rows.Table.TheVariants as table
use Rattle.keeper.specs.Rows.{row_at}
use Rattle.keeper.specs.Keeping.{IsAsked, MayAdd}
use Rattle.holder_core.specs.Readings.{cert_of, settled_of}
use Rattle.holder_core.specs.OwnRows.{ca_in, ca_at, IsCaAsked}
use Rattle.holder_core.specs.Taking.{cert_said}
use Rattle.holder_core.specs.Trusting.{is_full, unwritten}
use Rattle.holder_core.specs.WritesOnce.{WritesOnce}
use Rattle.holder_core.specs.declared.adding.Added.{Added}
use Rattle.holder_core.specs.declared.adding.Added.TheVariants as added
use Rattle.holder_core.specs.declared.fault.HolderFault.{HolderFault}
use Rattle.holder_core.specs.declared.fault.HolderFault.TheVariants as fault
use Rattle.holder_core.specs.declared.ca_rule.TakenCa.{TakenCa}
use Rattle.holder_core.specs.declared.ca_rule.TakenCa.TheVariants as taken
use Rattle.holder_core.specs.declared.ca_rule.CaRule.TheVariants as rule
use Rattle.holder_core.specs.declared.taking_ca.SeenCa.{SeenCa}
use Rattle.holder_core.specs.declared.taking_ca.JudgedCa.{JudgedCa}
use Rattle.holder_core.specs.declared.taking_ca.JudgedCa.TheVariants as judged

-- ---- the tests

abbrev pub is_country : Role → Bool
is_country Cvca = true
is_country Domestic = false
is_country Foreign = false
is_country Terminal = false

abbrev pub is_terminal : Role → Bool
is_terminal Terminal = true
is_terminal Cvca = false
is_terminal Domestic = false
is_terminal Foreign = false

-- an authority that may be an issuer is a country's
abbrev pub if_country : CaPart → Option CaPart
if_country ca = if is_country ca.settled.template.role then Some ca else None

abbrev pub country_only : Option CaPart → Option CaPart
country_only found = option_and_then if_country found

-- A link has an elliptic key without a domain below a key that isn't elliptic; a verifier's certificate has a domain or an
-- algorithm other than its issuer's.
abbrev pub has_wrong_key : CertBody → Key → Bool
has_wrong_key b issuer =
    if is_country b.template.role then is_elliptic b.key.algorithm && not (has_domain b.key) && not (is_elliptic issuer.algorithm)
    else has_domain b.key || not (same_algorithm b.key.algorithm issuer.algorithm)

-- an elliptic key without a domain has its issuer's
abbrev pub whole_key : Key → Key → Key
whole_key key issuer =
    if is_elliptic key.algorithm && not (has_domain key)
    then record { algorithm = key.algorithm; domain = issuer.domain; point = key.point; cofactor = issuer.cofactor } else key

-- the party keeps these bytes under that reference
abbrev pub is_held_as : List ℕ → Option CaPart → Bool
is_held_as bytes (Some ca) = bytes_eq ca.settled.certificate bytes
is_held_as bytes None = false

-- ---- the answer, by what stands under its own reference, its issuer, and whether there is no room

abbrev pub room_answer : Bool → List ℕ → Option CaPart → TakenCa
room_answer full reference (Some ca) = taken.Refused (rule.Differs ca.settled.certificate)
room_answer full reference None = if full then taken.Refused rule.Full else taken.Stored reference

abbrev pub issued_answer : Says → Cert → Bool → Option CaPart → Option CaPart → TakenCa
issued_answer said c full there None = taken.Refused rule.NoIssuer
issued_answer said c full there (Some issuer) =
    if has_wrong_key c.body issuer.key then taken.Refused rule.Parameters
    else (if cert_said said c issuer.key then room_answer full c.body.holder there else taken.Refused rule.Signature)

abbrev pub take_ca_seen : Says → List ℕ → Cert → Bool → (there issuer : Option CaPart) → TakenCa
take_ca_seen said bytes c full there issuer =
    if is_held_as bytes there then taken.Held c.body.holder
    else (if is_terminal c.body.template.role then taken.Refused rule.Role else issued_answer said c full there (country_only issuer))

-- ---- over rows

abbrev pub take_ca_in : Says → ℕ → List ℕ → List Row → Result Cert CvcRefusal → TakenCa
take_ca_in said party bytes rows (Err e) = taken.Refused (rule.Syntax e)
take_ca_in said party bytes rows (Ok c) =
    take_ca_seen said bytes c (is_full party rows) (ca_at party c.body.holder rows) (ca_at party c.body.authority rows)

-- the answer that is due: the first refusal in the order of the rules
abbrev pub take_ca_due : Says → ℕ → List ℕ → List Row → TakenCa
take_ca_due said party bytes rows = take_ca_in said party bytes rows (cert_of bytes)

-- the row of a certificate below this issuer, with a whole key
abbrev pub ca_row : ℕ → List ℕ → CertBody → CaPart → Row
ca_row party bytes b issuer = record {
  desk = party;
  reference = b.holder;
  part = part.Ca (record { key = whole_key b.key issuer.key; settled = settled_of bytes b });
}

abbrev pub rows_below : ℕ → List ℕ → CertBody → List Row → Option CaPart → List Row
rows_below party bytes b rows (Some issuer) = rows ++ ca_row party bytes b issuer ∷ []
rows_below party bytes b rows None = rows

-- that row at the end, every other row as it was
abbrev pub taken_rows : ℕ → List ℕ → List Row → Result Cert CvcRefusal → List Row
taken_rows party bytes rows (Ok c) = rows_below party bytes c.body rows (country_only (ca_at party c.body.authority rows))
taken_rows party bytes rows (Err e) = rows

-- one call with what was read of the bytes
abbrev pub TakesCaRead : Says → ℕ → List ℕ → Result Cert CvcRefusal → List Row → List Row → Result TakenCa HolderFault → Type 0
TakesCaRead said party bytes c before after result =
    WritesOnce (unwritten (take_ca_in said party bytes before c)) None None
    (λ answer rows. (answer ≡ take_ca_in said party bytes before c) × (rows ≡ taken_rows party bytes before c))
    before after result

-- one call
abbrev pub TakesCa : Says → ℕ → List ℕ → List Row → List Row → Result TakenCa HolderFault → Type 0
TakesCa said party bytes before after result = TakesCaRead said party bytes (cert_of bytes) before after result

-- ---- for every keeper

-- an adding that found its key there is answered by that row's bytes
abbrev pub again_answer : (bytes reference : List ℕ) → Option CaPart → TakenCa
again_answer bytes reference (Some ca) =
    if bytes_eq ca.settled.certificate bytes then taken.Held reference else taken.Refused (rule.Differs ca.settled.certificate)
again_answer bytes reference None = taken.Held reference

abbrev pub kept_answer : (bytes reference : List ℕ) → Row → TakenCa
kept_answer bytes reference row = again_answer bytes reference (ca_in (Some row))

-- what an adding is answered
abbrev pub added_answer : (bytes reference : List ℕ) → Added → TakenCa
added_answer bytes reference added.New = taken.Stored reference
added_answer bytes reference (added.There row) = kept_answer bytes reference row
added_answer bytes reference added.Full = taken.Refused rule.Full

pub record AddsAgain (party : ℕ) (bytes reference : List ℕ) (answer : TakenCa) : Type 0 where
  pub kept : Row
  pub asked : IsAsked table.Ca party reference kept
  pub says : answer ≡ kept_answer bytes reference kept

abbrev pub IsAddedAs : ℕ → (bytes reference : List ℕ) → TakenCa → Type 0
IsAddedAs party bytes reference answer =
    (answer ≡ taken.Stored reference) ⊎ ((answer ≡ taken.Refused rule.Full) ⊎ AddsAgain party bytes reference answer)

-- The answer is due by rows as they were asked for. Where it is due to store, it is what the keeper says to the adding.
pub record TookCaBy (said : Says) (party : ℕ) (bytes : List ℕ) (c : Cert) (answer : TakenCa) : Type 0 where
  pub there : Option CaPart
  pub there_asked : IsCaAsked party c.body.holder there
  pub issuer : Option CaPart
  pub issuer_asked : IsCaAsked party c.body.authority issuer
  pub says : (unwritten (take_ca_seen said bytes c false there issuer) ≡ Some answer)
      ⊎ ((take_ca_seen said bytes c false there issuer ≡ taken.Stored c.body.holder) × IsAddedAs party bytes c.body.holder answer)

abbrev pub TakeCaCause : Says → ℕ → List ℕ → Result Cert CvcRefusal → TakenCa → Type 0
TakeCaCause said party bytes (Err e) answer = answer ≡ taken.Refused (rule.Syntax e)
TakeCaCause said party bytes (Ok c) answer = TookCaBy said party bytes c answer

-- why a call answered, where it did
abbrev pub TookCaAsked : Says → ℕ → List ℕ → TakenCa → Type 0
TookCaAsked said party bytes answer = TakeCaCause said party bytes (cert_of bytes) answer

-- ---- its steps

-- what was seen is what the rows keep
pub record IsSeen (party : ℕ) (c : Cert) (rows : List Row) (seen : SeenCa) : Type 0 where
  pub there : seen.there ≡ ca_at party c.body.holder rows
  pub issuer : seen.issuer ≡ ca_at party c.body.authority rows

pub record IsSeenAsked (party : ℕ) (c : Cert) (seen : SeenCa) : Type 0 where
  pub there : IsCaAsked party c.body.holder seen.there
  pub issuer : IsCaAsked party c.body.authority seen.issuer

-- What was judged: an answer without a write, or that it may be added below this issuer.
abbrev pub Judges : Says → List ℕ → Cert → (there issuer : Option CaPart) → JudgedCa → Type 0
Judges said bytes c there issuer (judged.Answered answer) = unwritten (take_ca_seen said bytes c false there issuer) ≡ Some answer
Judges said bytes c there issuer (judged.Below ca) =
    (take_ca_seen said bytes c false there issuer ≡ taken.Stored c.body.holder) × (country_only issuer ≡ Some ca)

-- the same by its issuer, where that is a country's
abbrev pub IssuedJudges : Says → Cert → (there issuer : Option CaPart) → JudgedCa → Type 0
IssuedJudges said c there issuer (judged.Answered answer) = unwritten (issued_answer said c false there issuer) ≡ Some answer
IssuedJudges said c there issuer (judged.Below ca) =
    (issued_answer said c false there issuer ≡ taken.Stored c.body.holder) × (issuer ≡ Some ca)

abbrev pub judged_new : Option CaPart → CaPart → JudgedCa
judged_new (Some kept) issuer = judged.Answered (taken.Refused (rule.Differs kept.settled.certificate))
judged_new None issuer = judged.Below issuer

-- the adding of a certificate's row, by the rows before and after it
abbrev pub AddsBelow : ℕ → List ℕ → CertBody → CaPart → List Row → List Row → Result TakenCa HolderFault → Type 0
AddsBelow party bytes b issuer before after (Ok (taken.Stored r)) =
    (r ≡ b.holder) × MayAdd before (ca_row party bytes b issuer) × (after ≡ before ++ ca_row party bytes b issuer ∷ [])
AddsBelow party bytes b issuer before after (Ok (taken.Held r)) = row_at table.Ca party b.holder before ≡ None → ⊥
AddsBelow party bytes b issuer before after (Ok (taken.Refused k)) =
    row_at table.Ca party b.holder before ≡ None → (k ≡ rule.Full) × (is_full party before ≡ true) × (after ≡ before)
AddsBelow party bytes b issuer before after (Err fault.KeeperFault) =
    (after ≡ before) ⊎ (MayAdd before (ca_row party bytes b issuer) × (after ≡ before ++ ca_row party bytes b issuer ∷ []))
AddsBelow party bytes b issuer before after (Err fault.NoMemory) = after ≡ before
AddsBelow party bytes b issuer before after (Err fault.ProviderFault) = ⊥
AddsBelow party bytes b issuer before after (Err (fault.NoKey r)) = ⊥

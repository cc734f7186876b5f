-- Certificates that come in, one after another, as `receive` takes them (after BSI TR-03129).
use Rattle.std.specs.Prelude.{◌≡◌, ℕ, List, [], ◌∷◌, ◌++◌, Option, Some, None, Result, Ok, Err, Bool, true, false, is_some}
use Rattle.signature_provider.specs.Provider.{PublicKey, Says, public_key}
use Rattle.cvc_grammar.specs.declared.certificate.Cert.{Cert}
use Rattle.cvc_grammar.specs.declared.refusal.CvcRefusal.{CvcRefusal}
use Rattle.keeper.specs.declared.rows.Row.{Row}
use Rattle.keeper.specs.declared.rows.OwnPart.{OwnPart}
use Rattle.keeper.specs.declared.rows.CaPart.{CaPart}
use Rattle.keeper.specs.declared.rows.Table.TheVariants as table
use Rattle.keeper.specs.Keeping.{IsAsked}
use Rattle.holder_core.specs.Readings.{cert_of, cert_message}
use Rattle.holder_core.specs.OwnRows.{own_at, ca_at}
use Rattle.holder_core.specs.Taking.{Takes, TookAsked}
use Rattle.holder_core.specs.TakingCa.{TakesCa, TookCaAsked, country_only}
use Rattle.holder_core.specs.declared.fault.HolderFault.{HolderFault}
use Rattle.holder_core.specs.declared.received.Item.{Item}
use Rattle.holder_core.specs.declared.received.Item.TheVariants as item

-- ---- where a certificate goes

abbrev pub own_named : ℕ → List Row → Result Cert CvcRefusal → Option OwnPart
own_named party rows (Ok c) = own_at party c.body.holder rows
own_named party rows (Err e) = None

-- It is readable, and the party has an own row of its holder reference.
abbrev pub is_mine : ℕ → List ℕ → List Row → Bool
is_mine party bytes rows = is_some (own_named party rows (cert_of bytes))

-- ---- what the provider may be asked about it

-- Is this a signature by this key over this message?
pub record Question : Type 0 where
  pub key : PublicKey
  pub message : List ℕ
  pub signature : List ℕ

-- about a certificate below an issuer that is known
abbrev pub cert_questions : Cert → Option CaPart → List Question
cert_questions c (Some issuer) = record { key = public_key issuer.key; message = cert_message c.body; signature = c.signature } ∷ []
cert_questions c None = []

abbrev pub questions_for : ℕ → List Row → Result Cert CvcRefusal → Bool → List Question
questions_for party rows (Ok c) true = cert_questions c (ca_at party c.body.authority rows)
questions_for party rows (Ok c) false = cert_questions c (country_only (ca_at party c.body.authority rows))
questions_for party rows (Err e) mine = []

-- the question that there is, whether a rule before the signature is broken or not
abbrev pub questions_of : ℕ → List ℕ → List Row → List Question
questions_of party bytes rows = questions_for party rows (cert_of bytes) (is_mine party bytes rows)

-- ---- one certificate

abbrev pub BreaksOff : Says → ℕ → List ℕ → List Row → List Row → HolderFault → Bool → Type 0
BreaksOff said party bytes before after fault true = Takes said party bytes before after (Err fault)
BreaksOff said party bytes before after fault false = TakesCa said party bytes before after (Err fault)

abbrev pub TakesItem : Says → ℕ → List ℕ → List Row → List Row → Result Item HolderFault → Type 0
TakesItem said party bytes before after (Ok (item.Own answer)) = (is_mine party bytes before ≡ true) × Takes said party bytes before after
    (Ok answer)
TakesItem said party bytes before after (Ok (item.Ca answer)) = (is_mine party bytes before ≡ false) × TakesCa said party bytes before
    after (Ok answer)
TakesItem said party bytes before after (Err fault) = BreaksOff said party bytes before after fault (is_mine party bytes before)

-- ---- all of them: an item for each, up to a fault, which ends it; and all that there was to ask

abbrev pub Receives : Says → ℕ → List (List ℕ) → List Row → List Row → List Item → Option HolderFault → List Question → Type 0
Receives said party [] before after [] None asked = (after ≡ before) × (asked ≡ [])
Receives said party (bytes ∷ more) before after (i ∷ items) fault asked =
    (mid : List Row) × (rest : List Question) × TakesItem said party bytes before mid (Ok i) × Receives said party more mid after items
    fault rest
    × (asked ≡ questions_of party bytes before ++ rest)
Receives said party (bytes ∷ more) before after [] (Some fault) asked = TakesItem said party bytes before after (Err fault) ×
    (asked ≡ questions_of party bytes before)
Receives said party [] before after [] (Some fault) asked = ⊥
Receives said party [] before after (i ∷ items) fault asked = ⊥
Receives said party (bytes ∷ more) before after [] None asked = ⊥

-- a fault that ended the list, as the end of a call
abbrev pub ending : Option HolderFault → Result (Unit {0}) HolderFault
ending None = Ok tt
ending (Some fault) = Err fault

-- ---- for every keeper

-- it was taken for an own key where a row of its holder reference was given
abbrev pub LookedFor : ℕ → Result Cert CvcRefusal → Type 0
LookedFor party (Ok c) = (row : Row) × IsAsked table.Own party c.body.holder row
LookedFor party (Err e) = ⊥

abbrev pub ItemCause : Says → ℕ → List ℕ → Item → Type 0
ItemCause said party bytes (item.Own answer) = LookedFor party (cert_of bytes) × TookAsked said party bytes answer
ItemCause said party bytes (item.Ca answer) = TookCaAsked said party bytes answer

-- each item has its cause, and only a fault leaves certificates without one
abbrev pub ReceivedAsked : Says → ℕ → List (List ℕ) → List Item → Option HolderFault → Type 0
ReceivedAsked said party [] [] None = Unit {0}
ReceivedAsked said party (bytes ∷ more) (i ∷ items) fault = ItemCause said party bytes i × ReceivedAsked said party more items fault
ReceivedAsked said party (bytes ∷ more) [] (Some fault) = Unit {0}
ReceivedAsked said party [] [] (Some fault) = ⊥
ReceivedAsked said party [] (i ∷ items) fault = ⊥
ReceivedAsked said party (bytes ∷ more) [] None = ⊥

-- ---- its steps

-- an own row of its holder reference was given, or none
abbrev pub LooksMine : ℕ → List ℕ → Bool → Type 0
LooksMine party bytes true = LookedFor party (cert_of bytes)
LooksMine party bytes false = Unit {0}

-- One certificate more, with its item at the end of those before, or none where a fault ends it.
abbrev pub TakesNext : {U : Type 0} → Says → ℕ → List ℕ → (items more : List Item) → List Row → List Row → Result U HolderFault → Type 0
TakesNext said party bytes items more before after (Ok u) =
    (i : Item) × (more ≡ items ++ i ∷ []) × TakesItem said party bytes before after (Ok i)
TakesNext said party bytes items more before after (Err fault) = (more ≡ items) × TakesItem said party bytes before after (Err fault)

abbrev pub NextAsked : Says → ℕ → List ℕ → (items more : List Item) → Type 0
NextAsked said party bytes items more = (i : Item) × (more ≡ items ++ i ∷ []) × ItemCause said party bytes i

-- Chains that are presented to a chip: what a grant stands for, and which chains are granted (BSI TR-03110-3, certificate
-- validation and effective authorization).
use Rattle.std.specs.Prelude.{◌≡◌, ◌⊎◌, ◌++◌, ℕ, List, [], ◌∷◌, map, Option, Some, IsSome, Ok, true}
use Rattle.std.specs.List.{Contains}
use Rattle.eac_base.specs.Causes.{Rose}
use Rattle.signature_provider.specs.Provider.{PublicKey, Says}
use Rattle.cvc_grammar.specs.Certificate.{body_text}
use Rattle.cvc_grammar.specs.ReadingOrder.{read_cert}
use Rattle.cvc_grammar.specs.declared.certificate.Cert.{Cert}
use Rattle.policy_limits.specs.Setup.{SetupValue}
use Rattle.chip_verify.specs.GoodChain.{GoodChain}
use Rattle.chip_verify.specs.Grant.{Accepted, Granting}
use Rattle.chip_verify.specs.Refusals.{Issuer, key_of, is_held}
use Rattle.chip_verify.specs.Session.{SessionValue, no_session}
use Rattle.chip_verify.specs.Step.{Step}
use Rattle.chip_verify.specs.Trust.{Trust, IsTrust}
use Rattle.chip_slots.specs.declared.answers.ChipRefusal.TheVariants as refusals
use Rattle.chip_events.specs.declared.answers.Grant.{Grant}
use Rattle.chip_events.specs.declared.answers.Shown.{Shown}
use Rattle.chip_events.specs.declared.answers.ShownEnd.{ShownEnd}
use Rattle.chip_events.specs.declared.answers.ShownEnd.TheVariants as ends
use Rattle.chip_events.specs.Givings.{references_of}
use Rattle.chip_events.specs.Told.{ChipTold}
use Rattle.eac_net.specs.ChipSays.{IsTurn}
use Rattle.eac_net.specs.ChipTurn.{shown_as}
use Rattle.eac_net.specs.Handed.{Request, ChainFor, Certs}
use Rattle.eac_net.specs.Items.{Ran}
use Rattle.eac_net.specs.Made.{Made, all_made}
use Rattle.eac_net.specs.Moment.{Moment}
use Rattle.eac_net.specs.State.{State}
use Rattle.eac_net.specs.Turn.{RowsStep}
use Rattle.eac_net.specs.Untold.{AnswersTo, AreRan}
use Rattle.eac_net.specs.Verdicts.{Verdict}
use Rattle.eac_net.specs.declared.answer.Answer.{Answer}
use Rattle.eac_net.specs.declared.event.Event.TheVariants as events

-- ---- what was presented

-- The bytes are those of these certificates.
abbrev pub AreCerts : List (List ℕ) → List Cert → Type 0
AreCerts certs chain = map read_cert certs ≡ map (λ (c : Cert). Ok c) chain

-- Certificates were shown to the chip, and it ended so.
pub record EndsIn (answer : Option Answer) (end : ShownEnd) : Type 0 where
  pub shown : Shown
  pub answer_is : answer ≡ Some (shown_as shown)
  pub end_is : shown.end ≡ end

-- ---- certificate validation

-- The yes to a certificate's signature over its body, by the key of its issuer.
abbrev pub yes_to : Issuer → Cert → Verdict
yes_to issuer c =
    record { question = record { key = key_of issuer; message = body_text c.body; signature = c.signature }; yes = true }

-- Certificates in their order: each is accepted under an issuer that the chip trusts by then, and its signature got a yes, or
-- is the newest trust point shown again, which changes nothing. The accepted ones are told, the newest first.
abbrev pub Validates : List Verdict → Trust → SessionValue → List Cert → List Accepted → Trust → SessionValue → List Accepted
    → Type 0
Validates asked t s [] told t' s' told' = (t' ≡ t) × (s' ≡ s) × (told' ≡ told)
Validates asked t s (c ∷ cs) told t' s' told' =
    ((mid : Trust) × (next : SessionValue) × (st : Step t s c.body true mid next) × Contains asked (yes_to st.issuer c)
    × Validates asked mid next cs (record { body = c.body; issuer = st.issuer } ∷ told) t' s' told')
    ⊎ ((is_held t c.body ≡ true) × Validates asked t s cs told t' s' told')

-- ---- effective authorization

-- The chain for the points that the chip read was handed to it, and validated from there and from an empty session on. The
-- rights are those that stand in the last verifier that was accepted, in the last terminal after it and in the verifier's
-- trust point, and the day is the chip's then.
pub record IsOfChain (terminal : ℕ) (c : ChipTold) (i : Ran) (grant : Grant) : Type 0 where
  pub trust : Trust
  pub generation : ℕ
  pub read : c.reads ≡ Some (trust, generation)
  pub certs : List (List ℕ)
  pub handed : i.handed ≡ Certs (ChainFor terminal (references_of trust)) certs
  pub chain : List Cert
  pub are_read : AreCerts certs chain
  pub now : Trust
  pub session : SessionValue
  pub accepted : List Accepted
  pub validates : Validates i.asked trust no_session chain [] now session accepted
  pub rights : Granting accepted grant.rights
  pub day : grant.day ≡ now.day

-- whatever is told
abbrev pub GrantsAreOfTheChain : Type 0
GrantsAreOfTheChain = (chip terminal : ℕ) (c c' : ChipTold) (i : Ran) (grant : Grant) → IsTurn chip c i c'
    → i.event ≡ events.Present chip terminal → EndsIn i.answer (ends.AllTaken (Some grant)) → IsOfChain terminal c i grant

-- ---- good chains

-- The chip read this trust, and these certificates were handed to it.
pub record IsShown (chip terminal : ℕ) (c : ChipTold) (i : Ran) (t : Trust) (chain : List Cert) : Type 0 where
  pub event_is : i.event ≡ events.Present chip terminal
  pub generation : ℕ
  pub read : c.reads ≡ Some (t, generation)
  pub trust : IsTrust t
  pub request : Request
  pub certs : List (List ℕ)
  pub handed : i.handed ≡ Certs request certs
  pub are_read : AreCerts certs chain

-- The chip's disk and the provider didn't fail.
pub record NoneFailed (chip : ℕ) (i : Ran) : Type 0 where
  pub disk : ¬ Rose (i.from.disks chip).faults (i.to.disks chip).faults
  pub provider : ¬ Rose i.from.parties.provider i.to.parties.provider

-- There is a grant, or the chip's memory takes no further state.
abbrev pub IsGranted : Option Answer → Type 0
IsGranted answer =
    ((grant : Grant) × EndsIn answer (ends.AllTaken (Some grant))) ⊎ EndsIn answer (ends.NotTaken refusals.Worn)

-- where neither disk nor provider failed and memory wasn't wanting, by what the provider says when the event begins
abbrev pub GoodChainsAreGranted : Type 0
GoodChainsAreGranted = (setup : SetupValue) (chip terminal : ℕ) (c c' : ChipTold) (i : Ran) (t : Trust) (links : List Cert)
    (v w : Cert) → AnswersTo setup i → IsTurn chip c i c' → IsShown chip terminal c i t (links ++ v ∷ w ∷ [])
    → GoodChain i.from.says t links v w → NoneFailed chip i → IsSome i.answer → IsGranted i.answer

-- ---- good chains by the rows

-- Each of these signatures the provider says, or it is among those that were made.
abbrev pub AreSaidOrMade : (good says : Says) → List Made → Type 0
AreSaidOrMade good says made = (key : PublicKey) (message signature : List ℕ) → good key message signature ≡ true
    → (says key message signature ≡ true)
    ⊎ Contains made (record { key = Some key; message = message; signature = signature })

-- the same by what the provider said when the run began, and by the signatures that stand made in the rows
abbrev pub GoodChainsOfRows : Type 0
GoodChainsOfRows = (setup : SetupValue) (first : Moment) (before : List Ran) (s s' : State) (good : Says)
    (chip terminal : ℕ) (c c' : ChipTold) (i : Ran) (t : Trust) (links : List Cert) (v w : Cert)
    → AreRan setup first before i.from → AnswersTo setup i → RowsStep setup s i s' → AreSaidOrMade good first.says (all_made setup s.rows)
    → IsTurn chip c i c' → IsShown chip terminal c i t (links ++ v ∷ w ∷ [])
    → GoodChain good t links v w → NoneFailed chip i → IsSome i.answer → IsGranted i.answer

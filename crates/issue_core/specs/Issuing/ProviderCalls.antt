-- What a call of an issuing desk asks of its provider, for every keeper (this project's own).
use Rattle.std.specs.Prelude.{◌≡◌, ◌⊎◌, ℕ, List, [], ◌∷◌, None, Result, Ok, Err, false}
use Rattle.signature_provider.specs.Provider.{Says, Holds, Signed, public_key}
use Rattle.cvc_grammar.specs.declared.request.Request.{Request}
use Rattle.policy_limits.specs.declared.registration.Registration.{Registration}
use Rattle.issue_core.specs.Issuing.Readings.{cert_message}
use Rattle.issue_core.specs.declared.issuing.signer_row.Signer.{Signer}
use Rattle.issue_core.specs.Issuing.Rules.{Case}
use Rattle.issue_core.specs.Issuing.Due.{due_body}
use Rattle.issue_core.specs.Issuing.SeenRules.{first_seen}
use Rattle.issue_core.specs.Issuing.Causes.{IssueCause, StaysTrue}
use Rattle.issue_core.specs.Issuing.AnswerCauses.{HasSeen, MayMake, Answered}
use Rattle.issue_core.specs.Issuing.Signed.{Pair, SignsMore}
use Rattle.issue_core.specs.declared.rule.Rule.{Rule}
use Rattle.issue_core.specs.declared.rule.Rule.TheVariants as rule
use Rattle.issue_core.specs.declared.fault.IssueFault.{IssueFault}
use Rattle.issue_core.specs.declared.fault.IssueFault.TheVariants as fault
use Rattle.issue_core.specs.declared.issuing.seen.Seen.{Seen}
use Rattle.issue_core.specs.declared.issuing.serving.Answer.{Answer}
use Rattle.issue_core.specs.declared.issuing.serving.Answer.TheVariants as answer

-- what a provider says, holds and has signed, and its count of faults
pub record Standing : Type 0 where
  pub says : Says
  pub holds : Holds
  pub signed : Signed
  pub faults : ℕ

abbrev pub standing : Says → Holds → Signed → ℕ → Standing
standing says holds signed faults = record { says = says; holds = holds; signed = signed; faults = faults }

-- ---- how a call may end, by how far it came with the provider

-- before the provider is asked: by what is kept, by one of the rules 1 to 12, or without an answer
abbrev pub MayRefuseUnasked : Rule → Type 0
MayRefuseUnasked rule.Inner = ⊥
MayRefuseUnasked rule.Outer = ⊥
MayRefuseUnasked k = Unit {0}

abbrev pub EndsUnasked : Result Answer IssueFault → Type 0
EndsUnasked (Ok (answer.Issued p)) = ⊥
EndsUnasked (Ok (answer.Kept p)) = Unit {0}
EndsUnasked (Ok (answer.Refused k)) = MayRefuseUnasked k
EndsUnasked (Err fault.KeeperFault) = Unit {0}
EndsUnasked (Err fault.ProviderFault) = ⊥
EndsUnasked (Err (fault.NoKey r)) = ⊥
EndsUnasked (Err fault.NoMemory) = Unit {0}

-- by the verdicts: one of the rules 13 and 14, or a fault of the provider
abbrev pub EndsByVerdicts : Result Answer IssueFault → Type 0
EndsByVerdicts (Ok (answer.Issued p)) = ⊥
EndsByVerdicts (Ok (answer.Kept p)) = ⊥
EndsByVerdicts (Ok (answer.Refused k)) = (k ≡ rule.Inner) ⊎ (k ≡ rule.Outer)
EndsByVerdicts (Err fault.KeeperFault) = ⊥
EndsByVerdicts (Err fault.ProviderFault) = Unit {0}
EndsByVerdicts (Err (fault.NoKey r)) = ⊥
EndsByVerdicts (Err fault.NoMemory) = ⊥

-- no rule is broken, and nothing could be signed
abbrev pub EndsUnsigned : Result Answer IssueFault → Type 0
EndsUnsigned (Ok a) = ⊥
EndsUnsigned (Err fault.KeeperFault) = ⊥
EndsUnsigned (Err fault.ProviderFault) = Unit {0}
EndsUnsigned (Err (fault.NoKey r)) = Unit {0}
EndsUnsigned (Err fault.NoMemory) = Unit {0}

-- After a signing the certificate is issued; or the keeper says to the adding that the key is there or the table full; or its
-- adding failed, or memory was wanting.
abbrev pub EndsSigned : Result Answer IssueFault → Type 0
EndsSigned (Ok (answer.Issued p)) = Unit {0}
EndsSigned (Ok (answer.Kept p)) = Unit {0}
EndsSigned (Ok (answer.Refused k)) = (k ≡ rule.Used) ⊎ (k ≡ rule.Full)
EndsSigned (Err fault.KeeperFault) = Unit {0}
EndsSigned (Err fault.ProviderFault) = ⊥
EndsSigned (Err (fault.NoKey r)) = ⊥
EndsSigned (Err fault.NoMemory) = Unit {0}

-- ---- what was asked

-- The provider is as it was: what it says, holds and signed, and its count.
pub record Unasked (was now : Standing) (result : Result Answer IssueFault) : Type 0 where
  pub ends : EndsUnasked result
  pub says : now.says ≡ was.says
  pub holds : now.holds ≡ was.holds
  pub signed : now.signed ≡ was.signed
  pub faults : now.faults ≡ was.faults

-- It was asked for verdicts alone, where by what was seen no rule up to 12 is broken: its count alone may have changed.
pub record AskedVerdicts (c : Case) (was now : Standing) (result : Result Answer IssueFault) : Type 0 where
  pub ends : EndsByVerdicts result
  pub request : Request
  pub registration : Registration
  pub seen : Seen
  pub saw : HasSeen c request registration seen
  pub unbroken : first_seen c.day request registration seen ≡ None
  pub says : now.says ≡ was.says
  pub holds : now.holds ≡ was.holds
  pub signed : now.signed ≡ was.signed

-- the key of the row that signs, and the text of the body that is due
abbrev pub due_pair : Request → Registration → Signer → ℕ × ℕ → Pair
due_pair r g s days = (public_key s.key, cert_message (due_body r g s days))

abbrev pub SignsAtMost : Pair → Signed × Signed → Result Answer IssueFault → Type 0
SignsAtMost pair signed result = (EndsUnsigned result × (signed.1 ≡ signed.0)) ⊎ (EndsSigned result × SignsMore signed (pair ∷ []))

-- It was to sign, where by what was seen and by its verdicts no rule is broken: it signed the body that is due, or nothing.
pub record AskedToSign (said : Says) (c : Case) (was now : Standing) (result : Result Answer IssueFault) : Type 0 where
  pub request : Request
  pub registration : Registration
  pub signer : Signer
  pub days : ℕ × ℕ
  pub may : MayMake said c request registration signer days
  pub signs : SignsAtMost (due_pair request registration signer days) (was.signed, now.signed) result

-- what was asked where by what was seen no rule up to 12 is broken
abbrev pub AsksProvider : (said : Says) → Case → (was now : Standing) → Result Answer IssueFault → Type 0
AsksProvider said c was now result = AskedVerdicts c was now result ⊎ AskedToSign said c was now result

-- what was asked of the provider in a call
abbrev pub CallsProvider : (said : Says) → Case → (was now : Standing) → Result Answer IssueFault → Type 0
CallsProvider said c was now result = Unasked was now result ⊎ AsksProvider said c was now result

-- ---- the key to sign with

-- no rule is broken by what was seen and by the verdicts, and the key of the row to sign with, which has this reference,
-- isn't held
pub record MissesKey (said : Says) (holds : Holds) (c : Case) (reference : List ℕ) : Type 0 where
  pub request : Request
  pub registration : Registration
  pub signer : Signer
  pub days : ℕ × ℕ
  pub may : MayMake said c request registration signer days
  pub named : signer.reference ≡ reference
  pub missing : holds (public_key signer.key) ≡ false

-- ---- what a call owes whatever keeper it has, beside what it asked of the provider

pub record Owes (said : Says) (c : Case) (k : ℕ × ℕ) (was now : Standing) (result : Result Answer IssueFault) : Type 0 where
  pub answered : Answered said now.says was.holds c result
  pub cause : IssueCause (MissesKey said was.holds c) k (was.faults, now.faults) result
  pub provider : StaysTrue was.says now.says was.holds now.holds was.signed now.signed

abbrev pub OwesAsking : (said : Says) → Case → ℕ × ℕ → (was now : Standing) → Result Answer IssueFault → Type 0
OwesAsking said c k was now result = Owes said c k was now result × AsksProvider said c was now result

abbrev pub OwesAll : (said : Says) → Case → ℕ × ℕ → (was now : Standing) → Result Answer IssueFault → Type 0
OwesAll said c k was now result = Owes said c k was now result × CallsProvider said c was now result

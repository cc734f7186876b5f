-- What was done to a chip over a run, the newest first, and what a crash at any moment leaves of it (this project's own).
use Rattle.std.specs.Prelude.{◌≡◌, ◌⊎◌, ◌<◌, ◌≤◌, ◌++◌, ℕ, List, [], ◌∷◌, Option, Some, None, Result, Ok, Err, Bool, ◌||◌, not, is_some, if◌then◌else◌, option_map}
use Rattle.cvc_grammar.specs.ReadingOrder.{read_cert}
use Rattle.cvc_grammar.specs.declared.certificate.Cert.{Cert}
use Rattle.cvc_grammar.specs.declared.certificate.CertBody.{CertBody}
use Rattle.cvc_grammar.specs.declared.refusal.CvcRefusal.{CvcRefusal}
use Rattle.chip_verify.specs.Trust.{Trust}
use Rattle.chip_verify.specs.Session.{SessionValue, no_session}
use Rattle.chip_verify.specs.Refusals.{Issuer, sort_of, issuer_of, is_held, refusal_of}
use Rattle.chip_verify.specs.Step.{trust_after, session_after}
use Rattle.chip_slots.specs.Image.{trust_read}

pub data Deed : Type 0 where
  -- made with this trust
  Made : Trust → Deed
  Opened : Deed
  -- these bytes were imported, with this verdict on their signature
  Given : List ℕ → Bool → Deed

-- Whether what an act was to change is there: known at its return, or where a device failure left it open, not until
-- a reading of all slots, at that number of calls.
pub data Settling : Type 0 where
  Answered : Settling
  Unsettled : Settling
  Found : ℕ → Settling
  Lost : ℕ → Settling

-- one act, with the device calls before it and at its return
pub record Act : Type 0 where
  pub deed : Deed
  pub from : ℕ
  pub to : ℕ
  pub settling : Settling

-- a trust and a session, where the chip has one
abbrev pub ChipAfter : Type 0
ChipAfter = Option (Trust × SessionValue)

abbrev pub moved : Trust → SessionValue → CertBody → Option Issuer → Trust × SessionValue
moved t s c (Some i) = (trust_after (sort_of c.template.role) t s c i, session_after (sort_of c.template.role) s c i)
moved t s c None = (t, s)

-- an accepted certificate moves the chip, and any other leaves it
abbrev pub given : Trust → SessionValue → Result Cert CvcRefusal → Bool → Trust × SessionValue
given t s (Ok c) verdict =
    if is_held t c.body || is_some (refusal_of t s c.body) || not verdict then (t, s)
    else moved t s c.body (issuer_of t s c.body)
given t s (Err e) verdict = (t, s)

abbrev pub does : Deed → ChipAfter → ChipAfter
does (Made t) chip = Some (t, no_session)
does Opened (Some ts) = Some (ts.0, no_session)
does Opened None = None
does (Given bytes verdict) (Some ts) = Some (given ts.0 ts.1 (read_cert bytes) verdict)
does (Given bytes verdict) None = None

-- the chip after these acts, the newest first
abbrev pub after : List Act → ChipAfter
after [] = None
after (a ∷ acts) = does a.deed (after acts)

abbrev pub trust_of : ChipAfter → Option Trust
trust_of chip = option_map (λ ts. ts.0) chip

-- the change isn't known to be missing at this moment
abbrev pub MayStand : Settling → ℕ → Type 0
MayStand Answered m = Unit {0}
MayStand Unsettled m = Unit {0}
MayStand (Found at) m = Unit {0}
MayStand (Lost at) m = m < at

-- the change may be missing at this moment
abbrev pub MayMiss : Settling → ℕ → Type 0
MayMiss Answered m = ⊥
MayMiss Unsettled m = Unit {0}
MayMiss (Found at) m = m < at
MayMiss (Lost at) m = Unit {0}

-- the acts that had begun by the moment, but those whose change is missing; what isn't settled may stand there or not
abbrev pub IsTaken : List Act → ℕ → List Act → Type 0
IsTaken [] m taken = taken ≡ []
IsTaken (a ∷ acts) m taken =
    ((rest : List Act) × (a.from ≤ m) × MayStand a.settling m × (taken ≡ a ∷ rest) × IsTaken acts m rest)
    ⊎ (((m < a.from) ⊎ MayMiss a.settling m) × IsTaken acts m taken)

-- an act's change is known to be there: it was answered by this moment, or read by then
abbrev pub IsKnown : Settling → ℕ → ℕ → Type 0
IsKnown Answered to m = to ≤ m
IsKnown Unsettled to m = ⊥
IsKnown (Found at) to m = at ≤ m
IsKnown (Lost at) to m = ⊥

-- the act had begun by this moment, and its change is known to be there
abbrev pub IsSure : Act → ℕ → Type 0
IsSure a m = (a.from ≤ m) × IsKnown a.settling a.to m

abbrev pub NoneSure : List Act → ℕ → Type 0
NoneSure [] m = Unit {0}
NoneSure (a ∷ acts) m = (IsSure a m → ⊥) × NoneSure acts m

-- An image at a moment reads as the trust after some of the acts taken by then: all but the newest ones, of which none
-- is sure by then.
pub record Fits (acts : List Act) (m : ℕ) (image : List ℕ) : Type 0 where
  pub taken : List Act
  pub is_taken : IsTaken acts m taken
  pub newest : List Act
  pub kept : List Act
  pub split : taken ≡ newest ++ kept
  pub unsure : NoneSure newest m
  pub reads : trust_read image ≡ trust_of (after kept)

abbrev pub IsMaking : Deed → Type 0
IsMaking (Made t) = Unit {0}
IsMaking Opened = ⊥
IsMaking (Given bytes verdict) = ⊥

abbrev pub NoMaking : List Act → Type 0
NoMaking [] = Unit {0}
NoMaking (a ∷ acts) = (IsMaking a.deed → ⊥) × NoMaking acts

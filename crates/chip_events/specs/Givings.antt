-- Certificates that are given to an opened chip, one after another, up to the first that isn't taken (this project's own).
use Rattle.std.specs.Prelude.{◌≡◌, ℕ, List, [], ◌∷◌, ◌++◌, Option, Result, Ok, Err, Bool, false, map, option_map}
use Rattle.cvc_grammar.specs.ReadingOrder.{read_cert}
use Rattle.chip_verify.specs.declared.answers.Imported.{Imported}
use Rattle.chip_verify.specs.Trust.{Trust, points}
use Rattle.chip_verify.specs.Session.{no_session, granted}
use Rattle.chip_slots.specs.declared.answers.ChipRefusal.{ChipRefusal}
use Rattle.chip_slots.specs.Chips.{ChipValue}
use Rattle.chip_events.specs.declared.answers.Taken.{Taken}
use Rattle.chip_events.specs.declared.answers.Grant.{Grant}
use Rattle.chip_events.specs.declared.answers.Shown.{Shown}
use Rattle.chip_events.specs.declared.answers.ShownEnd.{ShownEnd}
use Rattle.chip_events.specs.declared.answers.ShownEnd.TheVariants as ends
use Rattle.chip_events.specs.Told.{ChipTold, ChipPart}
use Rattle.chip_events.specs.Makings.{holder_of}
use Rattle.chip_events.specs.Imports.{InHand, Imports}

-- ---- one certificate

-- What these bytes are to the chip that took them.
abbrev pub taken_as : Imported → List ℕ → Taken
taken_as what bytes = record { what = what; holder = holder_of (read_cert bytes) }

abbrev pub taken_by : Result Imported ChipRefusal → List ℕ → Result Taken ChipRefusal
taken_by (Ok what) bytes = Ok (taken_as what bytes)
taken_by (Err e) bytes = Err e

-- The chip took the certificate as this, or answered so.
abbrev pub Gives : (chip : ℕ) → InHand → List ℕ → Result Taken ChipRefusal → InHand → Type 0
Gives chip w bytes (Ok taken) w' = (verdict : Bool) × Imports chip w bytes verdict (Ok taken.what) w' × (taken ≡ taken_as taken.what bytes)
Gives chip w bytes (Err e) w' = (verdict : Bool) × Imports chip w bytes verdict (Err e) w'

-- The next of several was given, and noted behind those that were taken before, if the chip took it.
abbrev pub GivesNext : (chip : ℕ) → InHand → List ℕ → Result (Unit {0}) ChipRefusal → (before after : List Taken) → InHand → Type 0
GivesNext chip w bytes (Ok u) before after left = (taken : Taken) × Gives chip w bytes (Ok taken) left × (after ≡ before ++ taken ∷ [])
GivesNext chip w bytes (Err e) before after left = Gives chip w bytes (Err e) left × (after ≡ before)

-- ---- certificates in order

-- How the giving stopped: every certificate was taken, one was answered so, or memory was wanting before the next.
pub data Stop : Type 0 where
  AllTaken : Stop
  AnsweredBy : ChipRefusal → Stop
  OutOfRoom : Stop

-- From what stands in hand these certificates, of which these were taken, lead to what stands then.
abbrev pub GivesAll : (chip : ℕ) → InHand → List (List ℕ) → List Taken → Stop → InHand → Type 0
GivesAll chip w [] [] AllTaken w' = w' ≡ w
GivesAll chip w (b ∷ certs) (t ∷ taken) stop w' = (mid : InHand) × Gives chip w b (Ok t) mid × GivesAll chip mid certs taken stop w'
GivesAll chip w (b ∷ certs) [] (AnsweredBy e) w' = Gives chip w b (Err e) w'
GivesAll chip w (b ∷ certs) [] OutOfRoom w' = w' ≡ w
GivesAll chip w [] [] (AnsweredBy e) w' = ⊥
GivesAll chip w [] [] OutOfRoom w' = ⊥
GivesAll chip w [] (t ∷ taken) stop w' = ⊥
GivesAll chip w (b ∷ certs) [] AllTaken w' = ⊥

-- ---- the whole answer

-- The rights that the session grants, on the chip's day: where it has a terminal.
abbrev pub grant_in : ChipValue → Option Grant
grant_in o = option_map (λ rights. record { rights = rights; day = o.state.day }) (granted o.session)

abbrev pub EndsAt : (chip : ℕ) → InHand → List (List ℕ) → List Taken → ShownEnd → InHand → Type 0
EndsAt chip w certs taken (ends.AllTaken grant) left = GivesAll chip w certs taken AllTaken left × (grant ≡ grant_in left.opened)
EndsAt chip w certs taken (ends.NotTaken e) left = GivesAll chip w certs taken (AnsweredBy e) left

-- These certificates were shown with this answer. Where memory was wanting, those before the next one were taken.
abbrev pub ShowsAll : {E : Type 0} → (chip : ℕ) → InHand → List (List ℕ) → Result Shown E → InHand → Type 0
ShowsAll chip w certs (Ok shown) left = EndsAt chip w certs shown.taken shown.end left
ShowsAll chip w certs (Err e) left = (taken : List Taken) × GivesAll chip w certs taken OutOfRoom left

-- Each certificate was taken, so that more may be shown.
abbrev pub IsAllTaken : ShownEnd → Type 0
IsAllTaken (ends.AllTaken grant) = Unit {0}
IsAllTaken (ends.NotTaken e) = ⊥

abbrev pub WereTaken : {E : Type 0} → Result Shown E → Type 0
WereTaken (Ok shown) = IsAllTaken shown.end
WereTaken (Err e) = ⊥

-- Where it stopped, by what the chip answered last.
abbrev pub stop_of : {E : Type 0} → Result (Result (Unit {0}) ChipRefusal) E → Stop
stop_of (Ok (Ok u)) = AllTaken
stop_of (Ok (Err e)) = AnsweredBy e
stop_of (Err e) = OutOfRoom

-- It stopped at the end.
abbrev pub IsAll : {E : Type 0} → Result (Result (Unit {0}) ChipRefusal) E → Type 0
IsAll (Ok (Ok u)) = Unit {0}
IsAll (Ok (Err e)) = ⊥
IsAll (Err e) = ⊥

abbrev pub ended_as : ChipValue → Result (Unit {0}) ChipRefusal → ShownEnd
ended_as o (Ok u) = ends.AllTaken (grant_in o)
ended_as o (Err e) = ends.NotTaken e

-- The chip answered so to the first that wasn't taken.
abbrev pub IsEndedBy : ChipRefusal → ShownEnd → Type 0
IsEndedBy e (ends.AllTaken grant) = ⊥
IsEndedBy e (ends.NotTaken f) = f ≡ e

abbrev pub EndsBy : {E : Type 0} → ChipRefusal → Result Shown E → Type 0
EndsBy e (Ok shown) = IsEndedBy e shown.end
EndsBy e (Err x) = ⊥

-- The references of a chip's points, the newest first.
abbrev pub references_of : Trust → List (List ℕ)
references_of t = map (λ p. p.reference) (points t)

-- ---- the chip's part before and after

-- It was opened with this.
abbrev pub in_hand : ChipPart → ChipTold → Trust × ℕ → InHand
in_hand s now read = record {
  chip = now;
  opened = record { state = read.0; session = no_session; generation = read.1; needs_opening = false };
  acks = s.acks;
  verdicts = s.verdicts;
  provider = s.provider;
}

abbrev pub put_back : InHand → ChipPart
put_back w = record { chip = w.chip; acks = w.acks; verdicts = w.verdicts; provider = w.provider }

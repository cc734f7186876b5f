-- What making a chip does to what is told of it (this project's own).
use Rattle.std.specs.Prelude.{◌≡◌, ◌≢◌, ◌⊎◌, ◌≤◌, ℕ, List, [], Option, Some, None, Result, Ok, Err, true, false}
use Rattle.cvc_grammar.specs.ReadingOrder.{read_cert}
use Rattle.cvc_grammar.specs.declared.certificate.Cert.{Cert}
use Rattle.cvc_grammar.specs.declared.refusal.CvcRefusal.{CvcRefusal}
use Rattle.chip_verify.specs.Trust.{Trust}
use Rattle.chip_verify.specs.Root.{first_trust}
use Rattle.chip_slots.specs.declared.answers.MakeRefusal.{MakeRefusal}
use Rattle.chip_slots.specs.declared.answers.MakeRefusal.TheVariants as refuses
use Rattle.chip_slots.specs.Image.{is_memory}
use Rattle.chip_slots.specs.Acts.{Answered, Unsettled}
use Rattle.chip_events.specs.declared.answers.MakeAnswer.{MakeAnswer}
use Rattle.chip_events.specs.declared.answers.MakeAnswer.TheVariants as makes
use Rattle.chip_events.specs.Acts.{ChipAct, MakeCall, IsReadBy}
use Rattle.chip_events.specs.Told.{ChipTold}
use Rattle.chip_events.specs.Openings.{IsQuiet, IsFaulty, with_act, IsCounted, IsUnread}

-- ---- a making with a trust

-- The acts as a reading of all slots left them, at some number of calls within the call.
pub record IsReadWithin (c c' : ChipTold) (settled : List ChipAct) : Type 0 where
  pub at : ℕ
  pub from : c.calls ≤ at
  pub to : at ≤ c'.calls
  pub settles : IsReadBy at c.reads c.acts settled

-- The memory read as no state, and reads as this trust.
pub record IsMadeWith (t : Trust) (c c' : ChipTold) : Type 0 where
  pub quiet : IsQuiet c c'
  pub read : c.reads ≡ None
  pub settled : List ChipAct
  pub settles : IsReadWithin c c' settled
  pub next : c' ≡ record c {
    calls = c'.calls;
    faults = c'.faults;
    reads = Some (t, 0);
    acts = with_act c c' (MakeCall t (Ok tt)) Answered settled;
  }

-- It had a state already.
pub record WasThere (c c' : ChipTold) : Type 0 where
  pub quiet : IsQuiet c c'
  pub read : c.reads ≢ None
  pub settles : IsReadWithin c c' c'.acts
  pub next : IsCounted c c'.acts c'

-- A device failed while the first state was written: the memory reads as nothing, or as that state.
pub record IsHalfMade (t : Trust) (c c' : ChipTold) : Type 0 where
  pub failed : IsFaulty c c'
  pub read : c.reads ≡ None
  pub settled : List ChipAct
  pub settles : IsReadWithin c c' settled
  pub either : (c'.reads ≡ None) ⊎ (c'.reads ≡ Some (t, 0))
  pub next : c' ≡ record c {
    calls = c'.calls;
    faults = c'.faults;
    reads = c'.reads;
    acts = with_act c c' (MakeCall t (Err refuses.DiskFault)) Unsettled settled;
  }

-- ---- the call

-- What a chip is made with, by what was read of the certificate: none where it can't be read or is no root.
abbrev pub root_trust : Result Cert CvcRefusal → ℕ → Option Trust
root_trust (Ok cert) day = first_trust cert.body day
root_trust (Err e) day = None

abbrev pub holder_of : Result Cert CvcRefusal → List ℕ
holder_of (Ok c) = c.body.holder
holder_of (Err e) = []

-- The trust that the certificate makes on this day.
pub record IsRoot (read : Result Cert CvcRefusal) (day : ℕ) : Type 0 where
  pub trust : Trust
  pub made : root_trust read day ≡ Some trust

-- A making with a certificate that was read so. It is an act only where it wrote: before that nothing of it can stand on
-- the disk.
abbrev pub MakesSo : Result Cert CvcRefusal → ℕ → ChipTold → MakeAnswer → ChipTold → Type 0
MakesSo read day c makes.WrongSize c' = (is_memory c.size ≡ false) × (c' ≡ c)
MakesSo read day c makes.Unfounded c' = (is_memory c.size ≡ true) × (root_trust read day ≡ None) × (c' ≡ c)
MakesSo read day c (makes.Made holder) c' =
    (is_memory c.size ≡ true) × (root : IsRoot read day) × IsMadeWith root.trust c c' × (holder ≡ holder_of read)
MakesSo read day c makes.WasMade c' = (is_memory c.size ≡ true) × IsRoot read day × WasThere c c'
MakesSo read day c makes.DiskFault c' =
    (is_memory c.size ≡ true) × (root : IsRoot read day) × (IsUnread c c' ⊎ IsHalfMade root.trust c c')

-- Where memory was wanting, nothing was done.
abbrev pub MakesRead : {E : Type 0} → Result Cert CvcRefusal → ℕ → ChipTold → Result MakeAnswer E → ChipTold → Type 0
MakesRead read day c (Ok answer) c' = MakesSo read day c answer c'
MakesRead read day c (Err e) c' = (is_memory c.size ≡ true) × (c' ≡ c)

-- A making with these bytes.
abbrev pub Makes : {E : Type 0} → List ℕ → ℕ → ChipTold → Result MakeAnswer E → ChipTold → Type 0
Makes bytes day c result c' = MakesRead (read_cert bytes) day c result c'

-- The answer of a call that leaves the disk alone.
abbrev pub IsIdle : MakeAnswer → Type 0
IsIdle makes.WrongSize = Unit {0}
IsIdle makes.Unfounded = Unit {0}
IsIdle (makes.Made holder) = ⊥
IsIdle makes.WasMade = ⊥
IsIdle makes.DiskFault = ⊥

abbrev pub DoesNothing : {E : Type 0} → Result MakeAnswer E → Type 0
DoesNothing (Ok answer) = IsIdle answer
DoesNothing (Err e) = Unit {0}

-- ---- the answer by what the call gave

abbrev pub answered_as : Result (Unit {0}) MakeRefusal → List ℕ → MakeAnswer
answered_as (Ok u) holder = makes.Made holder
answered_as (Err refuses.Size) holder = makes.WrongSize
answered_as (Err refuses.NotRoot) holder = makes.Unfounded
answered_as (Err refuses.Made) holder = makes.WasMade
answered_as (Err refuses.DiskFault) holder = makes.DiskFault

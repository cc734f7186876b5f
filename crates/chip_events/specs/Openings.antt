-- What opening a chip does to what is told of it (this project's own).
use Rattle.std.specs.Prelude.{◌≡◌, ◌<◌, ◌≤◌, ℕ, List, ◌∷◌, Some, None, Result, Ok, Err, true}
use Rattle.eac_base.specs.Causes.{Rose}
use Rattle.chip_verify.specs.Trust.{Trust}
use Rattle.chip_slots.specs.declared.answers.ChipRefusal.{ChipRefusal}
use Rattle.chip_slots.specs.declared.answers.ChipRefusal.TheVariants as refusal
use Rattle.chip_slots.specs.Image.{is_memory}
use Rattle.chip_slots.specs.Acts.{Settling, Answered}
use Rattle.chip_slots.specs.Chips.{ChipValue}
use Rattle.chip_events.specs.Acts.{ChipAct, ChipCall, OpenCall, IsReadBy}
use Rattle.chip_events.specs.Told.{ChipTold}

-- Device calls were made, and none of them failed.
pub record IsQuiet (c c' : ChipTold) : Type 0 where
  pub calls : c.calls ≤ c'.calls
  pub faults : c'.faults ≡ c.faults

-- Device calls were made, and one failed.
pub record IsFaulty (c c' : ChipTold) : Type 0 where
  pub calls : c.calls ≤ c'.calls
  pub faults : c.faults ≤ c'.faults
  pub cause : Rose c.faults c'.faults

-- An act from the one state of a chip to the other, above these.
abbrev pub with_act : ChipTold → ChipTold → ChipCall → Settling → List ChipAct → List ChipAct
with_act c c' call settling acts = record { call = call; from = c.calls; to = c'.calls; settling = settling } ∷ acts

-- Nothing but the counts changed, and the acts, which are these.
abbrev pub IsCounted : ChipTold → List ChipAct → ChipTold → Type 0
IsCounted c acts c' = c' ≡ record c { calls = c'.calls; faults = c'.faults; acts = acts }

-- This trust and generation were read of a memory of the right length. That is an act, and settles what was left open.
pub record IsOpenedAs (c : ChipTold) (t : Trust) (generation : ℕ) (c' : ChipTold) : Type 0 where
  pub memory : is_memory c.size ≡ true
  pub quiet : IsQuiet c c'
  pub begun : c.calls < c'.calls
  pub read : c.reads ≡ Some (t, generation)
  pub settled : List ChipAct
  pub settles : IsReadBy c'.calls c.reads c.acts settled
  pub next : IsCounted c (with_act c c' (OpenCall t) Answered settled) c'

-- The memory reads as no state.
pub record IsFoundEmpty (c c' : ChipTold) : Type 0 where
  pub quiet : IsQuiet c c'
  pub begun : c.calls < c'.calls
  pub read : c.reads ≡ None
  pub settles : IsReadBy c'.calls c.reads c.acts c'.acts
  pub next : IsCounted c c'.acts c'

-- A device failed before anything was written.
pub record IsUnread (c c' : ChipTold) : Type 0 where
  pub failed : IsFaulty c c'
  pub next : IsCounted c c.acts c'

-- An opening that gave this trust with its generation, or ended so.
abbrev pub Opens : ChipTold → Result (Trust × ℕ) ChipRefusal → ChipTold → Type 0
Opens c (Ok read) c' = IsOpenedAs c read.0 read.1 c'
Opens c (Err refusal.NoChip) c' = IsFoundEmpty c c'
Opens c (Err refusal.DiskFault) c' = IsUnread c c'
Opens c (Err refusal.ProviderFault) c' = ⊥
Opens c (Err refusal.NeedsOpen) c' = ⊥
Opens c (Err (refusal.Syntax e)) c' = ⊥
Opens c (Err (refusal.Refused k)) c' = ⊥
Opens c (Err refusal.Worn) c' = ⊥

-- What was read of a chip that was opened.
abbrev pub read_in : Result ChipValue ChipRefusal → Result (Trust × ℕ) ChipRefusal
read_in (Ok o) = Ok (o.state, o.generation)
read_in (Err e) = Err e

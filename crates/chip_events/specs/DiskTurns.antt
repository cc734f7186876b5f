-- What a call on one chip says, by that chip's disk alone (this project's own).
use Rattle.std.specs.Prelude.{◌≡◌, ◌++◌, ℕ, List, Option, Some, None, Result, IfOk, true, false}
use Rattle.eac_base.specs.declared.acks.Ack.{Ack}
use Rattle.signature_provider.specs.declared.provider.SignatureProvider.{Ghosts as ProviderOf}
use Rattle.chip_slots.specs.declared.answers.ChipRefusal.{ChipRefusal}
use Rattle.chip_slots.specs.declared.disk.ChipDisk.{Ghosts as DiskOf}
use Rattle.chip_slots.specs.Image.{is_memory}
use Rattle.chip_slots.specs.Chips.{ChipValue, IsOpened}
use Rattle.chip_events.specs.declared.count.ImportCount.{ImportCount}
use Rattle.chip_events.specs.Verdicts.{Verdict, AreSaid}
use Rattle.chip_events.specs.Told.{ChipTold, ChipPart, found_so}
use Rattle.chip_events.specs.Openings.{Opens, read_in}
use Rattle.chip_events.specs.Imports.{InHand}
use Rattle.chip_events.specs.Held.{IsChipOf, IsInHand}

-- ---- what is known of every disk

-- A disk's length, number of calls and count of faults.
pub record DiskKnown : Type 0 where
  pub size : ℕ
  pub calls : ℕ
  pub faults : ℕ

abbrev pub counts_of : {D : Type 0} → DiskOf D → D → DiskKnown
counts_of G d = record { size = G.size d; calls = G.moment d; faults = G.faults d }

abbrev pub disk_of : ChipTold → DiskKnown
disk_of c = record { size = c.size; calls = c.calls; faults = c.faults }

-- The chip has the disk's counts, and this number of imports.
pub record HasCounts (k : DiskKnown) (number : ℕ) (c : ChipTold) : Type 0 where
  pub disk : disk_of c ≡ k
  pub imports : c.imports ≡ number

-- ---- one event

-- Some states of a chip lead by the turn from the disk's counts and the number of imports before to those after. Where
-- the disk tells, it still does, and each state of it leads to one after.
pub record DiskTurn {D : Type 0} (G : DiskOf D) (d d' : D) (imports : ℕ × ℕ) (leads : ChipTold → ChipTold → Type 0) : Type 0 where
  pub some : ChipTold
  pub then_some : ChipTold
  pub before : HasCounts (counts_of G d) imports.0 some
  pub after : HasCounts (counts_of G d') imports.1 then_some
  pub turn : leads some then_some
  pub tells : G.tells d → G.tells d'
  pub told : G.tells d → (first : ℕ) (c : ChipTold) → IsChipOf G d first c → c.imports ≡ imports.0 →
      (c' : ChipTold) × (c'.imports ≡ imports.1) × IsChipOf G d' first c' × leads c c'

-- The same of an event that may ask the provider and acknowledge imports.
pub record ProvidedTurn {D P : Type 0} (G : DiskOf D) (H : ProviderOf P) (d d' : D) (p p' : P) (imports imports' : ImportCount)
    (acks acks' : List Ack) (leads : ChipPart → ChipPart → Type 0) : Type 0 where
  pub asked : List Verdict
  pub said : AreSaid (H.says p) asked
  pub new : List Ack
  pub acks_are : acks' ≡ acks ++ new
  pub chip : imports'.chip ≡ imports.chip
  pub turn : DiskTurn G d d' (imports.count, imports'.count)
      (λ c c'. leads (found_so c (H.faults p)) (record { chip = c'; acks = new; verdicts = asked; provider = H.faults p' }))

-- ---- a chip in hand

-- What the disk tells of the chip since this moment; or where it tells nothing, its counts alone.
abbrev pub IsChipFor : {D : Type 0} → DiskOf D → D → Option ℕ → ChipTold → Type 0
IsChipFor G d (Some first) c = G.tells d × IsChipOf G d first c
IsChipFor G d None c = disk_of c ≡ counts_of G d

abbrev pub IsHandFor : {D : Type 0} → DiskOf D → D → Option ℕ → InHand → Type 0
IsHandFor G d (Some first) w = G.tells d × IsInHand (G.told d) (G.size d) (G.moment d) (G.faults d) first w
IsHandFor G d None w = (disk_of w.chip ≡ counts_of G d) × (w.opened.needs_opening ≡ false)

-- The chip that was opened is in hand, on this disk, with this number of imports and this count of the provider.
pub record IsHandOf {D : Type 0} (G : DiskOf D) (d : D) (since : Option ℕ) (provider number : ℕ) (o : ChipValue) (w : InHand) : Type 0 where
  pub hand : IsHandFor G d since w
  pub memory : is_memory (G.size d) ≡ true
  pub opened : w.opened ≡ o
  pub provider_is : w.provider ≡ provider
  pub number_is : w.chip.imports ≡ number

-- ---- an opening, after which more may come

-- One opening, after which the chip is in hand where it was opened.
pub record IsOpenedTo {D : Type 0} (G : DiskOf D) (d : D) (since : Option ℕ) (c : ChipTold) (opened : Result ChipValue ChipRefusal)
    (c' : ChipTold) : Type 0 where
  pub opens : Opens c (read_in opened) c'
  pub chip_at : IsChipFor G d since c'
  pub in_hand : IfOk opened (λ o. (acks : List Ack) (verdicts : List Verdict) (provider : ℕ) →
      IsHandOf G d since provider c'.imports o (record { chip = c'; opened = o; acks = acks; verdicts = verdicts; provider = provider }))

-- As `DiskTurn` says it, for any number of imports. A chip that was opened has an empty session.
pub record OpensTo {D : Type 0} (G : DiskOf D) (d d' : D) (number : ℕ) (opened : Result ChipValue ChipRefusal) : Type 0 where
  pub is_chip : IfOk opened IsOpened
  pub some : ChipTold
  pub then_some : ChipTold
  pub before : HasCounts (counts_of G d) number some
  pub after : HasCounts (counts_of G d') number then_some
  pub turn : IsOpenedTo G d' None some opened then_some
  pub tells : G.tells d → G.tells d'
  pub told : G.tells d → (first : ℕ) (c : ChipTold) → IsChipOf G d first c →
      (c' : ChipTold) × (c'.imports ≡ c.imports) × IsOpenedTo G d' (Some first) c opened c'

-- ---- what comes after it

-- What is in hand then: of the same chip, with what was asked and acknowledged. Where the certificates were taken, more
-- may be given.
pub record IsLeft {D : Type 0} (G : DiskOf D) (d : D) (since : Option ℕ) (provider number : ℕ) (o : ChipValue) (goes_on : Type 0)
    (asked : List Verdict) (new : List Ack) (w left : InHand) : Type 0 where
  pub chip_at : IsChipFor G d since left.chip
  pub in_hand : goes_on → IsHandOf G d since provider number o left
  pub opened : left.opened ≡ o
  pub provider_is : left.provider ≡ provider
  pub number_is : left.chip.imports ≡ number
  pub verdicts : left.verdicts ≡ w.verdicts ++ asked
  pub acks : left.acks ≡ w.acks ++ new

-- From whatever is in hand, told or not, the turn leads on.
pub record HandTurn {D P : Type 0} (G : DiskOf D) (H : ProviderOf P) (d d' : D) (p p' : P) (imports imports' : ImportCount)
    (acks acks' : List Ack) (o o' : ChipValue) (goes_on : Type 0) (leads : InHand → InHand → Type 0) : Type 0 where
  pub asked : List Verdict
  pub said : AreSaid (H.says p) asked
  pub new : List Ack
  pub acks_are : acks' ≡ acks ++ new
  pub chip : imports'.chip ≡ imports.chip
  pub size : G.size d' ≡ G.size d
  pub tells : G.tells d → G.tells d'
  pub turn : (since : Option ℕ) (w : InHand) → IsHandOf G d since (H.faults p) imports.count o w →
      (left : InHand) × leads w left × IsLeft G d' since (H.faults p') imports'.count o' goes_on asked new w left

-- Nothing that is told is another one.
pub record IsUntouched {D : Type 0} (G : DiskOf D) (d d' : D) : Type 0 where
  pub told : (m : ℕ) → G.told d' m ≡ G.told d m
  pub size : G.size d' ≡ G.size d
  pub moment : G.moment d' ≡ G.moment d
  pub faults : G.faults d' ≡ G.faults d
  pub tells : (G.tells d → G.tells d') × (G.tells d' → G.tells d)

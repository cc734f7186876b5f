-- What an import does to a chip that was opened (this project's own).
use Rattle.std.specs.Prelude.{◌≡◌, ◌≢◌, ◌⊎◌, ◌<◌, ◌≤◌, ◌+◌, ◌-◌, ◌^◌, ℕ, List, [], ◌∷◌, ◌++◌, Some}
use Rattle.std.specs.Prelude.{Result, Ok, Err, Bool}
use Rattle.eac_base.specs.Causes.{Rose}
use Rattle.eac_base.specs.declared.acks.Ack.{Ack}
use Rattle.cvc_grammar.specs.ReadingOrder.{read_cert}
use Rattle.chip_verify.specs.declared.answers.Imported.{Imported}
use Rattle.chip_verify.specs.Trust.{Trust}
use Rattle.chip_verify.specs.Session.{SessionValue}
use Rattle.chip_slots.specs.declared.answers.ChipRefusal.{ChipRefusal}
use Rattle.chip_slots.specs.declared.answers.ChipRefusal.TheVariants as refusal
use Rattle.chip_slots.specs.Acts.{Settling, Answered, Unsettled, given}
use Rattle.chip_slots.specs.Chips.{ChipValue, read_as, broken, IsReadAsked}
use Rattle.chip_slots.specs.Outcomes.{due_answer, IsMoved}
use Rattle.chip_events.specs.Acts.{ChipAct, GiveCall}
use Rattle.chip_events.specs.Told.{ChipTold, one_more}
use Rattle.chip_events.specs.Verdicts.{Verdict, asked}

-- What stands between two imports of one event: the chip as it is told, as it was opened and moved since, and what the
-- event has of acknowledgements, verdicts and the provider's count.
pub record InHand : Type 0 where
  pub chip : ChipTold
  pub opened : ChipValue
  pub acks : List Ack
  pub verdicts : List Verdict
  pub provider : ℕ

-- What follows of the chip.
abbrev pub follows : ChipValue → List ℕ → Bool → Trust × SessionValue
follows o bytes verdict = given o.state o.session (read_cert bytes) verdict

-- This chip answered an import of this number so: what was answered Ok is acknowledged.
abbrev pub ack_of : {W E : Type 0} → (chip number calls : ℕ) → Result W E → List Ack
ack_of chip number calls (Ok what) = record { chip = chip; import = number; calls = calls } ∷ []
ack_of chip number calls (Err e) = []

module _ (chip : ℕ) (w : InHand) (bytes : List ℕ) (verdict : Bool) where
  abbrev pub number : ℕ
  number = one_more w.chip.imports

  abbrev pub given_act : Result Imported ChipRefusal → Settling → ChipTold → ChipAct
  given_act result settling c' =
      record { call = GiveCall bytes verdict number result; from = w.chip.calls; to = c'.calls; settling = settling }

  -- It was answered as is due: an act, whose change stands. An Ok is acknowledged with the disk's calls at its return.
  pub record IsAnswered (result : Result Imported ChipRefusal) (w' : InHand) : Type 0 where
    pub due : result ≡ due_answer w.opened (read_cert bytes) verdict
    pub moved : IsMoved w.opened (follows w.opened bytes verdict) w'.opened
    pub calls : w.chip.calls ≤ w'.chip.calls
    pub faults : w'.chip.faults ≡ w.chip.faults
    pub provider : w'.provider ≡ w.provider
    pub told : w'.chip ≡ record w.chip {
      calls = w'.chip.calls;
      faults = w'.chip.faults;
      reads = read_as w'.opened;
      imports = number;
      acts = given_act result Answered w'.chip ∷ w.chip.acts;
    }
    pub acks : w'.acks ≡ w.acks ++ ack_of chip number w'.chip.calls result
    pub verdicts : w'.verdicts ≡ w.verdicts ++ asked w.opened (read_cert bytes) verdict

  -- The provider failed, where it was asked. This is no act.
  pub record IsUnheard (w' : InHand) : Type 0 where
    pub is_asked : IsReadAsked w.opened (read_cert bytes)
    pub cause : Rose w.provider w'.provider
    pub later : w.provider ≤ w'.provider
    pub next : w' ≡ record w { chip = record w.chip { imports = number }; provider = w'.provider }

  -- Another state would follow, and the generation is the last one. This is no act.
  pub record IsWornOut (w' : InHand) : Type 0 where
    pub what : Imported
    pub due : due_answer w.opened (read_cert bytes) verdict ≡ Ok what
    pub other : (follows w.opened bytes verdict).0 ≢ w.opened.state
    pub last : w.opened.generation ≡ 2 ^ 64 - 1
    pub next : w' ≡ record w {
      chip = record w.chip { imports = number };
      verdicts = w.verdicts ++ asked w.opened (read_cert bytes) verdict;
    }

  -- A device failed while the other state was written: the memory reads as the old or as the new one.
  pub record IsCutOff (w' : InHand) : Type 0 where
    pub what : Imported
    pub due : due_answer w.opened (read_cert bytes) verdict ≡ Ok what
    pub other : (follows w.opened bytes verdict).0 ≢ w.opened.state
    pub room : w.opened.generation < 2 ^ 64 - 1
    pub cause : Rose w.chip.faults w'.chip.faults
    pub calls : w.chip.calls ≤ w'.chip.calls
    pub faults : w.chip.faults ≤ w'.chip.faults
    pub provider : w'.provider ≡ w.provider
    pub either : (w'.chip.reads ≡ w.chip.reads)
        ⊎ (w'.chip.reads ≡ Some ((follows w.opened bytes verdict).0, w.opened.generation + 1))
    pub opened : w'.opened ≡ broken w.opened
    pub told : w'.chip ≡ record w.chip {
      calls = w'.chip.calls;
      faults = w'.chip.faults;
      reads = w'.chip.reads;
      imports = number;
      acts = given_act (Err refusal.DiskFault) Unsettled w'.chip ∷ w.chip.acts;
    }
    pub acks : w'.acks ≡ w.acks
    pub verdicts : w'.verdicts ≡ w.verdicts ++ asked w.opened (read_cert bytes) verdict

  -- An import with this answer. A chip is opened in each event anew, so none needs opening.
  abbrev pub Imports : Result Imported ChipRefusal → InHand → Type 0
  Imports (Ok what) w' = IsAnswered (Ok what) w'
  Imports (Err (refusal.Syntax e)) w' = IsAnswered (Err (refusal.Syntax e)) w'
  Imports (Err (refusal.Refused k)) w' = IsAnswered (Err (refusal.Refused k)) w'
  Imports (Err refusal.ProviderFault) w' = IsUnheard w'
  Imports (Err refusal.Worn) w' = IsWornOut w'
  Imports (Err refusal.DiskFault) w' = IsCutOff w'
  Imports (Err refusal.NoChip) w' = ⊥
  Imports (Err refusal.NeedsOpen) w' = ⊥

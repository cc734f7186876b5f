-- What comes of an import on a chip that is ready, case by case (this project's own).
use Rattle.std.specs.Prelude.{◌≡◌, ◌≢◌, ◌⊎◌, ◌<◌, ◌+◌, ◌-◌, ◌^◌, ℕ, Some, Result, Ok, Err, Bool, true, false}
use Rattle.cvc_grammar.specs.declared.certificate.Cert.{Cert}
use Rattle.cvc_grammar.specs.declared.refusal.CvcRefusal.{CvcRefusal}
use Rattle.signature_provider.specs.Provider.{Says}
use Rattle.chip_verify.specs.declared.answers.Checked.{Checked}
use Rattle.chip_verify.specs.declared.answers.Checked.TheVariants as checks
use Rattle.chip_verify.specs.declared.answers.Imported.{Imported}
use Rattle.chip_verify.specs.declared.answers.Imported.TheVariants as imports
use Rattle.chip_verify.specs.declared.answers.ImportRefusal.TheVariants as row
use Rattle.chip_verify.specs.Trust.{Trust}
use Rattle.chip_verify.specs.Session.{SessionValue}
use Rattle.chip_verify.specs.Refusals.{Sort, sort_of, checked}
use Rattle.chip_verify.specs.Step.{imported_as}
use Rattle.chip_slots.specs.declared.answers.ChipRefusal.{ChipRefusal}
use Rattle.chip_slots.specs.declared.answers.ChipRefusal.TheVariants as refusal
use Rattle.chip_slots.specs.Crash.{Standing}
use Rattle.chip_slots.specs.Acts.{given}
use Rattle.chip_slots.specs.ActsOf.{verdict_read}
use Rattle.chip_slots.specs.Chips.{ChipValue, read_as, broken, IsReadAsked, LeavesEither, EndsAs}

-- ---- what is due

abbrev pub answer_for : Checked → Bool → Sort → Result Imported ChipRefusal
answer_for checks.Held verdict sort = Ok imports.Held
answer_for (checks.Refused k) verdict sort = Err (refusal.Refused k)
answer_for checks.Ask true sort = Ok (imported_as sort)
answer_for checks.Ask false sort = Err (refusal.Refused row.Signature)

-- The answer where nothing of the outside fails and the memory isn't worn.
abbrev pub due_answer : ChipValue → Result Cert CvcRefusal → Bool → Result Imported ChipRefusal
due_answer c (Ok cert) verdict = answer_for (checked c.state c.session cert.body) verdict (sort_of cert.body.template.role)
due_answer c (Err e) verdict = Err (refusal.Syntax e)

-- The trust and the session that follow, by the provider's verdict.
abbrev pub next_of : Says → ChipValue → Result Cert CvcRefusal → Trust × SessionValue
next_of says c read = given c.state c.session read (verdict_read says c read)

-- ---- what is done

-- The state and the session follow, with the next generation exactly where the state is another one.
pub record IsMoved (c : ChipValue) (next : Trust × SessionValue) (c' : ChipValue) : Type 0 where
  pub state : c'.state ≡ next.0
  pub session : c'.session ≡ next.1
  pub ready : c'.needs_opening ≡ false
  pub generation : ((next.0 ≡ c.state) × (c'.generation ≡ c.generation))
      ⊎ ((next.0 ≢ c.state) × (c.generation < 2 ^ 64 - 1) × (c'.generation ≡ c.generation + 1))

module _ (tells : Type 0) (past told : ℕ → Standing) (from to : ℕ) (says : Says) (c c' : ChipValue) where
  -- It was answered as is due: nothing was written, or the next state was.
  pub record IsDone (read : Result Cert CvcRefusal) (result : Result Imported ChipRefusal) : Type 0 where
    pub due : result ≡ due_answer c read (verdict_read says c read)
    pub moved : IsMoved c (next_of says c read) c'
    pub disk : (c'.generation ≡ c.generation)
        ⊎ (LeavesEither tells past told from to (read_as c) (read_as c') × EndsAs tells past told from to (read_as c) (read_as c'))

  -- The provider failed, where it was asked.
  pub record IsUnanswered (read : Result Cert CvcRefusal) : Type 0 where
    pub asked : IsReadAsked c read
    pub chip : c' ≡ c

  -- Another state would follow, and the generation is the last one.
  pub record IsWornOut (read : Result Cert CvcRefusal) : Type 0 where
    pub what : Imported
    pub due : due_answer c read (verdict_read says c read) ≡ Ok what
    pub other : (next_of says c read).0 ≢ c.state
    pub last : c.generation ≡ 2 ^ 64 - 1
    pub chip : c' ≡ c

  -- A device failed while the other state was written.
  pub record IsCutOff (read : Result Cert CvcRefusal) : Type 0 where
    pub what : Imported
    pub due : due_answer c read (verdict_read says c read) ≡ Ok what
    pub other : (next_of says c read).0 ≢ c.state
    pub room : c.generation < 2 ^ 64 - 1
    pub chip : c' ≡ broken c
    pub leaves : LeavesEither tells past told from to (read_as c) (Some ((next_of says c read).0, c.generation + 1))

  abbrev pub Outcome : Result Cert CvcRefusal → Result Imported ChipRefusal → Type 0
  Outcome read (Ok what) = IsDone read (Ok what)
  Outcome read (Err (refusal.Syntax e)) = IsDone read (Err (refusal.Syntax e))
  Outcome read (Err (refusal.Refused k)) = IsDone read (Err (refusal.Refused k))
  Outcome read (Err refusal.ProviderFault) = IsUnanswered read
  Outcome read (Err refusal.Worn) = IsWornOut read
  Outcome read (Err refusal.DiskFault) = IsCutOff read
  Outcome read (Err refusal.NoChip) = ⊥
  Outcome read (Err refusal.NeedsOpen) = ⊥

-- Which act an import is (this project's own).
use Rattle.std.specs.Prelude.{◌≡◌, ◌+◌, ℕ, List, Some, Result, Ok, Err, Bool, false}
use Rattle.cvc_grammar.specs.declared.certificate.Cert.{Cert}
use Rattle.cvc_grammar.specs.declared.refusal.CvcRefusal.{CvcRefusal}
use Rattle.cvc_grammar.specs.ReadingOrder.{read_cert}
use Rattle.signature_provider.specs.Provider.{Says}
use Rattle.chip_verify.specs.declared.answers.Imported.{Imported}
use Rattle.chip_verify.specs.Trust.{Trust}
use Rattle.chip_verify.specs.Session.{SessionValue}
use Rattle.chip_verify.specs.Step.{verdict_on}
use Rattle.chip_slots.specs.declared.answers.ChipRefusal.{ChipRefusal}
use Rattle.chip_slots.specs.declared.answers.ChipRefusal.TheVariants as refusal
use Rattle.chip_slots.specs.Crash.{Standing}
use Rattle.chip_slots.specs.Acts.{ChipAfter}
use Rattle.chip_slots.specs.Chips.{ChipValue, read_as, LeavesEither}

-- The provider's verdict on the signature of these bytes. What can't be read has none, which changes nothing.
abbrev pub verdict_read : Says → ChipValue → Result Cert CvcRefusal → Bool
verdict_read says c (Ok cert) = verdict_on says c.state c.session cert
verdict_read says c (Err e) = false

abbrev pub verdict_of : Says → ChipValue → List ℕ → Bool
verdict_of says c bytes = verdict_read says c (read_cert bytes)

module _ (tells : Type 0) (past told : ℕ → Standing) (from to : ℕ) where
  -- A device failure left open whether what the act does is there.
  pub record IsOpenAct (c : ChipValue) (done : ChipAfter) : Type 0 where
    pub trust : Trust
    pub session : SessionValue
    pub does_so : done ≡ Some (trust, session)
    pub leaves : LeavesEither tells past told from to (read_as c) (Some (trust, c.generation + 1))

  -- What the act does stands in the chip where the import was answered by Ok or by a refusal of the certificate. What was
  -- answered by a failing provider, by a chip that needs opening or is worn is no act.
  abbrev pub IsActOf : ChipValue → Result Imported ChipRefusal → ChipAfter → ChipValue → Type 0
  IsActOf c (Ok what) done c' = done ≡ Some (c'.state, c'.session)
  IsActOf c (Err (refusal.Syntax e)) done c' = done ≡ Some (c'.state, c'.session)
  IsActOf c (Err (refusal.Refused k)) done c' = done ≡ Some (c'.state, c'.session)
  IsActOf c (Err refusal.DiskFault) done c' = IsOpenAct c done
  IsActOf c (Err refusal.NoChip) _ c' = Unit {0}
  IsActOf c (Err refusal.ProviderFault) _ c' = Unit {0}
  IsActOf c (Err refusal.NeedsOpen) _ c' = Unit {0}
  IsActOf c (Err refusal.Worn) _ c' = Unit {0}

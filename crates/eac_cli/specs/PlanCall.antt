-- What a call of `plan` did, by its status (this project's own).
use Rattle.std.specs.Prelude.{◌≡◌, ◌⊎◌, ℕ, ◌<◌, ◌≤◌, List, length, Option, IfSome, Ok, Err}
use Rattle.std.specs.Io.KnownBytes.{Appends}
use Rattle.eac_base.specs.Causes.{AppendsFront}
use Rattle.renewal_plan.specs.NeedText.{read_need}
use Rattle.renewal_plan.specs.declared.need.Need.{Need}
use Rattle.renewal_plan.specs.declared.need_refusal.NeedRefusal.TheVariants.{Fault}
use Rattle.eac_cli.specs.declared.tool.Status.{Status}
use Rattle.eac_cli.specs.declared.tool.Status.TheVariants.{Done, Usage, ScriptFault, TooLong, ReadFault, WriteFault}
use Rattle.eac_cli.specs.declared.tool.Status.TheVariants.{NoMemory}
use Rattle.eac_cli.specs.Objects.{Objects, ReadFailed, WriteFailed}
use Rattle.eac_cli.specs.PlanText.{IsPlanOf}
use Rattle.eac_cli.specs.Top.{most_input, WasRead, WereRead, TellsLength}

-- What stands for each status, by what the sink had taken before and after, where the source has this left and these bytes were
-- read: the plan that is printed of them, or a front of its text.
abbrev pub Plans : (old new left : Option (List ℕ)) → Status → List ℕ → Type 0
Plans old new left Done bytes = WasRead left bytes × (text : List ℕ) × IsPlanOf bytes text × Appends old new text
Plans old new left Usage bytes = ⊥
Plans old new left (ScriptFault line rule) bytes = WasRead left bytes × (read_need bytes ≡ Err (Fault line rule)) × (new ≡ old)
Plans old new left TooLong bytes = (most_input < length bytes) × (new ≡ old)
Plans old new left ReadFault bytes = new ≡ old
Plans old new left WriteFault bytes = WasRead left bytes × (text : List ℕ) × IsPlanOf bytes text × AppendsFront old new text
Plans old new left NoMemory bytes = new ≡ old

-- ---- what has to come of a source that tells its bytes

-- Where no read and no write failed, a need within the limit is planned for, but for want of memory.
abbrev pub IsPlanned : List ℕ → (read written : Type 0) → Status → Type 0
IsPlanned bytes read written status =
    (need : Need) → read_need bytes ≡ Ok need → length bytes ≤ most_input
    → ¬ read → ¬ written → (status ≡ Done) ⊎ (status ≡ NoMemory)

-- Where no read failed, a fault of the need within the limit is told, but for want of memory.
abbrev pub TellsNeedFault : List ℕ → (read : Type 0) → Status → Type 0
TellsNeedFault bytes read status =
    (line rule : ℕ) → read_need bytes ≡ Err (Fault line rule) → length bytes ≤ most_input
    → ¬ read → (status ≡ ScriptFault line rule) ⊎ (status ≡ NoMemory)

-- ---- one call

-- One call of `plan`, from the objects before it to those after it.
pub record PlanCall {D : Type 0} (before after : Objects D) (status : Status) : Type 0 where
  -- the bytes that were read, and by the status what was printed of them
  pub plans : (bytes : List ℕ) × WereRead before.left after.left before.reads after.reads bytes
      × Plans before.run.taken after.run.taken after.left status bytes
  -- where the source tells its bytes, a need is planned for, a fault is told, and too much is too long
  pub planned : IfSome before.left
      (λ bytes. IsPlanned bytes (ReadFailed before after) (WriteFailed before.run after.run) status)
  pub faulty : IfSome before.left (λ bytes. TellsNeedFault bytes (ReadFailed before after) status)
  pub too_long : IfSome before.left (λ bytes. TellsLength bytes (ReadFailed before after) status)

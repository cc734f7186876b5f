-- The ends of a call of `plan`, by its status.
use Rattle.std.proofs.Common.{◌≡◌, ℕ, List, ◌++◌, length, Some, None, refl, sym, ap, ◌∙◌, subst, arith, inl, inr}
use Rattle.std.specs.Prelude.{IfSome, Ok, Err}
use Rattle.std.specs.declared.option.Option.{Option}
use Rattle.renewal_plan.specs.NeedText.{read_need}
use Rattle.renewal_plan.specs.declared.need.Need.{Need}
use Rattle.renewal_plan.specs.declared.need_refusal.NeedRefusal.TheVariants.{Fault}
use Rattle.eac_cli.specs.declared.tool.Status.{Status}
use Rattle.eac_cli.specs.declared.tool.Status.TheVariants.{Done, Usage, ScriptFault, TooLong, ReadFault, WriteFault, NoMemory}
use Rattle.eac_cli.specs.Objects.{Objects, ReadFailed, WriteFailed}
use Rattle.eac_cli.specs.PlanCall.{Plans, IsPlanned, TellsNeedFault, PlanCall}
use Rattle.eac_cli.specs.Top.{TellsLength, WasRead, WereRead}
use Rattle.eac_cli.proofs.Ends.{all_read, no_longer}

module _ (s t : Option (List ℕ)) (all bytes rest : List ℕ) (e : all ≡ bytes ++ rest) (R W : Type 0) where
  whole : WasRead (Some rest) bytes → bytes ≡ all
  whole read = all_read all bytes rest e read.0

  -- a text that is a need has no fault
  clash : (need : Need) (line rule : ℕ) → read_need bytes ≡ Ok need → read_need bytes ≡ Err (Fault line rule) → ⊥
  clash need line rule a b = cc (a, b)

  one_fault : (line rule line' rule' : ℕ) → read_need bytes ≡ Err (Fault line rule) → read_need bytes ≡ Err (Fault line' rule') → ScriptFault line rule ≡ ScriptFault line' rule'
  one_fault line rule line' rule' a b = cc (a, b)

  planned_at : (status : Status) → Plans s t (Some rest) status bytes → (status ≡ ReadFault → R) → (status ≡ WriteFault → W) → IsPlanned all R W status
  planned_at Done c read write need is within no_read no_write = inl refl
  planned_at Usage c read write need is within no_read no_write = absurd c
  planned_at (ScriptFault line rule) c read write need is within no_read no_write =
      absurd (clash need line rule (ap read_need (whole c.0) ∙ is) c.1)
  planned_at TooLong c read write need is within no_read no_write = absurd (omega (arith, c.0, within, no_longer all bytes rest e))
  planned_at ReadFault c read write need is within no_read no_write = absurd (no_read (read refl))
  planned_at WriteFault c read write need is within no_read no_write = absurd (no_write (write refl))
  planned_at NoMemory c read write need is within no_read no_write = inr refl

  fault_at : (status : Status) → Plans s t (Some rest) status bytes → (status ≡ ReadFault → R) → TellsNeedFault all R status
  fault_at Done c read line rule is within no_read = absurd (clash c.2.need line rule c.2.reads (ap read_need (whole c.0) ∙ is))
  fault_at Usage c read line rule is within no_read = absurd c
  fault_at (ScriptFault told by) c read line rule is within no_read =
      inl (one_fault told by line rule c.1 (ap read_need (whole c.0) ∙ is))
  fault_at TooLong c read line rule is within no_read = absurd (omega (arith, c.0, within, no_longer all bytes rest e))
  fault_at ReadFault c read line rule is within no_read = absurd (no_read (read refl))
  fault_at WriteFault c read line rule is within no_read = absurd (clash c.2.need line rule c.2.reads (ap read_need (whole c.0) ∙ is))
  fault_at NoMemory c read line rule is within no_read = inr refl

  length_at : (status : Status) → Plans s t (Some rest) status bytes → (status ≡ ReadFault → R) → TellsLength all R status
  length_at Done c read long no_read = absurd (omega (arith, c.0.1, long, ap length (whole c.0)))
  length_at Usage c read long no_read = absurd c
  length_at (ScriptFault line rule) c read long no_read = absurd (omega (arith, c.0.1, long, ap length (whole c.0)))
  length_at TooLong c read long no_read = inl refl
  length_at ReadFault c read long no_read = absurd (no_read (read refl))
  length_at WriteFault c read long no_read = absurd (omega (arith, c.0.1, long, ap length (whole c.0)))
  length_at NoMemory c read long no_read = inr refl

module _ (s t : Option (List ℕ)) (status : Status) (R W : Type 0) where
  abbrev WasPlanned : (left left' : Option (List ℕ)) (reads reads' : Option ℕ) → Type 0
  WasPlanned left left' reads reads' = (bytes : List ℕ) × WereRead left left' reads reads' bytes × Plans s t left' status bytes

  pub planned : (left left' : Option (List ℕ)) (reads reads' : Option ℕ) → WasPlanned left left' reads reads' → (status ≡ ReadFault → R) → (status ≡ WriteFault → W) → IfSome left (λ all. IsPlanned all R W status)
  planned None left' reads reads' h read write = tt
  planned (Some all) None reads reads' h read write = absurd h.1.taken
  planned (Some all) (Some rest) reads reads' h read write = planned_at s t all h.0 rest h.1.taken R W status h.2 read write

  pub planned_fault : (left left' : Option (List ℕ)) (reads reads' : Option ℕ) → WasPlanned left left' reads reads' → (status ≡ ReadFault → R) → IfSome left (λ all. TellsNeedFault all R status)
  planned_fault None left' reads reads' h read = tt
  planned_fault (Some all) None reads reads' h read = absurd h.1.taken
  planned_fault (Some all) (Some rest) reads reads' h read = fault_at s t all h.0 rest h.1.taken R W status h.2 read

  pub planned_length : (left left' : Option (List ℕ)) (reads reads' : Option ℕ) → WasPlanned left left' reads reads' → (status ≡ ReadFault → R) → IfSome left (λ all. TellsLength all R status)
  planned_length None left' reads reads' h read = tt
  planned_length (Some all) None reads reads' h read = absurd h.1.taken
  planned_length (Some all) (Some rest) reads reads' h read = length_at s t all h.0 rest h.1.taken R W status h.2 read

pub plan_call : {D : Type 0} (before after : Objects D) (status told : Status) → told ≡ status → (bytes : List ℕ) × WereRead before.left after.left before.reads after.reads bytes × Plans before.run.taken after.run.taken after.left status bytes → IfSome before.left (λ bytes. IsPlanned bytes (ReadFailed before after) (WriteFailed before.run after.run) status) → IfSome before.left (λ bytes. TellsNeedFault bytes (ReadFailed before after) status) → IfSome before.left (λ bytes. TellsLength bytes (ReadFailed before after) status) → PlanCall before after told
plan_call before after status told same plans planned faulty too_long =
    subst (PlanCall before after) (sym same) (record { plans = plans; planned = planned; faulty = faulty; too_long = too_long })

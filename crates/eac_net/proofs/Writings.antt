-- What a call with one write leaves.
use Rattle.std.proofs.Common.{◌≡◌, ◌⊎◌, ℕ, List, Ok, Err, inl, inr}
use Rattle.std.specs.declared.option.Option.{Option}
use Rattle.std.specs.declared.result.Result.{Result}
use Rattle.keeper.specs.declared.rows.Row.{Row}
use Rattle.holder_core.specs.WritesOnce.{HasWritten, WritesOnce}
use Rattle.holder_core.specs.declared.fault.HolderFault.{HolderFault}
use Rattle.holder_core.specs.declared.fault.HolderFault.TheVariants as fault

-- the rows are as they were, or as with the write
pub writes_cases : {A : Type 0} (unwritten : Option A) (missing : Option (List ℕ)) (late : Option A) (Written : A → List Row → Type 0) (before after : List Row) (result : Result A HolderFault) →
    WritesOnce unwritten missing late Written before after result → (after ≡ before) ⊎ ((answer : A) × HasWritten unwritten missing late Written after answer)
writes_cases u m l W before after (Ok answer) (inl h) = inl h.1
writes_cases u m l W before after (Ok answer) (inr h) = inr (answer, h)
writes_cases u m l W before after (Err fault.KeeperFault) h = h
writes_cases u m l W before after (Err fault.ProviderFault) h = inl h
writes_cases u m l W before after (Err fault.NoMemory) h = inl h
writes_cases u m l W before after (Err (fault.NoKey reference)) h = inl h.2

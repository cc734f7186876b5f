-- What an event of a chip did to its disk and to the world, before its answer is written (this project's own).
use Rattle.std.specs.Prelude.{◌≡◌, ◌≢◌, ◌≤◌, ◌++◌, ℕ, List, [], Option, Result}
use Rattle.eac_base.specs.Telling.{Told}
use Rattle.eac_base.specs.declared.acks.Ack.{Ack}
use Rattle.signature_provider.specs.Provider.{Says}
use Rattle.keeper.specs.declared.keeping.Keeper.{Ghosts as KeeperOf}
use Rattle.chip_slots.specs.declared.disk.ChipDisk.{Ghosts as DiskOf}
use Rattle.chip_events.specs.DiskTurns.{DiskTurn}
use Rattle.chip_events.specs.Told.{ChipPart, found_so}
use Rattle.chip_events.specs.Verdicts.{Verdict, AreSaid}
use Rattle.eac_net.specs.Answers.{Tells}
use Rattle.eac_net.specs.ChipTurn.{IsTold, ChipTurn}
use Rattle.eac_net.specs.Counts.{count_at}
use Rattle.eac_net.specs.Handed.{Handed, IsHandedBy, IsHandedFrom}
use Rattle.eac_net.specs.declared.answer.Answer.{Answer}
use Rattle.eac_net.specs.declared.answer.Happened.{Happened}
use Rattle.eac_net.specs.declared.event.Event.{Event}
use Rattle.eac_net.specs.declared.world.World.{World}

-- Of the world nothing but one chip's count of imports and the acknowledgements may be another one.
pub record KeepsWorld (chip : ℕ) (w w' : World) : Type 0 where
  pub day : w'.day ≡ w.day
  pub packets : w'.packets ≡ w.packets
  pub others : (other : ℕ) → other ≢ chip → count_at w'.imports other ≡ count_at w.imports other

-- Calls on one chip's disk, which led so, with what the provider was asked and said. The imports that were acknowledged stand
-- behind the earlier ones.
pub record CallsChip {D : Type 0} (G : DiskOf D) (chip : ℕ) (d d' : D) (says : Says) (provider : ℕ × ℕ) (w w' : World)
    (leads : ChipPart → ChipPart → Type 0) : Type 0 where
  pub world : KeepsWorld chip w w'
  pub asked : List Verdict
  pub said : AreSaid says asked
  pub new : List Ack
  pub acks : w'.acks.acks ≡ w.acks.acks ++ new
  pub later : provider.0 ≤ provider.1
  pub turn : DiskTurn G d d' (count_at w.imports chip, count_at w'.imports chip)
      (λ c c'. leads (found_so c provider.0) (record { chip = c'; acks = new; verdicts = asked; provider = provider.1 }))

-- What a keeper's rows handed to it.
pub record HandsOver {B : Type 0} (K : KeeperOf B) (k k' : B) (handed : Handed) : Type 0 where
  pub told : Told (K.rows k) (K.rows k') (λ before after. (after ≡ before) × IsHandedBy before handed)
  pub from : IsHandedFrom (K.faults k) (K.faults k') handed

-- What happened is the chip's event, with what was handed: whatever is told of it then, the chip turned by it.
pub record Happens {D E : Type 0} (G : DiskOf D) (day chip : ℕ) (event : Event) (d d' : D) (says : Says) (provider : ℕ × ℕ)
    (w w' : World) (handed : Handed) (happened : Result Happened E) : Type 0 where
  pub said : Option Answer
  pub tells : Tells happened said []
  pub calls : CallsChip G chip d d' says provider w w' (λ s s'. (answer : Option Answer) → IsTold answer said →
      ChipTurn day event handed answer s s')

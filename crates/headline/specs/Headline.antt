-- What is promised of a run (this project's own). Each part has its own premise: nothing on chips hangs on what the keeper
-- tells, and nothing on rows on what a disk tells.
use Rattle.std.specs.Prelude.{◌≡◌, ◌++◌, ℕ, List, [], ◌∷◌, Option, Some, slice_get}
use Rattle.eac_base.specs.Telling.{Told}
use Rattle.eac_base.specs.declared.acks.Ack.{Ack}
use Rattle.policy_limits.specs.Setup.{SetupValue}
use Rattle.keeper.specs.declared.rows.Row.{Row}
use Rattle.issue_core.specs.Issuing.Desk.{issuing}
use Rattle.issue_core.specs.Issuing.Rows.{entries_at}
use Rattle.issue_core.specs.Registering.Desk.{register, entries_of}
use Rattle.chip_slots.specs.declared.disk.ChipDisk.{Ghosts as DiskOf}
use Rattle.chip_events.specs.Acts.{IsIn}
use Rattle.chip_events.specs.Held.{first_of}
use Rattle.chip_events.specs.Told.{ChipTold}
use Rattle.chip_events.specs.declared.answers.Grant.{Grant}
use Rattle.chip_events.specs.declared.answers.ShownEnd.TheVariants as ends
use Rattle.eac_net.specs.ChipHistory.{ChipHistory, ChipTells}
use Rattle.eac_net.specs.Grants.{EndsIn, IsOfChain}
use Rattle.eac_net.specs.Items.{Ran}
use Rattle.eac_net.specs.Objects.{Outside}
use Rattle.eac_net.specs.Run.{RowsTell, RunOf}
use Rattle.eac_net.specs.SoFar.{IsBlankDisk}
use Rattle.eac_net.specs.declared.answer.Answer.{Answer}
use Rattle.eac_net.specs.declared.event.Event.{Event}
use Rattle.eac_net.specs.declared.event.Event.TheVariants as events
use Rattle.headline.specs.Desks.{KeepsItsWord}
use Rattle.headline.specs.OneChip.{AcknowledgedIsNeverLost, DaysNeverFall, ReplacedPointsNeverReturn}

-- ---- grants

-- Certificates of this terminal were shown to this chip, and it granted so.
pub record Granted (chip terminal : ℕ) (i : Ran) (grant : Grant) : Type 0 where
  pub event_is : i.event ≡ events.Present chip terminal
  pub ends : EndsIn i.answer (ends.AllTaken (Some grant))

-- Each grant is the intersection: it is of the chain that was handed for some points that a chip with these counts reads, each
-- certificate of it accepted in its turn with the provider's yes, and it has the rights that stand in the verifier's trust point,
-- in the verifier and in the terminal, with the chip's day.
abbrev pub GrantsAreIntersections : List Ran → Type 0
GrantsAreIntersections items = (chip terminal : ℕ) (i : Ran) (grant : Grant) → IsIn i items → Granted chip terminal i grant
    → (c : ChipTold) × IsOfChain terminal c i grant

-- ---- parties

-- Where the keeper tells its rows and had none: one last state to which the run's history leads. Each desk kept its word over
-- its deliveries in that history, and so did the plain register.
pub record Offices (setup : SetupValue) (o o' : Outside) (rows : List Row) (items : List Ran) : Type 0 where
  pub tell : RowsTell setup o o' [] rows items
  pub desks : (desk : ℕ) → KeepsItsWord issuing (tell.end.desks desk) (entries_at desk rows)
  pub registers : KeepsItsWord register tell.end.register (entries_of rows)

-- ---- chips

-- The grant is of the chain for the points that this chip read, which its history until then led to.
pub record IsGrantedIn (chip terminal : ℕ) (first : ChipTold) (items : List Ran) (i : Ran) (grant : Grant) : Type 0 where
  pub before : List Ran
  pub after : List Ran
  pub split : items ≡ before ++ i ∷ after
  pub reached : ChipTold
  pub history : ChipHistory chip first before reached
  pub chain : IsOfChain terminal reached i grant

abbrev pub ChipGrantsIntersections : (chip : ℕ) → ChipTold → List Ran → Type 0
ChipGrantsIntersections chip first items = (terminal : ℕ) (i : Ran) (grant : Grant) → IsIn i items → Granted chip terminal i grant
    → IsGrantedIn chip terminal first items i grant

-- Where a chip's disk tells and was blank: one last state to which the history of its events leads, with the acts that account
-- for each image of each moment.
pub record Passport {D : Type 0} (G : DiskOf D) (chip : ℕ) (d d' : D) (items : List Ran) (acks : List Ack) : Type 0 where
  pub tell : ChipTells G chip d d' items
  pub grants : ChipGrantsIntersections chip (first_of G d) items
  pub acknowledged : AcknowledgedIsNeverLost chip (G.told d') (G.moment d) (G.moment d') tell.last.acts acks
  pub days : DaysNeverFall chip (G.told d') (G.moment d) (G.moment d') tell.last.acts
  pub points : ReplacedPointsNeverReturn chip (G.told d') (G.moment d) (G.moment d') tell.last.acts

-- ---- the run

-- These events were run in order from no day, no packet and no import on, with these answers, and these imports were
-- acknowledged. Each accepted request number has one certificate, kept and answered, and each refusal names its first broken
-- rule; each grant is the intersection of its verified chain's rights; and whatever a crash leaves of a chip, at any moment,
-- reads as the trust after a prefix of its acts that holds every acknowledged one, no day falling and no replaced trust point
-- returning.
pub record Headline {D : Type 0} (G : DiskOf D) (setup : SetupValue) (o o' : Outside) (disks disks' : List D) (acks : List Ack)
    (events : List Event) (answers : List (Option Answer)) : Type 0 where
  pub run : RunOf G setup o o' disks disks' acks events answers
  pub grants : GrantsAreIntersections run.items
  pub offices : Told o.rows o'.rows (λ before after. before ≡ [] → Offices setup o o' after run.items)
  pub chips : (chip : ℕ) (d d' : D) → slice_get disks chip ≡ Some d → slice_get disks' chip ≡ Some d' → G.tells d →
      IsBlankDisk G d → Passport G chip d d' run.items acks

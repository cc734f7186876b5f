-- What an event of a chip answers, by states of the chip (this project's own).
use Rattle.std.specs.Prelude.{◌≡◌, ℕ, List, [], map, Some, false}
use Rattle.chip_events.specs.DiskTurns.{HasCounts}
use Rattle.chip_events.specs.Told.{ChipTold, found_so}
use Rattle.chip_events.specs.Verdicts as chips
use Rattle.eac_net.specs.ChipTurn.{ChipTurn}
use Rattle.eac_net.specs.Chips.{is_chip_of}
use Rattle.eac_net.specs.Handed.{Unasked, IsHandedFrom}
use Rattle.eac_net.specs.Items.{Ran}
use Rattle.eac_net.specs.Verdicts.{Verdict}
use Rattle.eac_net.specs.declared.event.Event.{Event}
use Rattle.eac_net.specs.declared.event.Event.TheVariants as events

-- a verdict of a chip's event, as any party's
abbrev pub heard : chips.Verdict → Verdict
heard v = record {
  question = record { key = v.question.key; message = v.question.message; signature = v.question.signature };
  yes = v.yes;
}

-- The item is a turn of this chip, from this state of it to that one, on the day in force: with what was handed, with its
-- answer, its acknowledgements, its verdicts and the provider's count. Both states have the counts that are known.
pub record IsTurn (chip : ℕ) (c : ChipTold) (i : Ran) (c' : ChipTold) : Type 0 where
  pub day : ℕ
  pub today : i.from.parties.day ≡ Some day
  pub before : HasCounts (i.from.disks chip) (i.from.imports chip) c
  pub after : HasCounts (i.to.disks chip) (i.to.imports chip) c'
  pub verdicts : List chips.Verdict
  pub asked : i.asked ≡ map heard verdicts
  pub turn : ChipTurn day i.event i.handed i.answer (found_so c i.from.parties.provider)
      (record { chip = c'; acks = i.acks; verdicts = verdicts; provider = i.to.parties.provider })

-- The counts of a chip's disk and of its imports are as they were.
pub record IsLeftAlone (chip : ℕ) (i : Ran) : Type 0 where
  pub disk : i.to.disks chip ≡ i.from.disks chip
  pub imports : i.to.imports chip ≡ i.from.imports chip

-- What is known of every chip, told or not: the answer is one that some states of a chip with these counts give, and no other
-- chip was called.
pub record OfChip (chip : ℕ) (i : Ran) : Type 0 where
  pub some : ChipTold
  pub then_some : ChipTold
  pub turn : IsTurn chip some i then_some
  pub handed : IsHandedFrom i.from.parties.keeper i.to.parties.keeper i.handed
  pub others : (other : ℕ) → is_chip_of other i.event ≡ false → IsLeftAlone other i

-- No chip was called, nothing was handed to one, and no import was acknowledged.
pub record OfNone (i : Ran) : Type 0 where
  pub handed : i.handed ≡ Unasked
  pub acks : i.acks ≡ []
  pub others : (other : ℕ) → IsLeftAlone other i

abbrev pub ChipSays : Event → Ran → Type 0
ChipSays (events.Make chip authority) i = OfChip chip i
ChipSays (events.Present chip terminal) i = OfChip chip i
ChipSays (events.Import chip bytes) i = OfChip chip i
ChipSays (events.Look chip) i = OfChip chip i
ChipSays (events.Day day) i = OfNone i
ChipSays (events.Ask reference bytes) i = OfNone i
ChipSays (events.Found authority) i = OfNone i
ChipSays (events.Link authority) i = OfNone i
ChipSays (events.Trust party authority) i = OfNone i
ChipSays (events.Apply holder authority root) i = OfNone i
ChipSays (events.Fetch party desk) i = OfNone i
ChipSays (events.Send from to bytes) i = OfNone i
ChipSays (events.Push desk party) i = OfNone i
ChipSays (events.Deliver packet) i = OfNone i

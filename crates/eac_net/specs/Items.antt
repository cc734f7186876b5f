-- Events as they ran, each with its answer and all that is known of it whatever is told (this project's own).
use Rattle.std.specs.Prelude.{ℕ, List, [], map, filter, flat_map, Option}
use Rattle.eac_base.specs.declared.acks.Ack.{Ack}
use Rattle.eac_net.specs.Chips.{is_chip_of}
use Rattle.eac_net.specs.Handed.{Handed, Unasked}
use Rattle.eac_net.specs.Moment.{Moment}
use Rattle.eac_net.specs.Verdicts.{Verdict}
use Rattle.eac_net.specs.declared.answer.Answer.{Answer}
use Rattle.eac_net.specs.declared.event.Event.{Event}

-- An event with its answer, none where memory was wanting, what the keeper's rows handed to a chip in it, the signatures it
-- asked about with what was said, the imports that it acknowledged, and what was known before and after it.
pub record Ran : Type 0 where
  pub event : Event
  pub answer : Option Answer
  pub handed : Handed
  pub asked : List Verdict
  pub acks : List Ack
  pub from : Moment
  pub to : Moment

-- one of an event of parties
abbrev pub ran : Event → Option Answer → List Verdict → Moment → Moment → Ran
ran event answer asked from to =
    record { event = event; answer = answer; handed = Unasked; asked = asked; acks = []; from = from; to = to }

abbrev pub events_of : List Ran → List Event
events_of items = map (λ (i : Ran). i.event) items

abbrev pub answers_of : List Ran → List (Option Answer)
answers_of items = map (λ (i : Ran). i.answer) items

abbrev pub asked_of : List Ran → List Verdict
asked_of items = flat_map (λ (i : Ran). i.asked) items

abbrev pub acks_of : List Ran → List Ack
acks_of items = flat_map (λ (i : Ran). i.acks) items

-- those of one chip's events
abbrev pub own_items : ℕ → List Ran → List Ran
own_items chip items = filter (λ (i : Ran). is_chip_of chip i.event) items

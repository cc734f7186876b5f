-- What one event does to a state whose rows are told (this project's own).
use Rattle.std.specs.Prelude.{◌≡◌, ◌≤◌, ◌++◌, List, Option}
use Rattle.policy_limits.specs.Setup.{SetupValue}
use Rattle.eac_net.specs.Acting.{FoundTurn, LinkTurn, TrustTurn, ApplyTurn}
use Rattle.eac_net.specs.Asking.{AskTurn}
use Rattle.eac_net.specs.Days.{DayTurn}
use Rattle.eac_net.specs.Delivering.{DeliverTurn}
use Rattle.eac_net.specs.Goes.{Goes}
use Rattle.eac_net.specs.Handed.{IsHandedBy}
use Rattle.eac_net.specs.Items.{Ran}
use Rattle.eac_net.specs.Lawful.{AreLawful}
use Rattle.eac_net.specs.Made.{all_made, NoneRefused}
use Rattle.eac_net.specs.Moment.{Meanings, AllHeld, means}
use Rattle.eac_net.specs.Pushing.{PushTurn}
use Rattle.eac_net.specs.Sending.{FetchTurn, SendTurn}
use Rattle.eac_net.specs.State.{State, standing_of}
use Rattle.eac_net.specs.declared.answer.Answer.{Answer}
use Rattle.eac_net.specs.declared.event.Event.{Event}
use Rattle.eac_net.specs.declared.event.Event.TheVariants as events

-- An event of a chip changes no row. The provider may have been asked.
pub record ChipRests (s s' : State) : Type 0 where
  pub later : s.keeper ≤ s'.keeper
  pub next : s' ≡ record s { keeper = s'.keeper; provider = s'.provider; verdicts = s'.verdicts }

abbrev pub Turn : SetupValue → Meanings → State → Event → Option Answer → State → Type 0
Turn setup m s (events.Day day) answer s' = DayTurn s day answer s'
Turn setup m s (events.Ask reference bytes) answer s' = AskTurn s reference bytes answer s'
Turn setup m s (events.Found authority) answer s' = FoundTurn setup m s authority answer s'
Turn setup m s (events.Link authority) answer s' = LinkTurn setup m s authority answer s'
Turn setup m s (events.Trust party authority) answer s' = TrustTurn setup party authority s answer s'
Turn setup m s (events.Apply holder authority root) answer s' = ApplyTurn setup m holder authority root s answer s'
Turn setup m s (events.Fetch party desk) answer s' = FetchTurn s party desk answer s'
Turn setup m s (events.Send from to bytes) answer s' = SendTurn s from to bytes answer s'
Turn setup m s (events.Push desk party) answer s' = PushTurn setup s desk party answer s'
Turn setup m s (events.Deliver packet) answer s' = DeliverTurn setup m s packet answer s'
Turn setup m s (events.Make chip authority) answer s' = ChipRests s s'
Turn setup m s (events.Present chip terminal) answer s' = ChipRests s s'
Turn setup m s (events.Import chip bytes) answer s' = ChipRests s s'
Turn setup m s (events.Look chip) answer s' = ChipRests s s'

-- An item as it is where the rows are told and lawful: its turn, from the standing before it to the one after, by a provider
-- that holds the key of each own row. What was handed to a chip comes from the rows. What was asked stands in the verdicts,
-- and no signature that stands made in the rows got a no.
pub record RowsStep (setup : SetupValue) (s : State) (i : Ran) (s' : State) : Type 0 where
  pub from : standing_of s ≡ i.from.parties
  pub to : standing_of s' ≡ i.to.parties
  pub lawful : AreLawful setup s.rows
  pub keys : AllHeld i.from.holds s.rows
  pub turn : Turn setup (means i.from i.to) s i.event i.answer s'
  pub handed : IsHandedBy s.rows i.handed
  pub verdicts : s'.verdicts ≡ s.verdicts ++ i.asked
  pub unrefused : NoneRefused (all_made setup s.rows) i.asked

abbrev pub History : SetupValue → State → List Ran → State → Type 0
History setup = Goes (RowsStep setup)

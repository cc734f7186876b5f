-- What is known of an answer also where no rows are told: that it is one to the event, and why it came (this project's
-- own).
use Rattle.std.specs.Prelude.{◌≡◌, ◌≤◌, List, [], Option}
use Rattle.issue_core.specs.Issuing.Causes.{StaysTrue}
use Rattle.policy_limits.specs.Setup.{SetupValue}
use Rattle.eac_net.specs.Acting.{FoundAnswers, LinkAnswers, TrustAnswers, ApplyAnswers}
use Rattle.eac_net.specs.Asking.{AskAnswers}
use Rattle.eac_net.specs.ChipSays.{ChipSays}
use Rattle.eac_net.specs.Days.{DayAnswers}
use Rattle.eac_net.specs.Delivering.{DeliverAnswers}
use Rattle.eac_net.specs.Goes.{Goes}
use Rattle.eac_net.specs.Items.{Ran}
use Rattle.eac_net.specs.Moment.{Meanings, Moment, IsStill, means}
use Rattle.eac_net.specs.Pushing.{PushAnswers}
use Rattle.eac_net.specs.Sending.{FetchAnswers, SendAnswers}
use Rattle.eac_net.specs.State.{Standing}
use Rattle.eac_net.specs.Verdicts.{Verdict, AreSaid}
use Rattle.eac_net.specs.declared.answer.Answer.{Answer}
use Rattle.eac_net.specs.declared.event.Event.{Event}
use Rattle.eac_net.specs.declared.event.Event.TheVariants as events

-- ---- one event

-- The provider was asked nothing, but may have made a key and signed.
pub record AsksNothing (asked : List Verdict) (E : Type 0) : Type 0 where
  pub none : asked ≡ []
  pub event : E

-- The provider wasn't called.
pub record CallsNone (m : Meanings) (asked : List Verdict) (E : Type 0) : Type 0 where
  pub none : asked ≡ []
  pub still : IsStill m
  pub event : E

-- An event of a chip: day and packets stay, and the provider was asked at most.
pub record Rests (m : Meanings) (s s' : Standing) : Type 0 where
  pub still : IsStill m
  pub later : s.provider ≤ s'.provider
  pub parties : s' ≡ record s { keeper = s'.keeper; provider = s'.provider }

-- the answer is one to this event of parties, with its cause in what stood before and after, and in what the keeper gave
abbrev pub Says : SetupValue → Meanings → Standing → Event → Option Answer → List Verdict → Standing → Type 0
Says setup m s (events.Day day) answer asked s' = CallsNone m asked (DayAnswers s day answer s')
Says setup m s (events.Ask reference bytes) answer asked s' = CallsNone m asked (AskAnswers s reference bytes answer s')
Says setup m s (events.Found authority) answer asked s' = AsksNothing asked (FoundAnswers setup m s authority answer s')
Says setup m s (events.Link authority) answer asked s' = AsksNothing asked (LinkAnswers setup m s authority answer s')
Says setup m s (events.Trust party authority) answer asked s' =
    CallsNone m asked (TrustAnswers setup party authority s answer s')
Says setup m s (events.Apply holder authority root) answer asked s' =
    AsksNothing asked (ApplyAnswers setup m holder authority root s answer s')
Says setup m s (events.Fetch party desk) answer asked s' = CallsNone m asked (FetchAnswers s party desk answer s')
Says setup m s (events.Send from to bytes) answer asked s' = CallsNone m asked (SendAnswers s from to bytes answer s')
Says setup m s (events.Push desk party) answer asked s' = CallsNone m asked (PushAnswers setup s desk party answer s')
Says setup m s (events.Deliver packet) answer asked s' = DeliverAnswers setup m s answer asked s' packet
Says setup m s (events.Make chip authority) answer asked s' = Rests m s s'
Says setup m s (events.Present chip terminal) answer asked s' = Rests m s s'
Says setup m s (events.Import chip bytes) answer asked s' = Rests m s s'
Says setup m s (events.Look chip) answer asked s' = Rests m s s'

-- All that is known of one event whatever is told: its answer by parties and by the event's chip, that verdicts are what the
-- provider says, and that the provider goes back on nothing.
pub record AnswersTo (setup : SetupValue) (i : Ran) : Type 0 where
  pub says : Says setup (means i.from i.to) i.from.parties i.event i.answer i.asked i.to.parties
  pub chips : ChipSays i.event i
  pub asked : AreSaid i.from.says i.asked
  pub provider : StaysTrue i.from.says i.to.says i.from.holds i.to.holds i.from.signed i.to.signed

-- ---- events one after another

-- from this moment, to that one
pub record RanStep (setup : SetupValue) (k : Moment) (i : Ran) (k' : Moment) : Type 0 where
  pub from : i.from ≡ k
  pub to : i.to ≡ k'
  pub answers : AnswersTo setup i

-- No premise: each item is one event from the moment at which the last one ended.
abbrev pub AreRan : SetupValue → Moment → List Ran → Moment → Type 0
AreRan setup = Goes (RanStep setup)

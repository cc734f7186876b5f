-- An event that may have asked the provider, as a step between objects, by its turn.
use Rattle.std.proofs.Common.{◌≡◌, List, [], ◌∷◌, ◌++◌, refl, sym, subst}
use Rattle.std.specs.Prelude.{IsSome}
use Rattle.std.specs.declared.option.Option.{Option}
use Rattle.std.specs.List.{AllByRecursion}
use Rattle.std.proofs.lemmas.List.Elements.{All-from_recursion}
use Rattle.signature_provider.specs.Provider.{Says}
use Rattle.policy_limits.specs.Setup.{SetupValue}
use Rattle.keeper.specs.declared.rows.Row.{Row}
use Rattle.issue_core.specs.Issuing.Signed.{Pair}
use Rattle.holder_core.specs.Receiving.{Question}
use Rattle.eac_net.specs.Items.{Ran, ran}
use Rattle.eac_net.specs.Lawful.{AreLawful}
use Rattle.eac_net.specs.Made.{all_made, AreGood}
use Rattle.eac_net.specs.Moment.{AllHeld, means}
use Rattle.eac_net.specs.Objects.{Outside, moment_at, IsAt, IsTracedAt}
use Rattle.eac_net.specs.State.{State, standing_of}
use Rattle.eac_net.specs.Steps.{GoesOn}
use Rattle.eac_net.specs.Turn.{Turn}
use Rattle.eac_net.specs.Verdicts.{Verdict, said_of, verdicts_on, AreSaid}
use Rattle.eac_net.specs.declared.answer.Answer.{Answer}
use Rattle.eac_net.specs.declared.event.Event.{Event}
use Rattle.eac_net.specs.declared.world.World.{World}
use Rattle.eac_net.proofs.Going.{KeepsRows}
use Rattle.eac_net.proofs.TrueVerdicts.{said_are_passed}

-- ---- what is said of questions

said_each : (said : Says) (questions : List Question) → AllByRecursion (λ (v : Verdict). v.yes ≡ said_of said v.question) (verdicts_on said questions)
said_each said [] = tt
said_each said (q ∷ questions) = (refl, said_each said questions)

pub verdicts_said : (said : Says) (questions : List Question) → AreSaid said (verdicts_on said questions)
verdicts_said said questions = All-from_recursion (λ (v : Verdict). v.yes ≡ said_of said v.question) (verdicts_on said questions) (said_each said questions)

-- ---- one event

module _ (setup : SetupValue) (event : Event) (answer : Option Answer) (asked : List Verdict) (w w' : World) (o o' : Outside) where
  abbrev pub asked_item : Ran
  asked_item = ran event answer asked (moment_at w o) (moment_at w' o')

  module _ (s next : State) (before after : List Row) (at : IsAt setup w o before s) where
    pub goes_asked : Turn setup (means (moment_at w o) (moment_at w' o')) s event answer next → standing_of next ≡ (moment_at w' o').parties → next.rows ≡ after → next.verdicts ≡ s.verdicts ++ asked → AreSaid o.says asked →
        (lost_now : List Pair) → next.lost ≡ s.lost ++ lost_now → (IsSome answer → next.dropped ≡ s.dropped) →
        KeepsRows setup o.says o'.says o.holds o'.holds before after → (IsTracedAt o before s → IsTracedAt o' after next) →
        GoesOn setup asked_item w' o o' before after s
    goes_asked turn standing rows verdicts said lost_now lost dropped keeps traced = record {
      next = next;
      step = record {
        from = at.standing;
        to = standing;
        lawful = subst (AreLawful setup) (sym at.rows_are) at.lawful;
        keys = subst (AllHeld o.holds) (sym at.rows_are) at.held;
        turn = turn;
        handed = tt;
        verdicts = verdicts;
        unrefused = said_are_passed o.says (all_made setup s.rows) asked (subst (λ (rows : List Row). AreGood o.says (all_made setup rows)) (sym at.rows_are) at.good) said;
      };
      there = record {
        standing = standing;
        rows_are = rows;
        lawful = keeps.lawful at.lawful;
        held = keeps.keys at.lawful at.held;
        good = keeps.good at.lawful at.good;
      };
      stay = keeps.stay;
      lost_now = lost_now;
      lost = lost;
      dropped = dropped;
      traced = traced;
    }

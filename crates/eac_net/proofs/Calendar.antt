-- A day begins.
use Rattle.std.proofs.Common.{ℕ, List, [], Some, Ok, refl, sym, ap, append-nil}
use Rattle.eac_base.proofs.Tellings.{told_same}
use Rattle.policy_limits.specs.Setup.{SetupValue}
use Rattle.keeper.specs.declared.rows.Row.{Row}
use Rattle.eac_net.specs.Objects.{Outside, IsAt}
use Rattle.eac_net.specs.Packets.{AreBetween}
use Rattle.eac_net.specs.State.{State, Standing}
use Rattle.eac_net.specs.Steps.{GoesOn, HasStepped}
use Rattle.eac_net.specs.declared.answer.Answer.TheVariants as answers
use Rattle.eac_net.specs.declared.event.Event.TheVariants as events
use Rattle.eac_net.specs.declared.world.World.{World}
use Rattle.eac_net.proofs.Going.{answers_to, goes_by, keeps_same, still_true, item, none_called}

module _ (setup : SetupValue) (day : ℕ) (w : World) (o : Outside) where
  abbrev later : World
  later = record w { day = Some day }

  goes_later : (before : List Row) (s : State) → IsAt setup w o before s → GoesOn setup (item setup (events.Day day) (Some answers.Silent) w later o o) later o o before before s
  goes_later before s there =
      goes_by setup (events.Day day) (Some answers.Silent) w later o o s (record s { day = Some day }) before before there (refl, refl)
      (ap (λ (x : Standing). record x { day = Some day }) there.standing) there.rows_are refl [] (sym (append-nil s.lost)) (λ _. refl)
      (keeps_same setup o.says o.says o.holds o.holds before (λ key message signature h. h) (λ key h. h)) (λ h. h)

  pub day_steps : (F : Type 0) (u : Unit {0}) (line : List ℕ) → AreBetween setup w.packets → HasStepped setup (events.Day day) {E = F} (Ok u) (w, line) (later, line) o o
  day_steps F u line was = (
    item setup (events.Day day) (Some answers.Silent) w later o o,
    refl,
    record {
      from = refl;
      to = refl;
      answers = answers_to setup (events.Day day) (Some answers.Silent) w later o o
          (record { none = refl; still = record { says = refl; holds = refl; signed = refl }; event = (refl, refl) }) (none_called (events.Day day) (Some answers.Silent) [] w later o o refl refl) (still_true o.says o.holds o.signed);
      rows = told_same (λ (before after : List Row). (s : State) → IsAt setup w o before s → GoesOn setup (item setup (events.Day day) (Some answers.Silent) w later o o) later o o before after s) o.rows
          (λ before s there. goes_later before s there);
      parties = was;
      acks = sym (append-nil w.acks.acks);
    },
    sym (append-nil line),
  )

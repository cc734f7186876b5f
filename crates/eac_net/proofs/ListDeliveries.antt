-- A question for a desk's list comes.
use Rattle.std.proofs.Common.{◌≡◌, ℕ, List, [], ◌++◌, Some, refl, sym, ap, ◌∙◌, subst, append-nil}
use Rattle.std.specs.Prelude.{IfOk}
use Rattle.std.specs.declared.option.Option.{Option}
use Rattle.std.specs.declared.result.Result.{Result}
use Rattle.std.proofs.lemmas.List.Elements.{All-nil}
use Rattle.eac_base.specs.Telling.{Told}
use Rattle.eac_base.proofs.Tellings.{told_more}
use Rattle.policy_limits.specs.Setup.{SetupValue}
use Rattle.keeper.specs.declared.rows.Row.{Row}
use Rattle.holder_core.specs.Faults.{KeeperCaused}
use Rattle.holder_core.specs.declared.fault.HolderFault.{HolderFault}
use Rattle.desk_core.specs.Replies.{list_served}
use Rattle.eac_net.specs.Answers.{Tells, Concludes}
use Rattle.eac_net.specs.Arrival.{AsksList}
use Rattle.eac_net.specs.Delivered.{served_answer, served_sent}
use Rattle.eac_net.specs.Delivering.{HandsOut}
use Rattle.eac_net.specs.Ending.{Ends}
use Rattle.eac_net.specs.Moment.{Meanings, means}
use Rattle.eac_net.specs.Objects.{Outside, moment_at, IsAt}
use Rattle.eac_net.specs.Packets.{next_number, IsBetween, AreBetween}
use Rattle.eac_net.specs.Pushing.{list_due, ListAsked}
use Rattle.eac_net.specs.State.{State, Standing, standing_of, moved}
use Rattle.eac_net.specs.Steps.{GoesOn, HasStepped}
use Rattle.eac_net.specs.declared.answer.Answer.{Answer}
use Rattle.eac_net.specs.declared.answer.Happened.{Happened}
use Rattle.eac_net.specs.declared.event.Event.TheVariants as events
use Rattle.eac_net.specs.declared.packet.Packet.{Packet}
use Rattle.eac_net.specs.declared.world.World.{World}
use Rattle.eac_net.proofs.Arrivals.{IsThat, says_that, turns_that, served_between}
use Rattle.eac_net.proofs.Concluded.{concluded, between_after, same_day}
use Rattle.eac_net.proofs.Going.{KeepsRows, answers_to, moved_standing, goes_by, keeps_same, still_true, item, none_called, none_acked}
use Rattle.eac_net.proofs.Stays.{unsigned_traced}

module _ (setup : SetupValue) (number : ℕ) (w w' : World) (beside : Outside) (rows rows' : Option (List Row)) (before now : ℕ) (p : Packet) (id : List ℕ)
    (that : IsThat setup number w.packets (Some p) (AsksList id)) (listed : Result (List (List ℕ)) HolderFault) (cause : KeeperCaused before now listed) where
  abbrev o : Outside
  o = record beside { rows = rows; keeper_faults = before }

  abbrev o' : Outside
  o' = record beside { rows = rows'; keeper_faults = now }

  abbrev first : Standing
  first = (moment_at w o).parties

  abbrev last : Standing
  last = (moment_at w' o').parties

  abbrev m : Meanings
  m = means (moment_at w o) (moment_at w' o')

  abbrev said : Option Answer
  said = served_answer (next_number w.packets) (list_served id listed)

  abbrev sent : List Packet
  sent = served_sent p (list_served id listed)

  -- its list, and no row changed
  abbrev pub Lists : List Row → List Row → Type 0
  Lists r r' = (r' ≡ r) × IfOk listed (λ list. list ≡ list_due setup p.to r)

  list_goes : (answer : Option Answer) → Ends first answer last said sent → (r r' : List Row) → Lists r r' → (s : State) → IsAt setup w o r s →
      GoesOn setup (item setup (events.Deliver number) answer w w' o o') w' o o' r r' s
  list_goes answer ends r r' does s there =
      let day = same_day first last answer said sent ends in
      let next : State = moved s last s.rows in
      let kept : KeepsRows setup beside.says beside.says beside.holds beside.holds r r' =
      subst (KeepsRows setup beside.says beside.says beside.holds beside.holds r) (sym does.0) (keeps_same setup beside.says beside.says beside.holds beside.holds r (λ key message signature h. h) (λ key h. h)) in
      let acts : HandsOut p (standing_of s) answer last id (λ result. IfOk result (λ list. list ≡ list_due setup p.to s.rows)) =
      subst (λ (x : Standing × List Row). HandsOut p x.0 answer last id (λ result. IfOk result (λ list. list ≡ list_due setup p.to x.1))) (λ j. (sym there.standing j, sym there.rows_are j))
      (record { result = listed; does = does.1; cause = cause; provider = refl; ends = ends }) in
      goes_by setup (events.Deliver number) answer w w' o o' s next r r' there
      (turns_that setup number w.packets (Some p) (AsksList id) that m answer s next (ap (λ (x : Standing). x.packets) there.standing) (record { now = last; event = acts; next = refl }))
      (moved_standing setup (events.Deliver number) answer w w' o o' s r s.rows day there) (there.rows_are ∙ sym does.0) refl [] (sym (append-nil s.lost)) (λ _. refl) kept
      (unsigned_traced r r' (s.lost ++ s.dropped) beside.signed beside.signed kept.stay refl)

  pub list_steps : {E F : Type 0} (happened : Result Happened E) (r : Result (Unit {0}) F) (line line' : List ℕ) → IsBetween setup p → AreBetween setup w.packets →
      Concludes happened r w w' line line' → Tells happened said sent → Told rows rows' Lists → IfOk listed (ListAsked setup p.to) → HasStepped setup (events.Deliver number) r (w, line) (w', line') o o'
  list_steps happened r line line' between were c t does asked =
      let d = concluded w w' before now beside.provider_faults beside.provider_faults said sent happened r line line' c t in (
        item setup (events.Deliver number) d.answer w w' o o',
        refl,
        record {
          from = refl;
          to = refl;
          answers = answers_to setup (events.Deliver number) d.answer w w' o o'
              (says_that setup number w.packets (Some p) (AsksList id) that m d.answer first [] last refl (record {
                none = refl;
                still = record { says = refl; holds = refl; signed = refl };
                event = record { result = listed; does = asked; cause = cause; provider = refl; ends = d.ends };
              })) (none_called (events.Deliver number) d.answer [] w w' o o' refl c.imports) (still_true beside.says beside.holds beside.signed);
          rows = told_more Lists (λ (r r' : List Row). (s : State) → IsAt setup w o r s → GoesOn setup (item setup (events.Deliver number) d.answer w w' o o') w' o o' r r' s)
              rows rows' does (λ r r' one s there. list_goes d.answer d.ends r r' one s there);
          parties = between_after setup first last d.answer said sent were (served_between setup p (list_served id listed) between) (All-nil (IsBetween setup)) d.ends;
          acks = none_acked w w' c.acks;
        },
        d.told,
      )

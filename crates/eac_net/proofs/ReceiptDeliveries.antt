-- Certificates come to a party that takes them.
use Rattle.std.proofs.Common.{◌≡◌, ℕ, List, [], ◌++◌, Some, None, refl, sym, ap, subst, append-nil}
use Rattle.std.specs.Prelude.{IfSome}
use Rattle.std.specs.declared.option.Option.{Option}
use Rattle.std.specs.declared.result.Result.{Result}
use Rattle.std.specs.List.{All}
use Rattle.std.proofs.lemmas.List.Elements.{All-nil}
use Rattle.eac_base.specs.Telling.{Told}
use Rattle.signature_provider.specs.Provider.{Says}
use Rattle.policy_limits.specs.Setup.{SetupValue}
use Rattle.keeper.specs.declared.rows.Row.{Row}
use Rattle.keeper.specs.Rows.{UniqueKeys}
use Rattle.holder_core.specs.Faults.{HolderCause, NoneMissing}
use Rattle.holder_core.specs.Receiving.{Question, Receives, ReceivedAsked, ending}
use Rattle.holder_core.specs.declared.received.Received.{Received}
use Rattle.eac_net.specs.Answers.{Tells, Concludes}
use Rattle.eac_net.specs.Arrival.{Arrival}
use Rattle.eac_net.specs.Delivering.{Arrives, ArrivesSo, TakesAll, ReceiptTurn, ReceiptAnswers}
use Rattle.eac_net.specs.Ending.{Ends}
use Rattle.eac_net.specs.Moment.{Meanings, means}
use Rattle.eac_net.specs.Objects.{Outside, moment_at, IsAt}
use Rattle.eac_net.specs.Packets.{IsBetween, AreBetween}
use Rattle.eac_net.specs.Questions.{IsAbout}
use Rattle.eac_net.specs.State.{State, Standing, standing_of, moved}
use Rattle.eac_net.specs.Steps.{GoesOn, HasStepped}
use Rattle.eac_net.specs.Verdicts.{verdicts_on}
use Rattle.eac_net.specs.declared.answer.Answer.{Answer}
use Rattle.eac_net.specs.declared.answer.Happened.{Happened}
use Rattle.eac_net.specs.declared.event.Event.TheVariants as events
use Rattle.eac_net.specs.declared.packet.Packet.{Packet}
use Rattle.eac_net.specs.declared.world.World.{World}
use Rattle.eac_net.proofs.Arrivals.{IsThat, says_that, turns_that}
use Rattle.eac_net.proofs.AskedItems.{asked_item, goes_asked, verdicts_said}
use Rattle.eac_net.proofs.AskedReceipts.{received_about, verdicts_about}
use Rattle.eac_net.proofs.Concluded.{concluded, between_after, same_day}
use Rattle.eac_net.proofs.Going.{KeepsRows, moved_standing, still_true, none_called, none_acked}
use Rattle.eac_net.proofs.ReceivedRows.{received_keeps}
use Rattle.eac_net.proofs.Stays.{unsigned_traced}

-- what was asked, where the rows are told
module _ (said : Says) (party : ℕ) (certificates : List (List ℕ)) (received : Received) where
  abbrev pub Takes : List Row → List Row → Type 0
  Takes r r' = (asked : List Question) × Receives said party certificates r r' received.items received.fault asked

  abbrev questions : (a b : Option (List Row)) → Told a b Takes → List Question
  questions a None t = []
  questions None (Some y) t = absurd t
  questions (Some x) (Some y) t = t.0

  questions_about : (a b : Option (List Row)) (t : Told a b Takes) → All (IsAbout certificates) (questions a b t)
  questions_about a None t = All-nil (IsAbout certificates)
  questions_about None (Some y) t = absurd t
  questions_about (Some x) (Some y) t = received_about said party certificates x y received.items received.fault t.0 t.1

module _ (setup : SetupValue) (number : ℕ) (w w' : World) (beside : Outside) (rows rows' : Option (List Row)) (kept kept' provided provided' : ℕ) (p : Option Packet) (came : Arrival)
    (that : IsThat setup number w.packets p came) (party : ℕ) (certificates : List (List ℕ)) (said : List Packet → Received → Option Answer) (sent : Received → List Packet)
    (so : (m : Meanings) (s s' : Standing) (answer : Option Answer) (asked : _) → ReceiptAnswers setup m s answer asked s' (TakesAll s answer s' (said s.packets) sent) party certificates → ArrivesSo setup m s answer asked s' p came)
    (goes : (m : Meanings) (s s' : State) (answer : Option Answer) → ReceiptTurn setup m s (λ now. TakesAll (standing_of s) answer now (said s.packets) sent) party certificates s' → Arrives setup m s p came answer s')
    (received : Received) (cause : HolderCause NoneMissing (kept, kept') (provided, provided') (ending received.fault)) (told : Told rows rows' (Takes beside.says party certificates received)) where
  abbrev o : Outside
  o = record beside { rows = rows; keeper_faults = kept; provider_faults = provided }

  abbrev o' : Outside
  o' = record beside { rows = rows'; keeper_faults = kept'; provider_faults = provided' }

  abbrev first : Standing
  first = (moment_at w o).parties

  abbrev last : Standing
  last = (moment_at w' o').parties

  abbrev m : Meanings
  m = means (moment_at w o) (moment_at w' o')

  abbrev Ended : Option Answer → Type 0
  Ended answer = Ends first answer last (said w.packets received) (sent received)

  receipt_goes : (answer : Option Answer) → Ended answer → (asked : List Question) → (r r' : List Row) → UniqueKeys r → Receives beside.says party certificates r r' received.items received.fault asked → (s : State) → IsAt setup w o r s →
      GoesOn setup (asked_item setup (events.Deliver number) answer (verdicts_on beside.says asked) w w' o o') w' o o' r r' s
  receipt_goes answer ends asked r r' unique does s there =
      let day = same_day first last answer (said w.packets received) (sent received) ends in
      let next : State = record (moved s last r') { verdicts = s.verdicts ++ verdicts_on beside.says asked } in
      let keeps : KeepsRows setup beside.says beside.says beside.holds beside.holds r r' = received_keeps setup beside.says beside.holds beside.says party certificates r r' received.items received.fault asked unique does in
      let takes : TakesAll (standing_of s) answer last (said s.packets) sent (λ x. Receives beside.says party certificates s.rows r' x.items x.fault asked) =
      subst (λ (x : Standing × List Row). TakesAll x.0 answer last (said x.0.packets) sent (λ y. Receives beside.says party certificates x.1 r' y.items y.fault asked)) (λ j. (sym there.standing j, sym there.rows_are j))
      (record { received = received; does = does; cause = cause; ends = ends }) in
      goes_asked setup (events.Deliver number) answer (verdicts_on beside.says asked) w w' o o' s next r r' there
      (turns_that setup number w.packets p came that m answer s next (ap (λ (x : Standing). x.packets) there.standing)
      (goes m s next answer (record { rows = r'; now = last; asked = asked; event = takes; next = refl })))
      (moved_standing setup (events.Deliver number) answer w w' o o' s r r' day there) refl refl (verdicts_said beside.says asked) [] (sym (append-nil s.lost)) (λ _. refl) keeps
      (unsigned_traced r r' (s.lost ++ s.dropped) beside.signed beside.signed keeps.stay refl)

  receipt_rows : (answer : Option Answer) → Ended answer → (a b : Option (List Row)) → a ≡ rows → (t : Told a b (Takes beside.says party certificates received)) → IfSome a UniqueKeys →
      Told a b (λ r r'. (s : State) → IsAt setup w o r s → GoesOn setup (asked_item setup (events.Deliver number) answer (verdicts_on beside.says (questions beside.says party certificates received a b t)) w w' o o') w' o o' r r' s)
  receipt_rows answer ends a None is t u = tt
  receipt_rows answer ends None (Some y) is t u = absurd t
  receipt_rows answer ends (Some x) (Some y) is t u = λ s there. receipt_goes answer ends t.0 x y u t.1 s there

  pub receipt_steps : {E F : Type 0} (happened : Result Happened E) (r : Result (Unit {0}) F) (line line' : List ℕ) → AreBetween setup (sent received) → AreBetween setup w.packets → IfSome rows UniqueKeys →
      Concludes happened r w w' line line' → Tells happened (said w.packets received) (sent received) → ReceivedAsked beside.says party certificates received.items received.fault →
      HasStepped setup (events.Deliver number) r (w, line) (w', line') o o'
  receipt_steps happened r line line' between were unique c t answered =
      let d = concluded w w' kept kept' provided provided' (said w.packets received) (sent received) happened r line line' c t in
      let asked = questions beside.says party certificates received rows rows' told in (
        asked_item setup (events.Deliver number) d.answer (verdicts_on beside.says asked) w w' o o',
        refl,
        record {
          from = refl;
          to = refl;
          answers = record {
            says = says_that setup number w.packets p came that m d.answer first (verdicts_on beside.says asked) last refl
                (so m first last d.answer (verdicts_on beside.says asked) (record {
                  still = record { says = refl; holds = refl; signed = refl };
                  event = record { received = received; does = answered; cause = cause; ends = d.ends };
                  asked_are = verdicts_about beside.says certificates asked (questions_about beside.says party certificates received rows rows' told);
                }));
            chips = none_called (events.Deliver number) d.answer (verdicts_on beside.says asked) w w' o o' refl c.imports;
            asked = verdicts_said beside.says asked;
            provider = still_true beside.says beside.holds beside.signed;
          };
          rows = receipt_rows d.answer d.ends rows rows' refl told unique;
          parties = between_after setup first last d.answer (said w.packets received) (sent received) were between (All-nil (IsBetween setup)) d.ends;
          acks = none_acked w w' c.acks;
        },
        d.told,
      )

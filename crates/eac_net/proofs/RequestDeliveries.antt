-- A request comes to an issuing desk.
use Rattle.chip_events.specs.DiskTurns.{DiskKnown}
use Rattle.std.proofs.Common.{◌≡◌, ℕ, List, [], ◌++◌, true≢false, Some, None, Ok, Err, inl, inr, refl, sym, ap, ◌∙◌, subst, append-nil}
use Rattle.std.specs.Prelude.{IfSome, IsSome}
use Rattle.std.specs.declared.option.Option.{Option}
use Rattle.std.specs.declared.result.Result.{Result}
use Rattle.std.proofs.lemmas.List.Elements.{All-nil}
use Rattle.eac_base.specs.declared.failures.NoMemory.{NoMemory}
use Rattle.policy_limits.specs.Setup.{SetupValue}
use Rattle.keeper.specs.declared.rows.Row.{Row}
use Rattle.keeper.specs.Rows.{UniqueKeys}
use Rattle.issue_core.specs.declared.fault.IssueFault.{IssueFault}
use Rattle.issue_core.specs.declared.fault.IssueFault.TheVariants as fault
use Rattle.issue_core.specs.declared.issuing.serving.Answer.{Answer as Issuance}
use Rattle.issue_core.specs.declared.issuing.serving.Answer.TheVariants as issuance
use Rattle.issue_core.specs.Issuing.Calls.{Serves, case_of, bare_case, outcome_of, delivery, is_held}
use Rattle.issue_core.specs.Issuing.ProviderCalls.{MissesKey}
use Rattle.issue_core.specs.Issuing.Rules.{Case}
use Rattle.issue_core.specs.Issuing.Signed.{Pair, IsDuePair, SignsServed}
use Rattle.desk_core.specs.Replies.{request_served}
use Rattle.desk_core.specs.Serving.{RequestServed, Moment as Around}
use Rattle.desk_core.specs.declared.served.Served.{Served}
use Rattle.eac_net.specs.Answers.{Tells, Concludes}
use Rattle.eac_net.specs.Arrival.{AsksCertificate}
use Rattle.eac_net.specs.Delivered.{served_answer, served_sent}
use Rattle.eac_net.specs.Delivering.{Issues, RequestTurn, fate_by}
use Rattle.eac_net.specs.Ending.{Ends}
use Rattle.eac_net.specs.Losing.{Losing, Loses}
use Rattle.eac_net.specs.Moment.{Meanings, means}
use Rattle.eac_net.specs.Objects.{Outside, moment_at, IsAt}
use Rattle.eac_net.specs.Packets.{next_number, IsBetween, AreBetween}
use Rattle.eac_net.specs.Questions.{request_questions}
use Rattle.eac_net.specs.State.{State, Standing, standing_of, moved, with_delivery}
use Rattle.eac_net.specs.Steps.{GoesOn, HasStepped}
use Rattle.eac_net.specs.Tracing.{AllTraced}
use Rattle.eac_net.specs.Verdicts.{Verdict, verdicts_on}
use Rattle.eac_net.specs.declared.answer.Answer.{Answer}
use Rattle.eac_net.specs.declared.answer.Happened.{Happened}
use Rattle.eac_net.specs.declared.event.Event.TheVariants as events
use Rattle.eac_net.specs.declared.packet.Packet.{Packet}
use Rattle.eac_net.specs.declared.world.World.{World}
use Rattle.eac_net.proofs.Arrivals.{IsThat, says_that, turns_that, outside_of, served_between, told_known, told_both, law_of}
use Rattle.eac_net.proofs.AskedItems.{asked_item, goes_asked, verdicts_said}
use Rattle.eac_net.proofs.Concluded.{concluded, between_after, same_day}
use Rattle.eac_net.proofs.Going.{KeepsRows, moved_standing, none_called, none_acked}
use Rattle.eac_net.proofs.IssuedLosses.{IssueLoss, issue_loss}
use Rattle.eac_net.proofs.IssuedRows.{issued_keeps}
use Rattle.eac_net.proofs.OwnSignings.{all_of}

-- ---- an answer drops nothing

lossless : (id request : List ℕ) (issued : Result Issuance IssueFault) (number : ℕ) (IsDue : Pair → Type 0) (l : Losing) → Loses IsDue (fate_by (outcome_of issued)) l → IsSome (served_answer number (request_served id request issued)) → l.dropped ≡ []
lossless id request (Ok (issuance.Issued p)) number IsDue l h some = ap (λ (x : Losing). x.dropped) h
lossless id request (Ok (issuance.Kept p)) number IsDue l h some = ap (λ (x : Losing). x.dropped) h
lossless id request (Ok (issuance.Refused k)) number IsDue l h some = ap (λ (x : Losing). x.dropped) h
lossless id request (Err fault.KeeperFault) number IsDue l (inl h) some = ap (λ (x : Losing). x.dropped) h
lossless id request (Err fault.KeeperFault) number IsDue l (inr h) some = ap (λ (x : Losing). x.dropped) h.2
lossless id request (Err fault.ProviderFault) number IsDue l h some = ap (λ (x : Losing). x.dropped) h
lossless id request (Err (fault.NoKey reference)) number IsDue l h some = ap (λ (x : Losing). x.dropped) h
lossless id request (Err fault.NoMemory) number IsDue l h some = absurd (true≢false (sym some))

ended_some : (s s' : Standing) (answer said : Option Answer) (sent : List Packet) → Ends s answer s' said sent → IsSome answer → IsSome said
ended_some s s' answer said sent (inl e) some = subst (λ (x : Option Answer). IsSome x) e.told some
ended_some s s' answer said sent (inr e) some = absurd (true≢false (sym (subst (λ (x : Option Answer). IsSome x) e.told some)))

-- ---- the rows that are told, or none

abbrev rows_or : Option (List Row) → List Row
rows_or (Some rows) = rows
rows_or None = []

module _ (setup : SetupValue) (number : ℕ) (w w' : World) (disks : ℕ → DiskKnown) (was now : Around) (p : Packet) (id request : List ℕ) (that : IsThat setup number w.packets (Some p) (AsksCertificate id request))
    (day : ℕ) (today : w.day ≡ Some day) (result : Result Served NoMemory) (served : RequestServed setup p.to day id request was now result) where
  abbrev o : Outside
  o = outside_of disks was

  abbrev o' : Outside
  o' = outside_of disks now

  abbrev first : Standing
  first = (moment_at w o).parties

  abbrev last : Standing
  last = (moment_at w' o').parties

  abbrev m : Meanings
  m = means (moment_at w o) (moment_at w' o')

  abbrev said : Option Answer
  said = served_answer (next_number w.packets) (request_served id request served.issued)

  abbrev sent : List Packet
  sent = served_sent p (request_served id request served.issued)

  abbrev misses : List ℕ → Type 0
  misses = MissesKey o.says o.holds (bare_case setup p.to day request [])

  abbrev case_in : List Row → Case
  case_in rows = case_of o.says setup p.to day request rows

  abbrev asked : List Verdict
  asked = verdicts_on o.says (request_questions setup p.to day request (rows_or o.rows))

  -- ---- from a standing with these rows to these

  record IsServed (answer : Option Answer) (s : Standing) (before after : List Row) : Type 0 where
    event : Issues p s answer last id request misses (λ issued. Serves o'.says o.holds (case_in before) (outcome_of issued) (s.keeper, last.keeper) (s.provider, last.provider) before after)
    losing : Losing
    loses : Loses (IsDuePair (case_in before) before) (fate_by (outcome_of event.issued)) losing
    dropped : IsSome answer → losing.dropped ≡ []
    traced : (lost dropped : List Pair) → IfSome o.signed (λ ps. AllTraced before (lost ++ dropped) ps) → IfSome o'.signed (λ ps. AllTraced after (all_of lost dropped losing) ps)

  abbrev ServesRows : List Row → List Row → Type 0
  ServesRows r r' = Serves o'.says o.holds (case_in r) (outcome_of served.issued) (was.keeper.faults, now.keeper.faults) (was.provider.faults, now.provider.faults) r r'

  abbrev SignsRows : List Row → List Row → Type 0
  SignsRows r r' = SignsServed (case_in r) (outcome_of served.issued) (o.signed, o'.signed) r r'

  is_served : (answer : Option Answer) → Ends first answer last said sent → (r r' : List Row) → ServesRows r r' → SignsRows r r' → IsServed answer first r r'
  is_served answer ends r r' serves signs =
      let loss : IssueLoss (case_in r) (outcome_of served.issued) (o.signed, o'.signed) r r' = issue_loss (case_in r) (outcome_of served.issued) (o.signed, o'.signed) r refl r' signs in
      record {
        event = record { issued = served.issued; does = serves; cause = served.cause; ends = ends };
        losing = loss.losing;
        loses = loss.loses;
        dropped = λ some. lossless id request served.issued (next_number w.packets) (IsDuePair (case_in r) r) loss.losing loss.loses (ended_some first last answer said sent ends some);
        traced = loss.traced;
      }

  request_goes : (answer : Option Answer) → Ends first answer last said sent → (r r' : List Row) → o.rows ≡ Some r → UniqueKeys r → ServesRows r r' → SignsRows r r' → (s : State) → IsAt setup w o r s →
      GoesOn setup (asked_item setup (events.Deliver number) answer asked w w' o o') w' o o' r r' s
  request_goes answer ends r r' known unique serves signs s there =
      let later = same_day first last answer said sent ends in
      let done : IsServed answer (standing_of s) s.rows r' =
      subst (λ (x : Standing × List Row). IsServed answer x.0 x.1 r') (λ j. (sym there.standing j, sym there.rows_are j)) (is_served answer ends r r' serves signs) in
      let next : State = record (moved s last r') {
        desks = with_delivery s.desks p.to (delivery (case_in s.rows) (outcome_of done.event.issued) done.event.does.left (s.keeper, last.keeper) (s.provider, last.provider) (is_held o.holds (case_in s.rows)));
        verdicts = s.verdicts ++ verdicts_on o.says (request_questions setup p.to day request s.rows);
        lost = s.lost ++ done.losing.lost;
        dropped = s.dropped ++ done.losing.dropped;
      } in
      let turn : RequestTurn setup m s p id request answer next = record {
        day = day;
        today = ap (λ (x : Standing). x.day) there.standing ∙ today;
        rows = r';
        now = last;
        event = done.event;
        losing = done.losing;
        loses = done.loses;
        next = refl;
      } in
      let keeps : KeepsRows setup o.says o'.says o.holds o'.holds r r' =
      issued_keeps setup o.says o'.says o.holds o'.holds served.provider.says_more served.provider.holds_more (case_in r) (outcome_of served.issued)
      (was.keeper.faults, now.keeper.faults) (was.provider.faults, now.provider.faults) r r' unique refl serves in
      let rows_are : s.rows ≡ rows_or o.rows = there.rows_are ∙ ap rows_or (sym known) in
      goes_asked setup (events.Deliver number) answer asked w w' o o' s next r r' there
      (turns_that setup number w.packets (Some p) (AsksCertificate id request) that m answer s next (ap (λ (x : Standing). x.packets) there.standing) turn)
      (moved_standing setup (events.Deliver number) answer w w' o o' s r r' later there) refl
      (ap (λ (rows : List Row). s.verdicts ++ verdicts_on o.says (request_questions setup p.to day request rows)) rows_are)
      (verdicts_said o.says (request_questions setup p.to day request (rows_or o.rows))) done.losing.lost refl
      (λ some. ap (λ (l : List Pair). s.dropped ++ l) (done.dropped some) ∙ append-nil s.dropped) keeps
      (λ h. done.traced s.lost s.dropped (subst (λ (rows : List Row). IfSome o.signed (λ ps. AllTraced rows (s.lost ++ s.dropped) ps)) (sym there.rows_are) h))

  pub request_steps : {E F : Type 0} (happened : Result Happened E) (r : Result (Unit {0}) F) (line line' : List ℕ) → IsBetween setup p → AreBetween setup w.packets → IfSome o.rows UniqueKeys →
      Concludes happened r w w' line line' → Tells happened said sent → HasStepped setup (events.Deliver number) r (w, line) (w', line') o o'
  request_steps happened r line line' between were unique c tells =
      let d = concluded w w' o.keeper_faults o'.keeper_faults o.provider_faults o'.provider_faults said sent happened r line line' c tells in (
        asked_item setup (events.Deliver number) d.answer asked w w' o o',
        refl,
        record {
          from = refl;
          to = refl;
          answers = record {
            says = says_that setup number w.packets (Some p) (AsksCertificate id request) that m d.answer first asked last refl (record {
              day = day;
              today = today;
              event = record { issued = served.issued; does = served.answered; cause = served.cause; ends = d.ends };
              called = served.called;
              rows = rows_or o.rows;
              asked_are = refl;
            });
            chips = none_called (events.Deliver number) d.answer asked w w' o o' refl c.imports;
            asked = verdicts_said o.says (request_questions setup p.to day request (rows_or o.rows));
            provider = served.provider;
          };
          rows = told_known _ (λ (x x' : List Row). (s : State) → IsAt setup w o x s → GoesOn setup (asked_item setup (events.Deliver number) d.answer asked w w' o o') w' o o' x x' s)
              o.rows o'.rows (told_both _ _ o.rows o'.rows served.delivery served.signed)
              (λ x x' known both s there. request_goes d.answer d.ends x x' known (law_of UniqueKeys o.rows x known unique) (both.0 there.lawful.readable) (both.1 there.lawful.readable) s there);
          parties = between_after setup first last d.answer said sent were (served_between setup p (request_served id request served.issued) between) (All-nil (IsBetween setup)) d.ends;
          acks = none_acked w w' c.acks;
        },
        d.told,
      )

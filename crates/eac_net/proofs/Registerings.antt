-- The register is asked.
use Rattle.std.proofs.Common.{◌≡◌, ◌⊎◌, ◌≤◌, ℕ, List, [], ◌∷◌, ◌++◌, Some, None, Ok, Err, inl, inr, refl, sym, ap, ◌∙◌, subst, append-nil}
use Rattle.std.specs.Prelude.{IfOk}
use Rattle.std.specs.declared.option.Option.{Option}
use Rattle.std.specs.declared.result.Result.{Result}
use Rattle.cv_dates.specs.Calendar.{day_text}
use Rattle.eac_base.specs.Telling.{Told}
use Rattle.eac_base.proofs.Tellings.{told_more}
use Rattle.policy_limits.specs.Setup.{SetupValue}
use Rattle.keeper.specs.declared.rows.Row.{Row}
use Rattle.issue_core.specs.declared.rule.Rule.{Rule}
use Rattle.issue_core.specs.declared.fault.IssueFault.{IssueFault}
use Rattle.issue_core.specs.declared.fault.IssueFault.TheVariants.{KeeperFault, ProviderFault, NoKey, NoMemory as FaultNoMemory}
use Rattle.issue_core.specs.declared.registering.serving.RegisterAnswer.{RegisterAnswer}
use Rattle.issue_core.specs.declared.registering.serving.RegisterAnswer.TheVariants as registered
use Rattle.issue_core.specs.Registering.Desk.{Asked, RegisterFault, register, unsigned, delivery_of, RegisterServes, entries_of, rows_left, register_outcome, RegisterFaults, RegisterCause}
use Rattle.issue_core.proofs.RegisterDesk.RowLaws.{unheard}
use Rattle.ledger.specs.Ledger.{Outcome, NoMemory}
use Rattle.ledger.specs.Story.{Decides}
use Rattle.eac_net.specs.Answers.{Tells, Concludes, outcome_answer}
use Rattle.eac_net.specs.Asking.{asked_on, AskTurn, Counts, MayCome}
use Rattle.eac_net.specs.Ending.{EndsSo}
use Rattle.eac_net.specs.Objects.{Outside, IsAt}
use Rattle.eac_net.specs.Packets.{AreBetween}
use Rattle.eac_net.specs.State.{State, Standing}
use Rattle.eac_net.specs.Steps.{GoesOn, Steps, HasStepped}
use Rattle.eac_net.specs.declared.answer.Answer.{Answer}
use Rattle.eac_net.specs.declared.answer.Happened.{Happened}
use Rattle.eac_net.specs.declared.event.Event.TheVariants as events
use Rattle.eac_net.specs.declared.world.World.{World}
use Rattle.eac_net.proofs.Beside.{keeps_registered}
use Rattle.eac_net.proofs.Concluded.{IsConcluded, concluded}
use Rattle.eac_net.proofs.Going.{KeepsRows, answers_to, goes_by, still_true, item, none_called, none_acked}
use Rattle.eac_net.proofs.Stays.{unsigned_traced}

-- ---- what is known of the outcome

module _ (reference bytes : List ℕ) (day : ℕ) where
  may_come : (result : Result RegisterAnswer IssueFault) → IfOk result (RegisterCause reference bytes (day_text day)) → MayCome (Some day) reference bytes (register_outcome result)
  may_come (Ok (registered.Issued given)) a = (day, refl, a)
  may_come (Ok (registered.Kept given)) a = a
  may_come (Ok (registered.Refused rule)) a = a
  may_come (Err KeeperFault) a = tt
  may_come (Err ProviderFault) a = tt
  may_come (Err (NoKey key)) a = tt
  may_come (Err FaultNoMemory) a = tt

no_fault : (answer : RegisterAnswer) → Ok answer ≡ Err KeeperFault → ⊥
no_fault answer e = cc

counts : (before now : ℕ) (result : Result RegisterAnswer IssueFault) → RegisterFaults before now result → Counts before now (register_outcome result)
counts before now (Ok (registered.Issued given)) h = h.quiet (no_fault (registered.Issued given))
counts before now (Ok (registered.Kept given)) h = h.quiet (no_fault (registered.Kept given))
counts before now (Ok (registered.Refused rule)) h = h.quiet (no_fault (registered.Refused rule))
counts before now (Err KeeperFault) h = h.failed refl
counts before now (Err ProviderFault) h = h.later
counts before now (Err (NoKey key)) h = h.later
counts before now (Err FaultNoMemory) h = h.later

-- ---- one asking, with this outcome

module _ (setup : SetupValue) (w w' : World) (beside : Outside) (rows rows' : Option (List Row)) (before now : ℕ) (reference bytes : List ℕ) (day : ℕ)
    (today : w.day ≡ Some day) (same_day : w'.day ≡ w.day) (same_packets : w'.packets ≡ w.packets) (same_imports : w'.imports ≡ w.imports) (same_acks : w'.acks ≡ w.acks) where
  abbrev o : Outside
  o = record beside { rows = rows; keeper_faults = before }

  abbrev o' : Outside
  o' = record beside { rows = rows'; keeper_faults = now }

  abbrev asked : Asked
  asked = asked_on day reference bytes

  module _ (answer : Option Answer) (outcome : Outcome (List ℕ) Rule RegisterFault) (told : answer ≡ outcome_answer reference outcome) (later : before ≤ now) where
    goes_asked : (r r' : List Row) → RegisterServes r r' asked (before, now) outcome → (s : State) → IsAt setup w o r s →
        GoesOn setup (item setup (events.Ask reference bytes) answer w w' o o') w' o o' r r' s
    goes_asked r r' serves s there =
        let keeper_is : s.keeper ≡ before = ap (λ (x : Standing). x.keeper) there.standing in
        let rows_are : s.rows ++ rows_left asked serves.left ≡ r' = ap (λ (l : List Row). l ++ rows_left asked serves.left) there.rows_are ∙ sym serves.rows in
        let next : State = record s {
          rows = s.rows ++ rows_left asked serves.left;
          keeper = now;
          register = s.register ++ delivery_of asked (s.keeper, now) outcome serves.left ∷ [];
        } in
        let one : Decides register unsigned (entries_of s.rows) (delivery_of asked (s.keeper, now) outcome serves.left) =
        subst (λ (x : List Row × ℕ). Decides register unsigned (entries_of x.0) (delivery_of asked (x.1, now) outcome serves.left)) (λ j. (sym there.rows_are j, sym keeper_is j)) serves.decides in
        let turn : AskTurn s reference bytes answer next = record {
          day = day;
          outcome = outcome;
          left = serves.left;
          faults = now;
          today = ap (λ (x : Standing). x.day) there.standing ∙ today;
          later = subst (λ (n : ℕ). n ≤ now) (sym keeper_is) later;
          decides = one;
          told = told;
          next = refl;
        } in
        let keeps : KeepsRows setup beside.says beside.says beside.holds beside.holds r r' =
        subst (KeepsRows setup beside.says beside.says beside.holds beside.holds r) (sym serves.rows)
        (keeps_registered setup beside.says beside.says beside.holds beside.holds (λ key message signature h. h) (λ key h. h) r asked serves.left) in
        goes_by setup (events.Ask reference bytes) answer w w' o o' s next r r' there turn
        (λ j. record {
          day = (ap (λ (x : Standing). x.day) there.standing ∙ sym same_day) j;
          keeper = now;
          provider = (there.standing j).provider;
          packets = (ap (λ (x : Standing). x.packets) there.standing ∙ sym same_packets) j;
        })
        rows_are refl [] (sym (append-nil s.lost)) (λ _. refl) keeps
        (unsigned_traced r r' (s.lost ++ s.dropped) beside.signed beside.signed keeps.stay refl)

    asked_steps : Told rows rows' (λ r r'. RegisterServes r r' asked (before, now) outcome) → Counts before now outcome → MayCome (Some day) reference bytes outcome → AreBetween setup w.packets →
        Steps setup (item setup (events.Ask reference bytes) answer w w' o o') w w' o o'
    asked_steps serves count comes was = record {
      from = refl;
      to = refl;
      answers = answers_to setup (events.Ask reference bytes) answer w w' o o'
          (record {
            none = refl;
            still = record { says = refl; holds = refl; signed = refl };
            event = record {
              outcome = outcome;
              told = told;
              later = later;
              counts = count;
              comes = subst (λ (x : Option ℕ). MayCome x reference bytes outcome) (sym today) comes;
              next = λ j. record { day = same_day j; keeper = now; provider = beside.provider_faults; packets = same_packets j };
            };
          }) (none_called (events.Ask reference bytes) answer [] w w' o o' refl same_imports) (still_true beside.says beside.holds beside.signed);
      rows = told_more (λ r r'. RegisterServes r r' asked (before, now) outcome)
          (λ (r r' : List Row). (s : State) → IsAt setup w o r s → GoesOn setup (item setup (events.Ask reference bytes) answer w w' o o') w' o o' r r' s)
          rows rows' serves (λ r r' one s there. goes_asked r r' one s there);
      parties = subst (AreBetween setup) (sym same_packets) was;
      acks = none_acked w w' same_acks;
    }

-- ---- the asking, as it was concluded

module _ (setup : SetupValue) (w w' : World) (beside : Outside) (rows rows' : Option (List Row)) (before now : ℕ) (reference bytes : List ℕ) (day : ℕ) (text : List ℕ)
    (result : Result RegisterAnswer IssueFault) (today : w.day ≡ Some day) (is : text ≡ day_text day)
    (serves : Told rows rows' (λ r r'. RegisterServes r r' (record { reference = reference; bytes = bytes; day = text }) (before, now) (register_outcome result)))
    (causes : IfOk result (RegisterCause reference bytes text)) (cause : RegisterFaults before now result) where
  serves_so : Told rows rows' (λ r r'. RegisterServes r r' (asked_on day reference bytes) (before, now) (register_outcome result))
  serves_so = subst (λ (d : List ℕ). Told rows rows' (λ r r'. RegisterServes r r' (record { reference = reference; bytes = bytes; day = d }) (before, now) (register_outcome result))) is serves

  pub ask_steps : {E F : Type 0} (happened : Result Happened E) (r : Result (Unit {0}) F) (line line' : List ℕ) → Concludes happened r w w' line line' →
      Tells happened (outcome_answer reference (register_outcome result)) [] → AreBetween setup w.packets →
      HasStepped setup (events.Ask reference bytes) r (w, line) (w', line') (record beside { rows = rows; keeper_faults = before }) (record beside { rows = rows'; keeper_faults = now })
  ask_steps {E} {F} happened r line line' c t was =
      go (concluded w w' before now beside.provider_faults beside.provider_faults (outcome_answer reference (register_outcome result)) [] happened r line line' c t)
    where
      stepped : (answer : Option Answer) (outcome : Outcome (List ℕ) Rule RegisterFault) → answer ≡ outcome_answer reference outcome → w'.day ≡ w.day → w'.packets ≡ w.packets ++ [] →
          Told rows rows' (λ r r'. RegisterServes r r' (asked_on day reference bytes) (before, now) outcome) → Counts before now outcome → MayCome (Some day) reference bytes outcome →
          Steps setup (item setup (events.Ask reference bytes) answer w w' (record beside { rows = rows; keeper_faults = before }) (record beside { rows = rows'; keeper_faults = now })) w w' (record beside { rows = rows; keeper_faults = before }) (record beside { rows = rows'; keeper_faults = now })
      stepped answer outcome told day_is packets_are serves count comes =
          asked_steps setup w w' beside rows rows' before now reference bytes day today day_is (packets_are ∙ append-nil w.packets) c.imports c.acks answer outcome told cause.later serves count comes was

      go : IsConcluded {F = F} (record { day = w.day; keeper = before; provider = beside.provider_faults; packets = w.packets }) (record { day = w'.day; keeper = now; provider = beside.provider_faults; packets = w'.packets })
          (outcome_answer reference (register_outcome result)) [] r line line' →
          HasStepped setup (events.Ask reference bytes) r (w, line) (w', line') (record beside { rows = rows; keeper_faults = before }) (record beside { rows = rows'; keeper_faults = now })
      go d = (item setup (events.Ask reference bytes) d.answer w w' (record beside { rows = rows; keeper_faults = before }) (record beside { rows = rows'; keeper_faults = now }), refl, by d.ends, d.told)
        where
          by : EndsSo (record { day = w.day; keeper = before; provider = beside.provider_faults; packets = w.packets }) d.answer (record { day = w'.day; keeper = now; provider = beside.provider_faults; packets = w'.packets }) (outcome_answer reference (register_outcome result)) []
              ⊎ EndsSo (record { day = w.day; keeper = before; provider = beside.provider_faults; packets = w.packets }) d.answer (record { day = w'.day; keeper = now; provider = beside.provider_faults; packets = w'.packets }) None [] →
              Steps setup (item setup (events.Ask reference bytes) d.answer w w' (record beside { rows = rows; keeper_faults = before }) (record beside { rows = rows'; keeper_faults = now })) w w' (record beside { rows = rows; keeper_faults = before }) (record beside { rows = rows'; keeper_faults = now })
          by (inl e) = stepped d.answer (register_outcome result) e.told e.day e.packets serves_so (counts before now result cause)
              (may_come reference bytes day result (subst (λ (x : List ℕ). IfOk result (RegisterCause reference bytes x)) is causes))
          by (inr e) = stepped d.answer NoMemory e.told e.day e.packets
              (told_more (λ r r'. RegisterServes r r' (asked_on day reference bytes) (before, now) (register_outcome result)) (λ r r'. RegisterServes r r' (asked_on day reference bytes) (before, now) NoMemory)
              rows rows' serves_so (λ r r' one. unheard r r' (asked_on day reference bytes) (before, now) (register_outcome result) one)) cause.later tt

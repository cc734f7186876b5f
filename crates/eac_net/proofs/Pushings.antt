-- A desk sends its list by itself.
use Rattle.std.proofs.Common.{◌≡◌, ℕ, List, [], Ok, Err, sym, ap, ◌∙◌, subst}
use Rattle.std.specs.Prelude.{IfOk}
use Rattle.std.specs.declared.option.Option.{Option}
use Rattle.std.specs.declared.result.Result.{Result}
use Rattle.std.proofs.lemmas.List.Elements.{All-nil, All-cons}
use Rattle.eac_base.specs.Telling.{Told}
use Rattle.eac_messages.specs.declared.message.Message.TheVariants as messages
use Rattle.signature_provider.specs.Provider.{Says, Holds}
use Rattle.policy_limits.specs.Setup.{SetupValue}
use Rattle.keeper.specs.declared.rows.Row.{Row}
use Rattle.holder_core.specs.Faults.{KeeperCaused}
use Rattle.holder_core.specs.declared.fault.HolderFault.{HolderFault}
use Rattle.eac_net.specs.Answers.{Tells, Concludes, answer_by}
use Rattle.eac_net.specs.Ending.{KeeperActs, Moves}
use Rattle.eac_net.specs.Objects.{Outside}
use Rattle.eac_net.specs.Packets.{call_of, next_number, IsBetween, AreBetween}
use Rattle.eac_net.specs.Parties.{is_holder, is_issuer}
use Rattle.eac_net.specs.Pushing.{PushFits, PushTurn, ListAsked, list_due, list_sent}
use Rattle.eac_net.specs.State.{State, standing_of, moved}
use Rattle.eac_net.specs.Steps.{HasStepped}
use Rattle.eac_net.specs.declared.answer.Answer.{Answer}
use Rattle.eac_net.specs.declared.answer.Answer.TheVariants as answers
use Rattle.eac_net.specs.declared.answer.Happened.{Happened}
use Rattle.eac_net.specs.declared.event.Event.TheVariants as events
use Rattle.eac_net.specs.declared.packet.Packet.{Packet}
use Rattle.eac_net.specs.declared.world.World.{World}
use Rattle.eac_net.proofs.EventKinds.{some_party}
use Rattle.eac_net.proofs.Going.{KeepsRows, keeps_same}
use Rattle.eac_net.proofs.Keepings.{kept_steps}

module _ (setup : SetupValue) (desk party : ℕ) where
  abbrev said : List Packet → Result (List (List ℕ)) HolderFault → Option Answer
  said packets = answer_by (λ (list : List (List ℕ)). answers.Sent (next_number packets))

  -- its list, and no row changed
  abbrev pub ListsDue : List Row → List Row → Result (List (List ℕ)) HolderFault → Type 0
  ListsDue before after result = (after ≡ before) × IfOk result (λ list. list ≡ list_due setup desk before)

  pushes_only : (s s' : State) (answer : Option Answer) → Moves s (λ rows now. KeeperActs (standing_of s) answer now (said s.packets) (list_sent desk party) (ListsDue s.rows rows)) s' →
      PushTurn setup s desk party answer s'
  pushes_only s s' answer h = record {
    now = h.now;
    event = record { result = h.event.result; does = h.event.does.1; cause = h.event.cause; provider = h.event.provider; ends = h.event.ends };
    next = h.next ∙ ap (moved s h.now) h.event.does.0;
  }

  lists_keep : (says : Says) (holds : Holds) (before after : List Row) (result : Result (List (List ℕ)) HolderFault) → ListsDue before after result → KeepsRows setup says says holds holds before after
  lists_keep says holds before after result does =
      subst (KeepsRows setup says says holds holds before) (sym does.0) (keeps_same setup says says holds holds before (λ key message signature h. h) (λ key h. h))

  list_between : PushFits setup desk party → (result : Result (List (List ℕ)) HolderFault) → AreBetween setup (list_sent desk party result)
  list_between fits (Ok list) =
      All-cons (IsBetween setup) (call_of desk party (messages.SendCertificates [] list)) []
      (record { sender = some_party is_issuer setup desk fits.desk_is; receiver = some_party is_holder setup party fits.party_is }) (All-nil (IsBetween setup))
  list_between fits (Err f) = All-nil (IsBetween setup)

  pub push_steps : {E F : Type 0} → PushFits setup desk party → (w w' : World) (beside : Outside) (rows rows' : Option (List Row)) (before now : ℕ) (result : Result (List (List ℕ)) HolderFault)
      (happened : Result Happened E) (r : Result (Unit {0}) F) (line line' : List ℕ) → KeeperCaused before now result → Concludes happened r w w' line line' →
      Tells happened (said w.packets result) (list_sent desk party result) → Told rows rows' (λ before after. ListsDue before after result) → IfOk result (ListAsked setup desk) →
      AreBetween setup w.packets → HasStepped setup (events.Push desk party) r (w, line) (w', line') (record beside { rows = rows; keeper_faults = before }) (record beside { rows = rows'; keeper_faults = now })
  push_steps fits w w' beside rows rows' before now result happened r line line' cause c t told asked was =
      kept_steps setup (events.Push desk party) said (list_sent desk party) ListsDue (λ result. IfOk result (ListAsked setup desk))
      (λ m s s' answer h. h) (λ m s s' answer h. pushes_only s s' answer h) lists_keep (list_between fits) (λ i x. x)
      w w' beside rows rows' before now result cause happened r line line' c t told asked was

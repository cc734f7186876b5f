-- An event of a party that asks the keeper alone.
use Rattle.eac_net.specs.Items.{Ran}
use Rattle.eac_net.specs.ChipSays.{OfNone, ChipSays}
use Rattle.std.proofs.Common.{ℕ, List, [], ◌++◌, refl, sym, subst, append-nil}
use Rattle.std.specs.declared.option.Option.{Option}
use Rattle.std.specs.declared.result.Result.{Result}
use Rattle.std.proofs.lemmas.List.Elements.{All-nil}
use Rattle.eac_base.specs.Telling.{Told}
use Rattle.eac_base.proofs.Tellings.{told_more}
use Rattle.signature_provider.specs.Provider.{Says as Saying, Holds}
use Rattle.policy_limits.specs.Setup.{SetupValue}
use Rattle.keeper.specs.declared.rows.Row.{Row}
use Rattle.holder_core.specs.Faults.{KeeperCaused}
use Rattle.holder_core.specs.declared.fault.HolderFault.{HolderFault}
use Rattle.eac_net.specs.Answers.{Tells, Concludes}
use Rattle.eac_net.specs.Ending.{Ends, KeeperActs, Moves}
use Rattle.eac_net.specs.Moment.{Meanings, means}
use Rattle.eac_net.specs.Objects.{Outside, moment_at, IsAt}
use Rattle.eac_net.specs.Packets.{IsBetween, AreBetween}
use Rattle.eac_net.specs.State.{State, Standing, standing_of, moved}
use Rattle.eac_net.specs.Steps.{GoesOn, HasStepped}
use Rattle.eac_net.specs.Turn.{Turn}
use Rattle.eac_net.specs.Untold.{CallsNone, Says}
use Rattle.eac_net.specs.declared.answer.Answer.{Answer}
use Rattle.eac_net.specs.declared.answer.Happened.{Happened}
use Rattle.eac_net.specs.declared.event.Event.{Event}
use Rattle.eac_net.specs.declared.packet.Packet.{Packet}
use Rattle.eac_net.specs.declared.world.World.{World}
use Rattle.eac_net.proofs.Concluded.{concluded, between_after, same_day}
use Rattle.eac_net.proofs.Going.{KeepsRows, answers_to, moved_standing, goes_by, still_true, item, none_called, none_acked}
use Rattle.eac_net.proofs.Stays.{unsigned_traced}

module _ {A : Type 0} (setup : SetupValue) (event : Event) (said : List Packet → Result A HolderFault → Option Answer) (sent : Result A HolderFault → List Packet)
    (Does : List Row → List Row → Result A HolderFault → Type 0) (Asked : Result A HolderFault → Type 0)
    (say : (m : Meanings) (s s' : Standing) (answer : Option Answer) → CallsNone m [] (KeeperActs s answer s' (said s.packets) sent Asked) → Says setup m s event answer [] s')
    (turn : (m : Meanings) (s s' : State) (answer : Option Answer) → Moves s (λ rows now. KeeperActs (standing_of s) answer now (said s.packets) sent (Does s.rows rows)) s' → Turn setup m s event answer s')
    (keeps : (says : Saying) (holds : Holds) (before after : List Row) (result : Result A HolderFault) → Does before after result → KeepsRows setup says says holds holds before after)
    (between : (result : Result A HolderFault) → AreBetween setup (sent result))
    (chips : (i : Ran) → OfNone i → ChipSays event i) (w w' : World) (beside : Outside) (rows rows' : Option (List Row)) (before now : ℕ) (result : Result A HolderFault) (cause : KeeperCaused before now result) where
  abbrev o : Outside
  o = record beside { rows = rows; keeper_faults = before }

  abbrev o' : Outside
  o' = record beside { rows = rows'; keeper_faults = now }

  goes_kept : (answer : Option Answer) → Ends (moment_at w o).parties answer (moment_at w' o').parties (said w.packets result) (sent result) → (r r' : List Row) → Does r r' result →
      (s : State) → IsAt setup w o r s → GoesOn setup (item setup event answer w w' o o') w' o o' r r' s
  goes_kept answer ends r r' does s there =
      let day = same_day (moment_at w o).parties (moment_at w' o').parties answer (said w.packets result) (sent result) ends in
      let kept : KeepsRows setup beside.says beside.says beside.holds beside.holds r r' = keeps beside.says beside.holds r r' result does in
      let acts : KeeperActs (standing_of s) answer (moment_at w' o').parties (said s.packets) sent (Does s.rows r') =
      subst (λ (x : Standing × List Row). KeeperActs x.0 answer (moment_at w' o').parties (said x.0.packets) sent (Does x.1 r')) (λ j. (sym there.standing j, sym there.rows_are j))
      (record { result = result; does = does; cause = cause; provider = refl; ends = ends }) in
      goes_by setup event answer w w' o o' s (moved s (moment_at w' o').parties r') r r' there
      (turn (means (moment_at w o) (moment_at w' o')) s (moved s (moment_at w' o').parties r') answer (record { rows = r'; now = (moment_at w' o').parties; event = acts; next = refl }))
      (moved_standing setup event answer w w' o o' s r r' day there) refl refl [] (sym (append-nil s.lost)) (λ _. refl) kept
      (unsigned_traced r r' (s.lost ++ s.dropped) beside.signed beside.signed kept.stay refl)

  pub kept_steps : {E F : Type 0} (happened : Result Happened E) (r : Result (Unit {0}) F) (line line' : List ℕ) → Concludes happened r w w' line line' → Tells happened (said w.packets result) (sent result) →
      Told rows rows' (λ before after. Does before after result) → Asked result → AreBetween setup w.packets → HasStepped setup event r (w, line) (w', line') o o'
  kept_steps happened r line line' c t does asked was =
      let d = concluded w w' before now beside.provider_faults beside.provider_faults (said w.packets result) (sent result) happened r line line' c t in (
        item setup event d.answer w w' o o',
        refl,
        record {
          from = refl;
          to = refl;
          answers = answers_to setup event d.answer w w' o o'
              (say (means (moment_at w o) (moment_at w' o')) (moment_at w o).parties (moment_at w' o').parties d.answer (record {
                none = refl;
                still = record { says = refl; holds = refl; signed = refl };
                event = record { result = result; does = asked; cause = cause; provider = refl; ends = d.ends };
              })) (chips _ (none_called event d.answer [] w w' o o' refl c.imports)) (still_true beside.says beside.holds beside.signed);
          rows = told_more (λ before after. Does before after result)
              (λ (r r' : List Row). (s : State) → IsAt setup w o r s → GoesOn setup (item setup event d.answer w w' o o') w' o o' r r' s)
              rows rows' does (λ r r' one s there. goes_kept d.answer d.ends r r' one s there);
          parties = between_after setup (moment_at w o).parties (moment_at w' o').parties d.answer (said w.packets result) (sent result) was (between result) (All-nil (IsBetween setup)) d.ends;
          acks = none_acked w w' c.acks;
        },
        d.told,
      )

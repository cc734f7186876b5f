-- A party sends a packet by itself: neither keeper nor provider is called.
use Rattle.eac_net.specs.Items.{Ran}
use Rattle.eac_net.specs.ChipSays.{OfNone, ChipSays}
use Rattle.std.proofs.Common.{ℕ, List, [], ◌∷◌, Some, refl, sym, subst, append-nil}
use Rattle.std.specs.declared.option.Option.{Option}
use Rattle.std.specs.declared.result.Result.{Result}
use Rattle.std.proofs.lemmas.List.Elements.{All-nil, All-cons}
use Rattle.eac_base.proofs.Tellings.{told_same}
use Rattle.policy_limits.specs.Setup.{SetupValue}
use Rattle.keeper.specs.declared.rows.Row.{Row}
use Rattle.eac_net.specs.Answers.{Tells, Concludes}
use Rattle.eac_net.specs.Ending.{MovesOnly}
use Rattle.eac_net.specs.Moment.{Meanings, means}
use Rattle.eac_net.specs.Objects.{Outside, moment_at, IsAt}
use Rattle.eac_net.specs.Packets.{next_number, packet_of, IsBetween, AreBetween}
use Rattle.eac_net.specs.Parties.{is_holder, is_issuer}
use Rattle.eac_net.specs.Sending.{Posts, FetchFits, SendFits, question}
use Rattle.eac_net.specs.State.{State, Standing, standing_of, moved}
use Rattle.eac_net.specs.Steps.{GoesOn, HasStepped}
use Rattle.eac_net.specs.Turn.{Turn}
use Rattle.eac_net.specs.Untold.{CallsNone, Says}
use Rattle.eac_net.specs.declared.answer.Answer.{Answer}
use Rattle.eac_net.specs.declared.answer.Answer.TheVariants as answers
use Rattle.eac_net.specs.declared.answer.Happened.{Happened}
use Rattle.eac_net.specs.declared.event.Event.{Event}
use Rattle.eac_net.specs.declared.event.Event.TheVariants as events
use Rattle.eac_net.specs.declared.packet.Packet.{Packet}
use Rattle.eac_net.specs.declared.world.World.{World}
use Rattle.eac_net.proofs.Concluded.{concluded, between_after, same_day}
use Rattle.eac_net.proofs.EventKinds.{some_party}
use Rattle.eac_net.proofs.Going.{answers_to, moved_standing, goes_by, keeps_same, still_true, item, none_called, none_acked}

module _ (setup : SetupValue) (event : Event) (packet : Packet)
    (say : (m : Meanings) (s s' : Standing) (answer : Option Answer) → CallsNone m [] (Posts s packet answer s') → Says setup m s event answer [] s')
    (turn : (m : Meanings) (s s' : State) (answer : Option Answer) → MovesOnly s (Posts (standing_of s) packet answer) s' → Turn setup m s event answer s')
    (chips : (i : Ran) → OfNone i → ChipSays event i) (w w' : World) (o : Outside) where
  abbrev now : Standing
  now = (moment_at w' o).parties

  goes_posted : (answer : Option Answer) → Posts (moment_at w o).parties packet answer now → (before : List Row) (s : State) → IsAt setup w o before s →
      GoesOn setup (item setup event answer w w' o o) w' o o before before s
  goes_posted answer posts before s there =
      let day = same_day (moment_at w o).parties now answer (Some (answers.Sent (next_number w.packets))) (packet ∷ []) posts.ends in
      goes_by setup event answer w w' o o s (moved s now s.rows) before before there
      (turn (means (moment_at w o) (moment_at w' o)) s (moved s now s.rows) answer
      (record { now = now; event = subst (λ (x : Standing). Posts x packet answer now) (sym there.standing) posts; next = refl }))
      (moved_standing setup event answer w w' o o s before s.rows day there) there.rows_are refl [] (sym (append-nil s.lost)) (λ _. refl)
      (keeps_same setup o.says o.says o.holds o.holds before (λ key message signature h. h) (λ key h. h)) (λ h. h)

  posted_steps : {E F : Type 0} (happened : Result Happened E) (r : Result (Unit {0}) F) (line line' : List ℕ) → IsBetween setup packet → AreBetween setup w.packets →
      Concludes happened r w w' line line' → Tells happened (Some (answers.Sent (next_number w.packets))) (packet ∷ []) → HasStepped setup event r (w, line) (w', line') o o
  posted_steps happened r line line' between was c t =
      let said = Some (answers.Sent (next_number w.packets)) in
      let d = concluded w w' o.keeper_faults o.keeper_faults o.provider_faults o.provider_faults said (packet ∷ []) happened r line line' c t in
      let posts : Posts (moment_at w o).parties packet d.answer now = record { ends = d.ends; keeper = refl; provider = refl } in (
        item setup event d.answer w w' o o,
        refl,
        record {
          from = refl;
          to = refl;
          answers = answers_to setup event d.answer w w' o o
              (say (means (moment_at w o) (moment_at w' o)) (moment_at w o).parties now d.answer
              (record { none = refl; still = record { says = refl; holds = refl; signed = refl }; event = posts }))
              (chips _ (none_called event d.answer [] w w' o o refl c.imports)) (still_true o.says o.holds o.signed);
          rows = told_same (λ (before after : List Row). (s : State) → IsAt setup w o before s → GoesOn setup (item setup event d.answer w w' o o) w' o o before after s) o.rows
              (λ before s there. goes_posted d.answer posts before s there);
          parties = between_after setup (moment_at w o).parties now d.answer said (packet ∷ []) was
              (All-cons (IsBetween setup) packet [] between (All-nil (IsBetween setup))) (All-nil (IsBetween setup)) d.ends;
          acks = none_acked w w' c.acks;
        },
        d.told,
      )

pub fetch_steps : {E F : Type 0} (setup : SetupValue) (w w' : World) (o : Outside) (party desk : ℕ) (happened : Result Happened E) (r : Result (Unit {0}) F) (line line' : List ℕ) →
    Concludes happened r w w' line line' → Tells happened (Some (answers.Sent (next_number w.packets))) (question party desk ∷ []) →
    FetchFits setup party desk → AreBetween setup w.packets → HasStepped setup (events.Fetch party desk) r (w, line) (w', line') o o
fetch_steps setup w w' o party desk happened r line line' c t fits was =
    posted_steps setup (events.Fetch party desk) (question party desk) (λ m s s' answer h. h) (λ m s s' answer h. h) (λ i x. x) w w' o happened r line line'
    (record { sender = some_party is_holder setup party fits.party_is; receiver = some_party is_issuer setup desk fits.desk_is }) was c t

pub send_steps : {E F : Type 0} (setup : SetupValue) (w w' : World) (o : Outside) (from to : ℕ) (bytes : List ℕ) (happened : Result Happened E) (r : Result (Unit {0}) F) (line line' : List ℕ) →
    Concludes happened r w w' line line' → Tells happened (Some (answers.Sent (next_number w.packets))) (packet_of from to bytes ∷ []) →
    SendFits setup from to bytes → AreBetween setup w.packets → HasStepped setup (events.Send from to bytes) r (w, line) (w', line') o o
send_steps setup w w' o from to bytes happened r line line' c t fits was =
    posted_steps setup (events.Send from to bytes) (packet_of from to bytes) (λ m s s' answer h. h) (λ m s s' answer h. h) (λ i x. x) w w' o happened r line line'
    (record { sender = fits.sender; receiver = fits.receiver }) was c t

-- A packet comes, and neither keeper nor provider is called.
use Rattle.std.proofs.Common.{◌≡◌, ℕ, List, [], None, Ok, Err, inl, inr, ◌⊎◌, refl, sym, ap, ◌∙◌, subst, append-nil}
use Rattle.std.specs.Prelude.{IsErr}
use Rattle.std.specs.declared.option.Option.{Option}
use Rattle.std.specs.declared.result.Result.{Result}
use Rattle.std.proofs.lemmas.List.Elements.{All-nil}
use Rattle.eac_base.proofs.Tellings.{told_same}
use Rattle.policy_limits.specs.Setup.{SetupValue}
use Rattle.keeper.specs.declared.rows.Row.{Row}
use Rattle.eac_net.specs.Answers.{Tells, Concludes}
use Rattle.eac_net.specs.Arrival.{Arrival}
use Rattle.eac_net.specs.Delivering.{Arrives, ArrivesSo, Unasked}
use Rattle.eac_net.specs.Ending.{EndsSo, Idles, MovesOnly}
use Rattle.eac_net.specs.Moment.{Meanings, means}
use Rattle.eac_net.specs.Objects.{Outside, moment_at, IsAt}
use Rattle.eac_net.specs.Packets.{IsBetween, AreBetween}
use Rattle.eac_net.specs.State.{State, Standing, standing_of, moved}
use Rattle.eac_net.specs.Steps.{GoesOn, HasStepped}
use Rattle.eac_net.specs.declared.answer.Answer.{Answer}
use Rattle.eac_net.specs.declared.answer.Happened.{Happened}
use Rattle.eac_net.specs.declared.event.Event.TheVariants as events
use Rattle.eac_net.specs.declared.packet.Packet.{Packet}
use Rattle.eac_net.specs.declared.world.World.{World}
use Rattle.eac_net.proofs.Arrivals.{IsThat, says_that, turns_that}
use Rattle.eac_net.proofs.Concluded.{concluded, between_after, same_day}
use Rattle.eac_net.proofs.Going.{answers_to, moved_standing, goes_by, keeps_same, still_true, item, none_called, none_acked}

-- ---- with this answer, and these packets sent

module _ (setup : SetupValue) (number : ℕ) (w w' : World) (o : Outside) (p : Option Packet) (came : Arrival) (that : IsThat setup number w.packets p came) (said : List Packet → Option Answer) (sent : List Packet)
    (so : (m : Meanings) (s s' : Standing) (answer : Option Answer) → Unasked setup m s answer [] s' (Idles s answer s' (said s.packets) sent) → ArrivesSo setup m s answer [] s' p came)
    (goes : (m : Meanings) (s s' : State) (answer : Option Answer) → MovesOnly s (λ now. Idles (standing_of s) answer now (said s.packets) sent) s' → Arrives setup m s p came answer s') where
  abbrev was : Standing
  was = (moment_at w o).parties

  abbrev now : Standing
  now = (moment_at w' o).parties

  abbrev m : Meanings
  m = means (moment_at w o) (moment_at w' o)

  idle_goes : (answer : Option Answer) → Idles was answer now (said w.packets) sent → (before : List Row) (s : State) → IsAt setup w o before s →
      GoesOn setup (item setup (events.Deliver number) answer w w' o o) w' o o before before s
  idle_goes answer idles before s there =
      let day = same_day was now answer (said w.packets) sent idles.ends in
      let here : Idles (standing_of s) answer now (said s.packets) sent = subst (λ (x : Standing). Idles x answer now (said x.packets) sent) (sym there.standing) idles in
      goes_by setup (events.Deliver number) answer w w' o o s (moved s now s.rows) before before there
      (turns_that setup number w.packets p came that m answer s (moved s now s.rows) (ap (λ (x : Standing). x.packets) there.standing)
      (goes m s (moved s now s.rows) answer (record { now = now; event = here; next = refl })))
      (moved_standing setup (events.Deliver number) answer w w' o o s before s.rows day there) there.rows_are refl [] (sym (append-nil s.lost)) (λ _. refl)
      (keeps_same setup o.says o.says o.holds o.holds before (λ key message signature h. h) (λ key h. h)) (λ h. h)

  pub idle_steps : {E F : Type 0} (happened : Result Happened E) (r : Result (Unit {0}) F) (line line' : List ℕ) → AreBetween setup sent → AreBetween setup w.packets →
      Concludes happened r w w' line line' → Tells happened (said w.packets) sent → HasStepped setup (events.Deliver number) r (w, line) (w', line') o o
  idle_steps happened r line line' between before c t =
      let d = concluded w w' o.keeper_faults o.keeper_faults o.provider_faults o.provider_faults (said w.packets) sent happened r line line' c t in
      let idles : Idles was d.answer now (said w.packets) sent = record { ends = d.ends; keeper = refl; provider = refl } in (
        item setup (events.Deliver number) d.answer w w' o o,
        refl,
        record {
          from = refl;
          to = refl;
          answers = answers_to setup (events.Deliver number) d.answer w w' o o
              (says_that setup number w.packets p came that m d.answer was [] now refl
              (so m was now d.answer (record { none = refl; still = record { says = refl; holds = refl; signed = refl }; event = idles })))
              (none_called (events.Deliver number) d.answer [] w w' o o refl c.imports) (still_true o.says o.holds o.signed);
          rows = told_same (λ (before after : List Row). (s : State) → IsAt setup w o before s → GoesOn setup (item setup (events.Deliver number) d.answer w w' o o) w' o o before after s) o.rows
              (λ before s there. idle_goes d.answer idles before s there);
          parties = between_after setup was now d.answer (said w.packets) sent before between (All-nil (IsBetween setup)) d.ends;
          acks = none_acked w w' c.acks;
        },
        d.told,
      )

-- ---- memory was wanting before

module _ (setup : SetupValue) (number : ℕ) (w w' : World) (o : Outside) where
  abbrev first : Standing
  first = (moment_at w o).parties

  abbrev last : Standing
  last = (moment_at w' o).parties

  -- nothing stands changed
  record IsNothing (answer : Option Answer) : Type 0 where
    none : answer ≡ None
    same : last ≡ first

  nothing_by : (answer : Option Answer) → EndsSo first answer last None [] → IsNothing answer
  nothing_by answer e = record {
    none = e.told;
    same = λ j. record { day = e.day j; keeper = o.keeper_faults; provider = o.provider_faults; packets = (e.packets ∙ append-nil w.packets) j };
  }

  nothing_ended : (answer : Option Answer) → EndsSo first answer last None [] ⊎ EndsSo first answer last None [] → IsNothing answer
  nothing_ended answer (inl e) = nothing_by answer e
  nothing_ended answer (inr e) = nothing_by answer e

  nothing_goes : (answer : Option Answer) → IsNothing answer → (before : List Row) (s : State) → IsAt setup w o before s → GoesOn setup (item setup (events.Deliver number) answer w w' o o) w' o o before before s
  nothing_goes answer n before s there =
      goes_by setup (events.Deliver number) answer w w' o o s s before before there (inl (n.none, refl)) (there.standing ∙ sym n.same) there.rows_are refl [] (sym (append-nil s.lost)) (λ _. refl)
      (keeps_same setup o.says o.says o.holds o.holds before (λ key message signature h. h) (λ key h. h)) (λ h. h)

  unheard_tells : {E : Type 0} (happened : Result Happened E) → IsErr happened → Tells happened None []
  unheard_tells (Err e) h = tt
  unheard_tells (Ok x) h = absurd (cc)

  pub untouched_steps : {E F : Type 0} (happened : Result Happened E) (r : Result (Unit {0}) F) (line line' : List ℕ) → AreBetween setup w.packets → IsErr happened →
      Concludes happened r w w' line line' → HasStepped setup (events.Deliver number) r (w, line) (w', line') o o
  untouched_steps happened r line line' before failed c =
      let d = concluded w w' o.keeper_faults o.keeper_faults o.provider_faults o.provider_faults None [] happened r line line' c (unheard_tells happened failed) in
      let n : IsNothing d.answer = nothing_ended d.answer d.ends in (
        item setup (events.Deliver number) d.answer w w' o o,
        refl,
        record {
          from = refl;
          to = refl;
          answers = answers_to setup (events.Deliver number) d.answer w w' o o
              (inl (record { none = refl; still = record { says = refl; holds = refl; signed = refl }; event = (n.none, n.same) }))
              (none_called (events.Deliver number) d.answer [] w w' o o refl c.imports) (still_true o.says o.holds o.signed);
          rows = told_same (λ (before after : List Row). (s : State) → IsAt setup w o before s → GoesOn setup (item setup (events.Deliver number) d.answer w w' o o) w' o o before after s) o.rows
              (λ before s there. nothing_goes d.answer n before s there);
          parties = between_after setup first last d.answer None [] before (All-nil (IsBetween setup)) (All-nil (IsBetween setup)) d.ends;
          acks = none_acked w w' c.acks;
        },
        d.told,
      )

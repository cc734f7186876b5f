-- An event of an authority that may sign a certificate of its own.
use Rattle.eac_net.specs.Items.{Ran}
use Rattle.eac_net.specs.ChipSays.{OfNone, ChipSays}
use Rattle.std.proofs.Common.{◌≡◌, ℕ, List, [], ◌++◌, true≢false, Some, Ok, Err, inl, inr, refl, sym, ap, ◌∙◌, subst, append-nil}
use Rattle.std.specs.Prelude.{IfSome, IsSome}
use Rattle.std.specs.declared.option.Option.{Option}
use Rattle.std.specs.declared.result.Result.{Result}
use Rattle.std.proofs.lemmas.List.Elements.{All-nil}
use Rattle.eac_base.specs.Telling.{Told}
use Rattle.eac_base.proofs.Tellings.{told_more}
use Rattle.signature_provider.specs.Provider.{Says as Saying, Holds, Signed}
use Rattle.policy_limits.specs.Setup.{SetupValue}
use Rattle.keeper.specs.declared.rows.Row.{Row}
use Rattle.issue_core.specs.Issuing.Causes.{StaysTrue}
use Rattle.issue_core.specs.Issuing.Signed.{Pair}
use Rattle.holder_core.specs.Faults.{HolderCause}
use Rattle.holder_core.specs.Signing as signing
use Rattle.holder_core.specs.declared.fault.HolderFault.{HolderFault}
use Rattle.holder_core.specs.declared.fault.HolderFault.TheVariants as fault
use Rattle.cvca_desk.specs.Terms as setups
use Rattle.cvca_desk.specs.declared.terms.Terms.{Terms}
use Rattle.eac_net.specs.Acting.{ByTerms, no_packet}
use Rattle.eac_net.specs.Answers.{Tells, Concludes, answer_by}
use Rattle.eac_net.specs.Ending.{Ends, Acts, Signs}
use Rattle.eac_net.specs.Lawful.{AreLawful}
use Rattle.eac_net.specs.Losing.{Losing, Loses, fate_of}
use Rattle.eac_net.specs.Moment.{Meanings, means}
use Rattle.eac_net.specs.Objects.{Outside, moment_at, IsAt}
use Rattle.eac_net.specs.Packets.{IsBetween, AreBetween}
use Rattle.eac_net.specs.State.{State, Standing, standing_of, moved}
use Rattle.eac_net.specs.Steps.{GoesOn, HasStepped}
use Rattle.eac_net.specs.Tracing.{AllTraced}
use Rattle.eac_net.specs.Turn.{Turn}
use Rattle.eac_net.specs.Untold.{AsksNothing, Says}
use Rattle.eac_net.specs.declared.answer.Answer.{Answer}
use Rattle.eac_net.specs.declared.answer.Happened.{Happened}
use Rattle.eac_net.specs.declared.event.Event.{Event}
use Rattle.eac_net.specs.declared.packet.Packet.{Packet}
use Rattle.eac_net.specs.declared.world.World.{World}
use Rattle.eac_net.proofs.Concluded.{concluded, between_after, same_day}
use Rattle.eac_net.proofs.Going.{KeepsRows, answers_to, moved_standing, goes_by, item, none_called, none_acked}
use Rattle.eac_net.proofs.OwnSignings.{all_of}

-- what a party's call says of its provider
pub still_says : (said says : Saying) (held holds : Holds) (was now : Signed) → signing.StaysTrue said says held holds was now → StaysTrue said says held holds was now
still_says said says held holds was now t = record { says_more = t.says_more; holds_more = t.holds_more; honest = t.honest }

-- ---- an answer drops nothing

ended_some : (s s' : Standing) (answer said : Option Answer) (sent : List Packet) → Ends s answer s' said sent → IsSome answer → IsSome said
ended_some s s' answer said sent (inl e) some = subst (λ (x : Option Answer). IsSome x) e.told some
ended_some s s' answer said sent (inr e) some = absurd (true≢false (sym (subst (λ (x : Option Answer). IsSome x) e.told some)))

loses_dropped : {A : Type 0} (answered : A → Answer) (IsDue : Pair → Type 0) (r : Result A HolderFault) (l : Losing) → Loses IsDue (fate_of r) l → IsSome (answer_by answered r) → l.dropped ≡ []
loses_dropped answered IsDue (Ok a) l h some = ap (λ (x : Losing). x.dropped) h
loses_dropped answered IsDue (Err fault.KeeperFault) l (inl h) some = ap (λ (x : Losing). x.dropped) h
loses_dropped answered IsDue (Err fault.KeeperFault) l (inr h) some = ap (λ (x : Losing). x.dropped) h.2
loses_dropped answered IsDue (Err fault.ProviderFault) l h some = ap (λ (x : Losing). x.dropped) h
loses_dropped answered IsDue (Err (fault.NoKey reference)) l h some = ap (λ (x : Losing). x.dropped) h
loses_dropped answered IsDue (Err fault.NoMemory) l h some = absurd (true≢false (sym some))

-- ---- the event

module _ {A : Type 0} (setup : SetupValue) (event : Event) (authority : ℕ) (answered : A → Answer)
    (Does : Meanings → ℕ → Terms → List Row → List Row → Result A HolderFault → Type 0)
    (IsDue : Meanings → ℕ → Terms → List Row → Pair → Type 0)
    (Asked : Meanings → ℕ → Terms → Result A HolderFault → Type 0)
    (Missing : Meanings → ℕ → Terms → List ℕ → Type 0) where
  -- one call over rows: what it did, which pair has no row, and what it leaves
  pub record Called (m : Meanings) (day : ℕ) (t : Terms) (before after : List Row) (result : Result A HolderFault) : Type 0 where
    pub does : Does m day t before after result
    pub losing : Losing
    pub loses : Loses (IsDue m day t before) (fate_of result) losing
    pub keeps : KeepsRows setup m.said m.says m.held m.holds before after
    pub traced : (lost dropped : List Pair) → IfSome m.signed.0 (λ ps. AllTraced before (lost ++ dropped) ps) → IfSome m.signed.1 (λ ps. AllTraced after (all_of lost dropped losing) ps)

  module _ (say : (m : Meanings) (s s' : Standing) (answer : Option Answer) →
      AsksNothing [] (ByTerms setup authority s (λ day t. Acts s answer s' (answer_by answered) no_packet (Asked m day t) (Missing m day t))) → Says setup m s event answer [] s')
      (turn : (m : Meanings) (s s' : State) (answer : Option Answer) →
      Signs s (λ rows now losing. ByTerms setup authority (standing_of s) (λ day t. Acts (standing_of s) answer now (answer_by answered) no_packet
      (λ result. Does m day t s.rows rows result × Loses (IsDue m day t s.rows) (fate_of result) losing) (Missing m day t))) s' → Turn setup m s event answer s')
      (chips : (i : Ran) → OfNone i → ChipSays event i) (w w' : World) (o o' : Outside) (same_disks : o'.disks ≡ o.disks) (day : ℕ) (today : w.day ≡ Some day) (t : Terms) (terms_are : setups.terms setup authority ≡ Some t) (result : Result A HolderFault)
      (cause : HolderCause (Missing (means (moment_at w o) (moment_at w' o')) day t) (o.keeper_faults, o'.keeper_faults) (o.provider_faults, o'.provider_faults) result)
      (provider : StaysTrue o.says o'.says o.holds o'.holds o.signed o'.signed) where
    by_terms : (answer : Option Answer) (D : ℕ → Terms → Result A HolderFault → Type 0) → D day t result → Ends (moment_at w o).parties answer (moment_at w' o').parties (answer_by answered result) [] →
        ByTerms setup authority (moment_at w o).parties (λ d u. Acts (moment_at w o).parties answer (moment_at w' o').parties (answer_by answered) no_packet (D d u) (Missing (means (moment_at w o) (moment_at w' o')) d u))
    by_terms answer D does ends = record { day = day; today = today; terms = t; terms_are = terms_are; event = record { result = result; does = does; cause = cause; ends = ends } }

    goes_signed : (answer : Option Answer) → Ends (moment_at w o).parties answer (moment_at w' o').parties (answer_by answered result) [] → (r r' : List Row) →
        Called (means (moment_at w o) (moment_at w' o')) day t r r' result → (s : State) → IsAt setup w o r s → GoesOn setup (item setup event answer w w' o o') w' o o' r r' s
    goes_signed answer ends r r' c s there =
        let m : Meanings = means (moment_at w o) (moment_at w' o') in
        let now : Standing = (moment_at w' o').parties in
        let later = same_day (moment_at w o).parties now answer (answer_by answered result) [] ends in
        let next : State = record (moved s now r') { lost = s.lost ++ c.losing.lost; dropped = s.dropped ++ c.losing.dropped } in
        let acts : ByTerms setup authority (standing_of s) (λ d u. Acts (standing_of s) answer now (answer_by answered) no_packet
        (λ x. Does m d u s.rows r' x × Loses (IsDue m d u s.rows) (fate_of x) c.losing) (Missing m d u)) =
        subst (λ (x : Standing × List Row). ByTerms setup authority x.0 (λ d u. Acts x.0 answer now (answer_by answered) no_packet
        (λ y. Does m d u x.1 r' y × Loses (IsDue m d u x.1) (fate_of y) c.losing) (Missing m d u))) (λ j. (sym there.standing j, sym there.rows_are j))
        (by_terms answer (λ d u y. Does m d u r r' y × Loses (IsDue m d u r) (fate_of y) c.losing) (c.does, c.loses) ends) in
        goes_by setup event answer w w' o o' s next r r' there
        (turn m s next answer (record { rows = r'; now = now; losing = c.losing; event = acts; next = refl }))
        (moved_standing setup event answer w w' o o' s r r' later there) refl refl c.losing.lost refl
        (λ some. ap (λ (l : List Pair). s.dropped ++ l) (loses_dropped answered (IsDue m day t r) result c.losing c.loses (ended_some (moment_at w o).parties now answer (answer_by answered result) [] ends some)) ∙ append-nil s.dropped)
        c.keeps (λ h. c.traced s.lost s.dropped h)

    pub signed_steps : {E F : Type 0} (happened : Result Happened E) (r : Result (Unit {0}) F) (line line' : List ℕ) → Concludes happened r w w' line line' → Tells happened (answer_by answered result) [] →
        Told o.rows o'.rows (λ before after. AreLawful setup before → Called (means (moment_at w o) (moment_at w' o')) day t before after result) →
        Asked (means (moment_at w o) (moment_at w' o')) day t result → AreBetween setup w.packets → HasStepped setup event r (w, line) (w', line') o o'
    signed_steps happened r line line' c tells told asked was =
        let d = concluded w w' o.keeper_faults o'.keeper_faults o.provider_faults o'.provider_faults (answer_by answered result) [] happened r line line' c tells in (
          item setup event d.answer w w' o o',
          refl,
          record {
            from = refl;
            to = refl;
            answers = answers_to setup event d.answer w w' o o'
                (say (means (moment_at w o) (moment_at w' o')) (moment_at w o).parties (moment_at w' o').parties d.answer (record {
                  none = refl;
                  event = by_terms d.answer (Asked (means (moment_at w o) (moment_at w' o'))) asked d.ends;
                })) (chips _ (none_called event d.answer [] w w' o o' same_disks c.imports)) provider;
            rows = told_more (λ before after. AreLawful setup before → Called (means (moment_at w o) (moment_at w' o')) day t before after result)
                (λ (x x' : List Row). (s : State) → IsAt setup w o x s → GoesOn setup (item setup event d.answer w w' o o') w' o o' x x' s)
                o.rows o'.rows told (λ x x' one s there. goes_signed d.answer d.ends x x' (one there.lawful) s there);
            parties = between_after setup (moment_at w o).parties (moment_at w' o').parties d.answer (answer_by answered result) [] was (All-nil (IsBetween setup)) (All-nil (IsBetween setup)) d.ends;
            acks = none_acked w w' c.acks;
          },
          d.told,
        )

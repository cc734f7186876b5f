-- An event of one chip is an item of a run.
use Rattle.std.proofs.Common.{◌≡◌, ◌≢◌, ◌≤◌, ◌<◌, inl, inr, ⊎_elim, Bool, true, false, eqb, ℕ, List, [], ◌∷◌, ◌++◌, length, Some, refl, sym, ap, ◌∙◌, subst, append-nil, arith}
use Rattle.std.specs.Prelude.{IfSome, map, slice_get, slice_set}
use Rattle.std.specs.declared.option.Option.{Option}
use Rattle.std.specs.declared.result.Result.{Result}
use Rattle.std.proofs.lemmas.Bool.{cases_eq, eq-eqb, ne_eqb}
use Rattle.std.proofs.lemmas.List.Elements.{All-nil, All-cons}
use Rattle.eac_base.specs.Acknowledged.{AcksValue}
use Rattle.eac_base.specs.Telling.{Told}
use Rattle.eac_base.proofs.Tellings.{told_more}
use Rattle.signature_provider.specs.Provider.{Says as Saying, Holds, Signed}
use Rattle.issue_core.specs.Issuing.Causes.{StaysTrue}
use Rattle.policy_limits.specs.Setup.{SetupValue}
use Rattle.keeper.specs.declared.rows.Row.{Row}
use Rattle.chip_slots.specs.declared.disk.ChipDisk.{Ghosts as DiskOf}
use Rattle.chip_events.specs.DiskTurns.{counts_of, disk_of}
use Rattle.chip_events.specs.Held.{IsChipOf}
use Rattle.chip_events.specs.Told.{ChipTold}
use Rattle.chip_events.specs.Verdicts as chips
use Rattle.eac_net.specs.Answers.{Concludes}
use Rattle.eac_net.specs.ChipCalls.{Happens}
use Rattle.eac_net.specs.ChipSays.{heard, IsTurn, IsLeftAlone, OfChip, ChipSays}
use Rattle.eac_net.specs.ChipSteps.{TurnsDisk, StepsDisks, HasRun}
use Rattle.eac_net.specs.ChipTurn.{IsTold}
use Rattle.eac_net.specs.Chips.{known_at, known_of, chip_in, is_this, is_chip_of}
use Rattle.eac_net.specs.Counts.{count_at}
use Rattle.eac_net.specs.Ending.{Ends}
use Rattle.eac_net.specs.Handed.{Handed, Unasked, Certs, NoneFor, KeeperFailed, NoRoom, IsHandedBy, IsHandedFrom}
use Rattle.eac_net.specs.Items.{Ran}
use Rattle.eac_net.specs.Lawful.{AreLawful}
use Rattle.eac_net.specs.Made.{all_made, AreGood}
use Rattle.eac_net.specs.Moment.{Meanings, AllHeld, means}
use Rattle.eac_net.specs.Objects.{Outside, moment_at, IsAt}
use Rattle.eac_net.specs.Packets.{AreBetween}
use Rattle.eac_net.specs.State.{State, Standing, standing_of}
use Rattle.eac_net.specs.Steps.{GoesOn, Steps}
use Rattle.eac_net.specs.Tracing.{Stay, AllTraced}
use Rattle.eac_net.specs.Turn.{ChipRests, Turn}
use Rattle.eac_net.specs.Untold.{Rests, Says}
use Rattle.eac_net.specs.Verdicts.{Verdict, said_of, AreSaid}
use Rattle.eac_net.specs.declared.answer.Answer.{Answer}
use Rattle.eac_net.specs.declared.answer.Happened.{Happened}
use Rattle.eac_net.specs.declared.event.Event.{Event}
use Rattle.eac_net.specs.declared.world.World.{World}
use Rattle.eac_net.proofs.ChipSlices.{get_set_same, get_set_other, some_same}
use Rattle.eac_net.proofs.Concluded.{concluded, with_counts}
use Rattle.eac_net.proofs.Going.{still_true}
use Rattle.eac_net.proofs.Stays.{same_stay}
use Rattle.eac_net.proofs.TrueVerdicts.{said_are_passed}

-- ---- what the chip's part says, as the parties' part has it

heard_said : (says : Saying) (verdicts : List chips.Verdict) → chips.AreSaid says verdicts → AreSaid says (map heard verdicts)
heard_said says [] said = All-nil (λ (v : Verdict). v.yes ≡ said_of says v.question)
heard_said says (v ∷ verdicts) said = All-cons (λ (x : Verdict). x.yes ≡ said_of says x.question) (heard v) (map heard verdicts) said.0 (heard_said says verdicts said.1)

handed_later : (before now : ℕ) (handed : Handed) → IsHandedFrom before now handed → before ≤ now
handed_later before now Unasked h = omega (arith, h)
handed_later before now (Certs request certs) h = let same : now ≡ before = h.0 in omega (arith, same)
handed_later before now (NoneFor request) h = let same : now ≡ before = h.0 in omega (arith, same)
handed_later before now (KeeperFailed request) h = h.0
handed_later before now (NoRoom request) h = omega (arith, h)

told_so : (s s' : Standing) (answer said : Option Answer) → Ends s answer s' said [] → IsTold answer said
told_so s s' answer said (inl e) = inl e.told
told_so s s' answer said (inr e) = inr e.told

none_sent : (s s' : Standing) (answer said : Option Answer) → Ends s answer s' said [] → s'.packets ≡ s.packets
none_sent s s' answer said (inl e) = e.packets ∙ append-nil s.packets
none_sent s s' answer said (inr e) = e.packets ∙ append-nil s.packets

not_both : (b : Bool) → b ≡ true → b ≡ false → ⊥
not_both b e f = absurd (cc)

disk_is : {D : Type 0} (G : DiskOf D) (d : D) (first : ℕ) (c : ChipTold) → IsChipOf G d first c → disk_of c ≡ counts_of G d
disk_is G d first c at = λ j. record { size = at.size_is j; calls = at.calls_are j; faults = at.faults_are j }

-- ---- which chip the event is of

module _ (event : Event) (chip : ℕ) (own : chip_in event ≡ Some chip) where
  own_is : (other : ℕ) → is_chip_of other event ≡ eqb other chip
  own_is other = ap (is_this other) own

  is_own : (other : ℕ) → is_chip_of other event ≡ true → other ≡ chip
  is_own other is = ⊎_elim (λ (e : other ≡ chip). e) (λ (ne : other ≢ chip). absurd (not_both (eqb other chip) (sym (own_is other) ∙ is) (ne_eqb other chip ne))) (cases_eq other chip)

  is_other : (other : ℕ) → is_chip_of other event ≡ false → other ≢ chip
  is_other other is e = not_both (eqb other chip) (eq-eqb other chip e) (sym (own_is other) ∙ is)

-- ---- the event

module _ {D : Type 0} (G : DiskOf D) (setup : SetupValue) (event : Event) (chip : ℕ) (own : chip_in event ≡ Some chip)
    (chips_say : (i : Ran) → OfChip chip i → ChipSays event i)
    (say : (m : Meanings) (s s' : Standing) (answer : Option Answer) (asked : List Verdict) → Rests m s s' → Says setup m s event answer asked s')
    (turns : (m : Meanings) (s s' : State) (answer : Option Answer) → ChipRests s s' → Turn setup m s event answer s')
    (w mid w' : World) (o o' : Outside) (disks : List D) (d d' : D) (room : chip < length disks) (here : slice_get disks chip ≡ Some d)
    (before : (n : ℕ) → o.disks n ≡ known_of G disks n) (after : (n : ℕ) → o'.disks n ≡ known_of G (slice_set disks chip d') n)
    (says_same : o'.says ≡ o.says) (holds_same : o'.holds ≡ o.holds) (signed_same : o'.signed ≡ o.signed)
    (day : ℕ) (today : w.day ≡ Some day) (handed : Handed) (from : IsHandedFrom o.keeper_faults o'.keeper_faults handed) where
  abbrev provider : ℕ × ℕ
  provider = (o.provider_faults, o'.provider_faults)

  module _ {E : Type 0} (happened : Result Happened E) (h : Happens G day chip event d d' o.says provider w mid handed happened)
      (same_imports : w'.imports ≡ mid.imports) (same_day : w'.day ≡ mid.day) (answer : Option Answer) (told : IsTold answer h.said) (packets : w'.packets ≡ mid.packets) where
    abbrev item : Ran
    item = record { event = event; answer = answer; handed = handed; asked = map heard h.calls.asked; acks = h.calls.new; from = moment_at w o; to = moment_at w' o' }

    day_is : w'.day ≡ w.day
    day_is = same_day ∙ h.calls.world.day

    packets_are : w'.packets ≡ w.packets
    packets_are = packets ∙ h.calls.world.packets

    count_is : (n : ℕ) → count_at w'.imports n ≡ count_at mid.imports n
    count_is n = ap (λ (l : List ℕ). count_at l n) same_imports

    disk_before : o.disks chip ≡ counts_of G d
    disk_before = before chip ∙ ap (known_at G) here

    disk_after : o'.disks chip ≡ counts_of G d'
    disk_after = after chip ∙ ap (known_at G) (get_set_same disks chip d' room)

    -- ---- the chip

    known_turn : IsTurn chip h.calls.turn.some item h.calls.turn.then_some
    known_turn = record {
      day = day;
      today = today;
      before = record { disk = h.calls.turn.before.disk ∙ sym disk_before; imports = h.calls.turn.before.imports };
      after = record { disk = h.calls.turn.after.disk ∙ sym disk_after; imports = h.calls.turn.after.imports ∙ sym (count_is chip) };
      verdicts = h.calls.asked;
      asked = refl;
      turn = h.calls.turn.turn answer told;
    }

    left_alone : (other : ℕ) → is_chip_of other event ≡ false → IsLeftAlone other item
    left_alone other is =
        let ne = is_other event chip own other is in
        record {
          disk = after other ∙ ap (known_at G) (get_set_other disks chip other d' ne) ∙ sym (before other);
          imports = count_is other ∙ h.calls.world.others other ne;
        }

    chips_turn : TurnsDisk G chip item d d'
    chips_turn = record {
      tells = h.calls.turn.tells;
      told = λ tells first c at known.
          let m = h.calls.turn.told tells first c at known.imports in (
            m.0,
            record {
              day = day;
              today = today;
              before = known;
              after = record { disk = disk_is G d' first m.0 m.2 ∙ sym disk_after; imports = m.1 ∙ sym (count_is chip) };
              verdicts = h.calls.asked;
              asked = refl;
              turn = m.3 answer told;
            },
            m.2,
          );
    }

    disks_turn : StepsDisks G item disks (slice_set disks chip d')
    disks_turn = record {
      own = λ other x x' is was now.
          let e = is_own event chip own other is in
          let x_is : d ≡ x = some_same d x (sym here ∙ ap (λ (k : ℕ). slice_get disks k) (sym e) ∙ was) in
          let x'_is : d' ≡ x' = some_same d' x' (sym (get_set_same disks chip d' room) ∙ ap (λ (k : ℕ). slice_get (slice_set disks chip d') k) (sym e) ∙ now) in
          subst (λ (y : ℕ × (D × D)). TurnsDisk G y.0 item y.1.0 y.1.1) (λ j. (sym e j, (x_is j, x'_is j))) chips_turn;
      others = λ other is. get_set_other disks chip other d' (is_other event chip own other is);
      there = λ other x' now.
          ⊎_elim (λ (e : other ≡ chip). (d, ap (λ (k : ℕ). slice_get disks k) e ∙ here))
          (λ (ne : other ≢ chip). (x', sym (get_set_other disks chip other d' ne) ∙ now)) (cases_eq other chip);
    }

    -- ---- the parties

    asked_said : AreSaid o.says item.asked
    asked_said = heard_said o.says h.calls.asked h.calls.said

    provider_true : StaysTrue o.says o'.says o.holds o'.holds o.signed o'.signed
    provider_true = subst (λ (x : Saying × (Holds × Signed)). StaysTrue o.says x.0 o.holds x.1.0 o.signed x.1.1) (λ j. (sym says_same j, (sym holds_same j, sym signed_same j))) (still_true o.says o.holds o.signed)

    rests : Rests (means (moment_at w o) (moment_at w' o')) (moment_at w o).parties (moment_at w' o').parties
    rests = record {
      still = record { says = says_same; holds = holds_same; signed = signed_same };
      later = h.calls.later;
      parties = λ j. record { day = day_is j; keeper = o'.keeper_faults; provider = o'.provider_faults; packets = packets_are j };
    }

    goes : (rows rows' : List Row) → (rows' ≡ rows) × IsHandedBy rows handed → (s : State) → IsAt setup w o rows s → GoesOn setup item w' o o' rows rows' s
    goes rows rows' one s there =
        let next : State = record s { keeper = o'.keeper_faults; provider = o'.provider_faults; verdicts = s.verdicts ++ item.asked } in
        let keeper_is : s.keeper ≡ o.keeper_faults = ap (λ (x : Standing). x.keeper) there.standing in
        let standing : standing_of next ≡ (moment_at w' o').parties = λ j. record {
          day = (ap (λ (x : Standing). x.day) there.standing ∙ sym day_is) j;
          keeper = o'.keeper_faults;
          provider = o'.provider_faults;
          packets = (ap (λ (x : Standing). x.packets) there.standing ∙ sym packets_are) j;
        } in
        let good : AreGood o.says (all_made setup s.rows) = subst (λ (l : List Row). AreGood o.says (all_made setup l)) (sym there.rows_are) there.good in
        record {
          next = next;
          step = record {
            from = there.standing;
            to = standing;
            lawful = subst (AreLawful setup) (sym there.rows_are) there.lawful;
            keys = subst (AllHeld o.holds) (sym there.rows_are) there.held;
            turn = turns (means (moment_at w o) (moment_at w' o')) s next answer
                (record { later = subst (λ (n : ℕ). n ≤ o'.keeper_faults) (sym keeper_is) (handed_later o.keeper_faults o'.keeper_faults handed from); next = refl });
            handed = subst (λ (l : List Row). IsHandedBy l handed) (sym there.rows_are) one.1;
            verdicts = refl;
            unrefused = said_are_passed o.says (all_made setup s.rows) item.asked good asked_said;
          };
          there = record {
            standing = standing;
            rows_are = there.rows_are ∙ sym one.0;
            lawful = subst (AreLawful setup) (sym one.0) there.lawful;
            held = subst (λ (x : Holds × List Row). AllHeld x.0 x.1) (λ j. (sym holds_same j, sym one.0 j)) there.held;
            good = subst (λ (x : Saying × List Row). AreGood x.0 (all_made setup x.1)) (λ j. (sym says_same j, sym one.0 j)) there.good;
          };
          stay = subst (Stay rows) (sym one.0) (same_stay rows);
          lost_now = [];
          lost = sym (append-nil s.lost);
          dropped = λ some. refl;
          traced = λ traced. subst (λ (x : Signed × List Row). IfSome x.0 (λ pairs. AllTraced x.1 (s.lost ++ s.dropped) pairs)) (λ j. (sym signed_same j, sym one.0 j)) traced;
        }

    pub chip_steps : AreBetween setup w.packets → Told o.rows o'.rows (λ rows rows'. (rows' ≡ rows) × IsHandedBy rows handed) → w'.acks ≡ mid.acks → Steps setup item w w' o o'
    chip_steps was rows same_acks = record {
      from = refl;
      to = refl;
      answers = record {
        says = say (means (moment_at w o) (moment_at w' o')) (moment_at w o).parties (moment_at w' o').parties answer item.asked rests;
        chips = chips_say item (record { some = h.calls.turn.some; then_some = h.calls.turn.then_some; turn = known_turn; handed = from; others = left_alone });
        asked = asked_said;
        provider = provider_true;
      };
      rows = told_more (λ (rows rows' : List Row). (rows' ≡ rows) × IsHandedBy rows handed) (λ (rows rows' : List Row). (s : State) → IsAt setup w o rows s → GoesOn setup item w' o o' rows rows' s)
          o.rows o'.rows rows (λ rows rows' one s there. goes rows rows' one s there);
      parties = subst (AreBetween setup) (sym packets_are) was;
      acks = ap (λ (a : AcksValue). a.acks) same_acks ∙ h.calls.acks;
    }

  -- As it was concluded.
  pub chip_ran : {E F : Type 0} (happened : Result Happened E) (r : Result (Unit {0}) F) (line line' : List ℕ) → AreBetween setup w.packets →
      Told o.rows o'.rows (λ rows rows'. (rows' ≡ rows) × IsHandedBy rows handed) →
      Happens G day chip event d d' o.says provider w mid handed happened → Concludes happened r mid w' line line' → HasRun G setup event r (w, line) (w', line') o o' disks (slice_set disks chip d')
  chip_ran happened r line line' was rows h c =
      let e = concluded mid w' o.keeper_faults o'.keeper_faults o.provider_faults o'.provider_faults h.said [] happened r line line' c h.tells in
      let told = told_so (with_counts mid o.keeper_faults o.provider_faults) (with_counts w' o'.keeper_faults o'.provider_faults) e.answer h.said e.ends in
      let packets = none_sent (with_counts mid o.keeper_faults o.provider_faults) (with_counts w' o'.keeper_faults o'.provider_faults) e.answer h.said e.ends in
      record {
        item = item happened h c.imports c.day e.answer told packets;
        event_is = refl;
        steps = chip_steps happened h c.imports c.day e.answer told packets was rows c.acks;
        disks_turn = disks_turn happened h c.imports c.day e.answer told packets;
        said = e.told;
      }

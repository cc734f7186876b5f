-- What stands between two events of a run goes on by one event.
use Rattle.std.proofs.Common.{◌≡◌, Bool, true, false, ℕ, List, [], ◌∷◌, ◌++◌, Some, refl, sym, ap, ◌∙◌, subst, append-nil}
use Rattle.std.specs.Prelude.{Contains, IsSome, IfSome, unwrap_or, slice_get}
use Rattle.std.specs.declared.option.Option.{Option}
use Rattle.std.specs.List.{All}
use Rattle.std.proofs.lemmas.List.Elements.{All-nil, All-append, All-weaker, All-contains, All-drop, All-head, Contains-append_left}
use Rattle.eac_base.proofs.Tellings.{told_then, told_same}
use Rattle.eac_base.specs.declared.acks.Ack.{Ack}
use Rattle.chip_slots.specs.declared.disk.ChipDisk.{Ghosts as DiskOf}
use Rattle.chip_events.specs.DiskTurns.{HasCounts, counts_of}
use Rattle.chip_events.specs.Held.{first_of}
use Rattle.chip_events.specs.Told.{ChipTold}
use Rattle.chip_events.proofs.FirstChip.{first_at}
use Rattle.signature_provider.specs.Provider.{Says, Signed, IsHonest, KeepsHonest}
use Rattle.policy_limits.specs.Setup.{SetupValue}
use Rattle.keeper.specs.declared.rows.Row.{Row}
use Rattle.issue_core.specs.Issuing.Signed.{Pair}
use Rattle.eac_net.specs.ChipSays.{IsTurn, IsLeftAlone, ChipSays}
use Rattle.eac_net.specs.ChipSteps.{StepsDisks}
use Rattle.eac_net.specs.Chips.{known_at, known_of, is_chip_of}
use Rattle.eac_net.specs.Counts.{count_at}
use Rattle.eac_net.specs.Goes.{Goes}
use Rattle.eac_net.specs.Items.{Ran, answers_of, asked_of, own_items}
use Rattle.eac_net.specs.Laws.{IsNew, NothingYet, OneItem}
use Rattle.eac_net.specs.Moment.{Moment}
use Rattle.eac_net.specs.Objects.{Outside, moment_at, moment_of, first_moment, IsAt, IsTracedAt}
use Rattle.eac_net.specs.Packets.{IsBetween, AreBetween}
use Rattle.eac_net.specs.SoFar.{IsStart, begin, Reached, IsBlankDisk, Kept, SoFar}
use Rattle.eac_net.specs.State.{State}
use Rattle.eac_net.specs.Steps.{GoesOn, Steps}
use Rattle.eac_net.specs.Tracing.{Traced, AllTraced, IsTracedYes}
use Rattle.eac_net.specs.Turn.{RowsStep}
use Rattle.eac_net.specs.Untold.{RanStep, AreRan}
use Rattle.eac_net.specs.Verdicts.{Verdict, said_of}
use Rattle.eac_net.specs.declared.event.Event.{Event}
use Rattle.eac_net.specs.declared.event.Event.TheVariants as events
use Rattle.eac_net.specs.declared.world.World.{World}
use Rattle.eac_net.proofs.GoesLaws.{goes_more, flat_more, own_more, own_same}
use Rattle.eac_net.proofs.Stays.{yes_stay}

-- ---- before the first event

traced_none : (rows : List Row) (lost : List Pair) (signed : Signed) → signed ≡ Some [] → IfSome signed (λ pairs. AllTraced rows lost pairs)
traced_none rows lost signed is = subst (λ (x : Signed). IfSome x (λ pairs. AllTraced rows lost pairs)) (sym is) (All-nil (Traced rows lost))

no_counts : (chip : ℕ) → count_at [] chip ≡ 0
no_counts chip = refl

-- a disk of which no image reads
first_kept : {D : Type 0} (G : DiskOf D) (chip : ℕ) (k : Moment) (d : D) → k.disks chip ≡ counts_of G d → k.imports chip ≡ 0 → G.tells d → IsBlankDisk G d → Kept G chip k [] d d
first_kept G chip k d disk imports tells blank = record {
  tells = tells;
  state = first_of G d;
  history = refl;
  there = first_at (G.told d) (G.size d) (G.moment d) (G.faults d) blank;
  known = record { disk = sym disk; imports = sym imports };
}

module _ (setup : SetupValue) (o : Outside) (w : World) (new : IsNew w) where
  first_is : moment_at w o ≡ first_moment o
  first_is = λ j. moment_of (new.day j) (new.packets j) (λ chip. (ap (λ (l : List ℕ). count_at l chip) new.imports ∙ no_counts chip) j) o

  first_reached : (before : List Row) → IsStart setup o before → Reached setup o w o [] before before
  first_reached before start = record {
    state = begin o before;
    history = refl;
    there = record {
      standing = ap (λ (k : Moment). k.parties) (sym first_is);
      rows_are = refl;
      lawful = start.lawful;
      held = start.held;
      good = start.good;
    };
    dropped = λ all. refl;
    signed = λ fresh. traced_none before [] o.signed fresh.0;
    traced = λ fresh. All-nil (IsTracedYes before []);
  }

  module _ {D : Type 0} (G : DiskOf D) (disks : List D) (known : (chip : ℕ) → o.disks chip ≡ known_of G disks chip) where
    first_chips : (chip : ℕ) (d d' : D) → slice_get disks chip ≡ Some d → slice_get disks chip ≡ Some d' → G.tells d → IsBlankDisk G d → Kept G chip (moment_at w o) [] d d'
    first_chips chip d d' was now tells blank =
        subst (λ (x : Option D). IfSome x (λ (y : D). Kept G chip (moment_at w o) [] d y)) (sym was ∙ now)
        (first_kept G chip (moment_at w o) d (known chip ∙ ap (known_at G) was) (ap (λ (l : List ℕ). count_at l chip) new.imports ∙ no_counts chip) tells blank)

    pub no_item_yet : SoFar G setup o disks w o disks []
    no_item_yet = record {
      ran = first_is;
      rows = told_same (λ before after. IsStart setup o before → Reached setup o w o [] before after) o.rows (λ before start. first_reached before start);
      chips = first_chips;
      acks = new.acks;
      parties = subst (AreBetween setup) (sym new.packets) (All-nil (IsBetween setup));
    }

pub nothing_yet : {D : Type 0} (G : DiskOf D) → NothingYet G
nothing_yet G setup first disks w new known = no_item_yet setup first w new G disks known

-- ---- a provider stays honest

step_honest : (setup : SetupValue) (k k' : Moment) (i : Ran) → RanStep setup k i k' → KeepsHonest k.says k.signed k'.says k'.signed
step_honest setup k k' i s = subst (λ (x : Moment × Moment). KeepsHonest x.0.says x.0.signed x.1.says x.1.signed) (λ j. (s.from j, s.to j)) s.answers.provider.honest

runs_honest : (setup : SetupValue) (k k' : Moment) (items : List Ran) → AreRan setup k items k' → KeepsHonest k.says k.signed k'.says k'.signed
runs_honest setup k k' [] r h = subst (λ (x : Moment). IsHonest x.says x.signed) (sym r) h
runs_honest setup k k' (i ∷ items) r h = runs_honest setup r.0 k' items r.2 (step_honest setup k r.0 i r.1 h)

-- ---- what the provider said to be signed was signed, and so it is traced

some_is : (a b : List Pair) → Some a ≡ Some b → a ≡ b
some_is a b e = ap (λ (o : Option (List Pair)). unwrap_or o a) e

traced_in : (rows : List Row) (lost pairs : List Pair) (signed : Signed) (pair : Pair) → signed ≡ Some pairs → IfSome signed (λ ps. AllTraced rows lost ps) → Contains pairs pair → Traced rows lost pair
traced_in rows lost pairs signed pair is all there =
    All-contains (Traced rows lost) pairs pair (subst (λ (x : Signed). IfSome x (λ ps. AllTraced rows lost ps)) is all) there

said_traced : (rows : List Row) (lost : List Pair) (says : Says) (signed : Signed) (v : Verdict) → IsHonest says signed → IfSome signed (λ ps. AllTraced rows lost ps) → v.yes ≡ said_of says v.question → IsTracedYes rows lost v
said_traced rows lost says signed v honest all said good =
    traced_in rows lost honest.0 signed (v.question.key, v.question.message) honest.1 all (honest.2 v.question.key v.question.message v.question.signature (sym said ∙ good))

-- ---- one event more

grown : (lost more now : List Pair) → now ≡ lost ++ more → (x : Pair) → Contains lost x → Contains now x
grown lost more now is x there = subst (λ (l : List Pair). Contains l x) (sym is) (Contains-append_left lost more x there)

all_before : (items : List Ran) (i : Ran) → All IsSome (answers_of (items ++ i ∷ [])) → IsSome i.answer
all_before [] i all = All-head IsSome i.answer [] all
all_before (x ∷ items) i all = all_before items i (All-drop IsSome 1 (answers_of (x ∷ items ++ i ∷ [])) all)

-- ---- one chip

-- the counts of a chip that an event is none of stand
known_on : (chip : ℕ) (k k' : Moment) (c : ChipTold) → k'.disks chip ≡ k.disks chip → k'.imports chip ≡ k.imports chip → HasCounts (k.disks chip) (k.imports chip) c → HasCounts (k'.disks chip) (k'.imports chip) c
known_on chip k k' c disk imports h = record { disk = h.disk ∙ sym disk; imports = h.imports ∙ sym imports }

left_alone : (e : Event) (i : Ran) (chip : ℕ) → i.event ≡ e → ChipSays e i → is_chip_of chip i.event ≡ false → IsLeftAlone chip i
left_alone (events.Make number authority) i chip is v other = v.others chip other
left_alone (events.Present number terminal) i chip is v other = v.others chip other
left_alone (events.Import number bytes) i chip is v other = v.others chip other
left_alone (events.Look number) i chip is v other = v.others chip other
left_alone (events.Day day) i chip is v other = v.others chip
left_alone (events.Ask reference bytes) i chip is v other = v.others chip
left_alone (events.Found authority) i chip is v other = v.others chip
left_alone (events.Link authority) i chip is v other = v.others chip
left_alone (events.Trust party authority) i chip is v other = v.others chip
left_alone (events.Apply holder authority root) i chip is v other = v.others chip
left_alone (events.Fetch party desk) i chip is v other = v.others chip
left_alone (events.Send from to bytes) i chip is v other = v.others chip
left_alone (events.Push desk party) i chip is v other = v.others chip
left_alone (events.Deliver packet) i chip is v other = v.others chip

module _ {D : Type 0} (G : DiskOf D) (setup : SetupValue) (w w' : World) (o' o'' : Outside) (now now' : List D) (items : List Ran) (i : Ran) (s : Steps setup i w w' o' o'') (turns : StepsDisks G i now now')
    (chip : ℕ) (d d' d'' : D) (mid : slice_get now chip ≡ Some d') (end : slice_get now' chip ≡ Some d'') (h : Kept G chip (moment_at w o') items d d') where
  -- an item of this chip
  chip_more : is_chip_of chip i.event ≡ true → Kept G chip (moment_at w' o'') (items ++ i ∷ []) d d''
  chip_more is =
      let n = turns.own chip d' d'' is mid end in
      let m = n.told h.tells (G.moment d) h.state h.there (subst (λ (k : Moment). HasCounts (k.disks chip) (k.imports chip) h.state) (sym s.from) h.known) in
      record {
        tells = n.tells h.tells;
        state = m.0;
        history = subst (λ (l : List Ran). Goes (IsTurn chip) (first_of G d) l m.0) (sym (own_more (λ (x : Ran). is_chip_of chip x.event) items i is))
            (goes_more (IsTurn chip) (first_of G d) (own_items chip items) h.state m.0 i h.history m.1);
        there = m.2;
        known = subst (λ (k : Moment). HasCounts (k.disks chip) (k.imports chip) m.0) s.to m.1.after;
      }

  -- an item of another one, or of parties: the disk is the same value
  chip_same : is_chip_of chip i.event ≡ false → Kept G chip (moment_at w' o'') (items ++ i ∷ []) d d''
  chip_same is =
      let left = left_alone i.event i chip refl s.answers.chips is in
      let known : HasCounts ((moment_at w' o'').disks chip) ((moment_at w' o'').imports chip) h.state =
      subst (λ (k : Moment). HasCounts (k.disks chip) (k.imports chip) h.state) s.to
      (known_on chip i.from i.to h.state left.disk left.imports (subst (λ (k : Moment). HasCounts (k.disks chip) (k.imports chip) h.state) (sym s.from) h.known)) in
      let there : Kept G chip (moment_at w' o'') (items ++ i ∷ []) d d' = record {
        tells = h.tells;
        state = h.state;
        history = subst (λ (l : List Ran). Goes (IsTurn chip) (first_of G d) l h.state) (sym (own_same (λ (x : Ran). is_chip_of chip x.event) items i is)) h.history;
        there = h.there;
        known = known;
      } in
      subst (λ (x : Option D). IfSome x (λ (y : D). Kept G chip (moment_at w' o'') (items ++ i ∷ []) d y)) (sym mid ∙ sym (turns.others chip is) ∙ end) there

  pub chip_by : (b : Bool) → is_chip_of chip i.event ≡ b → Kept G chip (moment_at w' o'') (items ++ i ∷ []) d d''
  chip_by true is = chip_more is
  chip_by false is = chip_same is

-- ---- one event more

module _ {D : Type 0} (G : DiskOf D) (setup : SetupValue) (o : Outside) (disks : List D) (w w' : World) (o' o'' : Outside) (now now' : List D) (items : List Ran) (i : Ran)
    (so : SoFar G setup o disks w o' now items) (ended : All IsSome (answers_of items)) (s : Steps setup i w w' o' o'') (turns : StepsDisks G i now now') where
  abbrev Onward : List Row → List Row → Type 0
  Onward mid after = (x : State) → IsAt setup w o' mid x → GoesOn setup i w' o' o'' mid after x

  asked_traced : (mid after : List Row) (x : State) (g : GoesOn setup i w' o' o'' mid after x) → IsHonest o'.says o'.signed → IsTracedAt o' mid x → x.dropped ≡ [] → All (IsTracedYes after g.next.lost) i.asked
  asked_traced mid after x g honest traced none =
      let here : IfSome o'.signed (λ pairs. AllTraced mid x.lost pairs) =
      subst (λ (l : List Pair). IfSome o'.signed (λ pairs. AllTraced mid l pairs)) (ap (λ (l : List Pair). x.lost ++ l) none ∙ append-nil x.lost) traced in
      let said : All (λ (v : Verdict). v.yes ≡ said_of o'.says v.question) i.asked = subst (λ (k : Moment). All (λ (v : Verdict). v.yes ≡ said_of k.says v.question) i.asked) s.from s.answers.asked in
      let was : All (IsTracedYes mid x.lost) i.asked =
      All-weaker (λ (v : Verdict). v.yes ≡ said_of o'.says v.question) (IsTracedYes mid x.lost) (λ v is. said_traced mid x.lost o'.says o'.signed v honest here is) i.asked said in
      yes_stay mid after x.lost g.next.lost i.asked g.stay (grown x.lost g.lost_now g.next.lost g.lost) was

  reached_more : (before mid after : List Row) → (IsStart setup o before → Reached setup o w o' items before mid) → Onward mid after → IsStart setup o before → Reached setup o w' o'' (items ++ i ∷ []) before after
  reached_more before mid after h f start =
      let r = h start in
      let g = f r.state r.there in
      record {
        state = g.next;
        history = goes_more (RowsStep setup) (begin o before) items r.state g.next i r.history g.step;
        there = g.there;
        dropped = λ all. g.dropped (all_before items i all) ∙ r.dropped ended;
        signed = λ fresh. g.traced (r.signed fresh);
        traced = λ fresh.
            let honest : IsHonest o'.says o'.signed = runs_honest setup (first_moment o) (moment_at w o') items so.ran fresh.1 in
            subst (All (IsTracedYes after g.next.lost)) (sym (flat_more (λ (x : Ran). x.asked) items i))
            (All-append (IsTracedYes after g.next.lost) (asked_of items) i.asked
            (yes_stay mid after r.state.lost g.next.lost (asked_of items) g.stay (grown r.state.lost g.lost_now g.next.lost g.lost) (r.traced fresh))
            (asked_traced mid after r.state g honest (r.signed fresh) (r.dropped ended)));
      }

  -- The loop goes on by one event, where all before it were answered.
  pub one_item : SoFar G setup o disks w' o'' now' (items ++ i ∷ [])
  one_item = record {
    ran = goes_more (RanStep setup) (first_moment o) items (moment_at w o') (moment_at w' o'') i so.ran (record { from = s.from; to = s.to; answers = s.answers });
    rows = told_then (λ before mid. IsStart setup o before → Reached setup o w o' items before mid) Onward (λ before after. IsStart setup o before → Reached setup o w' o'' (items ++ i ∷ []) before after)
        o.rows o'.rows o''.rows so.rows s.rows (λ before mid after h f start. reached_more before mid after h f start);
    chips = λ chip d d'' first end tells blank.
        let there = turns.there chip d'' end in
        chip_by G setup w w' o' o'' now now' items i s turns chip d there.0 d'' there.1 end (so.chips chip d there.0 first there.1 tells blank) (is_chip_of chip i.event) refl;
    acks = s.acks ∙ ap (λ (l : List Ack). l ++ i.acks) so.acks ∙ sym (flat_more (λ (x : Ran). x.acks) items i);
    parties = s.parties;
  }

-- The same of a step, as it is told.
pub one_more : {D : Type 0} (G : DiskOf D) → OneItem G
one_more G setup first o o' disks now now' was then items event r so ended run =
    (run.item, run.event_is, run.said, one_item G setup first disks was.0 then.0 o o' now now' items run.item so ended run.steps run.disks_turn)

-- What a history tells: each desk's deliveries are one story, and at its end what ran is a run.
use Rattle.std.proofs.Common.{◌≡◌, inl, inr, ℕ, ◌≤◌, List, [], ◌∷◌, ◌++◌, refl, sym, ap, ◌∙◌, subst, arith, append-nil, append_assoc}
use Rattle.eac_base.specs.Causes.{Rose}
use Rattle.eac_base.proofs.Tellings.{told_more}
use Rattle.signature_provider.specs.Provider.{Says, SaysMore}
use Rattle.policy_limits.specs.Setup.{SetupValue}
use Rattle.chip_slots.specs.declared.disk.ChipDisk.{Ghosts as DiskOf}
use Rattle.keeper.specs.declared.rows.Row.{Row}
use Rattle.issue_core.specs.Registering.Desk.{register, unsigned, entries_of}
use Rattle.issue_core.specs.Issuing.Desk.{issuing, is_signed}
use Rattle.issue_core.specs.Issuing.Rows.{entries_at}
use Rattle.eac_net.specs.Counts.{count_at}
use Rattle.eac_net.specs.Items.{Ran, events_of, asked_of}
use Rattle.eac_net.specs.Laws.{SoFarIsRun}
use Rattle.eac_net.specs.Moment.{Moment, means}
use Rattle.eac_net.specs.Objects.{Outside, moment_at, first_moment}
use Rattle.eac_net.specs.Run.{asks_of, asks, cases, RowsTell}
use Rattle.eac_net.specs.SoFar.{IsStart, begin, Reached, SoFar}
use Rattle.eac_net.specs.State.{State, Standing}
use Rattle.eac_net.specs.Steps.{later_day}
use Rattle.eac_net.specs.Turn.{History}
use Rattle.eac_net.specs.Untold.{AreRan}
use Rattle.eac_net.specs.Verdicts.{Verdict}
use Rattle.eac_net.specs.declared.world.World.{World}
use Rattle.eac_net.proofs.ChipRuns.{ChipsSurvive, chip_tells}
use Rattle.eac_net.proofs.Ledgers.{is_signed_more}
use Rattle.eac_net.proofs.Pieces.{TellsOn, tells_same, tells_then, tells_later, tells_all}
use Rattle.eac_net.proofs.TrueVerdicts.{providers_grow, verdicts_are_true}
use Rattle.eac_net.proofs.Turning.{IsLostBy, TurnTells, turn_tells}

-- ---- a count that rose within a time

rose_within : (first before now last : ℕ) → first ≤ before → now ≤ last → Rose before now → Rose first last
rose_within first before now last early late rose = omega (arith, early, late, rose)

later_then : (a b c : ℕ) → a ≤ b → b ≤ c → a ≤ c
later_then a b c f g = omega (arith, f, g)

lost_then : (s t u : State) → s.keeper ≤ t.keeper → t.keeper ≤ u.keeper → IsLostBy s t → IsLostBy t u → IsLostBy s u
lost_then s t u before after (inl same) (inl still) = inl (still ∙ same)
lost_then s t u before after (inl same) (inr rose) = inr (rose_within s.keeper t.keeper u.keeper u.keeper before (omega arith) rose)
lost_then s t u before after (inr rose) more = inr (rose_within s.keeper s.keeper t.keeper u.keeper (omega arith) after rose)

-- ---- a history

-- from state to state, to a provider that says this at the end
pub record HistoryTells (says : Says) (s : State) (items : List Ran) (t : State) : Type 0 where
  pub asked : cases t.register ≡ cases s.register ++ asks s.day (events_of items)
  pub register : TellsOn register unsigned (entries_of s.rows) (entries_of t.rows) s.register t.register
  pub desks : (desk : ℕ) → TellsOn issuing (is_signed says) (entries_at desk s.rows) (entries_at desk t.rows) (s.desks desk) (t.desks desk)
  pub verdicts : t.verdicts ≡ s.verdicts ++ asked_of items
  pub later : s.keeper ≤ t.keeper
  pub lost : IsLostBy s t

none_tells : (says : Says) (s t : State) → t ≡ s → HistoryTells says s [] t
none_tells says s t is = record {
  asked = ap (λ (x : State). cases x.register) is ∙ sym (append-nil (cases s.register));
  register = tells_same register unsigned (entries_of s.rows) (entries_of t.rows) s.register t.register (ap (λ (x : State). entries_of x.rows) is) (ap (λ (x : State). x.register) is);
  desks = λ desk. tells_same issuing (is_signed says) (entries_at desk s.rows) (entries_at desk t.rows) (s.desks desk) (t.desks desk)
      (ap (λ (x : State). entries_at desk x.rows) is) (ap (λ (x : State). x.desks desk) is);
  verdicts = ap (λ (x : State). x.verdicts) is ∙ sym (append-nil s.verdicts);
  later = let same : t.keeper ≡ s.keeper = ap (λ (x : State). x.keeper) is in omega (arith, same);
  lost = inl (ap (λ (x : State). x.lost) is);
}

-- one event, and others behind it
item_tells : (says : Says) (s next t : State) (i : Ran) (items : List Ran) → SaysMore i.to.says says → TurnTells (means i.from i.to) s i.event next → next.verdicts ≡ s.verdicts ++ i.asked →
    HistoryTells says next items t → HistoryTells says s (i ∷ items) t
item_tells says s next t i items grows one verdicts rest = record {
  asked = rest.asked ∙ (λ j. one.asked j ++ asks (one.day j) (events_of items)) ∙ append_assoc (cases s.register) (asks_of s.day i.event) (asks (later_day s.day i.event) (events_of items));
  register = tells_then register unsigned (entries_of s.rows) (entries_of next.rows) (entries_of t.rows) s.register next.register t.register one.register rest.register;
  desks = λ desk. tells_then issuing (is_signed says) (entries_at desk s.rows) (entries_at desk next.rows) (entries_at desk t.rows) (s.desks desk) (next.desks desk) (t.desks desk)
      (tells_later issuing (is_signed i.to.says) (is_signed says) (λ c p h. is_signed_more i.to.says says grows c p h)
      (entries_at desk s.rows) (entries_at desk next.rows) (s.desks desk) (next.desks desk) (one.desks desk))
      (rest.desks desk);
  verdicts = rest.verdicts ∙ ap (λ (l : List Verdict). l ++ asked_of items) verdicts ∙ append_assoc s.verdicts i.asked (asked_of items);
  later = later_then s.keeper next.keeper t.keeper one.later rest.later;
  lost = lost_then s next t one.later rest.later one.lost rest.lost;
}

pub history_tells : (setup : SetupValue) (first last : Moment) (s t : State) (items : List Ran) → AreRan setup first items last → History setup s items t → HistoryTells last.says s items t
history_tells setup first last s t [] ran h = none_tells last.says s t h
history_tells setup first last s t (i ∷ items) ran h =
    let grows : SaysMore i.to.says last.says = subst (λ (x : Moment). SaysMore x.says last.says) (sym ran.1.to) (providers_grow setup ran.0 last items ran.2).0 in
    item_tells last.says s h.0 t i items grows (turn_tells setup (means i.from i.to) s i.event i.answer h.0 h.1.turn) h.1.verdicts
    (history_tells setup ran.0 last h.0 t items ran.2 h.2)

-- ---- a run

module _ {D : Type 0} (G : DiskOf D) (setup : SetupValue) (first o : Outside) (disks now : List D) (w : World) (items : List Ran) (so : SoFar G setup first disks w o now items) where
  rows_tell : (before after : List Row) → Reached setup first w o items before after → RowsTell setup first o before after items
  rows_tell before after r =
      let h = history_tells setup (first_moment first) (moment_at w o) (begin first before) r.state items so.ran r.history in
      let registered = tells_all register unsigned (entries_of before) (entries_of r.state.rows) r.state.register h.register in
      let issued = λ (desk : ℕ). tells_all issuing (is_signed o.says) (entries_at desk before) (entries_at desk r.state.rows) (r.state.desks desk) (h.desks desk) in
      record {
        end = r.state;
        history = r.history;
        rows = r.there.rows_are;
        keeper = ap (λ (x : Standing). x.keeper) r.there.standing;
        provider = ap (λ (x : Standing). x.provider) r.there.standing;
        verdicts = h.verdicts;
        asked = h.asked;
        register_story = registered.0;
        register_ledger = ap entries_of (sym r.there.rows_are) ∙ registered.1;
        desk_stories = λ desk. (issued desk).0;
        desk_ledgers = λ desk. ap (entries_at desk) (sym r.there.rows_are) ∙ (issued desk).1;
        lawful = r.there.lawful;
        traced = r.traced;
        found_again = λ still. by still h.lost;
      }
    where
      by : ¬ Rose first.keeper_faults o.keeper_faults → IsLostBy (begin first before) r.state → r.state.lost ≡ []
      by still (inl none) = none
      by still (inr rose) = absurd (still (subst (λ (n : ℕ). Rose first.keeper_faults n) (ap (λ (x : Standing). x.keeper) r.there.standing) rose))

pub run_of : {D : Type 0} (G : DiskOf D) → ChipsSurvive → SoFarIsRun G
run_of G survive setup first o disks now w items so = record {
  items = items;
  events_are = refl;
  answers_are = refl;
  acks_are = so.acks;
  day = w.day;
  packets = w.packets;
  imports = count_at w.imports;
  ran = so.ran;
  verdicts = verdicts_are_true setup (first_moment first) (moment_at w o) items so.ran;
  told = told_more (λ before after. IsStart setup first before → Reached setup first w o items before after) (λ before after. IsStart setup first before → RowsTell setup first o before after items)
      first.rows o.rows so.rows (λ before after reach start. rows_tell G setup first o disks now w items so before after (reach start));
  chips = λ chip d d' was is tells blank. chip_tells G survive setup chip (first_moment first) (moment_at w o) items d d' so.ran (so.chips chip d d' was is tells blank);
}

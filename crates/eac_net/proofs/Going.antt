-- An event as a step between objects, by its turn and what is known of it.
use Rattle.std.proofs.Common.{◌≡◌, ℕ, List, [], ◌++◌, Some, None, true, refl, sym, ap, ◌∙◌, subst, append-nil}
use Rattle.std.specs.Prelude.{IsSome, IfSome}
use Rattle.std.specs.declared.option.Option.{Option}
use Rattle.std.proofs.lemmas.List.Elements.{All-nil, All-weaker}
use Rattle.signature_provider.specs.Provider.{Says, Holds, Signed, SaysMore, HoldsMore, public_key}
use Rattle.issue_core.specs.Issuing.Causes.{StaysTrue}
use Rattle.issue_core.specs.Issuing.Signed.{Pair}
use Rattle.policy_limits.specs.Setup.{SetupValue}
use Rattle.keeper.specs.declared.rows.Row.{Row}
use Rattle.keeper.specs.declared.rows.OwnPart.{OwnPart}
use Rattle.holder_core.specs.OwnRows.{own_part}
use Rattle.eac_base.specs.Acknowledged.{AcksValue}
use Rattle.chip_events.specs.DiskTurns.{DiskKnown}
use Rattle.eac_net.specs.ChipSays.{OfNone, ChipSays}
use Rattle.eac_net.specs.Counts.{count_at}
use Rattle.eac_net.specs.Items.{Ran, ran}
use Rattle.eac_net.specs.Lawful.{AreLawful}
use Rattle.eac_net.specs.Made.{Made, all_made, IsGood, AreGood, IfRefused}
use Rattle.eac_net.specs.Moment.{AllHeld, means}
use Rattle.eac_net.specs.Objects.{Outside, moment_at, IsAt, IsTracedAt}
use Rattle.eac_net.specs.State.{State, Standing, standing_of, moved}
use Rattle.eac_net.specs.Steps.{GoesOn}
use Rattle.eac_net.specs.Tracing.{Stay}
use Rattle.eac_net.specs.Turn.{Turn}
use Rattle.eac_net.specs.Untold.{Says as SaysTo, AnswersTo}
use Rattle.eac_net.specs.Verdicts.{Verdict, said_of}
use Rattle.eac_net.specs.declared.answer.Answer.{Answer}
use Rattle.eac_net.specs.declared.event.Event.{Event}
use Rattle.eac_net.specs.declared.world.World.{World}
use Rattle.eac_net.proofs.Stays.{same_stay}

-- ---- what a call owes of the rows, beside its turn

pub record KeepsRows (setup : SetupValue) (said says : Says) (held holds : Holds) (before after : List Row) : Type 0 where
  pub lawful : AreLawful setup before → AreLawful setup after
  pub keys : AreLawful setup before → AllHeld held before → AllHeld holds after
  pub good : AreLawful setup before → AreGood said (all_made setup before) → AreGood says (all_made setup after)
  pub stay : Stay before after

held_one : (held holds : Holds) → HoldsMore held holds → (own : Option OwnPart) → IfSome own (λ p. held (public_key p.key) ≡ true) → IfSome own (λ p. holds (public_key p.key) ≡ true)
held_one held holds more None h = tt
held_one held holds more (Some p) h = more (public_key p.key) h

pub held_more : (held holds : Holds) (rows : List Row) → HoldsMore held holds → AllHeld held rows → AllHeld holds rows
held_more held holds rows more all =
    All-weaker (λ (row : Row). IfSome (own_part row.part) (λ p. held (public_key p.key) ≡ true)) (λ (row : Row). IfSome (own_part row.part) (λ p. holds (public_key p.key) ≡ true))
    (λ (row : Row). held_one held holds more (own_part row.part)) rows all

pub good_more : (said says : Says) (made : List Made) → SaysMore said says → AreGood said made → AreGood says made
good_more said says made more all =
    All-weaker (IsGood said) (IsGood says) (λ m g. record { key = g.key; there = g.there; good = more g.key m.message m.signature g.good }) made all

-- no row changed
pub keeps_same : (setup : SetupValue) (said says : Says) (held holds : Holds) (rows : List Row) → SaysMore said says → HoldsMore held holds → KeepsRows setup said says held holds rows rows
keeps_same setup said says held holds rows says_more holds_more = record {
  lawful = λ l. l;
  keys = λ l h. held_more held holds rows holds_more h;
  good = λ l g. good_more said says (all_made setup rows) says_more g;
  stay = same_stay rows;
}

-- ---- a provider that wasn't called

pub still_true : (says : Says) (holds : Holds) (signed : Signed) → StaysTrue says says holds holds signed signed
still_true says holds signed = record { says_more = λ key message signature h. h; holds_more = λ key h. h; honest = λ h. h }

-- ---- no chip was called

module _ (event : Event) (answer : Option Answer) (asked : List Verdict) (w w' : World) (o o' : Outside) where
  pub none_called : o'.disks ≡ o.disks → w'.imports ≡ w.imports → OfNone (ran event answer asked (moment_at w o) (moment_at w' o'))
  none_called disks imports = record {
    handed = refl;
    acks = refl;
    others = λ other. record { disk = ap (λ (f : ℕ → DiskKnown). f other) disks; imports = ap (λ (l : List ℕ). count_at l other) imports };
  }

-- and no import was acknowledged
pub none_acked : (w w' : World) → w'.acks ≡ w.acks → w'.acks.acks ≡ w.acks.acks ++ []
none_acked w w' same = ap (λ (a : AcksValue). a.acks) same ∙ sym (append-nil w.acks.acks)

-- ---- one event that asked nothing

module _ (setup : SetupValue) (event : Event) (answer : Option Answer) (w w' : World) (o o' : Outside) where
  abbrev pub item : Ran
  item = ran event answer [] (moment_at w o) (moment_at w' o')

  pub answers_to : SaysTo setup (means (moment_at w o) (moment_at w' o')) (moment_at w o).parties event answer [] (moment_at w' o').parties → ChipSays event item →
      StaysTrue o.says o'.says o.holds o'.holds o.signed o'.signed → AnswersTo setup item
  answers_to says chips provider = record { says = says; chips = chips; asked = All-nil (λ (v : Verdict). v.yes ≡ said_of o.says v.question); provider = provider }

  -- the standing of a state that moved
  pub moved_standing : (s : State) (before after : List Row) → w'.day ≡ w.day → IsAt setup w o before s → standing_of (moved s (moment_at w' o').parties after) ≡ (moment_at w' o').parties
  moved_standing s before after day at =
      let same : s.day ≡ w'.day = ap (λ (x : Standing). x.day) at.standing ∙ sym day in
      λ j. record { day = same j; keeper = o'.keeper_faults; provider = o'.provider_faults; packets = w'.packets }

  module _ (s next : State) (before after : List Row) (at : IsAt setup w o before s) where
    pub goes_by : Turn setup (means (moment_at w o) (moment_at w' o')) s event answer next → standing_of next ≡ (moment_at w' o').parties → next.rows ≡ after → next.verdicts ≡ s.verdicts →
        (lost_now : List Pair) → next.lost ≡ s.lost ++ lost_now → (IsSome answer → next.dropped ≡ s.dropped) →
        KeepsRows setup o.says o'.says o.holds o'.holds before after → (IsTracedAt o before s → IsTracedAt o' after next) →
        GoesOn setup item w' o o' before after s
    goes_by turn standing rows verdicts lost_now lost dropped keeps traced = record {
      next = next;
      step = record {
        from = at.standing;
        to = standing;
        lawful = subst (AreLawful setup) (sym at.rows_are) at.lawful;
        keys = subst (AllHeld o.holds) (sym at.rows_are) at.held;
        turn = turn;
        handed = tt;
        verdicts = verdicts ∙ sym (append-nil s.verdicts);
        unrefused = All-nil (λ (v : Verdict). IfRefused (all_made setup s.rows) v.question v.yes);
      };
      there = record {
        standing = standing;
        rows_are = rows;
        lawful = keeps.lawful at.lawful;
        held = keeps.keys at.lawful at.held;
        good = keeps.good at.lawful at.good;
      };
      stay = keeps.stay;
      lost_now = lost_now;
      lost = lost;
      dropped = dropped;
      traced = traced;
    }

-- One event, by what it is.
use Rattle.std.proofs.Common.{◌≡◌, false, true≢false, ℕ, List, None, sym, ap, ◌∙◌, subst}
use Rattle.std.specs.Prelude.{slice_get}
use Rattle.std.specs.declared.option.Option.{Option}
use Rattle.std.specs.declared.result.Result.{Result}
use Rattle.policy_limits.specs.Setup.{SetupValue}
use Rattle.chip_slots.specs.declared.disk.ChipDisk.{Ghosts as DiskOf}
use Rattle.eac_net.specs.ChipSteps.{HasRun}
use Rattle.eac_net.specs.Chips.{chip_in, is_this, is_chip_of}
use Rattle.eac_net.specs.Objects.{Outside}
use Rattle.eac_net.specs.Steps.{MayRun, HasStepped, later_day}
use Rattle.eac_net.specs.declared.event.Event.{Event}
use Rattle.eac_net.specs.declared.world.World.{World}

pub may_run : (setup : SetupValue) (chips : ℕ) (w : World) (event kind : Event) → event ≡ kind → MayRun setup chips w event → MayRun setup chips w kind
may_run setup chips w event kind is may = subst (MayRun setup chips w) is may

pub day_after : (event kind : Event) (before after : Option ℕ) → event ≡ kind → after ≡ later_day before kind → after ≡ later_day before event
day_after event kind before after is day = subst (λ (e : Event). after ≡ later_day before e) (sym is) day

-- ---- an event of parties calls no chip

no_chip_of : (chip : ℕ) (found : Option ℕ) → found ≡ None → is_this chip found ≡ false
no_chip_of chip found is = ap (is_this chip) is

pub party_run : {D E : Type 0} (G : DiskOf D) (setup : SetupValue) (event kind : Event) (r : Result (Unit {0}) E) (before after : World × List ℕ) (o o' : Outside) (disks disks' : List D) → event ≡ kind → chip_in kind ≡ None →
    disks' ≡ disks → HasStepped setup kind r before after o o' → HasRun G setup event r before after o o' disks disks'
party_run {D} G setup event kind r before after o o' disks disks' is none same h = record {
  item = h.0;
  event_is = h.1 ∙ sym is;
  steps = h.2;
  disks_turn =
      let never : (chip : ℕ) → is_chip_of chip h.0.event ≡ false = λ chip. no_chip_of chip (chip_in h.0.event) (ap chip_in h.1 ∙ none) in
      record {
        own = λ chip d d' own. absurd (true≢false (sym own ∙ never chip));
        others = λ chip other. ap (λ (l : List D). slice_get l chip) same;
        there = λ chip d' at. (d', ap (λ (l : List D). slice_get l chip) (sym same) ∙ at);
      };
  said = h.3;
}

-- ---- an event of a chip

pub run_of_kind : {D E : Type 0} (G : DiskOf D) (setup : SetupValue) (event kind : Event) (r : Result (Unit {0}) E) (before after : World × List ℕ) (o o' : Outside) (disks disks' : List D) → event ≡ kind →
    HasRun G setup kind r before after o o' disks disks' → HasRun G setup event r before after o o' disks disks'
run_of_kind G setup event kind r before after o o' disks disks' is run = subst (λ (e : Event). HasRun G setup e r before after o o' disks disks') (sym is) run

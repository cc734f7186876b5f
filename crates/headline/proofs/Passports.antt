-- What is promised of a chip, by what its disk tells at the end of a run.
use Rattle.std.proofs.Common.{◌≡◌, ℕ, List, ◌∷◌, ◌++◌, true, refl, sym, ap, ◌∙◌, subst}
use Rattle.std.proofs.lemmas.Bool.{eq-eqb}
use Rattle.eac_base.specs.declared.acks.Ack.{Ack}
use Rattle.chip_slots.specs.Crash.{Standing}
use Rattle.chip_slots.specs.declared.disk.ChipDisk.{Ghosts as DiskOf}
use Rattle.chip_events.specs.Acts.{ChipAct, IsIn}
use Rattle.chip_events.specs.Crashes.{IsPrefix, SurvivesCrashes}
use Rattle.chip_events.specs.Held.{first_of}
use Rattle.chip_events.specs.Told.{ChipTold}
use Rattle.eac_net.specs.ChipHistory.{ChipHistory, ChipTells}
use Rattle.eac_net.specs.ChipSays.{IsTurn}
use Rattle.eac_net.specs.Chips.{is_chip_of}
use Rattle.eac_net.specs.Goes.{Goes}
use Rattle.eac_net.specs.Items.{Ran, own_items, acks_of}
use Rattle.eac_net.specs.declared.event.Event.{Event}
use Rattle.eac_net.specs.declared.event.Event.TheVariants as events
use Rattle.eac_net.proofs.Grants.{grants_are_of_the_chain}
use Rattle.headline.specs.Headline.{ChipGrantsIntersections, Passport}
use Rattle.headline.specs.OneChip.{AcknowledgedIsNeverLost, DaysNeverFall, ReplacedPointsNeverReturn}
use Rattle.headline.specs.Sentences.{AtTheChip}
use Rattle.headline.proofs.Places.{place_of, between, filter_at}

-- ---- crashes

module _ (chip : ℕ) (told : ℕ → Standing) (first last : ℕ) (acts : List ChipAct) (acks : List Ack) (s : SurvivesCrashes chip told first last acts acks) where
  never_lost : AcknowledgedIsNeverLost chip told first last acts acks
  never_lost a m image among own by left =
      let act = s.acknowledged.of_acts a among own in
      let p : IsPrefix chip acts acks m image = s.crash m image left.since left.until left.crash in (
        act.0,
        act.2,
        record {
          among = act.1;
          taken = p.taken;
          newest = p.newest;
          prefix = p.kept;
          is_taken = p.is_taken;
          split = p.split;
          reads = p.reads;
          holds = p.acknowledged act.0 a act.1 among own act.2 by;
        },
      )

  never_fall : DaysNeverFall chip told first last acts
  never_fall c t m image read by left =
      let u = s.falls c t m image read by left.until left.crash in
      record { trust = u.0; reads = u.1; day = u.2.day; newest = u.2.newest }

  never_return : ReplacedPointsNeverReturn chip told first last acts
  never_return p m image v r left reads among = s.returns r.opening r.another r.trust r.trust_later v p m image r.has_read r.has_read_later r.order r.read_by left.until left.crash reads r.had r.lacks among

-- ---- the chip at one of its events

pub is_of_its_chip : (chip terminal : ℕ) (event : Event) → event ≡ events.Present chip terminal → is_chip_of chip event ≡ true
is_of_its_chip chip terminal event is = ap (is_chip_of chip) is ∙ eq-eqb chip chip refl

pub at_the_chip : {D : Type 0} (G : DiskOf D) (chip : ℕ) (d : D) (items : List Ran) (last : ChipTold) (i : Ran) (P : ChipTold → Type 0) → IsIn i items → is_chip_of chip i.event ≡ true
    → ChipHistory chip (first_of G d) items last → ((c c' : ChipTold) → IsTurn chip c i c' → P c) → AtTheChip G chip d items i P
at_the_chip G chip d items last i P among own history holds =
    let p = place_of i items among in
    let parts : own_items chip items ≡ own_items chip p.before ++ i ∷ own_items chip p.after = ap (own_items chip) p.split ∙ filter_at (λ (x : Ran). is_chip_of chip x.event) p.before p.after i own in
    let b = between (IsTurn chip) (first_of G d) (own_items chip p.before) (i ∷ own_items chip p.after) last (subst (λ (l : List Ran). Goes (IsTurn chip) (first_of G d) l last) parts history) in
    record {
      before = p.before;
      after = p.after;
      split = p.split;
      reached = b.state;
      history = b.until;
      next = b.since.0;
      turn = b.since.1;
      holds = holds b.state b.since.0 b.since.1;
    }

module _ {D : Type 0} (G : DiskOf D) (chip : ℕ) (d d' : D) (items : List Ran) (tell : ChipTells G chip d d' items) where
  chip_grants : ChipGrantsIntersections chip (first_of G d) items
  chip_grants terminal i grant among g =
      let at = at_the_chip G chip d items tell.last i (λ c. (c' : ChipTold) × IsTurn chip c i c') among (is_of_its_chip chip terminal i.event g.event_is) tell.history (λ c c' turn. (c', turn)) in
      record {
        before = at.before;
        after = at.after;
        split = at.split;
        reached = at.reached;
        history = at.history;
        chain = grants_are_of_the_chain chip terminal at.reached at.next i grant at.turn g.event_is g.ends;
      }

  pub passport : (acks : List Ack) → acks ≡ acks_of items → Passport G chip d d' items acks
  passport acks is = record {
    tell = tell;
    grants = chip_grants;
    acknowledged = subst (AcknowledgedIsNeverLost chip (G.told d') (G.moment d) (G.moment d') tell.last.acts) (sym is)
        (never_lost chip (G.told d') (G.moment d) (G.moment d') tell.last.acts (acks_of items) tell.survive);
    days = never_fall chip (G.told d') (G.moment d) (G.moment d') tell.last.acts (acks_of items) tell.survive;
    points = never_return chip (G.told d') (G.moment d) (G.moment d') tell.last.acts (acks_of items) tell.survive;
  }

-- What a told disk tells at the end of a run: its chip's history, and that the chip survives a crash at any moment of it.
use Rattle.std.proofs.Common.{◌≡◌, ◌⊎◌, inl, inr, ⊎_elim, ℕ, List, [], ◌∷◌, ◌++◌, Bool, true, false, cond, Some, refl, sym, ap, subst, append-nil, append_assoc}
use Rattle.eac_base.specs.declared.acks.Ack.{Ack}
use Rattle.policy_limits.specs.Setup.{SetupValue}
use Rattle.chip_slots.specs.Crash.{Standing}
use Rattle.chip_slots.specs.declared.disk.ChipDisk.{Ghosts as DiskOf}
use Rattle.chip_events.specs.Acts.{ChipAct, IsIn}
use Rattle.chip_events.specs.Crashes.{Acknowledged, SurvivesCrashes}
use Rattle.chip_events.specs.Held.{IsChipAt, first_of}
use Rattle.chip_events.specs.Told.{ChipTold}
use Rattle.eac_net.specs.ChipHistory.{ChipHistory, ChipTells}
use Rattle.eac_net.specs.ChipSays.{IsTurn}
use Rattle.eac_net.specs.Chips.{chip_in, is_chip_of}
use Rattle.eac_net.specs.Goes.{Goes}
use Rattle.eac_net.specs.Items.{Ran, acks_of, own_items}
use Rattle.eac_net.specs.Moment.{Moment}
use Rattle.eac_net.specs.SoFar.{Kept}
use Rattle.eac_net.specs.Untold.{AreRan}
use Rattle.eac_net.proofs.ChipActs.{item_keeps}
use Rattle.eac_net.proofs.OwnAcks.{acks_are_own, own_event, none_of_other}

-- ---- membership

in_left : {X : Type 0} (x : X) (xs ys : List X) → IsIn x xs → IsIn x (xs ++ ys)
in_left x [] ys h = absurd h
in_left x (y ∷ xs) ys (inl e) = inl e
in_left x (y ∷ xs) ys (inr h) = inr (in_left x xs ys h)

in_either : {X : Type 0} (x : X) (xs ys : List X) → IsIn x (xs ++ ys) → IsIn x xs ⊎ IsIn x ys
in_either x [] ys h = inr h
in_either x (y ∷ xs) ys (inl e) = inl (inl e)
in_either x (y ∷ xs) ys (inr h) = ⊎_elim (λ (l : IsIn x xs). inl (inr l)) (λ (r : IsIn x ys). inr r) (in_either x xs ys h)

-- ---- acknowledgements over a run

-- those of other chips are passed over
others_keep : (chip : ℕ) (acts : List ChipAct) (acks more : List Ack) → ((a : Ack) → IsIn a more → chip ≡ a.chip → ⊥) → Acknowledged chip acts acks → Acknowledged chip acts (acks ++ more)
others_keep chip acts acks more apart h = record {
  of_acts = λ a among is. ⊎_elim (λ (l : IsIn a acks). h.of_acts a l is) (λ (r : IsIn a more). absurd (apart a r (sym is))) (in_either a acks more among);
  all = λ c number among ok. in_left (record { chip = chip; import = number; calls = c.to }) acks more (h.all c number among ok);
}

abbrev Leads : (chip : ℕ) → List Ran → ChipTold → Type 0
Leads chip items c' = (c : ChipTold) (acks : List Ack) → ChipHistory chip c items c' → Acknowledged chip c.acts acks → Acknowledged chip c'.acts (acks ++ acks_of items)

item_then : (chip : ℕ) (i : Ran) (items : List Ran) (c c' : ChipTold) (acks : List Ack) (b : Bool) → ((a : Ack) → IsIn a i.acks → chip_in i.event ≡ Some a.chip) → Leads chip items c' → is_chip_of chip i.event ≡ b →
    Goes (IsTurn chip) c (cond b (i ∷ own_items chip items) (own_items chip items)) c' → Acknowledged chip c.acts acks → Acknowledged chip c'.acts ((acks ++ i.acks) ++ acks_of items)
item_then chip i items c c' acks true own leads is h a = leads h.0 (acks ++ i.acks) h.2 (item_keeps chip c h.0 i acks (own_event chip i.event is) h.1 a)
item_then chip i items c c' acks false own leads is h a = leads c (acks ++ i.acks) h (others_keep chip c.acts acks i.acks (none_of_other chip i is own) a)

items_keep : (setup : SetupValue) (chip : ℕ) (k k' : Moment) (items : List Ran) (c' : ChipTold) → AreRan setup k items k' → Leads chip items c'
items_keep setup chip k k' [] c' ran = λ c acks h a.
    subst (λ (x : List ChipAct × List Ack). Acknowledged chip x.0 x.1) (λ j. (ap (λ (t : ChipTold). t.acts) (sym h) j, sym (append-nil acks) j)) a
items_keep setup chip k k' (i ∷ items) c' ran = λ c acks h a.
    subst (Acknowledged chip c'.acts) (append_assoc acks i.acks (acks_of items))
    (item_then chip i items c c' acks (is_chip_of chip i.event) (λ x among. acks_are_own setup i x ran.1.answers among) (items_keep setup chip ran.0 k' items c' ran.2) refl h a)

none_acknowledged : (chip : ℕ) → Acknowledged chip [] []
none_acknowledged chip = record {
  of_acts = λ a among is. absurd among;
  all = λ c number among ok. absurd among;
}

-- ---- at the end of a run

-- a chip that is what its disk tells survives every crash by its acts
abbrev pub ChipsSurvive : Type 0
ChipsSurvive = (chip : ℕ) (told : ℕ → Standing) (size calls faults first : ℕ) (c : ChipTold) (acks : List Ack) → IsChipAt told size calls faults first c → Acknowledged chip c.acts acks → SurvivesCrashes chip told first calls c.acts acks

pub chip_tells : {D : Type 0} (G : DiskOf D) → ChipsSurvive → (setup : SetupValue) (chip : ℕ) (k k' : Moment) (items : List Ran) (d d' : D) → AreRan setup k items k' → Kept G chip k' items d d' → ChipTells G chip d d' items
chip_tells G survive setup chip k k' items d d' ran kept = record {
  tells = kept.tells;
  last = kept.state;
  history = kept.history;
  chip_at = kept.there;
  survive = survive chip (G.told d') (G.size d') (G.moment d') (G.faults d') (G.moment d) kept.state (acks_of items) kept.there
      (items_keep setup chip k k' items kept.state ran (first_of G d) [] kept.history (none_acknowledged chip));
}

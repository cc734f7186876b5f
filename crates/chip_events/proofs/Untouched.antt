-- Where nothing that a disk tells is another one, what was true of it is.
use Rattle.std.proofs.Common.{◌≡◌, ℕ, [], Option, Some, None, refl, sym, ◌∙◌, ap, subst}
use Rattle.chip_slots.specs.declared.disk.ChipDisk.{Ghosts as DiskOf}
use Rattle.chip_slots.specs.Crash.{Standing}
use Rattle.chip_events.specs.Told.{ChipTold}
use Rattle.chip_events.specs.Imports.{InHand}
use Rattle.chip_events.specs.Held.{IsChipAt, IsChipOf, IsInHand}
use Rattle.chip_events.specs.DiskTurns.{counts_of, DiskTurn, IsChipFor, IsHandFor, IsUntouched}

same_told : (f g : ℕ → Standing) → ((m : ℕ) → f m ≡ g m) → f ≡ g
same_told f g h = λ i m. h m i

module _ {D : Type 0} (G : DiskOf D) (d d' : D) where
  pub untouched_by : d' ≡ d → IsUntouched G d d'
  untouched_by same = record {
    told = λ m. ap (λ (x : D). G.told x m) same;
    size = ap G.size same;
    moment = ap G.moment same;
    faults = ap G.faults same;
    tells = (subst G.tells (sym same), subst G.tells same);
  }

  module _ (u : IsUntouched G d d') where
    carried : (P : (ℕ → Standing) → ℕ → ℕ → ℕ → Type 0) → P (G.told d) (G.size d) (G.moment d) (G.faults d) → P (G.told d') (G.size d') (G.moment d') (G.faults d')
    carried P p = subst (λ (x : (ℕ → Standing) × (ℕ × (ℕ × ℕ))). P x.0 x.1.0 x.1.1.0 x.1.1.1)
        (λ i. (sym (same_told (G.told d') (G.told d) u.told) i, (sym u.size i, (sym u.moment i, sym u.faults i)))) p

    pub counts_same : counts_of G d' ≡ counts_of G d
    counts_same = λ i. record { size = u.size i; calls = u.moment i; faults = u.faults i }

    pub chip_same : (first : ℕ) (c : ChipTold) → IsChipOf G d first c → IsChipOf G d' first c
    chip_same first c at = carried (λ told size calls faults. IsChipAt told size calls faults first c) at

    pub hand_same : (since : Option ℕ) (w : InHand) → IsHandFor G d since w → IsHandFor G d' since w
    hand_same None w h = (h.0 ∙ sym counts_same, h.1)
    hand_same (Some first) w h = (u.tells.0 h.0, carried (λ told size calls faults. IsInHand told size calls faults first w) h.1)

    pub chip_for_same : (since : Option ℕ) (c : ChipTold) → IsChipFor G d since c → IsChipFor G d' since c
    chip_for_same None c h = h ∙ sym counts_same
    chip_for_same (Some first) c h = (u.tells.0 h.0, chip_same first c h.1)

    -- an event that did nothing
    pub still_turn : (leads : ChipTold → ChipTold → Type 0) → ((c : ChipTold) → c.size ≡ G.size d → leads c c) → (number : ℕ) → DiskTurn G d d' (number, number) leads
    still_turn leads stays number =
        let none : ChipTold = record { size = G.size d; calls = G.moment d; faults = G.faults d; reads = None; imports = number; acts = [] } in
        record {
          some = none;
          then_some = none;
          before = record { disk = refl; imports = refl };
          after = record { disk = sym counts_same; imports = refl };
          turn = stays none refl;
          tells = u.tells.0;
          told = λ told_now first c at number_is. (c, number_is, chip_same first c at, stays c at.size_is);
        }

    -- an event that came after it
    pub turn_after : (d'' : D) (leads : ChipTold → ChipTold → Type 0) (imports : ℕ × ℕ) → DiskTurn G d' d'' imports leads → DiskTurn G d d'' imports leads
    turn_after d'' leads imports t = record {
      some = t.some;
      then_some = t.then_some;
      before = record { disk = t.before.disk ∙ counts_same; imports = t.before.imports };
      after = t.after;
      turn = t.turn;
      tells = λ tells. t.tells (u.tells.0 tells);
      told = λ tells first c at number. t.told (u.tells.0 tells) first c (chip_same first c at) number;
    }

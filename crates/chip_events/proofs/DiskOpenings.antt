-- One opening by a disk, told or not.
use Rattle.std.proofs.Common.{◌≡◌, ◌≢◌, ◌⊎◌, inl, inr, ℕ, ◌<◌, ◌≤◌, [], ◌∷◌, Some, None, Result, Ok, Err, true, refl, sym, ◌∙◌, ap, subst}
use Rattle.std.specs.Prelude.{IfOk, IfErr}
use Rattle.eac_base.specs.Causes.{Rose}
use Rattle.chip_verify.specs.Trust.{Trust}
use Rattle.chip_verify.specs.Session.{SessionValue}
use Rattle.chip_slots.specs.declared.disk.ChipDisk.{Ghosts as DiskOf}
use Rattle.chip_slots.specs.declared.answers.ChipRefusal.{ChipRefusal}
use Rattle.chip_slots.specs.declared.answers.ChipRefusal.TheVariants as refusal
use Rattle.chip_slots.specs.Image.{is_memory, reads}
use Rattle.chip_slots.specs.Found.{IsLookedAt}
use Rattle.chip_slots.specs.Acts.{Answered}
use Rattle.chip_slots.specs.Chips.{ChipValue, IsOpened, Opens as SlotOpens}
use Rattle.chip_events.specs.Acts.{ChipAct, MakeCall, OpenCall}
use Rattle.chip_events.specs.Told.{ChipTold}
use Rattle.chip_events.specs.Held.{IsChipAt, IsChipOf}
use Rattle.chip_events.specs.DiskTurns.{disk_of, counts_of, HasCounts, IsOpenedTo, OpensTo}
use Rattle.chip_events.proofs.OpenedChips.{opened_as, found_empty, left_unread}

-- ---- what the call has said

module _ {D : Type 0} (G : DiskOf D) (d d' : D) where
  pub record Said (o : Result ChipValue ChipRefusal) : Type 0 where
    pub is_chip : IfOk o (λ c. IsOpened c × (is_memory (G.size d) ≡ true))
    pub answer : G.tells d → SlotOpens o (reads (G.told d (G.moment d)).bytes) (G.told d' (G.moment d'))
    pub looked : G.tells d → IsLookedAt (G.told d) (G.told d') (G.moment d) (G.moment d')
    pub begun : o ≢ Err refusal.DiskFault → G.moment d < G.moment d'
    pub refusals : IfErr o (λ e. (e ≡ refusal.NoChip) ⊎ (e ≡ refusal.DiskFault))
    pub cause : o ≡ Err refusal.DiskFault → Rose (G.faults d) (G.faults d')
    pub quiet : o ≢ Err refusal.DiskFault → G.faults d' ≡ G.faults d
    pub tells : G.tells d → G.tells d'
    pub size : G.size d' ≡ G.size d
    pub later : G.moment d ≤ G.moment d'
    pub faults : G.faults d ≤ G.faults d'

  -- ---- told

  module _ (first : ℕ) (c : ChipTold) (at : IsChipOf G d first c) (told_now : G.tells d) where
    sized : (c' : ChipTold) → G.size d' ≡ G.size d → IsChipAt (G.told d') (G.size d) (G.moment d') (G.faults d') first c' → IsChipOf G d' first c'
    sized c' size a = subst (λ (n : ℕ). IsChipAt (G.told d') n (G.moment d') (G.faults d') first c') (sym size) a

    abbrev Told : Result ChipValue ChipRefusal → Type 0
    Told o = (c' : ChipTold) × (c'.imports ≡ c.imports) × IsOpenedTo G d' (Some first) c o c'

    told_to : (o : Result ChipValue ChipRefusal) → Said o → SlotOpens o (reads (G.told d (G.moment d)).bytes) (G.told d' (G.moment d')) → Told o
    told_to (Ok v) s opens =
        let r = opened_as (G.told d) (G.told d') (G.size d) (G.moment d) (G.moment d') (G.faults d) (G.faults d') first c at (s.looked told_now) s.faults
        s.is_chip.1 (s.quiet (λ e. absurd (cc (e)))) v.state v.generation (s.begun (λ e. absurd (cc (e)))) opens.0 opens.1.clean in (
          r.now,
          r.imports,
          record {
            opens = r.opens;
            chip_at = (s.tells told_now, sized r.now s.size r.chip_at);
            in_hand = λ acks verdicts provider. record {
              hand = (
                s.tells told_now,
                record {
                  chip_at = sized r.now s.size r.chip_at;
                  settled = r.known;
                  read = r.reads;
                  clean = opens.1.clean;
                  stands = r.stands ∙ ap (λ (x : SessionValue). Some (v.state, x)) (sym s.is_chip.0.session);
                  ready = s.is_chip.0.ready;
                },
              );
              memory = ap is_memory s.size ∙ s.is_chip.1;
              opened = refl;
              provider_is = refl;
              number_is = refl;
            };
          },
        )
    told_to (Err refusal.NoChip) s opens =
        let r = found_empty (G.told d) (G.told d') (G.size d) (G.moment d) (G.moment d') (G.faults d) (G.faults d') first c at (s.looked told_now) s.faults
        (s.quiet (λ e. absurd (cc (e)))) (s.begun (λ e. absurd (cc (e)))) opens.0 opens.1.clean in
        (r.0, r.3, record { opens = r.1; chip_at = (s.tells told_now, sized r.0 s.size r.2); in_hand = tt })
    told_to (Err refusal.DiskFault) s opens =
        let r = left_unread (G.told d) (G.told d') (G.size d) (G.moment d) (G.moment d') (G.faults d) (G.faults d') first c at (s.looked told_now) s.faults (s.cause refl) in
        (r.0, r.3, record { opens = r.1; chip_at = (s.tells told_now, sized r.0 s.size r.2); in_hand = tt })
    told_to (Err refusal.ProviderFault) s opens = absurd opens
    told_to (Err refusal.NeedsOpen) s opens = absurd opens
    told_to (Err (refusal.Syntax e)) s opens = absurd opens
    told_to (Err (refusal.Refused k)) s opens = absurd opens
    told_to (Err refusal.Worn) s opens = absurd opens

  -- ---- not told: a made act accounts for what was read

  module _ (number : ℕ) where
    abbrev made_with : Trust → ChipAct
    made_with t = record { call = MakeCall t (Ok tt); from = 0; to = 0; settling = Answered }

    abbrev read_before : ChipValue → ChipTold
    read_before v = record {
      size = G.size d;
      calls = G.moment d;
      faults = G.faults d;
      reads = Some (v.state, v.generation);
      imports = number;
      acts = made_with v.state ∷ [];
    }

    abbrev read_after : ChipValue → ChipTold
    read_after v = record (read_before v) {
      calls = G.moment d';
      faults = G.faults d';
      acts = record { call = OpenCall v.state; from = G.moment d; to = G.moment d'; settling = Answered } ∷ made_with v.state ∷ [];
    }

    abbrev none_before : ChipTold
    none_before = record { size = G.size d; calls = G.moment d; faults = G.faults d; reads = None; imports = number; acts = [] }

    abbrev none_after : ChipTold
    none_after = record none_before { calls = G.moment d'; faults = G.faults d' }

    pub record SomeStates (o : Result ChipValue ChipRefusal) : Type 0 where
      pub before : ChipTold
      pub after : ChipTold
      pub is_before : HasCounts (counts_of G d) number before
      pub is_after : HasCounts (counts_of G d') number after
      pub turn : IsOpenedTo G d' None before o after

    sized_after : (c : ChipTold) → c.size ≡ G.size d → c.calls ≡ G.moment d' → c.faults ≡ G.faults d' → G.size d' ≡ G.size d →
        disk_of c ≡ counts_of G d'
    sized_after c size calls faults same = λ i. record { size = (size ∙ sym same) i; calls = calls i; faults = faults i }

    some_to : (o : Result ChipValue ChipRefusal) → Said o → SomeStates o
    some_to (Ok v) s = record {
      before = read_before v;
      after = read_after v;
      is_before = record { disk = refl; imports = refl };
      is_after = record { disk = sized_after (read_after v) refl refl refl s.size; imports = refl };
      turn = record {
        opens = record {
          memory = s.is_chip.1;
          quiet = record { calls = s.later; faults = s.quiet (λ e. absurd (cc (e))) };
          begun = s.begun (λ e. absurd (cc (e)));
          read = refl;
          settled = made_with v.state ∷ [];
          settles = record { each = (Answered, [], refl, refl, refl); agrees = refl };
          next = refl;
        };
        chip_at = sized_after (read_after v) refl refl refl s.size;
        in_hand = λ acks verdicts provider. record {
          hand = (sized_after (read_after v) refl refl refl s.size, s.is_chip.0.ready);
          memory = ap is_memory s.size ∙ s.is_chip.1;
          opened = refl;
          provider_is = refl;
          number_is = refl;
        };
      };
    }
    some_to (Err e) s = go e s s.refusals
      where
        empty : Said (Err refusal.NoChip) → SomeStates (Err refusal.NoChip)
        empty s = record {
          before = none_before;
          after = none_after;
          is_before = record { disk = refl; imports = refl };
          is_after = record { disk = sized_after none_after refl refl refl s.size; imports = refl };
          turn = record {
            opens = record {
              quiet = record { calls = s.later; faults = s.quiet (λ x. absurd (cc (x))) };
              begun = s.begun (λ x. absurd (cc (x)));
              read = refl;
              settles = record { each = refl; agrees = refl };
              next = refl;
            };
            chip_at = sized_after none_after refl refl refl s.size;
            in_hand = tt;
          };
        }

        broken : Said (Err refusal.DiskFault) → SomeStates (Err refusal.DiskFault)
        broken s = record {
          before = none_before;
          after = none_after;
          is_before = record { disk = refl; imports = refl };
          is_after = record { disk = sized_after none_after refl refl refl s.size; imports = refl };
          turn = record {
            opens = record { failed = record { calls = s.later; faults = s.faults; cause = s.cause refl }; next = refl };
            chip_at = sized_after none_after refl refl refl s.size;
            in_hand = tt;
          };
        }

        go : (e : ChipRefusal) → Said (Err e) → (e ≡ refusal.NoChip) ⊎ (e ≡ refusal.DiskFault) → SomeStates (Err e)
        go e s (inl is) = subst (λ (x : ChipRefusal). SomeStates (Err x)) (sym is) (empty (subst (λ (x : ChipRefusal). Said (Err x)) is s))
        go e s (inr is) = subst (λ (x : ChipRefusal). SomeStates (Err x)) (sym is) (broken (subst (λ (x : ChipRefusal). Said (Err x)) is s))

  is_opened : (o : Result ChipValue ChipRefusal) → IfOk o (λ c. IsOpened c × (is_memory (G.size d) ≡ true)) → IfOk o IsOpened
  is_opened (Ok v) is = is.0
  is_opened (Err e) is = tt

  pub opens_to : (o : Result ChipValue ChipRefusal) → Said o → (number : ℕ) → OpensTo G d d' number o
  opens_to o s number =
      let k = some_to number o s in
      record {
        is_chip = is_opened o s.is_chip;
        some = k.before;
        then_some = k.after;
        before = k.is_before;
        after = k.is_after;
        turn = k.turn;
        tells = s.tells;
        told = λ told_now first c at. told_to first c at told_now o s (s.answer told_now);
      }

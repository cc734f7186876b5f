-- A memory is read: the disk stands as it stood.
use Rattle.std.proofs.Common.{◌≡◌, ◌⊎◌, inl, inr, ℕ, suc, ◌+◌, ◌-◌, ◌^◌, ◌<◌, ◌≤◌, Bool, true, false, refl, ◌∙◌, ap, subst, arith, ⊎_elim}
use Rattle.chip_slots.specs.Crash.{Standing, Crash, Reads, Syncs, DeviceCall}
use Rattle.std.proofs.lemmas.Bool.{cases_lt}
use Rattle.chip_slots.specs.Image.{Reading, newer, greatest, slot_says}
use Rattle.chip_slots.specs.Found.{Stays, IsLookedAt, IsFoundIn}
use Rattle.chip_slots.proofs.DeviceWork.{no_work, then_sync, works_then, works_map}

-- whatever a reading answers, the same stands after it
pub read_same : (past told : ℕ → Standing) (before now : ℕ) (ok : Bool) → DeviceCall ok Reads before now past told → told now ≡ past before
read_same past told before now ok call = go call.steps
  where
    go : ((now ≡ before + 1) × Reads (past before) (told now)) ⊎ ((now ≡ before) × (before ≡ 2 ^ 64 - 1) × (ok ≡ false)) → told now ≡ past before
    go (inl moved) = moved.1
    go (inr stop) = ap told stop.0 ∙ call.keeps before (omega arith)

synced_same : (past told : ℕ → Standing) (before now : ℕ) (ok : Bool) → DeviceCall ok (Syncs ok) before now past told → (told now).bytes ≡ (past before).bytes
synced_same past told before now ok call = go call.steps
  where
    both : (t : Bool) → Syncs t (past before) (told now) → (told now).bytes ≡ (past before).bytes
    both true synced = ap (λ (s : Standing). s.bytes) synced
    both false synced = ap (λ (s : Standing). s.bytes) synced

    go : ((now ≡ before + 1) × Syncs ok (past before) (told now)) ⊎ ((now ≡ before) × (before ≡ 2 ^ 64 - 1) × (ok ≡ false)) → (told now).bytes ≡ (past before).bytes
    go (inl moved) = both ok moved.1
    go (inr stop) = ap (λ (m : ℕ). (told m).bytes) stop.0 ∙ ap (λ (s : Standing). s.bytes) (call.keeps before (omega arith))

pub stays_none : (told : ℕ → Standing) (n : ℕ) → Stays told told n n
stays_none told n = record {
  later = omega arith;
  keeps = λ m le. refl;
  each = λ m from to. let at : m ≡ n = omega (arith, from, to) in ap told at;
}

call_later : (ok : Bool) (step : Standing → Standing → Type 0) (past told : ℕ → Standing) (before now : ℕ) → DeviceCall ok step before now past told → (before ≤ now) × (now ≤ before + 1)
call_later ok step past told before now call = go call.steps
  where
    go : ((now ≡ before + 1) × step (past before) (told now)) ⊎ ((now ≡ before) × (before ≡ 2 ^ 64 - 1) × (ok ≡ false)) → (before ≤ now) × (now ≤ before + 1)
    go (inl moved) = (omega (arith, moved.0), omega (arith, moved.0))
    go (inr stop) = (omega (arith, stop.0), omega (arith, stop.0))

pub stays_read : (past mid told : ℕ → Standing) (a b c : ℕ) (ok : Bool) → Stays past mid a b → DeviceCall ok Reads b c mid told → Stays past told a c
stays_read past mid told a b c ok stays call =
    let time = call_later ok Reads mid told b c call in
    record {
      later = omega (arith, stays.later, time.0);
      keeps = λ m le. call.keeps m (omega (arith, le, stays.later)) ∙ stays.keeps m le;
      each = λ m from to. ⊎_elim
          (λ (more : b < m).
          let at : m ≡ c = omega (arith, more, to, time.1) in
          ap told at ∙ read_same mid told b c ok call ∙ stays.each b stays.later (omega arith))
          (λ (le : m ≤ b). call.keeps m le ∙ stays.each m from le)
          (cases_lt b m);
    }

pub stays_now : (past told : ℕ → Standing) (a b : ℕ) → Stays past told a b → told b ≡ past a
stays_now past told a b stays = stays.each b stays.later (omega arith)

pub looked_stays : (past told : ℕ → Standing) (a b : ℕ) → Stays past told a b → IsLookedAt past told a b
looked_stays past told a b stays = record {
  works = record { later = stays.later; keeps = stays.keeps; images = λ m c from to crash. subst (λ (s : Standing). Crash s c) (stays.each m from to) crash };
  same = ap (λ (s : Standing). s.bytes) (stays.each b stays.later (omega arith));
}

pub looked_sync : (past told : ℕ → Standing) (a b : ℕ) (ok : Bool) → DeviceCall ok (Syncs ok) a b past told → IsLookedAt past told a b
looked_sync past told a b ok call = record {
  works = then_sync (Crash (past a)) past past told a a b ok (no_work (Crash (past a)) past a (λ c crash. crash)) call;
  same = synced_same past told a b ok call;
}

pub looked_then : (past mid told : ℕ → Standing) (a b c : ℕ) → IsLookedAt past mid a b → IsLookedAt mid told b c → IsLookedAt past told a c
looked_then past mid told a b c first next = record {
  works = works_then (Crash (past a)) past mid told a b c first.works (works_map (Crash (mid b)) (Crash (past a)) (λ i crash. first.works.images b i first.works.later (omega arith) crash) mid told b c next.works);
  same = next.same ∙ first.same;
}

-- after a sync that succeeds, the same stands while all is read
pub found_in : (past mid told : ℕ → Standing) (a b c : ℕ) → DeviceCall true (Syncs true) a b past mid → Stays mid told b c → IsFoundIn past told a c
found_in past mid told a b c call stays = go call.steps
  where
    go : ((b ≡ a + 1) × Syncs true (past a) (mid b)) ⊎ ((b ≡ a) × (a ≡ 2 ^ 64 - 1) × (true ≡ false)) → IsFoundIn past told a c
    go (inl moved) = record {
      begun = omega (arith, moved.0, stays.later);
      stable = λ m more to. stays.each m (omega (arith, more, moved.0)) to ∙ moved.1;
    }
    go (inr stop) = absurd (cc (stop.2))

-- one more slot is read
pub best_next : (slots slot : ℕ) (old mid : Standing) (r found best : Reading) → mid ≡ old → r ≡ newer found best → found ≡ slot_says slots mid.bytes slot → best ≡ greatest (slot_says slots old.bytes) slot → r ≡ greatest (slot_says slots old.bytes) (slot + 1)
best_next slots slot old mid r found best same is said was =
    let next : suc slot ≡ slot + 1 = omega arith in
    is ∙ ap (λ (f : Reading). newer f best) (said ∙ ap (λ (s : Standing). slot_says slots s.bytes slot) same)
    ∙ ap (newer (slot_says slots old.bytes slot)) was ∙ ap (greatest (slot_says slots old.bytes)) next

-- What device calls leave of what holds for each image.
use Rattle.std.proofs.Common.{◌≡◌, ◌⊎◌, inl, inr, ℕ, ◌+◌, ◌-◌, ◌^◌, ◌<◌, ◌≤◌, List, [], Bool, true, false, refl, sym, ◌∙◌, ap, subst, arith, ⊎_elim}
use Rattle.std.proofs.lemmas.Bool.{cases_lt}
use Rattle.std.proofs.lemmas.List.{ext_get_or}
use Rattle.chip_slots.specs.Crash.{Standing, Crash, is_among, Reads, Syncs, DeviceCall}
use Rattle.chip_slots.specs.Ready.{EachImage}

-- where nothing is pending, a crash leaves what a read gives
pub clean_image : (s : Standing) (c : List ℕ) → s.pending ≡ [] → Crash s c → c ≡ s.bytes
clean_image s c clean crash = ext_get_or 0 c s.bytes crash.size (λ i lt. crash.same i (ap (is_among i) clean))

-- and what a read gives is always one of the images
pub own_image : (s : Standing) → Crash s s.bytes
own_image s = record { size = refl; same = λ i out. refl }

pub at_moment : (told : ℕ → Standing) (n m : ℕ) (c : List ℕ) → m ≡ n → Crash (told m) c → Crash (told n) c
at_moment told n m c is crash = subst (λ (k : ℕ). Crash (told k) c) is crash

module _ (P : List ℕ → Type 0) where
  -- nothing is done yet
  pub no_work : (told : ℕ → Standing) (n : ℕ) → ((c : List ℕ) → Crash (told n) c → P c) → EachImage P told told n n
  no_work told n each = record {
    later = omega arith;
    keeps = λ m le. refl;
    images = λ m c from to crash. each c (at_moment told n m c (omega (arith, from, to)) crash);
  }

  -- one piece of work after another
  pub works_then : (past mid told : ℕ → Standing) (a b c : ℕ) → EachImage P past mid a b → EachImage P mid told b c → EachImage P past told a c
  works_then past mid told a b c first next = record {
    later = omega (arith, first.later, next.later);
    keeps = λ m le. next.keeps m (omega (arith, le, first.later)) ∙ first.keeps m le;
    images = λ m i from to crash. ⊎_elim
        (λ (more : b < m). next.images m i (omega (arith, more)) to crash)
        (λ (le : m ≤ b). first.images m i from le (subst (λ (s : Standing). Crash s i) (next.keeps m le) crash))
        (cases_lt b m);
  }

  -- one more device call: its images are so at the moment after it
  pub one_more : (past mid told : ℕ → Standing) (a b c : ℕ) (ok : Bool) (step : Standing → Standing → Type 0) → EachImage P past mid a b → DeviceCall ok step b c mid told → ((s : Standing) (i : List ℕ) → step (mid b) s → Crash s i → P i) → EachImage P past told a c
  one_more past mid told a b c ok step work call after = record {
    later = go (cases_of call.steps);
    keeps = λ m le. call.keeps m (omega (arith, le, work.later)) ∙ work.keeps m le;
    images = λ m i from to crash. ⊎_elim
        (λ (more : b < m). ⊎_elim
        (λ (moved : (c ≡ b + 1) × step (mid b) (told c)). after (told c) i moved.1 (at_moment told c m i (omega (arith, more, to, moved.0)) crash))
        (λ (stop : (c ≡ b) × (b ≡ 2 ^ 64 - 1) × (ok ≡ false)). absurd (omega (arith, more, to, stop.0)))
        call.steps)
        (λ (le : m ≤ b). work.images m i from le (subst (λ (s : Standing). Crash s i) (call.keeps m le) crash))
        (cases_lt b m);
  }
    where
      cases_of : ((c ≡ b + 1) × step (mid b) (told c)) ⊎ ((c ≡ b) × (b ≡ 2 ^ 64 - 1) × (ok ≡ false)) → b ≤ c
      cases_of (inl moved) = omega (arith, moved.0)
      cases_of (inr stop) = omega (arith, stop.0)

      go : b ≤ c → a ≤ c
      go le = omega (arith, le, work.later)

  pub then_read : (past mid told : ℕ → Standing) (a b c : ℕ) (ok : Bool) → EachImage P past mid a b → DeviceCall ok Reads b c mid told → EachImage P past told a c
  then_read past mid told a b c ok work call = one_more past mid told a b c ok Reads work call (λ s i step crash.
      work.images b i work.later (omega arith) (subst (λ (z : Standing). Crash z i) step crash))

  -- a sync adds no image
  pub then_sync : (past mid told : ℕ → Standing) (a b c : ℕ) (ok : Bool) → EachImage P past mid a b → DeviceCall ok (Syncs ok) b c mid told → EachImage P past told a c
  then_sync past mid told a b c ok work call = one_more past mid told a b c ok (Syncs ok) work call (λ s i step crash. go ok s i step crash)
    where
      go : (t : Bool) (s : Standing) (i : List ℕ) → Syncs t (mid b) s → Crash s i → P i
      go true s i synced crash =
          let whole : i ≡ s.bytes = clean_image s i (ap (λ (z : Standing). z.pending) synced) crash in
          subst P (sym (whole ∙ ap (λ (z : Standing). z.bytes) synced)) (work.images b (mid b).bytes work.later (omega arith) (own_image (mid b)))
      go false s i synced crash = work.images b i work.later (omega arith) (subst (λ (z : Standing). Crash z i) synced crash)

-- what stands after a call that succeeded
pub done_call : (step : Standing → Standing → Type 0) (past told : ℕ → Standing) (before now : ℕ) → DeviceCall true step before now past told → step (past before) (told now)
done_call step past told before now call = go call.steps
  where
    go : ((now ≡ before + 1) × step (past before) (told now)) ⊎ ((now ≡ before) × (before ≡ 2 ^ 64 - 1) × (true ≡ false)) → step (past before) (told now)
    go (inl moved) = moved.1
    go (inr stop) = absurd (cc (stop.2))

-- what holds of each image may be weakened
pub works_map : (P Q : List ℕ → Type 0) → ((c : List ℕ) → P c → Q c) → (past told : ℕ → Standing) (a b : ℕ) → EachImage P past told a b → EachImage Q past told a b
works_map P Q f past told a b work = record { later = work.later; keeps = work.keeps; images = λ m c from to crash. f c (work.images m c from to crash) }

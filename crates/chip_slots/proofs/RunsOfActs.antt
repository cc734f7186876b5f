-- A run of acts on a chip: what each image at each moment reads as, carried from act to act.
use Rattle.std.proofs.Common.{◌≡◌, ◌⊎◌, inl, inr, ℕ, ◌<◌, ◌≤◌, List, [], ◌∷◌, Option, Some, None, refl, sym, ◌∙◌, ap, subst, arith, ⊎_elim}
use Rattle.std.proofs.lemmas.Bool.{cases_lt}
use Rattle.chip_verify.specs.Trust.{Trust}
use Rattle.std.specs.Prelude.{option_map}
use Rattle.chip_slots.specs.Image.{Reading, reads, trust_read}
use Rattle.chip_slots.specs.Ready.{EachImage, ReadsEither, IsStable}
use Rattle.chip_slots.specs.Found.{IsLookedAt}
use Rattle.chip_slots.proofs.DeviceWork.{clean_image, own_image}
use Rattle.chip_slots.specs.Crash.{Standing, Crash}
use Rattle.chip_slots.specs.Acts.{Deed, Opened, ChipAfter, Settling, Answered, Unsettled, Found, Lost, Act, does, after, trust_of, MayStand, MayMiss, IsTaken, IsSure, IsKnown, Fits}
use Rattle.chip_slots.specs.Moments.{MayRead, act, Kept, Open}

-- so it fits: it is read after some of the acts that were taken by then
pub fits_of : (acts : List Act) (m : ℕ) (image : List ℕ) → MayRead acts m (trust_read image) → Fits acts m image
fits_of [] m image r = record { taken = []; is_taken = refl; newest = []; kept = []; split = refl; unsure = tt; reads = r }
fits_of (a ∷ acts) m image (inl r) = record {
  taken = a ∷ r.0;
  is_taken = inl (r.0, r.1, r.2, refl, r.3);
  newest = [];
  kept = a ∷ r.0;
  split = refl;
  unsure = tt;
  reads = r.4;
}
fits_of (a ∷ acts) m image (inr r) = go a.settling refl (cases_lt m a.from) (fits_of acts m image r.1)
  where
    missing : ((m < a.from) ⊎ MayMiss a.settling m) → Fits acts m image → Fits (a ∷ acts) m image
    missing why f = record { taken = f.taken; is_taken = inr (why, f.is_taken); newest = f.newest; kept = f.kept; split = f.split; unsure = f.unsure; reads = f.reads }

    there : a.from ≤ m → MayStand a.settling m → Fits acts m image → Fits (a ∷ acts) m image
    there begun stands f = record {
      taken = a ∷ f.taken;
      is_taken = inl (f.taken, begun, stands, refl, f.is_taken);
      newest = a ∷ f.newest;
      kept = f.kept;
      split = ap (λ (l : List Act). a ∷ l) f.split;
      unsure = (r.0, f.unsure);
      reads = f.reads;
    }

    go : (s : Settling) → a.settling ≡ s → ((m < a.from) ⊎ (a.from ≤ m)) → Fits acts m image → Fits (a ∷ acts) m image
    go s is (inl early) f = missing (inl early) f
    go Answered is (inr begun) f = there begun (subst (λ (s : Settling). MayStand s m) (sym is) tt) f
    go Unsettled is (inr begun) f = there begun (subst (λ (s : Settling). MayStand s m) (sym is) tt) f
    go (Found at) is (inr begun) f = there begun (subst (λ (s : Settling). MayStand s m) (sym is) tt) f
    go (Lost at) is (inr begun) f = missing (inr (subst (λ (s : Settling). MayMiss s m) (sym is) tt)) f

pub not_sure : (a : Act) (m : ℕ) → ((m < a.from) ⊎ MayMiss a.settling m) → IsSure a m → ⊥
not_sure a m (inl early) sure = omega (arith, early, sure.0)
not_sure a m (inr missing) sure = go a.settling missing sure.1
  where
    go : (s : Settling) → MayMiss s m → IsKnown s a.to m → ⊥
    go Answered may known = may
    go Unsettled may known = known
    go (Found at) may known = omega (arith, may, known)
    go (Lost at) may known = known

-- an image may be read as after all the acts that are taken
pub read_taken : (acts : List Act) (m : ℕ) (taken : List Act) → IsTaken acts m taken → (o : Option Trust) → o ≡ trust_of (after taken) → MayRead acts m o
read_taken [] m taken t o e = e ∙ ap (λ (l : List Act). trust_of (after l)) t
read_taken (a ∷ acts) m taken (inl t) o e = inl (t.0, t.1, t.2, t.4, e ∙ ap (λ (l : List Act). trust_of (after l)) t.3)
read_taken (a ∷ acts) m taken (inr t) o e = inr (not_sure a m t.0, read_taken acts m taken t.1 o e)

-- an image of an earlier moment, as it was told then
pub earlier : (told told' : ℕ → Standing) (n m : ℕ) (c : List ℕ) → ((k : ℕ) → k ≤ n → told' k ≡ told k) → m ≤ n → Crash (told' m) c → Crash (told m) c
earlier told told' n m c keeps le crash = subst (λ (s : Standing). Crash s c) (keeps m le) crash

-- A reading of all slots settles the act that was left open. Until then each image is read as before, from then on as
-- the reading found.
module _ (told told' : ℕ → Standing) (first n1 n2 : ℕ) (acts taken : List Act) (deed : Deed) (n0 to : ℕ) (k : Open told first n1 acts taken deed n0 to) (later : n1 ≤ n2) (some : n1 < n2) (keeps : (m : ℕ) → m ≤ n1 → told' m ≡ told m) (during : (m : ℕ) (c : List ℕ) → n1 < m → m < n2 → Crash (told' m) c → (trust_read c ≡ trust_of (after taken)) ⊎ (trust_read c ≡ trust_of (does deed (after taken)))) where
  -- its change is there
  pub found : ((c : List ℕ) → Crash (told' n2) c → trust_read c ≡ trust_of (does deed (after taken))) → Kept told' first n2 (act deed n0 to (Found n2) ∷ acts) (act deed n0 to (Found n2) ∷ taken)
  found there = record {
    standing = λ m le. inl (taken, omega (arith, k.begun, later, le), tt, refl, k.standing m (omega (arith, later, le)));
    each = λ m c from til crash. ⊎_elim
        (λ (early : m < n2). settled m early (trust_read c) (before m c from til early crash))
        (λ (last : n2 ≤ m). inl (taken, omega (arith, k.begun, later, last), tt, k.standing m (omega (arith, later, last)), there c (subst (λ (j : ℕ). Crash (told' j) c) (at_end m til last) crash)))
        (cases_lt m n2);
    now = there;
  }
    where
      at_end : (m : ℕ) → m ≤ n2 → n2 ≤ m → m ≡ n2
      at_end m til last = omega (arith, til, last)

      before : (m : ℕ) (c : List ℕ) → first ≤ m → m ≤ n2 → m < n2 → Crash (told' m) c → MayRead (act deed n0 to Unsettled ∷ acts) m (trust_read c)
      before m c from til early crash = ⊎_elim
          (λ (lt : n1 < m). ⊎_elim
          (λ (old : trust_read c ≡ trust_of (after taken)). inr ((λ sure. sure.1), read_taken acts m taken (k.standing m (omega (arith, lt))) (trust_read c) old))
          (λ (new : trust_read c ≡ trust_of (does deed (after taken))). inl (taken, omega (arith, k.begun, lt), tt, k.standing m (omega (arith, lt)), new))
          (during m c lt early crash))
          (λ (le : m ≤ n1). k.each m c from le (earlier told told' n1 m c keeps le crash))
          (cases_lt n1 m)

      settled : (m : ℕ) → m < n2 → (o : Option Trust) → MayRead (act deed n0 to Unsettled ∷ acts) m o → MayRead (act deed n0 to (Found n2) ∷ acts) m o
      settled m early o (inl r) = inl r
      settled m early o (inr r) = inr ((λ sure. omega (arith, sure.1, early)), r.1)

  -- its change is missing
  pub lost : ((c : List ℕ) → Crash (told' n2) c → trust_read c ≡ trust_of (after taken)) → Kept told' first n2 (act deed n0 to (Lost n2) ∷ acts) taken
  lost there = record {
    standing = λ m le. inr (inr tt, k.standing m (omega (arith, later, le)));
    each = λ m c from til crash. ⊎_elim
        (λ (early : m < n2). settled m early (trust_read c) (before m c from til early crash))
        (λ (last : n2 ≤ m). inr ((λ sure. sure.1), read_taken acts m taken (k.standing m (omega (arith, later, last))) (trust_read c) (there c (subst (λ (j : ℕ). Crash (told' j) c) (at_end m til last) crash))))
        (cases_lt m n2);
    now = there;
  }
    where
      at_end : (m : ℕ) → m ≤ n2 → n2 ≤ m → m ≡ n2
      at_end m til last = omega (arith, til, last)

      before : (m : ℕ) (c : List ℕ) → first ≤ m → m ≤ n2 → m < n2 → Crash (told' m) c → MayRead (act deed n0 to Unsettled ∷ acts) m (trust_read c)
      before m c from til early crash = ⊎_elim
          (λ (lt : n1 < m). ⊎_elim
          (λ (old : trust_read c ≡ trust_of (after taken)). inr ((λ sure. sure.1), read_taken acts m taken (k.standing m (omega (arith, lt))) (trust_read c) old))
          (λ (new : trust_read c ≡ trust_of (does deed (after taken))). inl (taken, omega (arith, k.begun, lt), tt, k.standing m (omega (arith, lt)), new))
          (during m c lt early crash))
          (λ (le : m ≤ n1). k.each m c from le (earlier told told' n1 m c keeps le crash))
          (cases_lt n1 m)

      settled : (m : ℕ) → m < n2 → (o : Option Trust) → MayRead (act deed n0 to Unsettled ∷ acts) m o → MayRead (act deed n0 to (Lost n2) ∷ acts) m o
      settled m early o (inl r) = inl (r.0, r.1, early, r.3, r.4)
      settled m early o (inr r) = inr ((λ sure. sure.1), r.1)

  -- a call that fails before it has read all slots leaves it open
  pub still_open : ((c : List ℕ) → Crash (told' n2) c → (trust_read c ≡ trust_of (after taken)) ⊎ (trust_read c ≡ trust_of (does deed (after taken)))) → Open told' first n2 acts taken deed n0 to
  still_open now = record {
    standing = λ m le. k.standing m (omega (arith, later, le));
    begun = omega (arith, k.begun, later);
    each = λ m c from til crash. ⊎_elim
        (λ (le : m ≤ n1). k.each m c from le (earlier told told' n1 m c keeps le crash))
        (λ (more : n1 < m). read_either m c (omega (arith, more)) (⊎_elim
        (λ (inside : m < n2). during m c more inside crash)
        (λ (last : n2 ≤ m). let at : m ≡ n2 = omega (arith, til, last) in now c (subst (λ (j : ℕ). Crash (told' j) c) at crash))
        (cases_lt m n2)))
        (cases_le m n1);
    now = now;
  }
    where
      cases_le : (m n : ℕ) → (m ≤ n) ⊎ (n < m)
      cases_le m n = ⊎_elim (λ (h : n < m). inr h) (λ (h : m ≤ n). inl h) (cases_lt n m)

      read_either : (m : ℕ) (c : List ℕ) → n1 ≤ m → ((trust_read c ≡ trust_of (after taken)) ⊎ (trust_read c ≡ trust_of (does deed (after taken)))) → MayRead (act deed n0 to Unsettled ∷ acts) m (trust_read c)
      read_either m c le (inl old) = inr ((λ sure. sure.1), read_taken acts m taken (k.standing m le) (trust_read c) old)
      read_either m c le (inr new) = inl (taken, omega (arith, k.begun, le), tt, k.standing m le, new)

-- ---- as the calls' contracts say it

abbrev pub trust_in_reading : Reading → Option Trust
trust_in_reading r = option_map (λ x. x.0) r

-- an act that began at this number of calls, or earlier
module _ (told told' : ℕ → Standing) (first begun n n1 : ℕ) (acts taken : List Act) (deed : Deed) (old new : Reading) (k : Kept told first n acts taken) (le : begun ≤ n) (was : trust_in_reading old ≡ trust_of (after taken)) (is : trust_in_reading new ≡ trust_of (does deed (after taken))) (works : EachImage (ReadsEither old new) told told' n n1) where
  -- it is answered
  pub earlier_kept : IsStable new (told' n1) → Kept told' first n1 (act deed begun n1 Answered ∷ acts) (act deed begun n1 Answered ∷ taken)
  earlier_kept stable = record {
    standing = λ m ge. inl (taken, omega (arith, le, works.later, ge), tt, refl, k.standing m (omega (arith, works.later, ge)));
    each = λ m c from to crash. ⊎_elim
        (λ (lt : m < n1). ⊎_elim
        (λ (before : m < n). inr ((λ sure. omega (arith, sure.1, lt)), k.each m c from (omega (arith, before)) (earlier told told' n m c works.keeps (omega (arith, before)) crash)))
        (λ (ge : n ≤ m). ⊎_elim
        (λ (h : reads c ≡ old). inr ((λ sure. omega (arith, sure.1, lt)), read_taken acts m taken (k.standing m ge) (trust_read c) (ap trust_in_reading h ∙ was)))
        (λ (h : reads c ≡ new). inl (taken, omega (arith, le, ge), tt, k.standing m ge, ap trust_in_reading h ∙ is))
        (works.images m c ge to crash))
        (cases_lt m n))
        (λ (ge : n1 ≤ m). let last : m ≡ n1 = omega (arith, to, ge) in
        inl (taken, omega (arith, le, works.later, ge), tt, k.standing m (omega (arith, works.later, ge)), done c (subst (λ (j : ℕ). Crash (told' j) c) last crash)))
        (cases_lt m n1);
    now = done;
  }
    where
      done : (c : List ℕ) → Crash (told' n1) c → trust_read c ≡ trust_of (does deed (after taken))
      done c crash = ap trust_read (clean_image (told' n1) c stable.clean crash) ∙ ap trust_in_reading stable.read ∙ is

  -- a device failure leaves it open
  pub earlier_open : Open told' first n1 acts taken deed begun n1
  earlier_open = record {
    standing = λ m ge. k.standing m (omega (arith, works.later, ge));
    begun = omega (arith, le, works.later);
    each = λ m c from to crash. ⊎_elim
        (λ (before : m < n). inr ((λ sure. sure.1), k.each m c from (omega (arith, before)) (earlier told told' n m c works.keeps (omega (arith, before)) crash)))
        (λ (ge : n ≤ m). ⊎_elim
        (λ (h : reads c ≡ old). inr ((λ sure. sure.1), read_taken acts m taken (k.standing m ge) (trust_read c) (ap trust_in_reading h ∙ was)))
        (λ (h : reads c ≡ new). inl (taken, omega (arith, le, ge), tt, k.standing m ge, ap trust_in_reading h ∙ is))
        (works.images m c ge to crash))
        (cases_lt m n);
    now = λ c crash. ⊎_elim (λ (h : reads c ≡ old). inl (ap trust_in_reading h ∙ was)) (λ (h : reads c ≡ new). inr (ap trust_in_reading h ∙ is)) (works.images n1 c works.later (omega arith) crash);
  }

-- a memory that is only read
module _ (told told' : ℕ → Standing) (first n1 n2 : ℕ) (acts taken : List Act) (looked : IsLookedAt told told' n1 n2) where
  pub still_kept : Kept told first n1 acts taken → Kept told' first n2 acts taken
  still_kept k = record {
    standing = λ m le. k.standing m (omega (arith, le, looked.works.later));
    each = λ m c from til crash. ⊎_elim
        (λ (more : n1 < m). read_taken acts m taken (k.standing m (omega (arith, more))) (trust_read c) (k.now c (looked.works.images m c (omega (arith, more)) til crash)))
        (λ (le : m ≤ n1). k.each m c from le (earlier told told' n1 m c looked.works.keeps le crash))
        (cases_lt n1 m);
    now = λ c crash. k.now c (looked.works.images n2 c looked.works.later (omega arith) crash);
  }

  module _ (deed : Deed) (n0 to : ℕ) (k : Open told first n1 acts taken deed n0 to) where
    pub still_left : Open told' first n2 acts taken deed n0 to
    still_left = record {
      standing = λ m le. k.standing m (omega (arith, le, looked.works.later));
      begun = omega (arith, k.begun, looked.works.later);
      each = λ m c from til crash. ⊎_elim
          (λ (more : n1 < m). either m c (omega (arith, more)) (k.now c (looked.works.images m c (omega (arith, more)) til crash)))
          (λ (le : m ≤ n1). k.each m c from le (earlier told told' n1 m c looked.works.keeps le crash))
          (cases_lt n1 m);
      now = λ c crash. k.now c (looked.works.images n2 c looked.works.later (omega arith) crash);
    }
      where
        either : (m : ℕ) (c : List ℕ) → n1 ≤ m → ((trust_read c ≡ trust_of (after taken)) ⊎ (trust_read c ≡ trust_of (does deed (after taken)))) → MayRead (act deed n0 to Unsettled ∷ acts) m (trust_read c)
        either m c le (inl old) = inr ((λ sure. sure.1), read_taken acts m taken (k.standing m le) (trust_read c) old)
        either m c le (inr new) = inl (taken, omega (arith, k.begun, le), tt, k.standing m le, new)

    -- the reading settles it
    module _ (more : n1 < n2) (clean : (told' n2).pending ≡ []) where
      now_read : (c : List ℕ) → Crash (told' n2) c → trust_read c ≡ trust_read (told n1).bytes
      now_read c crash = ap trust_read (clean_image (told' n2) c clean crash ∙ looked.same)

      during : (m : ℕ) (c : List ℕ) → n1 < m → m < n2 → Crash (told' m) c → (trust_read c ≡ trust_of (after taken)) ⊎ (trust_read c ≡ trust_of (does deed (after taken)))
      during m c from til crash = k.now c (looked.works.images m c (omega (arith, from)) (omega (arith, til)) crash)

      pub settled : Kept told' first n2 (act deed n0 to (Found n2) ∷ acts) (act deed n0 to (Found n2) ∷ taken) ⊎ Kept told' first n2 (act deed n0 to (Lost n2) ∷ acts) taken
      settled = go (k.now (told n1).bytes (own_image (told n1)))
        where
          go : ((trust_read (told n1).bytes ≡ trust_of (after taken)) ⊎ (trust_read (told n1).bytes ≡ trust_of (does deed (after taken)))) → Kept told' first n2 (act deed n0 to (Found n2) ∷ acts) (act deed n0 to (Found n2) ∷ taken) ⊎ Kept told' first n2 (act deed n0 to (Lost n2) ∷ acts) taken
          go (inl old) = inr (lost told told' first n1 n2 acts taken deed n0 to k looked.works.later more looked.works.keeps during (λ c crash. now_read c crash ∙ old))
          go (inr new) = inl (found told told' first n1 n2 acts taken deed n0 to k looked.works.later more looked.works.keeps during (λ c crash. now_read c crash ∙ new))

-- ---- openings as acts

pub opened_same : (o : ChipAfter) → trust_of o ≡ trust_of (does Opened o)
opened_same None = refl
opened_same (Some ts) = refl

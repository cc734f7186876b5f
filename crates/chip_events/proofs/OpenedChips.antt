-- A chip is what its disk tells after an opening too.
use Rattle.std.proofs.Common.{◌≡◌, ℕ, ◌<◌, ◌≤◌, List, [], ◌∷◌, Some, None, Ok, Err, true, refl, sym, ◌∙◌, ap, subst, arith}
use Rattle.eac_base.specs.Causes.{Rose}
use Rattle.chip_verify.specs.Trust.{Trust}
use Rattle.chip_verify.specs.Session.{no_session}
use Rattle.chip_slots.specs.Crash.{Standing}
use Rattle.chip_slots.specs.declared.answers.ChipRefusal.TheVariants as refusal
use Rattle.chip_slots.specs.Image.{is_memory, reads, trust_read}
use Rattle.chip_slots.specs.Found.{IsLookedAt}
use Rattle.chip_slots.specs.Acts.{Settling, Answered, Unsettled, Found, Lost, after, trust_of}
use Rattle.chip_slots.specs.Moments.{Kept}
use Rattle.chip_slots.proofs.RunsOfActs.{still_kept, still_left}
use Rattle.chip_slots.proofs.ChipRuns.{opening_kept}
use Rattle.chip_events.specs.Acts.{ChipAct, OpenCall, deed_of, acts_of, standing, trust_in, IsReadBy, IsKnownBy, AreKnownBy}
use Rattle.chip_events.specs.Told.{ChipTold}
use Rattle.chip_events.specs.Openings.{IsQuiet, Opens}
use Rattle.chip_events.specs.Held.{IsHeldAs, AreHeld, IsUntil, AreUntil, IsChipAt}
use Rattle.chip_events.proofs.OpenedActs.{Settled, agrees, settle_acts, opened_has, read_on}

-- ---- what is known is held

known_held : (s : Settling) (n : ℕ) → IsKnownBy n s → (told : ℕ → Standing) (first : ℕ) (a : ChipAct) (acts : List ChipAct) → Kept told first n (acts_of (a ∷ acts)) (standing (a ∷ acts)) → IsHeldAs s told first n a acts
known_held Answered n known told first a acts k = k
known_held (Found m) n known told first a acts k = k
known_held (Lost m) n known told first a acts k = k
known_held Unsettled n known told first a acts k = absurd known

pub all_held : (acts : List ChipAct) (n : ℕ) (told : ℕ → Standing) (first : ℕ) → AreKnownBy n acts → Kept told first n (acts_of acts) (standing acts) → AreHeld told first n acts
all_held [] n told first known k = k
all_held (a ∷ acts) n told first known k = known_held a.settling n known.2 told first a acts k

until_one : (s : Settling) (n : ℕ) → IsKnownBy n s → IsUntil n s
until_one Answered n known = tt
until_one (Found m) n known = known
until_one (Lost m) n known = known
until_one Unsettled n known = tt

pub known_until : (acts : List ChipAct) (n : ℕ) → AreKnownBy n acts → AreUntil n acts
known_until [] n known = tt
known_until (a ∷ acts) n known = (known.1, until_one a.settling n known.2, known_until acts n known.3)

until_later : (s : Settling) (n m : ℕ) → n ≤ m → IsUntil n s → IsUntil m s
until_later Answered n m le u = tt
until_later Unsettled n m le u = tt
until_later (Found k) n m le u = omega (arith, le, u)
until_later (Lost k) n m le u = omega (arith, le, u)

pub all_until : (acts : List ChipAct) (n m : ℕ) → n ≤ m → AreUntil n acts → AreUntil m acts
all_until [] n m le u = tt
all_until (a ∷ acts) n m le u = (omega (arith, le, u.0), until_later a.settling n m le u.1, all_until acts n m le u.2)

-- ---- a memory that is only read

pub still_held : (told told' : ℕ → Standing) (first n0 n1 : ℕ) (acts : List ChipAct) → IsLookedAt told told' n0 n1 → AreHeld told first n0 acts → AreHeld told' first n1 acts
still_held told told' first n0 n1 [] looked held = still_kept told told' first n0 n1 [] [] looked held
still_held told told' first n0 n1 (a ∷ acts) looked held = go a.settling held
  where
    go : (s : Settling) → IsHeldAs s told first n0 a acts → IsHeldAs s told' first n1 a acts
    go Answered k = still_kept told told' first n0 n1 _ _ looked k
    go (Found m) k = still_kept told told' first n0 n1 _ _ looked k
    go (Lost m) k = still_kept told told' first n0 n1 _ _ looked k
    go Unsettled k = still_left told told' first n0 n1 _ _ looked (deed_of a.call) a.from a.to k

-- ---- the three ends of an opening

module _ (told told' : ℕ → Standing) (size n0 n1 f0 f1 first : ℕ) (c : ChipTold) (at : IsChipAt told size n0 f0 first c) (looked : IsLookedAt told told' n0 n1) (faults : f0 ≤ f1) where
  calls_later : n0 ≤ n1 → c.calls ≤ n1
  calls_later le = omega (arith, le, at.calls_are)

  faults_later : c.faults ≤ f1
  faults_later = omega (arith, faults, at.faults_are)

  still_reads : c.reads ≡ reads (told' n1).bytes
  still_reads = at.reads_as ∙ ap reads (sym looked.same)

  settled_now : n0 < n1 → (told' n1).pending ≡ [] → Settled told' first n1 c.acts
  settled_now more clean = settle_acts told told' first n0 n1 looked more clean c.acts at.images at.order at.until at.stand_on at.openings at.since

  read_by : (s : Settled told' first n1 c.acts) → IsReadBy n1 c.reads c.acts s.now
  read_by s = record { each = s.settles; agrees = ap trust_in still_reads ∙ agrees told' first n1 c.acts s }

  read_now : (t : Trust) (generation : ℕ) → reads (told n0).bytes ≡ Some (t, generation) → trust_read (told' n1).bytes ≡ Some t
  read_now t generation found = ap trust_read looked.same ∙ ap trust_in found

  stood : (s : Settled told' first n1 c.acts) (t : Trust) (generation : ℕ) → reads (told n0).bytes ≡ Some (t, generation) → trust_of (after (standing s.now)) ≡ Some t
  stood s t generation found = sym (agrees told' first n1 c.acts s) ∙ read_now t generation found

  pub record Opened (t : Trust) (generation : ℕ) : Type 0 where
    pub now : ChipTold
    pub opens : Opens c (Ok (t, generation)) now
    pub chip_at : IsChipAt told' size n1 f1 first now
    pub known : AreKnownBy n1 now.acts
    pub imports : now.imports ≡ c.imports
    pub reads : now.reads ≡ Some (t, generation)
    pub stands : after (standing now.acts) ≡ Some (t, no_session)

  quiet_now : n0 ≤ n1 → f1 ≡ f0 → (c' : ChipTold) → c'.calls ≡ n1 → c'.faults ≡ f1 → IsQuiet c c'
  quiet_now le same c' calls_are faults_are = record { calls = omega (arith, calls_later le, calls_are); faults = faults_are ∙ same ∙ sym at.faults_are }

  pub opened_as : is_memory size ≡ true → f1 ≡ f0 → (t : Trust) (generation : ℕ) → n0 < n1 → reads (told n0).bytes ≡ Some (t, generation) → (told' n1).pending ≡ [] → Opened t generation
  opened_as memory same t generation more found clean =
      let s = settled_now more clean in
      let le : c.calls ≤ n1 = calls_later (omega (arith, more)) in
      let opened : ChipAct = record { call = OpenCall t; from = c.calls; to = n1; settling = Answered } in
      record {
        now = record c { calls = n1; faults = f1; acts = opened ∷ s.now };
        opens = record {
          memory = ap is_memory at.size_is ∙ memory;
          quiet = quiet_now (omega (arith, more)) same _ refl refl;
          begun = omega (arith, more, at.calls_are);
          read = at.reads_as ∙ found;
          settled = s.now;
          settles = read_by s;
          next = refl;
        };
        chip_at = record {
          size_is = at.size_is;
          calls_are = refl;
          faults_are = refl;
          reads_as = still_reads;
          begun = omega (arith, at.begun, more);
          since = (omega (arith, at.begun, more), s.since);
          images = opening_kept told' first c.calls n1 (acts_of s.now) (standing s.now) s.kept le;
          order = (le, s.known, s.order);
          until = (omega arith, tt, known_until s.now n1 s.known);
          stand_on = ((refl, stood s t generation found), s.stand_on);
          openings = (read_now t generation found, s.read_as);
        };
        known = (le, omega arith, tt, s.known);
        imports = refl;
        reads = at.reads_as ∙ found;
        stands = opened_has (standing s.now) t (stood s t generation found);
      }

  pub found_empty : f1 ≡ f0 → n0 < n1 → reads (told n0).bytes ≡ None → (told' n1).pending ≡ [] → (c' : ChipTold) × Opens c (Err refusal.NoChip) c' × IsChipAt told' size n1 f1 first c' × (c'.imports ≡ c.imports)
  found_empty same more found clean =
      let s = settled_now more clean in (
        record c { calls = n1; faults = f1; acts = s.now },
        record {
          quiet = quiet_now (omega (arith, more)) same _ refl refl;
          begun = omega (arith, more, at.calls_are);
          read = at.reads_as ∙ found;
          settles = read_by s;
          next = refl;
        },
        record {
          size_is = at.size_is;
          calls_are = refl;
          faults_are = refl;
          reads_as = still_reads;
          begun = omega (arith, at.begun, more);
          since = s.since;
          images = all_held s.now n1 told' first s.known s.kept;
          order = s.order;
          until = known_until s.now n1 s.known;
          stand_on = s.stand_on;
          openings = s.read_as;
        },
        refl,
      )

  pub left_unread : Rose f0 f1 → (c' : ChipTold) × Opens c (Err refusal.DiskFault) c' × IsChipAt told' size n1 f1 first c' × (c'.imports ≡ c.imports)
  left_unread rose =
      let le = looked.works.later in (
        record c { calls = n1; faults = f1 },
        record {
          failed = record { calls = calls_later le; faults = faults_later; cause = subst (λ (f : ℕ). Rose f f1) (sym at.faults_are) rose };
          next = refl;
        },
        record {
          size_is = at.size_is;
          calls_are = refl;
          faults_are = refl;
          reads_as = still_reads;
          begun = omega (arith, at.begun, le);
          since = at.since;
          images = still_held told told' first n0 n1 c.acts looked at.images;
          order = at.order;
          until = all_until c.acts n0 n1 le at.until;
          stand_on = at.stand_on;
          openings = read_on c.acts told told' n0 looked.works.keeps at.until at.openings;
        },
        refl,
      )

-- What is in hand is what the disk tells after an import too.
use Rattle.std.proofs.Common.{◌≡◌, ◌⊎◌, inl, inr, ℕ, ◌+◌, ◌≤◌, List, [], ◌∷◌, Some, Result, Err, Bool, refl, sym, ◌∙◌, ap, subst, arith, ⊎_elim}
use Rattle.chip_verify.specs.declared.answers.Imported.{Imported}
use Rattle.chip_verify.specs.Trust.{Trust}
use Rattle.chip_verify.specs.Session.{SessionValue}
use Rattle.chip_slots.specs.declared.answers.ChipRefusal.{ChipRefusal}
use Rattle.chip_slots.specs.declared.answers.ChipRefusal.TheVariants as refusal
use Rattle.chip_slots.specs.Crash.{Standing}
use Rattle.chip_slots.specs.Image.{reads, Reading}
use Rattle.chip_slots.specs.Ready.{EachImage, ReadsEither, IsStable}
use Rattle.chip_slots.specs.Acts.{Deed, Given, Settling, Answered, Unsettled, Found, Lost, ChipAfter, does, after, trust_of}
use Rattle.chip_slots.specs.Moments.{Kept, Open, act}
use Rattle.chip_slots.specs.Chips.{ChipValue, read_as}
use Rattle.chip_slots.specs.Outcomes.{IsMoved}
use Rattle.chip_slots.proofs.DeviceWork.{no_work, own_image, clean_image}
use Rattle.chip_slots.proofs.RunsOfActs.{earlier_kept, earlier_open}
use Rattle.chip_events.specs.Acts.{ChipAct, GiveCall, acts_of, standing, trust_in, IsKnownBy, AreKnownBy}
use Rattle.chip_events.specs.Verdicts.{Verdict}
use Rattle.chip_events.specs.Told.{ChipTold}
use Rattle.chip_events.specs.Imports.{InHand, follows}
use Rattle.chip_events.specs.Held.{IsHeldAs, AreHeld, IsChipAt, IsInHand}
use Rattle.chip_events.proofs.OpenedActs.{known_later, read_on}
use Rattle.chip_events.proofs.OpenedChips.{known_until}

-- ---- what is settled is kept

known_kept : (s : Settling) (n : ℕ) → IsKnownBy n s → (told : ℕ → Standing) (first : ℕ) (a : ChipAct) (acts : List ChipAct) → IsHeldAs s told first n a acts → Kept told first n (acts_of (a ∷ acts)) (standing (a ∷ acts))
known_kept Answered n known told first a acts k = k
known_kept (Found m) n known told first a acts k = k
known_kept (Lost m) n known told first a acts k = k
known_kept Unsettled n known told first a acts k = absurd known

pub all_kept : (acts : List ChipAct) (n : ℕ) (told : ℕ → Standing) (first : ℕ) → AreKnownBy n acts → AreHeld told first n acts → Kept told first n (acts_of acts) (standing acts)
all_kept [] n told first known k = k
all_kept (a ∷ acts) n told first known k = known_kept a.settling n known.2 told first a acts k

-- ---- where nothing is written

pub idle : (told : ℕ → Standing) (n : ℕ) (r : Reading) → IsStable r (told n) → EachImage (ReadsEither r r) told told n n
idle told n r stable = no_work (ReadsEither r r) told n (λ c crash. inl (ap reads (clean_image (told n) c stable.clean crash) ∙ stable.read))

module _ (told told' : ℕ → Standing) (size n0 n1 f0 f1 first : ℕ) (w : InHand) (hand : IsInHand told size n0 f0 first w) (faults : f0 ≤ f1) (bytes : List ℕ) (verdict : Bool) (number : ℕ) where
  deed : Deed
  deed = Given bytes verdict

  held : Kept told first n0 (acts_of w.chip.acts) (standing w.chip.acts)
  held = all_kept w.chip.acts n0 told first hand.settled hand.chip_at.images

  pub stable_before : IsStable (read_as w.opened) (told n0)
  stable_before = record { clean = hand.clean; read = sym hand.chip_at.reads_as ∙ hand.read }

  was : trust_in (read_as w.opened) ≡ trust_of (after (standing w.chip.acts))
  was = sym (ap trust_of hand.stands)

  next_trust : trust_of (does (Given bytes verdict) (after (standing w.chip.acts))) ≡ Some (follows w.opened bytes verdict).0
  next_trust = ap (λ (x : ChipAfter). trust_of (does (Given bytes verdict) x)) hand.stands

  -- the act of an import, from the chip's calls on
  pub answered : (result : Result Imported ChipRefusal) (o' : ChipValue) → IsMoved w.opened (follows w.opened bytes verdict) o' → EachImage (ReadsEither (read_as w.opened) (read_as o')) told told' n0 n1 → IsStable (read_as o') (told' n1) → (c' : ChipTold)
      → c' ≡ record w.chip { calls = n1; faults = f1; reads = read_as o'; imports = number; acts = record { call = GiveCall bytes verdict number result; from = w.chip.calls; to = n1; settling = Answered } ∷ w.chip.acts }
      → (acks : List _) (verdicts : List Verdict) (provider : ℕ) → IsInHand told' size n1 f1 first (record { chip = c'; opened = o'; acks = acks; verdicts = verdicts; provider = provider })
  answered result o' moved works stable c' is acks verdicts provider =
      let le : w.chip.calls ≤ n1 = omega (arith, works.later, hand.chip_at.calls_are) in
      let given_act : ChipAct = record { call = GiveCall bytes verdict number result; from = w.chip.calls; to = n1; settling = Answered } in
      let next : ChipTold = record w.chip { calls = n1; faults = f1; reads = read_as o'; imports = number; acts = given_act ∷ w.chip.acts } in
      let done : trust_in (read_as o') ≡ trust_of (does (Given bytes verdict) (after (standing w.chip.acts))) = ap (λ (t : Trust). Some t) moved.state ∙ sym next_trust in
      let kept : Kept told' first n1 (act (Given bytes verdict) n0 n1 Answered ∷ acts_of w.chip.acts) (act (Given bytes verdict) n0 n1 Answered ∷ standing w.chip.acts) =
      earlier_kept told told' first n0 n0 n1 (acts_of w.chip.acts) (standing w.chip.acts) (Given bytes verdict) (read_as w.opened) (read_as o') held (omega arith) was done works stable in
      let known : AreKnownBy n1 (given_act ∷ w.chip.acts) = (le, omega arith, tt, known_later w.chip.acts n0 n1 works.later hand.settled) in
      subst (λ (c : ChipTold). IsInHand told' size n1 f1 first (record { chip = c; opened = o'; acks = acks; verdicts = verdicts; provider = provider })) (sym is) (record {
        chip_at = record {
          size_is = hand.chip_at.size_is;
          calls_are = refl;
          faults_are = refl;
          reads_as = sym stable.read;
          begun = omega (arith, hand.chip_at.begun, works.later);
          since = (omega (arith, hand.chip_at.begun, works.later), hand.chip_at.since);
          images = subst (λ (n : ℕ). Kept told' first n1 (act (Given bytes verdict) n n1 Answered ∷ acts_of w.chip.acts) (act (Given bytes verdict) n n1 Answered ∷ standing w.chip.acts)) (sym hand.chip_at.calls_are) kept;
          order = (le, known.3, hand.chip_at.order);
          until = known_until (given_act ∷ w.chip.acts) n1 known;
          stand_on = (tt, hand.chip_at.stand_on);
          openings = (tt, read_on w.chip.acts told told' n0 works.keeps hand.chip_at.until hand.chip_at.openings);
        };
        settled = known;
        read = refl;
        clean = stable.clean;
        stands = ap (does (Given bytes verdict)) hand.stands ∙ ap (λ (x : Trust × SessionValue). Some x) (λ i. (sym moved.state i, sym moved.session i));
        ready = moved.ready;
      })

  -- an import that a device failure cut off
  pub cut_off : EachImage (ReadsEither (read_as w.opened) (Some ((follows w.opened bytes verdict).0, w.opened.generation + 1))) told told' n0 n1 → (c' : ChipTold)
      → c' ≡ record w.chip { calls = n1; faults = f1; reads = reads (told' n1).bytes; imports = number; acts = record { call = GiveCall bytes verdict number (Err refusal.DiskFault); from = w.chip.calls; to = n1; settling = Unsettled } ∷ w.chip.acts }
      → IsChipAt told' size n1 f1 first c'
  cut_off works c' is =
      let le : w.chip.calls ≤ n1 = omega (arith, works.later, hand.chip_at.calls_are) in
      let opened : Open told' first n1 (acts_of w.chip.acts) (standing w.chip.acts) (Given bytes verdict) n0 n1 =
      earlier_open told told' first n0 n0 n1 (acts_of w.chip.acts) (standing w.chip.acts) (Given bytes verdict) (read_as w.opened) (Some ((follows w.opened bytes verdict).0, w.opened.generation + 1)) held (omega arith) was (sym next_trust) works in
      let below : AreKnownBy n1 w.chip.acts = known_later w.chip.acts n0 n1 works.later hand.settled in
      subst (IsChipAt told' size n1 f1 first) (sym is) (record {
        size_is = hand.chip_at.size_is;
        calls_are = refl;
        faults_are = refl;
        reads_as = refl;
        begun = omega (arith, hand.chip_at.begun, works.later);
        since = (omega (arith, hand.chip_at.begun, works.later), hand.chip_at.since);
        images = subst (λ (n : ℕ). Open told' first n1 (acts_of w.chip.acts) (standing w.chip.acts) (Given bytes verdict) n n1) (sym hand.chip_at.calls_are) opened;
        order = (le, below, hand.chip_at.order);
        until = (omega arith, tt, known_until w.chip.acts n1 below);
        stand_on = (tt, hand.chip_at.stand_on);
        openings = (tt, read_on w.chip.acts told told' n0 works.keeps hand.chip_at.until hand.chip_at.openings);
      })

  -- what a read gives then
  pub cut_reads : EachImage (ReadsEither (read_as w.opened) (Some ((follows w.opened bytes verdict).0, w.opened.generation + 1))) told told' n0 n1 → (reads (told' n1).bytes ≡ w.chip.reads) ⊎ (reads (told' n1).bytes ≡ Some ((follows w.opened bytes verdict).0, w.opened.generation + 1))
  cut_reads works = ⊎_elim
      (λ (old : reads (told' n1).bytes ≡ read_as w.opened). inl (old ∙ sym hand.read))
      (λ (new : reads (told' n1).bytes ≡ Some ((follows w.opened bytes verdict).0, w.opened.generation + 1)). inr new)
      (works.images n1 (told' n1).bytes works.later (omega arith) (own_image (told' n1)))

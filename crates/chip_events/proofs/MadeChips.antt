-- A chip is what its disk tells after a making too.
use Rattle.std.proofs.Common.{◌≡◌, ◌≢◌, ◌⊎◌, ◌↔◌, inl, inr, ℕ, ◌≤◌, List, [], ◌∷◌, Option, Some, None, Bool, true, false, cond, Result, Ok, Err, refl, sym, ◌∙◌, ap, subst, arith}
use Rattle.std.specs.Prelude.{IfSome}
use Rattle.eac_base.specs.Causes.{Rose}
use Rattle.cvc_grammar.specs.declared.certificate.Cert.{Cert}
use Rattle.cvc_grammar.specs.declared.certificate.CertBody.{CertBody}
use Rattle.cvc_grammar.specs.declared.refusal.CvcRefusal.{CvcRefusal}
use Rattle.chip_verify.specs.Root.{is_root, root_point, first_trust}
use Rattle.chip_verify.specs.Trust.{Trust, IsTrust}
use Rattle.chip_slots.specs.declared.disk.ChipDisk.{Ghosts as DiskOf}
use Rattle.chip_slots.specs.declared.answers.MakeRefusal.{MakeRefusal}
use Rattle.chip_slots.specs.declared.answers.MakeRefusal.TheVariants as refuses
use Rattle.chip_slots.specs.Crash.{Standing}
use Rattle.chip_slots.specs.Image.{Reading, is_memory, reads, trust_read}
use Rattle.chip_slots.specs.Ready.{IsStable}
use Rattle.chip_slots.specs.Found.{IsLookedAt, IsFoundIn}
use Rattle.chip_slots.specs.Acts.{Made, Answered, Unsettled, after, trust_of}
use Rattle.chip_slots.specs.Chips.{IsFirstWritten, Makes as SlotMakes}
use Rattle.chip_slots.proofs.DeviceWork.{own_image}
use Rattle.chip_slots.proofs.RunsOfActs.{earlier_kept, earlier_open}
use Rattle.chip_events.specs.Acts.{ChipAct, MakeCall, acts_of, standing, trust_in, AreKnownBy}
use Rattle.chip_events.specs.Told.{ChipTold}
use Rattle.chip_events.specs.Makings.{IsReadWithin, IsMadeWith, WasThere, IsHalfMade, root_trust, holder_of, IsRoot, MakesSo, answered_as}
use Rattle.chip_events.specs.Held.{IsChipAt, IsChipOf}
use Rattle.chip_events.specs.DiskTurns.{disk_of, counts_of, DiskTurn}
use Rattle.chip_events.proofs.OpenedActs.{Settled, agrees, settle_acts, read_on, known_later}
use Rattle.chip_events.proofs.OpenedChips.{all_held, known_until, left_unread}
use Rattle.chip_events.proofs.Untouched.{untouched_by, still_turn}

-- ---- a making

module _ (told told' : ℕ → Standing) (size n0 n1 f0 f1 first : ℕ) (c : ChipTold) (at : IsChipAt told size n0 f0 first c) (faults : f0 ≤ f1) (t : Trust) (trust : IsTrust t) (found : Reading) (is : reads (told n0).bytes ≡ found) where
  faults_up : c.faults ≤ f1
  faults_up = omega (arith, faults, at.faults_are)

  calls_up : n0 ≤ n1 → c.calls ≤ n1
  calls_up le = omega (arith, le, at.calls_are)

  -- what was written, and the acts as the reading before it left them
  module _ (none : found ≡ None) (f : IsFirstWritten t told told' n0 n1) where
    clean_mid : (f.mid f.found).pending ≡ []
    clean_mid = ap (λ (s : Standing). s.pending) (f.stable.stable f.found f.stable.begun (omega arith))

    mid_acts : Settled f.mid first f.found c.acts
    mid_acts = settle_acts told f.mid first n0 f.found f.looked f.stable.begun clean_mid c.acts at.images at.order at.until at.stand_on at.openings at.since

    read_none : c.reads ≡ None
    read_none = at.reads_as ∙ is ∙ none

    mid_none : trust_of (after (standing mid_acts.now)) ≡ None
    mid_none = sym (agrees f.mid first f.found c.acts mid_acts) ∙ ap trust_read f.looked.same ∙ ap trust_in (is ∙ none)

    begun_mid : c.calls ≤ f.found
    begun_mid = omega (arith, at.calls_are, f.stable.begun)

    later_all : n0 ≤ n1
    later_all = omega (arith, f.stable.begun, f.writes.later)

    within : (c' : ChipTold) → c'.calls ≡ n1 → IsReadWithin c c' mid_acts.now
    within c' calls = record {
      at = f.found;
      from = begun_mid;
      to = omega (arith, f.writes.later, calls);
      settles = record { each = mid_acts.settles; agrees = ap trust_in read_none ∙ sym mid_none };
    }

    pub made_chip : f1 ≡ f0 → IsStable (Some (t, 0)) (told' n1) → (c' : ChipTold) × IsMadeWith t c c' × IsChipAt told' size n1 f1 first c' × (c'.imports ≡ c.imports)
    made_chip same stable =
        let le : c.calls ≤ n1 = calls_up later_all in
        let below : AreKnownBy n1 mid_acts.now = known_later mid_acts.now f.found n1 f.writes.later mid_acts.known in
        let made : ChipAct = record { call = MakeCall t (Ok tt); from = c.calls; to = n1; settling = Answered } in
        let next : ChipTold = record c { calls = n1; faults = f1; reads = Some (t, 0); acts = made ∷ mid_acts.now } in (
          next,
          record {
            quiet = record { calls = le; faults = same ∙ sym at.faults_are };
            read = read_none;
            settled = mid_acts.now;
            settles = within next refl;
            next = refl;
          },
          record {
            size_is = at.size_is;
            calls_are = refl;
            faults_are = refl;
            reads_as = sym stable.read;
            begun = omega (arith, at.begun, later_all);
            since = (omega (arith, at.begun, later_all), mid_acts.since);
            images = earlier_kept f.mid told' first c.calls f.found n1 (acts_of mid_acts.now) (standing mid_acts.now) (Made t) None (Some (t, 0)) mid_acts.kept begun_mid (sym mid_none) refl f.writes stable;
            order = (le, below, mid_acts.order);
            until = (omega arith, tt, known_until mid_acts.now n1 below);
            stand_on = ((mid_none, trust), mid_acts.stand_on);
            openings = (tt, read_on mid_acts.now f.mid told' f.found f.writes.keeps (known_until mid_acts.now f.found mid_acts.known) mid_acts.read_as);
          },
          refl,
        )

    pub half_made : Rose f0 f1 → (c' : ChipTold) × IsHalfMade t c c' × IsChipAt told' size n1 f1 first c' × (c'.imports ≡ c.imports)
    half_made rose =
        let le : c.calls ≤ n1 = calls_up later_all in
        let below : AreKnownBy n1 mid_acts.now = known_later mid_acts.now f.found n1 f.writes.later mid_acts.known in
        let made : ChipAct = record { call = MakeCall t (Err refuses.DiskFault); from = c.calls; to = n1; settling = Unsettled } in
        let next : ChipTold = record c { calls = n1; faults = f1; reads = reads (told' n1).bytes; acts = made ∷ mid_acts.now } in (
          next,
          record {
            failed = record { calls = le; faults = faults_up; cause = subst (λ (n : ℕ). Rose n f1) (sym at.faults_are) rose };
            read = read_none;
            settled = mid_acts.now;
            settles = within next refl;
            either = f.writes.images n1 (told' n1).bytes f.writes.later (omega arith) (own_image (told' n1));
            next = refl;
          },
          record {
            size_is = at.size_is;
            calls_are = refl;
            faults_are = refl;
            reads_as = refl;
            begun = omega (arith, at.begun, later_all);
            since = (omega (arith, at.begun, later_all), mid_acts.since);
            images = earlier_open f.mid told' first c.calls f.found n1 (acts_of mid_acts.now) (standing mid_acts.now) (Made t) None (Some (t, 0)) mid_acts.kept begun_mid (sym mid_none) refl f.writes;
            order = (le, below, mid_acts.order);
            until = (omega arith, tt, known_until mid_acts.now n1 below);
            stand_on = ((mid_none, trust), mid_acts.stand_on);
            openings = (tt, read_on mid_acts.now f.mid told' f.found f.writes.keeps (known_until mid_acts.now f.found mid_acts.known) mid_acts.read_as);
          },
          refl,
        )

  -- the chip reads already
  pub was_there : found ≢ None → IsLookedAt told told' n0 n1 → IsFoundIn told told' n0 n1 → f1 ≡ f0 → (c' : ChipTold) × WasThere c c' × IsChipAt told' size n1 f1 first c' × (c'.imports ≡ c.imports)
  was_there some looked since same =
      let clean : (told' n1).pending ≡ [] = ap (λ (s : Standing). s.pending) (since.stable n1 since.begun (omega arith)) in
      let s = settle_acts told told' first n0 n1 looked since.begun clean c.acts at.images at.order at.until at.stand_on at.openings at.since in
      let le : c.calls ≤ n1 = calls_up looked.works.later in
      let still : c.reads ≡ reads (told' n1).bytes = at.reads_as ∙ ap reads (sym looked.same) in
      let next : ChipTold = record c { calls = n1; faults = f1; acts = s.now } in (
        next,
        record {
          quiet = record { calls = le; faults = same ∙ sym at.faults_are };
          read = λ none. some (sym is ∙ sym at.reads_as ∙ none);
          settles = record { at = n1; from = le; to = omega arith; settles = record { each = s.settles; agrees = ap trust_in still ∙ agrees told' first n1 c.acts s } };
          next = refl;
        },
        record {
          size_is = at.size_is;
          calls_are = refl;
          faults_are = refl;
          reads_as = still;
          begun = omega (arith, at.begun, looked.works.later);
          since = s.since;
          images = all_held s.now n1 told' first s.known s.kept;
          order = s.order;
          until = known_until s.now n1 s.known;
          stand_on = s.stand_on;
          openings = s.read_as;
        },
        refl,
      )

-- ---- one making by a disk

pub first_is_trust : (c : CertBody) (day : ℕ) → IfSome (first_trust c day) IsTrust
first_is_trust c day = go (is_root c)
  where
    go : (b : Bool) → IfSome (cond b (Some (record { day = day; older = None; newest = root_point c })) None) IsTrust
    go true = record { older = tt }
    go false = tt

root_is_trust : (read : Result Cert CvcRefusal) (day : ℕ) (t : Trust) → root_trust read day ≡ Some t → IsTrust t
root_is_trust (Ok c) day t e = subst (λ (o : Option Trust). IfSome o IsTrust) e (first_is_trust c.body day)
root_is_trust (Err x) day t e = let none : None ≡ Some t = e in absurd (cc (none))

module _ {D : Type 0} (G : DiskOf D) (d d' : D) (read : Result Cert CvcRefusal) (day : ℕ) where
  -- what the call has said, on a disk of the right length
  pub record Said (r : Result (Unit {0}) MakeRefusal) : Type 0 where
    pub memory : is_memory (G.size d) ≡ true
    pub sized : (r ≡ Err refuses.Size) ↔ (is_memory (G.size d) ≡ false)
    pub root : (r ≡ Err refuses.NotRoot) ↔ ((is_memory (G.size d) ≡ true) × (root_trust read day ≡ None))
    pub makes : G.tells d → is_memory (G.size d) ≡ true → IfSome (root_trust read day) (λ t. SlotMakes t (reads (G.told d (G.moment d)).bytes) r (G.told d) (G.told d') (G.moment d) (G.moment d'))
    pub untouched : (r ≡ Err refuses.Size) ⊎ (r ≡ Err refuses.NotRoot) → d' ≡ d
    pub cause : r ≡ Err refuses.DiskFault → Rose (G.faults d) (G.faults d')
    pub quiet : r ≢ Err refuses.DiskFault → G.faults d' ≡ G.faults d
    pub tells : G.tells d → G.tells d'
    pub size : G.size d' ≡ G.size d
    pub later : G.moment d ≤ G.moment d'
    pub faults : G.faults d ≤ G.faults d'

  module _ (number : ℕ) (holder : List ℕ) (holder_is : holder ≡ holder_of read) where
    abbrev Answers : Result (Unit {0}) MakeRefusal → ChipTold → ChipTold → Type 0
    Answers r c c' = MakesSo read day c (answered_as r holder) c'

    abbrev Turns : Result (Unit {0}) MakeRefusal → Type 0
    Turns r = DiskTurn G d d' (number, number) (Answers r)

    -- ---- some states

    abbrev some_none : ChipTold
    some_none = record { size = G.size d; calls = G.moment d; faults = G.faults d; reads = None; imports = number; acts = [] }

    abbrev some_made : Trust → ChipTold
    some_made t = record some_none { reads = Some (t, 0); acts = record { call = MakeCall t (Ok tt); from = 0; to = 0; settling = Answered } ∷ [] }

    abbrev then_made : Trust → ChipTold
    then_made t = record some_none {
      calls = G.moment d';
      faults = G.faults d';
      reads = Some (t, 0);
      acts = record { call = MakeCall t (Ok tt); from = G.moment d; to = G.moment d'; settling = Answered } ∷ [];
    }

    abbrev then_counted : ChipTold → ChipTold
    then_counted c = record c { calls = G.moment d'; faults = G.faults d' }

    module _ (t : Trust) (made : root_trust read day ≡ Some t) where
      abbrev is_root_of : IsRoot read day
      is_root_of = record { trust = t; made = made }

      -- from told states
      Told : Result (Unit {0}) MakeRefusal → Type 0
      Told r = G.tells d → (first : ℕ) (c : ChipTold) → IsChipOf G d first c → c.imports ≡ number → (c' : ChipTold) × (c'.imports ≡ number) × IsChipOf G d' first c' × Answers r c c'

      turns : (r : Result (Unit {0}) MakeRefusal) → Said r → (some then_some : ChipTold) → disk_of some ≡ counts_of G d → some.imports ≡ number
          → disk_of then_some ≡ record { size = G.size d; calls = G.moment d'; faults = G.faults d' } → then_some.imports ≡ number → Answers r some then_some
          → (G.tells d → (first : ℕ) (c : ChipTold) → IsChipOf G d first c → c.imports ≡ number → (c' : ChipTold) × (c'.imports ≡ number) × IsChipOf G d' first c' × Answers r c c') → Turns r
      turns r s some then_some before number_before after number_after leads told = record {
        some = some;
        then_some = then_some;
        before = record { disk = before; imports = number_before };
        after = record { disk = after ∙ (λ i. record { size = sym s.size i; calls = G.moment d'; faults = G.faults d' }); imports = number_after };
        turn = leads;
        tells = s.tells;
        told = told;
      }

      sized_chip : (r : Result (Unit {0}) MakeRefusal) → Said r → (first : ℕ) (c' : ChipTold) → IsChipAt (G.told d') (G.size d) (G.moment d') (G.faults d') first c' → IsChipOf G d' first c'
      sized_chip r s first c' at = subst (λ (n : ℕ). IsChipAt (G.told d') n (G.moment d') (G.faults d') first c') (sym s.size) at

      slot_made : (r : Result (Unit {0}) MakeRefusal) → Said r → G.tells d → SlotMakes t (reads (G.told d (G.moment d)).bytes) r (G.told d) (G.told d') (G.moment d) (G.moment d')
      slot_made r s told_now = subst (λ (o : Option Trust). IfSome o (λ u. SlotMakes u (reads (G.told d (G.moment d)).bytes) r (G.told d) (G.told d') (G.moment d) (G.moment d'))) made (s.makes told_now s.memory)

      memory_of : (r : Result (Unit {0}) MakeRefusal) → Said r → (first : ℕ) (c : ChipTold) → IsChipOf G d first c → is_memory c.size ≡ true
      memory_of r s first c at = ap is_memory at.size_is ∙ s.memory

      made_turn : (r : Result (Unit {0}) MakeRefusal) → Said r → Turns r
      made_turn (Ok u) s = turns (Ok u) s some_none (then_made t) refl refl refl refl (
        s.memory,
        is_root_of,
        record {
          quiet = record { calls = s.later; faults = s.quiet (λ x. absurd (cc (x))) };
          read = refl;
          settled = [];
          settles = record { at = G.moment d; from = omega arith; to = s.later; settles = record { each = refl; agrees = refl } };
          next = refl;
        },
        holder_is,
      )
          (λ told_now first c at number_is.
          let m = slot_made (Ok u) s told_now in
          let x = made_chip (G.told d) (G.told d') (G.size d) (G.moment d) (G.moment d') (G.faults d) (G.faults d') first c at s.faults t (root_is_trust read day t made) _ refl m.0 m.1 (s.quiet (λ x. absurd (cc (x)))) m.2 in
          (x.0, x.3 ∙ number_is, sized_chip (Ok u) s first x.0 x.2, (memory_of (Ok u) s first c at, is_root_of, x.1, holder_is)))
      made_turn (Err refuses.Made) s = turns (Err refuses.Made) s (some_made t) (then_counted (some_made t)) refl refl refl refl (
        s.memory,
        is_root_of,
        record {
          quiet = record { calls = s.later; faults = s.quiet (λ x. absurd (cc (x))) };
          read = λ none. absurd (cc (none));
          settles = record { at = G.moment d'; from = s.later; to = omega arith; settles = record { each = (Answered, [], refl, refl, refl); agrees = refl } };
          next = refl;
        },
      )
          (λ told_now first c at number_is.
          let m = slot_made (Err refuses.Made) s told_now in
          let x = was_there (G.told d) (G.told d') (G.size d) (G.moment d) (G.moment d') (G.faults d) (G.faults d') first c at s.faults t (root_is_trust read day t made) _ refl m.0 m.1 m.2 (s.quiet (λ x. absurd (cc (x)))) in
          (x.0, x.3 ∙ number_is, sized_chip (Err refuses.Made) s first x.0 x.2, (memory_of (Err refuses.Made) s first c at, is_root_of, x.1)))
      made_turn (Err refuses.DiskFault) s = turns (Err refuses.DiskFault) s some_none (then_counted some_none) refl refl refl refl
          (s.memory, is_root_of, inl (record { failed = record { calls = s.later; faults = s.faults; cause = s.cause refl }; next = refl }))
          (λ told_now first c at number_is. go told_now first c at number_is (slot_made (Err refuses.DiskFault) s told_now))
        where
          go : G.tells d → (first : ℕ) (c : ChipTold) (at : IsChipOf G d first c) (number_is : c.imports ≡ number) → SlotMakes t (reads (G.told d (G.moment d)).bytes) (Err refuses.DiskFault) (G.told d) (G.told d') (G.moment d) (G.moment d')
              → (c' : ChipTold) × (c'.imports ≡ number) × IsChipOf G d' first c' × Answers (Err refuses.DiskFault) c c'
          go told_now first c at number_is (inl looked) =
              let x = left_unread (G.told d) (G.told d') (G.size d) (G.moment d) (G.moment d') (G.faults d) (G.faults d') first c at looked s.faults (s.cause refl) in
              (x.0, x.3 ∙ number_is, sized_chip (Err refuses.DiskFault) s first x.0 x.2, (memory_of (Err refuses.DiskFault) s first c at, is_root_of, inl x.1))
          go told_now first c at number_is (inr m) =
              let x = half_made (G.told d) (G.told d') (G.size d) (G.moment d) (G.moment d') (G.faults d) (G.faults d') first c at s.faults t (root_is_trust read day t made) _ refl m.0 m.1 (s.cause refl) in
              (x.0, x.3 ∙ number_is, sized_chip (Err refuses.DiskFault) s first x.0 x.2, (memory_of (Err refuses.DiskFault) s first c at, is_root_of, inr x.1))
      made_turn (Err refuses.Size) s = let no_memory : is_memory (G.size d) ≡ false = s.sized.0 refl in let never : true ≡ false = sym s.memory ∙ no_memory in absurd (cc (never))
      made_turn (Err refuses.NotRoot) s = let none : root_trust read day ≡ None = (s.root.0 refl).1 in let never : Some t ≡ None = sym made ∙ none in absurd (cc (never))

    -- the certificate makes no trust
    no_root : root_trust read day ≡ None → (r : Result (Unit {0}) MakeRefusal) → Said r → Turns r
    no_root none r s =
        let is : r ≡ Err refuses.NotRoot = s.root.1 (s.memory, none) in
        subst (λ (x : Result (Unit {0}) MakeRefusal). Turns x) (sym is)
        (still_turn G d d' (untouched_by G d d' (s.untouched (inr is))) (Answers (Err refuses.NotRoot)) (λ c size. (ap is_memory size ∙ s.memory, none, refl)) number)

    pub make_turn : (r : Result (Unit {0}) MakeRefusal) → Said r → Turns r
    make_turn r s = go (root_trust read day) refl
      where
        go : (o : Option Trust) → root_trust read day ≡ o → Turns r
        go None e = no_root e r s
        go (Some t) e = made_turn t e r s

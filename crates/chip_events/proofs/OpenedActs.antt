-- What an opening does to a chip's acts: it settles what was left open, and is an act of its own.
use Rattle.std.proofs.Common.{◌≡◌, inl, inr, ℕ, ◌<◌, ◌≤◌, List, [], ◌∷◌, Some, None, refl, sym, ◌∙◌, ap, subst, arith, ⊎_elim}
use Rattle.chip_verify.specs.Trust.{Trust}
use Rattle.chip_verify.specs.Session.{SessionValue, no_session}
use Rattle.chip_slots.specs.Image.{trust_read}
use Rattle.chip_slots.specs.Found.{IsLookedAt}
use Rattle.chip_slots.specs.Acts.{Act, Opened, Settling, Answered, Unsettled, Found, Lost, ChipAfter, does, after, trust_of}
use Rattle.chip_slots.specs.Moments.{Kept, Open, act}
use Rattle.chip_slots.proofs.DeviceWork.{own_image}
use Rattle.chip_slots.proofs.RunsOfActs.{still_kept, settled}
use Rattle.chip_slots.specs.Crash.{Standing}
use Rattle.chip_events.specs.Acts.{ChipAct, ChipCall, MakeCall, OpenCall, GiveCall, StandsOn, deed_of, acts_of, standing, SettlesOne, Settles, IsKnownBy, AreKnownBy, AreInOrder, AllStandOn}
use Rattle.chip_events.specs.Held.{IsHeldAs, AreHeld, IsUntil, AreUntil, IsReadAs, AreReadAs, AreSince}

-- ---- what an opening leaves

pub trust_has : (o : ChipAfter) (t : Trust) → trust_of o ≡ Some t → (s : SessionValue) × (o ≡ Some (t, s))
trust_has None t e = let no : None ≡ Some t = e in absurd (cc (no))
trust_has (Some x) t e = let same : x.0 ≡ t = cc in (x.1, ap (λ (u : Trust). Some (u, x.1)) same)

pub opened_has : (older : List Act) (t : Trust) → trust_of (after older) ≡ Some t → does Opened (after older) ≡ Some (t, no_session)
opened_has older t e = let h = trust_has (after older) t e in ap (does Opened) h.1

-- ---- what was known

known_one : (s : Settling) (a b : ℕ) → a ≤ b → IsKnownBy a s → IsKnownBy b s
known_one Answered a b le k = tt
known_one Unsettled a b le k = k
known_one (Found n) a b le k = omega (arith, le, k)
known_one (Lost n) a b le k = omega (arith, le, k)

pub known_later : (acts : List ChipAct) (a b : ℕ) → a ≤ b → AreKnownBy a acts → AreKnownBy b acts
known_later [] a b le k = tt
known_later (x ∷ acts) a b le k = (k.0, omega (arith, le, k.1), known_one x.settling a b le k.2, known_later acts a b le k.3)

settle_same : (s : Settling) (at b : ℕ) → IsKnownBy b s → SettlesOne at s s
settle_same Answered at b k = refl
settle_same Unsettled at b k = absurd k
settle_same (Found n) at b k = refl
settle_same (Lost n) at b k = refl

settles_same : (acts : List ChipAct) (at b : ℕ) → AreKnownBy b acts → Settles at acts acts
settles_same [] at b k = refl
settles_same (a ∷ acts) at b k = (a.settling, acts, settle_same a.settling at b k.2, settles_same acts at b k.3, refl)

-- ---- what openings have read stays told

read_one : (call : ChipCall) (told told' : ℕ → Standing) (at : ℕ) → told' at ≡ told at → IsReadAs told at call → IsReadAs told' at call
read_one (OpenCall t) told told' at same is = ap (λ (s : Standing). trust_read s.bytes) same ∙ is
read_one (MakeCall t result) told told' at same is = tt
read_one (GiveCall bytes verdict number result) told told' at same is = tt

pub read_on : (acts : List ChipAct) (told told' : ℕ → Standing) (n : ℕ) → ((m : ℕ) → m ≤ n → told' m ≡ told m) → AreUntil n acts → AreReadAs told acts → AreReadAs told' acts
read_on [] told told' n keeps until are = tt
read_on (a ∷ acts) told told' n keeps until are = (read_one a.call told told' a.to (keeps a.to until.0) are.0, read_on acts told told' n keeps until.2 are.1)

stands_settled : (call : ChipCall) (s s' : Settling) (older : List Act) → s ≡ Unsettled → StandsOn call s older → StandsOn call s' older
stands_settled (MakeCall t result) s s' older is on = on
stands_settled (OpenCall t) s s' older is on = let never : Answered ≡ Unsettled = sym on.0 ∙ is in absurd (cc (never))
stands_settled (GiveCall bytes verdict number result) s s' older is on = tt

-- ---- the acts as a reading of all slots leaves them

pub record Settled (told : ℕ → Standing) (first n1 : ℕ) (acts : List ChipAct) : Type 0 where
  pub now : List ChipAct
  pub settles : Settles n1 acts now
  pub kept : Kept told first n1 (acts_of now) (standing now)
  pub known : AreKnownBy n1 now
  pub order : AreInOrder now
  pub stand_on : AllStandOn now
  pub read_as : AreReadAs told now
  pub since : AreSince first now

pub agrees : (told : ℕ → Standing) (first n1 : ℕ) (acts : List ChipAct) (s : Settled told first n1 acts) → trust_read (told n1).bytes ≡ trust_of (after (standing s.now))
agrees told first n1 acts s = s.kept.now (told n1).bytes (own_image (told n1))

module _ (told told' : ℕ → Standing) (first n0 n1 : ℕ) (looked : IsLookedAt told told' n0 n1) (more : n0 < n1) (clean : (told' n1).pending ≡ []) where
  with_top : (a : ChipAct) (acts : List ChipAct) (s : Settling) → SettlesOne n1 a.settling s → IsKnownBy n1 s → a.to ≤ n0 → AreInOrder (a ∷ acts) → StandsOn a.call s (standing acts) × AllStandOn acts → AreReadAs told' (a ∷ acts) → AreSince first (a ∷ acts) → Kept told' first n1 (acts_of (record a { settling = s } ∷ acts)) (standing (record a { settling = s } ∷ acts)) → Settled told' first n1 (a ∷ acts)
  with_top a acts s settles known until order stands are since kept =
      let below : AreKnownBy n1 acts = known_later acts a.to n1 (omega (arith, until, more)) order.1 in
      record {
        now = record a { settling = s } ∷ acts;
        settles = (s, acts, settles, settles_same acts n1 n1 below, refl);
        kept = kept;
        known = (order.0, omega (arith, until, more), known, below);
        order = order;
        stand_on = stands;
        read_as = are;
        since = since;
      }

  pub settle_acts : (acts : List ChipAct) → AreHeld told first n0 acts → AreInOrder acts → AreUntil n0 acts → AllStandOn acts → AreReadAs told acts → AreSince first acts → Settled told' first n1 acts
  settle_acts [] held order until stands are since = record { now = []; settles = refl; kept = still_kept told told' first n0 n1 [] [] looked held; known = tt; order = tt; stand_on = tt; read_as = tt; since = tt }
  settle_acts (a ∷ acts) held order until stands are since = go a.settling refl held until.1
    where
      are_now : AreReadAs told' (a ∷ acts)
      are_now = read_on (a ∷ acts) told told' n0 looked.works.keeps until are

      kept_on : (s : Settling) → a.settling ≡ s → IsKnownBy n1 s → SettlesOne n1 s s → Kept told first n0 (acts_of (a ∷ acts)) (standing (a ∷ acts)) → Settled told' first n1 (a ∷ acts)
      kept_on s is known same k = with_top a acts a.settling (subst (λ (x : Settling). SettlesOne n1 x x) (sym is) same) (subst (IsKnownBy n1) (sym is) known) until.0 order stands are_now since (still_kept told told' first n0 n1 _ _ looked k)

      left_open : a.settling ≡ Unsettled → Open told first n0 (acts_of acts) (standing acts) (deed_of a.call) a.from a.to → Settled told' first n1 (a ∷ acts)
      left_open is k = ⊎_elim
          (λ (found : Kept told' first n1 (act (deed_of a.call) a.from a.to (Found n1) ∷ acts_of acts) (act (deed_of a.call) a.from a.to (Found n1) ∷ standing acts)). with_top a acts (Found n1) (subst (λ (x : Settling). SettlesOne n1 x (Found n1)) (sym is) (inl refl)) (omega arith) until.0 order (stands_settled a.call a.settling (Found n1) (standing acts) is stands.0, stands.1) are_now since found)
          (λ (lost : Kept told' first n1 (act (deed_of a.call) a.from a.to (Lost n1) ∷ acts_of acts) (standing acts)). with_top a acts (Lost n1) (subst (λ (x : Settling). SettlesOne n1 x (Lost n1)) (sym is) (inr refl)) (omega arith) until.0 order (stands_settled a.call a.settling (Lost n1) (standing acts) is stands.0, stands.1) are_now since lost)
          (settled told told' first n0 n1 (acts_of acts) (standing acts) looked (deed_of a.call) a.from a.to k more clean)

      go : (s : Settling) → a.settling ≡ s → IsHeldAs s told first n0 a acts → IsUntil n0 s → Settled told' first n1 (a ∷ acts)
      go Answered is k u = kept_on Answered is tt refl k
      go (Found n) is k u = kept_on (Found n) is (omega (arith, u, more)) refl k
      go (Lost n) is k u = kept_on (Lost n) is (omega (arith, u, more)) refl k
      go Unsettled is k u = left_open is k

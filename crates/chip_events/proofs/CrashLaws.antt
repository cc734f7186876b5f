-- What a crash leaves of a chip that is what its disk tells.
use Rattle.std.proofs.Common.{◌≡◌, ◌⊎◌, inl, inr, ℕ, ◌<◌, ◌≤◌, List, [], ◌∷◌, ◌++◌, Some, None, refl, sym, ◌∙◌, ap, subst, arith, ⊎_elim}
use Rattle.eac_base.specs.declared.acks.Ack.{Ack}
use Rattle.chip_verify.specs.declared.trust_point.TrustPoint.{TrustPoint}
use Rattle.chip_verify.specs.Trust.{Trust, IsTrust, points}
use Rattle.chip_verify.specs.Session.{SessionValue, no_session}
use Rattle.chip_verify.specs.Later.{Later, IsAmong}
use Rattle.cvc_grammar.specs.ReadingOrder.{read_cert}
use Rattle.chip_slots.specs.Crash.{Standing, Crash}
use Rattle.chip_slots.specs.Image.{trust_read}
use Rattle.chip_slots.specs.Acts.{Act, Deed, Opened, Given, given, Settling, Answered, Unsettled, Found, Lost, ChipAfter, does, after, trust_of, MayStand, MayMiss, IsTaken, IsKnown, IsSure, NoneSure, Fits, IsMaking, NoMaking}
use Rattle.chip_slots.specs.Moments.{MayRead, act}
use Rattle.chip_slots.proofs.DeviceWork.{own_image}
use Rattle.chip_slots.proofs.RunsOfActs.{fits_of, not_sure}
use Rattle.chip_events.specs.Acts.{ChipAct, ChipCall, MakeCall, OpenCall, GiveCall, deed_of, act_of, acts_of, stands_with, standing, IsKnownBy, AreKnownBy, AreInOrder, StandsOn, AllStandOn, IsIn}
use Rattle.chip_events.specs.Told.{ChipTold}
use Rattle.chip_events.specs.Held.{IsHeldAs, AreHeld, AreSince, AreReadAs, IsReadAs, IsChipAt}
use Rattle.chip_events.proofs.OpenedActs.{trust_has, opened_has}
use Rattle.chip_events.specs.Crashes.{IsThere, WasRead, IsPrefix, CrashLeavesAPrefix, NeverFalls, NeverReturns, OpeningsRead}

-- ---- each image so far

pub each_read : (acts : List ChipAct) (told : ℕ → Standing) (first n m : ℕ) (image : List ℕ) → AreHeld told first n acts → first ≤ m → m ≤ n → Crash (told m) image → MayRead (acts_of acts) m (trust_read image)
each_read [] told first n m image held from to crash = held.each m image from to crash
each_read (a ∷ acts) told first n m image held from to crash = go a.settling refl held
  where
    go : (s : Settling) → a.settling ≡ s → IsHeldAs s told first n a acts → MayRead (acts_of (a ∷ acts)) m (trust_read image)
    go Answered is k = k.each m image from to crash
    go (Found at) is k = k.each m image from to crash
    go (Lost at) is k = k.each m image from to crash
    go Unsettled is k = subst (λ (s : Settling). MayRead (act (deed_of a.call) a.from a.to s ∷ acts_of acts) m (trust_read image)) (sym is) (k.each m image from to crash)

-- ---- what is sure is in the prefix

sure_taken : (acts : List Act) (m : ℕ) (taken : List Act) → IsTaken acts m taken → (x : Act) → IsIn x acts → IsSure x m → IsIn x taken
sure_taken [] m taken t x is sure = absurd is
sure_taken (a ∷ acts) m taken (inl t) x (inl is) sure = subst (IsIn x) (sym t.3) (inl is)
sure_taken (a ∷ acts) m taken (inl t) x (inr below) sure = subst (IsIn x) (sym t.3) (inr (sure_taken acts m t.0 t.4 x below sure))
sure_taken (a ∷ acts) m taken (inr t) x (inl is) sure = absurd (not_sure a m t.0 (subst (λ (y : Act). IsSure y m) is sure))
sure_taken (a ∷ acts) m taken (inr t) x (inr below) sure = sure_taken acts m taken t.1 x below sure

in_kept : (newest kept : List Act) (m : ℕ) → NoneSure newest m → (x : Act) → IsIn x (newest ++ kept) → IsSure x m → IsIn x kept
in_kept [] kept m none x is sure = is
in_kept (a ∷ newest) kept m none x (inl is) sure = absurd (none.0 (subst (λ (y : Act). IsSure y m) is sure))
in_kept (a ∷ newest) kept m none x (inr is) sure = in_kept newest kept m none.1 x is sure

act_in : (acts : List ChipAct) (c : ChipAct) → IsIn c acts → IsIn (act_of c) (acts_of acts)
act_in [] c is = is
act_in (a ∷ acts) c (inl is) = inl (ap act_of is)
act_in (a ∷ acts) c (inr below) = inr (act_in acts c below)

begun_first : (acts : List ChipAct) (c : ChipAct) → AreInOrder acts → IsIn c acts → c.from ≤ c.to
begun_first [] c order is = absurd is
begun_first (a ∷ acts) c order (inl is) = subst (λ (x : ChipAct). x.from ≤ x.to) (sym is) order.0
begun_first (a ∷ acts) c order (inr below) = begun_first acts c order.2 below

known_in : (acts : List ChipAct) (c : ChipAct) (at : ℕ) → AreKnownBy at acts → IsIn c acts → (c.from ≤ c.to) × (c.to ≤ at) × IsKnownBy at c.settling
known_in [] c at known is = absurd is
known_in (a ∷ acts) c at known (inl is) = subst (λ (x : ChipAct). (x.from ≤ x.to) × (x.to ≤ at) × IsKnownBy at x.settling) (sym is) (known.0, known.1, known.2)
known_in (a ∷ acts) c at known (inr below) = known_in acts c at known.3 below

sure_by : (s : Settling) (to at m : ℕ) → IsThere s → to ≤ at → IsKnownBy at s → at ≤ m → IsKnown s to m
sure_by Answered to at m there le known by = omega (arith, le, by)
sure_by (Found n) to at m there le known by = omega (arith, known, by)
sure_by Unsettled to at m there le known by = absurd there
sure_by (Lost n) to at m there le known by = absurd there

read_sure : (acts : List ChipAct) (m : ℕ) (c : ChipAct) → AreInOrder acts → WasRead acts m c → IsSure (act_of c) m × IsIn c acts
read_sure [] m c order r = absurd r
read_sure (a ∷ acts) m c order (inl r) =
    let k = known_in acts c a.to order.1 r.2 in
    ((omega (arith, k.0, k.1, r.1), sure_by c.settling c.to a.to m r.3 k.1 k.2 r.1), inr r.2)
read_sure (a ∷ acts) m c order (inr r) = let s = read_sure acts m c order.2 r in (s.0, inr s.1)

answered_sure : (c : ChipAct) (m : ℕ) → c.settling ≡ Answered → c.from ≤ c.to → c.to ≤ m → IsSure (act_of c) m
answered_sure c m is begun le = (omega (arith, begun, le), subst (λ (s : Settling). IsKnown s c.to m) (sym is) le)

pub prefix_of : (chip : ℕ) (acts : List ChipAct) (acks : List Ack) (m : ℕ) (image : List ℕ) → AreInOrder acts → Fits (acts_of acts) m image → IsPrefix chip acts acks m image
prefix_of chip acts acks m image order f = record {
  taken = f.taken;
  newest = f.newest;
  kept = f.kept;
  is_taken = f.is_taken;
  split = f.split;
  reads = f.reads;
  made = λ c is making answered le. in_prefix c is (answered_sure c m answered (begun_first acts c order is) le);
  acknowledged = λ c a is of chip_is ack le. in_prefix c is (answered_sure c m ack.answered (begun_first acts c order is) (omega (arith, ack.calls, le)));
  was_read = λ c r. let s = read_sure acts m c order r in in_prefix c s.1 s.0;
}
  where
    in_prefix : (c : ChipAct) → IsIn c acts → IsSure (act_of c) m → IsIn (act_of c) f.kept
    in_prefix c is sure = in_kept f.newest f.kept m f.unsure (act_of c) (subst (IsIn (act_of c)) f.split (sure_taken (acts_of acts) m f.taken f.is_taken (act_of c) (act_in acts c is) sure)) sure

pub crash_leaves : (chip : ℕ) (told : ℕ → Standing) (size calls faults first : ℕ) (c : ChipTold) (acks : List Ack) → IsChipAt told size calls faults first c → CrashLeavesAPrefix chip told first calls c.acts acks
crash_leaves chip told size calls faults first c acks at m image from to crash = prefix_of chip c.acts acks m image at.order (fits_of (acts_of c.acts) m image (each_read c.acts told first calls m image at.images from to crash))

-- ---- what stands

some_is : (a b : Trust × SessionValue) → Some a ≡ Some b → a ≡ b
some_is a b e = cc

never : (x : Trust × SessionValue) → None ≡ Some x → ⊥
never x e = cc

abbrev GoesOn : Type 0
GoesOn = (more acts : List Act) → NoMaking more → (t : Trust) (s : SessionValue) → after acts ≡ Some (t, s) → IsTrust t → (ts : Trust × SessionValue) × (after (more ++ acts) ≡ Some ts) × Later t ts.0 × IsTrust ts.0

abbrev Images : Type 0
Images = (a : Act) (older below : List Act) (m : ℕ) → IsSure a m → ((t : List Act) → IsTaken older m t → t ≡ below) → (newer : List Act) (image : List ℕ) (t : Trust) (s : SessionValue) →
    NoMaking newer → after (a ∷ below) ≡ Some (t, s) → IsTrust t → MayRead (newer ++ a ∷ older) m (trust_read image) →
    (t' : Trust) × (trust_read image ≡ Some t') × Later t t'

-- the trust that an act leaves
module _ (goes_on : GoesOn) where
  left_by : (call : ChipCall) (settling : Settling) (older : List Act) → StandsOn call settling older → ((u : Trust) (r : SessionValue) → after older ≡ Some (u, r) → IsTrust u) → (x : ChipAfter) → after older ≡ x → (t : Trust) (s : SessionValue) → does (deed_of call) x ≡ Some (t, s) → IsTrust t
  left_by (MakeCall u result) settling older on rec x is t s e = subst IsTrust (ap (λ (y : Trust × SessionValue). y.0) (some_is (u, no_session) (t, s) e)) on.1
  left_by (OpenCall u) settling older on rec None is t s e = absurd (never (t, s) e)
  left_by (OpenCall u) settling older on rec (Some y) is t s e = subst IsTrust (ap (λ (z : Trust × SessionValue). z.0) (some_is (y.0, no_session) (t, s) e)) (rec y.0 y.1 is)
  left_by (GiveCall bytes verdict number result) settling older on rec None is t s e = absurd (never (t, s) e)
  left_by (GiveCall bytes verdict number result) settling older on rec (Some y) is t s e =
      let n = goes_on (act (Given bytes verdict) 0 0 Answered ∷ []) older ((λ never. never), tt) y.0 y.1 is (rec y.0 y.1 is) in
      subst IsTrust (ap (λ (z : Trust × SessionValue). z.0) (some_is n.0 (t, s) (sym n.1 ∙ ap (does (Given bytes verdict)) is ∙ e))) n.3

  pub trust_stands : (acts : List ChipAct) → AllStandOn acts → (t : Trust) (s : SessionValue) → after (standing acts) ≡ Some (t, s) → IsTrust t
  trust_stands [] on t s e = absurd (never (t, s) e)
  trust_stands (a ∷ acts) on t s e = go (trust_stands acts on.1) a.settling e
    where
      go : ((u : Trust) (r : SessionValue) → after (standing acts) ≡ Some (u, r) → IsTrust u) → (k : Settling) → after (stands_with k (act_of a) (standing acts)) ≡ Some (t, s) → IsTrust t
      go rec Answered e = left_by a.call a.settling (standing acts) on.0 rec (after (standing acts)) refl t s e
      go rec (Found n) e = left_by a.call a.settling (standing acts) on.0 rec (after (standing acts)) refl t s e
      go rec Unsettled e = rec t s e
      go rec (Lost n) e = rec t s e

-- ---- above an opening

abbrev HasTrust : ChipAfter → Type 0
HasTrust o = (x : Trust × SessionValue) × (o ≡ Some x)

does_has : (call : ChipCall) (settling : Settling) (older : List Act) → StandsOn call settling older → HasTrust (after older) → (IsMaking (deed_of call) → ⊥) × HasTrust (does (deed_of call) (after older))
does_has (MakeCall u result) settling older on h = let no : None ≡ Some h.0.0 = sym on.0 ∙ ap trust_of h.1 in absurd (cc (no))
does_has (OpenCall u) settling older on h = ((λ x. x), ((h.0.0, no_session), ap (does Opened) h.1))
does_has (GiveCall bytes verdict number result) settling older on h = ((λ x. x), (given h.0.0 h.0.1 (read_cert bytes) verdict, ap (does (Given bytes verdict)) h.1))

above : (newer : List ChipAct) (c : ChipAct) (older : List ChipAct) (t : Trust) → c.call ≡ OpenCall t → AllStandOn (newer ++ c ∷ older) → NoMaking (acts_of newer) × HasTrust (after (standing (newer ++ c ∷ older)))
above [] c older t is on = (tt, go c.call c.settling on.0 is)
  where
    go : (call : ChipCall) (k : Settling) → StandsOn call k (standing older) → call ≡ OpenCall t → HasTrust (after (stands_with k (act (deed_of call) c.from c.to k) (standing older)))
    go call k on is = first k (subst (λ (x : ChipCall). StandsOn x k (standing older)) is on) (ap deed_of is)
      where
        first : (k : Settling) → StandsOn (OpenCall t) k (standing older) → deed_of call ≡ Opened → HasTrust (after (stands_with k (act (deed_of call) c.from c.to k) (standing older)))
        first k on deed =
            let is_open : does (deed_of call) (after (standing older)) ≡ Some (t, no_session) = ap (λ (d : Deed). does d (after (standing older))) deed ∙ opened_has (standing older) t on.1 in
            ((t, no_session), ap (λ (j : Settling). after (stands_with j (act (deed_of call) c.from c.to k) (standing older))) on.0 ∙ is_open)
above (a ∷ newer) c older t is on =
    let rec = above newer c older t is on.1 in
    let d = does_has a.call a.settling (standing (newer ++ c ∷ older)) on.0 rec.1 in
    ((d.0, rec.0), go a.settling rec.1 d.1)
  where
    go : (k : Settling) → HasTrust (after (standing (newer ++ c ∷ older))) → HasTrust (does (deed_of a.call) (after (standing (newer ++ c ∷ older)))) → HasTrust (after (stands_with k (act_of a) (standing (newer ++ c ∷ older))))
    go Answered below here = here
    go (Found n) below here = here
    go Unsettled below here = below
    go (Lost n) below here = below

-- below an opening each act is known, so that one list alone was taken
only_one : (s : Settling) (x : Act) (A st : List Act) (from at m : ℕ) → from ≤ at → IsKnownBy at s → at ≤ m → ((t : List Act) → IsTaken A m t → t ≡ st) → (taken : List Act) → (((rest : List Act) × (from ≤ m) × MayStand s m × (taken ≡ x ∷ rest) × IsTaken A m rest) ⊎ (((m < from) ⊎ MayMiss s m) × IsTaken A m taken)) → taken ≡ stands_with s x st
only_one Answered x A st from at m begun known le rec taken (inl t) = t.3 ∙ ap (λ (l : List Act). x ∷ l) (rec t.0 t.4)
only_one Answered x A st from at m begun known le rec taken (inr t) = ⊎_elim (λ (lt : m < from). absurd (omega (arith, lt, begun, le))) (λ (no : ⊥). absurd no) t.0
only_one (Found n) x A st from at m begun known le rec taken (inl t) = t.3 ∙ ap (λ (l : List Act). x ∷ l) (rec t.0 t.4)
only_one (Found n) x A st from at m begun known le rec taken (inr t) = ⊎_elim (λ (lt : m < from). absurd (omega (arith, lt, begun, le))) (λ (lt : m < n). absurd (omega (arith, lt, known, le))) t.0
only_one (Lost n) x A st from at m begun known le rec taken (inl t) = absurd (omega (arith, t.2, known, le))
only_one (Lost n) x A st from at m begun known le rec taken (inr t) = rec taken t.1
only_one Unsettled x A st from at m begun known le rec taken t = absurd known

only_standing : (acts : List ChipAct) (at m : ℕ) → AreKnownBy at acts → at ≤ m → (t : List Act) → IsTaken (acts_of acts) m t → t ≡ standing acts
only_standing [] at m known le t is = is
only_standing (a ∷ acts) at m known le t is = only_one a.settling (act_of a) (acts_of acts) (standing acts) a.from at m (omega (arith, known.0, known.1)) known.2 le (only_standing acts at m known.3 le) t is

-- ---- splits

split : (acts : List ChipAct) (c : ChipAct) → IsIn c acts → (newer : List ChipAct) × (older : List ChipAct) × (acts ≡ newer ++ c ∷ older)
split [] c is = absurd is
split (a ∷ acts) c (inl is) = ([], acts, ap (λ (x : ChipAct). x ∷ acts) (sym is))
split (a ∷ acts) c (inr below) = let s = split acts c below in (a ∷ s.0, s.1, ap (λ (l : List ChipAct). a ∷ l) s.2)

acts_append : (newer older : List ChipAct) → acts_of (newer ++ older) ≡ acts_of newer ++ acts_of older
acts_append [] older = refl
acts_append (a ∷ newer) older = ap (λ (l : List Act). act_of a ∷ l) (acts_append newer older)

stand_below : (newer : List ChipAct) (c : ChipAct) (older : List ChipAct) → AllStandOn (newer ++ c ∷ older) → StandsOn c.call c.settling (standing older) × AllStandOn older
stand_below [] c older on = on
stand_below (a ∷ newer) c older on = stand_below newer c older on.1

order_below : (newer : List ChipAct) (c : ChipAct) (older : List ChipAct) → AreInOrder (newer ++ c ∷ older) → (c.from ≤ c.to) × AreKnownBy c.to older
order_below [] c older o = (o.0, o.1)
order_below (a ∷ newer) c older o = order_below newer c older o.2

since_in : (acts : List ChipAct) (c : ChipAct) (first : ℕ) → AreSince first acts → IsIn c acts → first ≤ c.to
since_in [] c first s is = absurd is
since_in (a ∷ acts) c first s (inl is) = subst (λ (x : ChipAct). first ≤ x.to) (sym is) s.0
since_in (a ∷ acts) c first s (inr below) = since_in acts c first s.1 below

-- ---- no date falls, and no point returns

stands_open : (call : ChipCall) (k : Settling) (older : List Act) (t : Trust) → call ≡ OpenCall t → StandsOn call k older → (k ≡ Answered) × (trust_of (after older) ≡ Some t)
stands_open call k older t is on = subst (λ (x : ChipCall). StandsOn x k older) is on

module _ (goes_on : GoesOn) (images : Images) (chip : ℕ) (told : ℕ → Standing) (size calls faults first : ℕ) (c : ChipTold) (at : IsChipAt told size calls faults first c) where
  opened_trust : (d : ChipAct) (t : Trust) → IsIn d c.acts → d.call ≡ OpenCall t → IsTrust t
  opened_trust d t among is =
      let sp = split c.acts d among in
      let on = stand_below sp.0 d sp.1 (subst AllStandOn sp.2 at.stand_on) in
      let opened = stands_open d.call d.settling (standing sp.1) t is on.0 in
      let h = trust_has (after (standing sp.1)) t opened.1 in
      trust_stands goes_on sp.1 on.1 t h.0 h.1

  pub never_falls : NeverFalls chip told first calls c.acts
  never_falls d t m image read le to crash =
      let sp = split c.acts d read.among in
      let stands = subst AllStandOn sp.2 at.stand_on in
      let on = stand_below sp.0 d sp.1 stands in
      let opened = stands_open d.call d.settling (standing sp.1) t read.opened on.0 in
      let order = order_below sp.0 d sp.1 (subst AreInOrder sp.2 at.order) in
      let up = above sp.0 d sp.1 t read.opened stands in
      let may : MayRead (acts_of sp.0 ++ act_of d ∷ acts_of sp.1) m (trust_read image) = subst (λ (l : List Act). MayRead l m (trust_read image)) (ap acts_of sp.2 ∙ acts_append sp.0 (d ∷ sp.1)) (each_read c.acts told first calls m image at.images (omega (arith, since_in c.acts d first at.since read.among, le)) to crash) in
      images (act_of d) (acts_of sp.1) (standing sp.1) m (answered_sure d m opened.0 order.0 le) (only_standing sp.1 d.to m order.1 le) (acts_of sp.0) image t no_session up.0
      (ap (λ (x : Deed). does x (after (standing sp.1))) (ap deed_of read.opened) ∙ opened_has (standing sp.1) t opened.1) (opened_trust d t read.among read.opened) may

  pub never_returns : ((t u v : Trust) (p : TrustPoint) → IsTrust t → IsTrust u → Later t u → Later u v → IsAmong p (points t) → (IsAmong p (points u) → ⊥) → IsAmong p (points v) → ⊥) → NeverReturns chip told first calls c.acts
  never_returns never_back d e t u v p m image read next before le to crash is among gone =
      let mid = never_falls d t e.to (told e.to).bytes read before (omega (arith, le, to)) (own_image (told e.to)) in
      let last = never_falls e u m image next le to crash in
      let mid_is : mid.0 ≡ u = some_trust mid.0 u (sym mid.1 ∙ next.trust) in
      let last_is : last.0 ≡ v = some_trust last.0 v (sym last.1 ∙ is) in
      never_back t u v p (opened_trust d t read.among read.opened) (opened_trust e u next.among next.opened) (subst (Later t) mid_is mid.2) (subst (Later u) last_is last.2) among gone
    where
      some_trust : (a b : Trust) → Some a ≡ Some b → a ≡ b
      some_trust a b e = cc

read_in : (acts : List ChipAct) (told : ℕ → Standing) (c : ChipAct) (t : Trust) → AreReadAs told acts → IsIn c acts → c.call ≡ OpenCall t → trust_read (told c.to).bytes ≡ Some t
read_in [] told c t are is opened = absurd is
read_in (a ∷ acts) told c t are (inl is) opened = subst (λ (call : ChipCall). IsReadAs told c.to call) opened (subst (λ (x : ChipAct). IsReadAs told x.to x.call) (sym is) are.0)
read_in (a ∷ acts) told c t are (inr below) opened = read_in acts told c t are.1 below opened

pub openings_read : (chip : ℕ) (told : ℕ → Standing) (size calls faults first : ℕ) (c : ChipTold) → IsChipAt told size calls faults first c → OpeningsRead chip told first calls c.acts
openings_read chip told size calls faults first c at d t among opened = record { among = among; opened = opened; trust = read_in c.acts told d t at.openings among opened }

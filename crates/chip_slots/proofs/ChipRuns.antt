-- A chip over a run of calls, from what the calls' contracts say.
use Rattle.std.proofs.Common.{◌≡◌, ◌⊎◌, inl, inr, ℕ, ◌+◌, ◌<◌, ◌≤◌, List, [], ◌∷◌, ◌++◌, Some, None, Result, Ok, Err, Bool, false, refl, sym, ◌∙◌, ap, subst, arith, ⊎_elim}
use Rattle.std.proofs.lemmas.Bool.{cases_lt}
use Rattle.cvc_grammar.specs.ReadingOrder.{read_cert}
use Rattle.cvc_grammar.specs.declared.certificate.Cert.{Cert}
use Rattle.cvc_grammar.specs.declared.certificate.CertBody.{CertBody}
use Rattle.cvc_grammar.specs.declared.refusal.CvcRefusal.{CvcRefusal}
use Rattle.signature_provider.specs.Provider.{Says}
use Rattle.chip_verify.specs.declared.answers.Imported.{Imported}
use Rattle.chip_verify.specs.declared.answers.Judged.{Judged}
use Rattle.chip_verify.specs.declared.answers.Judged.TheVariants as judges
use Rattle.chip_verify.specs.Trust.{Trust, IsTrust}
use Rattle.chip_verify.specs.Step.{Step}
use Rattle.chip_verify.specs.Later.{Later}
use Rattle.chip_verify.specs.Session.{SessionValue}
use Rattle.chip_slots.specs.declared.answers.ChipRefusal.{ChipRefusal}
use Rattle.chip_slots.specs.declared.answers.ChipRefusal.TheVariants as refusal
use Rattle.chip_slots.specs.Image.{reads, trust_read}
use Rattle.chip_slots.specs.Ready.{EachImage, ReadsEither, IsStable}
use Rattle.chip_slots.specs.Found.{IsLookedAt}
use Rattle.chip_slots.specs.Crash.{Standing, Crash}
use Rattle.chip_slots.specs.Acts.{Deed, Made, Opened, Given, ChipAfter, Settling, Answered, Unsettled, Found, Lost, Act, does, after, trust_of, MayStand, MayMiss, IsTaken, NoMaking}
use Rattle.chip_slots.specs.Moments.{MayRead, act, Kept, Open}
use Rattle.chip_slots.specs.ActsOf.{verdict_of, IsActOf, IsOpenAct}
use Rattle.chip_slots.specs.Chips.{ChipValue, read_as, IsOpened, Opens, IsFirstWritten, Follows, Moves, ImportsRead, ImportsWhere, Imports}
use Rattle.chip_slots.specs.Runs.{IsBlank, StandsFor, IsAnswer, IsSettledBy, AreSettledBy}
use Rattle.chip_slots.proofs.DeviceWork.{clean_image, own_image, no_work}
use Rattle.chip_slots.proofs.RunsOfActs.{settled, still_kept, trust_in_reading, opened_same, earlier_kept, earlier_open}
use Rattle.chip_slots.proofs.ImportActs.{import_act}
use Rattle.chip_slots.proofs.LaterActs.{no_way_back, read_has}

-- ---- the start

pub first_kept : (told : ℕ → Standing) (calls : ℕ) → IsBlank (told calls) → Kept told calls calls [] []
first_kept told calls blank = record {
  standing = λ m le. refl;
  each = λ m c from to crash. let is : m ≡ calls = omega (arith, from, to) in ap trust_in_reading (blank c (subst (λ (j : ℕ). Crash (told j) c) is crash));
  now = λ c crash. ap trust_in_reading (blank c crash);
}

-- ---- what was taken is one list, once all is settled

clash : (a : Act) (n m : ℕ) → n ≤ m → a.from ≤ n → IsSettledBy n a.settling → MayStand a.settling m → ((m < a.from) ⊎ MayMiss a.settling m) → ⊥
clash a n m le from s stands (inl early) = omega (arith, le, from, early)
clash a n m le from s stands (inr missing) = go a.settling s stands missing
  where
    go : (x : Settling) → IsSettledBy n x → MayStand x m → MayMiss x m → ⊥
    go Answered s st mi = mi
    go Unsettled s st mi = s
    go (Found at) s st mi = omega (arith, le, s, mi)
    go (Lost at) s st mi = omega (arith, le, s, st)

pub taken_once : (acts : List Act) (n m : ℕ) (t u : List Act) → n ≤ m → AreSettledBy n acts → IsTaken acts m t → IsTaken acts m u → t ≡ u
taken_once [] n m t u le s x y = x ∙ sym y
taken_once (a ∷ acts) n m t u le s (inl x) (inl y) = x.3 ∙ ap (λ (l : List Act). a ∷ l) (taken_once acts n m x.0 y.0 le s.2 x.4 y.4) ∙ sym y.3
taken_once (a ∷ acts) n m t u le s (inl x) (inr y) = absurd (clash a n m le s.0 s.1 x.2 y.0)
taken_once (a ∷ acts) n m t u le s (inr x) (inl y) = absurd (clash a n m le s.0 s.1 y.2 x.0)
taken_once (a ∷ acts) n m t u le s (inr x) (inr y) = taken_once acts n m t u le s.2 x.1 y.1

-- ---- an opening is an act, with its own start

pub opening_kept : (told : ℕ → Standing) (first n0 n1 : ℕ) (acts taken : List Act) → Kept told first n1 acts taken → n0 ≤ n1 → Kept told first n1 (act Opened n0 n1 Answered ∷ acts) (act Opened n0 n1 Answered ∷ taken)
opening_kept told first n0 n1 acts taken k later = record {
  standing = λ m le. inl (taken, omega (arith, later, le), tt, refl, k.standing m le);
  each = λ m c from to crash. ⊎_elim
      (λ (lt : m < n1). inr ((λ sure. omega (arith, sure.1, lt)), k.each m c from to crash))
      (λ (ge : n1 ≤ m). let last : m ≡ n1 = omega (arith, to, ge) in
      inl (taken, omega (arith, later, ge), tt, k.standing m ge, k.now c (subst (λ (j : ℕ). Crash (told j) c) last crash) ∙ opened_same (after taken)))
      (cases_lt m n1);
  now = λ c crash. k.now c crash ∙ opened_same (after taken);
}

trust_has : (o : ChipAfter) (t : Trust) → trust_of o ≡ Some t → (s : SessionValue) × (o ≡ Some (t, s))
trust_has None t e = let no : None ≡ Some t = e in absurd (cc (no))
trust_has (Some x) t e = let same : x.0 ≡ t = cc in (x.1, ap (λ (u : Trust). Some (u, x.1)) same)

-- what was opened stands for its disk
module _ (told : ℕ → Standing) (first n0 n1 : ℕ) (acts taken : List Act) (c : ChipValue) (opened : IsOpened c) (later : n0 ≤ n1) (stable : IsStable (read_as c) (told n1)) where
  pub opened_stands : Kept told first n1 acts taken → StandsFor told first n1 (act Opened n0 n1 Answered ∷ acts) (act Opened n0 n1 Answered ∷ taken) c
  opened_stands k =
      let read : trust_of (after taken) ≡ Some c.state = sym (k.now (told n1).bytes (own_image (told n1))) ∙ ap trust_in_reading stable.read in
      let has = trust_has (after taken) c.state read in
      record {
        kept = opening_kept told first n0 n1 acts taken k later;
        chip = ap (does Opened) has.1 ∙ ap (λ (s : SessionValue). Some (c.state, s)) (sym opened.session);
        disk = stable;
        ready = opened.ready;
      }

module _ (told told' : ℕ → Standing) (first n0 n1 : ℕ) (acts taken : List Act) (c : ChipValue) (opened : IsOpened c) (opens : Opens (Ok c) (reads (told n0).bytes) (told' n1)) (looked : IsLookedAt told told' n0 n1) where
  pub opening_stands : Kept told first n0 acts taken → StandsFor told' first n1 (act Opened n0 n1 Answered ∷ acts) (act Opened n0 n1 Answered ∷ taken) c
  opening_stands k = opened_stands told' first n0 n1 acts taken c opened looked.works.later opens.1 (still_kept told told' first n0 n1 acts taken looked k)

  -- it settles what was left open
  pub opening_settles : (deed : Deed) (from to : ℕ) → n0 < n1 → Open told first n0 acts taken deed from to →
      StandsFor told' first n1 (act Opened n0 n1 Answered ∷ act deed from to (Found n1) ∷ acts) (act Opened n0 n1 Answered ∷ act deed from to (Found n1) ∷ taken) c
      ⊎ StandsFor told' first n1 (act Opened n0 n1 Answered ∷ act deed from to (Lost n1) ∷ acts) (act Opened n0 n1 Answered ∷ taken) c
  opening_settles deed from to begun open_act = ⊎_elim
      (λ (x : Kept told' first n1 (act deed from to (Found n1) ∷ acts) (act deed from to (Found n1) ∷ taken)). inl (opened_stands told' first n0 n1 (act deed from to (Found n1) ∷ acts) (act deed from to (Found n1) ∷ taken) c opened looked.works.later opens.1 x))
      (λ (x : Kept told' first n1 (act deed from to (Lost n1) ∷ acts) taken). inr (opened_stands told' first n0 n1 (act deed from to (Lost n1) ∷ acts) taken c opened looked.works.later opens.1 x))
      (settled told told' first n0 n1 acts taken looked deed from to open_act begun opens.1.clean)

-- ---- an import that was answered

record Imaged (told told' : ℕ → Standing) (n0 n1 : ℕ) (c c' : ChipValue) : Type 0 where
  images : EachImage (ReadsEither (read_as c) (read_as c')) told told' n0 n1
  stable : IsStable (read_as c') (told' n1)
  ready : c'.needs_opening ≡ false

module _ (tells : Type 0) (so : tells) (told told' : ℕ → Standing) (n0 n1 : ℕ) (says : Says) (c c' : ChipValue) (bytes : List ℕ) (stable : IsStable (read_as c) (told n0)) (ready : c.needs_opening ≡ false) where
  abbrev Idle : Type 0
  Idle = c' ≡ c → (told' ≡ told) × (n1 ≡ n0)

  as_it_was : Idle → c' ≡ c → Imaged told told' n0 n1 c c'
  as_it_was idle is = subst (λ (f : ℕ → Standing). Imaged told f n0 n1 c c') (sym (idle is).0) (subst (λ (j : ℕ). Imaged told told n0 j c c') (sym (idle is).1) (subst (λ (x : ChipValue). Imaged told told n0 n0 c x) (sym is) (record {
    images = no_work (ReadsEither (read_as c) (read_as c)) told n0 (λ i crash. inl (ap reads (clean_image (told n0) i stable.clean crash) ∙ stable.read));
    stable = stable;
    ready = ready;
  })))

  moved : (t : Trust) (s : SessionValue) (w what : Imported) → Moves tells told told' n0 n1 c t s w (Ok what) c' → Imaged told told' n0 n1 c c'
  moved t s w what (e, inl x) = subst (λ (v : ChipValue). Imaged told told' n0 n1 c v) (sym x.chip) (record { images = x.leaves so stable; stable = x.keeps so stable; ready = refl })
  moved t s w what (e, inr x) = subst (λ (v : ChipValue). Imaged told told' n0 n1 c v) (sym x.chip) (record { images = x.leaves so stable; stable = x.keeps so stable; ready = refl })

  followed : Idle → (d : Judged) (result : Result Imported ChipRefusal) → IsAnswer result → Follows tells told told' n0 n1 c d result c' → Imaged told told' n0 n1 c c'
  followed idle judges.Held result is x = as_it_was idle x.1
  followed idle (judges.Refused k) result is x = as_it_was idle x.1
  followed idle (judges.Next t s w) (Ok what) is x = moved t s w what x
  followed idle (judges.Next t s w) (Err (refusal.Syntax e)) is x = absurd x
  followed idle (judges.Next t s w) (Err (refusal.Refused k)) is x = absurd x
  followed idle (judges.Next t s w) (Err refusal.NoChip) is x = absurd is
  followed idle (judges.Next t s w) (Err refusal.DiskFault) is x = absurd is
  followed idle (judges.Next t s w) (Err refusal.ProviderFault) is x = absurd is
  followed idle (judges.Next t s w) (Err refusal.NeedsOpen) is x = absurd is
  followed idle (judges.Next t s w) (Err refusal.Worn) is x = absurd is

  read_so : Idle → (r : Result Cert CvcRefusal) (result : Result Imported ChipRefusal) → IsAnswer result → ImportsRead tells told told' n0 n1 says c r result c' → Imaged told told' n0 n1 c c'
  read_so idle (Ok cert) result is (inl j) = followed idle j.judged result is j.follows
  read_so idle (Ok cert) result is (inr u) = as_it_was idle u.chip
  read_so idle (Err e) result is x = as_it_was idle x.1

  imaged : Idle → (result : Result Imported ChipRefusal) → IsAnswer result → Imports tells told told' n0 n1 says c bytes result c' → Imaged told told' n0 n1 c c'
  imaged idle result is x = read_so idle (read_cert bytes) result is (subst (λ (b : Bool). ImportsWhere tells told told' n0 n1 b says c bytes result c') ready x)

-- what was answered is what the act does
does_so : (tells : Type 0) (told told' : ℕ → Standing) (n0 n1 : ℕ) (c c' : ChipValue) (result : Result Imported ChipRefusal) (done : ChipAfter) → IsAnswer result → IsActOf tells told told' n0 n1 c result done c' → done ≡ Some (c'.state, c'.session)
does_so tells told told' n0 n1 c c' (Ok what) done is x = x
does_so tells told told' n0 n1 c c' (Err (refusal.Syntax e)) done is x = x
does_so tells told told' n0 n1 c c' (Err (refusal.Refused k)) done is x = x
does_so tells told told' n0 n1 c c' (Err refusal.NoChip) done is x = absurd is
does_so tells told told' n0 n1 c c' (Err refusal.DiskFault) done is x = absurd is
does_so tells told told' n0 n1 c c' (Err refusal.ProviderFault) done is x = absurd is
does_so tells told told' n0 n1 c c' (Err refusal.NeedsOpen) done is x = absurd is
does_so tells told told' n0 n1 c c' (Err refusal.Worn) done is x = absurd is

module _ (tells : Type 0) (so : tells) (told told' : ℕ → Standing) (first n0 n1 : ℕ) (acts taken : List Act) (says : Says) (c c' : ChipValue) (bytes : List ℕ) (result : Result Imported ChipRefusal) (k : StandsFor told first n0 acts taken c) (x : Imports tells told told' n0 n1 says c bytes result c') where
  deed : Deed
  deed = Given bytes (verdict_of says c bytes)

  is_act : IsActOf tells told told' n0 n1 c result (does (Given bytes (verdict_of says c bytes)) (Some (c.state, c.session))) c'
  is_act = import_act tells told told' n0 n1 says c c' bytes result x

  pub answered_stands : IsAnswer result → (c' ≡ c → (told' ≡ told) × (n1 ≡ n0)) → StandsFor told' first n1 (act (Given bytes (verdict_of says c bytes)) n0 n1 Answered ∷ acts) (act (Given bytes (verdict_of says c bytes)) n0 n1 Answered ∷ taken) c'
  answered_stands is idle =
      let i : Imaged told told' n0 n1 c c' = imaged tells so told told' n0 n1 says c c' bytes k.disk k.ready idle result is x in
      let done : does (Given bytes (verdict_of says c bytes)) (after taken) ≡ Some (c'.state, c'.session) =
      ap (does (Given bytes (verdict_of says c bytes))) k.chip ∙ does_so tells told told' n0 n1 c c' result _ is is_act in
      record {
        kept = earlier_kept told told' first n0 n0 n1 acts taken (Given bytes (verdict_of says c bytes)) (read_as c) (read_as c') k.kept (omega arith) (sym (ap trust_of k.chip)) (sym (ap trust_of done)) i.images i.stable;
        chip = done;
        disk = i.stable;
        ready = i.ready;
      }

pub cut_off_open : (tells : Type 0) (so : tells) (told told' : ℕ → Standing) (first n0 n1 : ℕ) (acts taken : List Act) (says : Says) (c c' : ChipValue) (bytes : List ℕ) → StandsFor told first n0 acts taken c → Imports tells told told' n0 n1 says c bytes (Err refusal.DiskFault) c' → Open told' first n1 acts taken (Given bytes (verdict_of says c bytes)) n0 n1
cut_off_open tells so told told' first n0 n1 acts taken says c c' bytes k x =
    let o : IsOpenAct tells told told' n0 n1 c (does (Given bytes (verdict_of says c bytes)) (Some (c.state, c.session))) = import_act tells told told' n0 n1 says c c' bytes (Err refusal.DiskFault) x in
    let done : does (Given bytes (verdict_of says c bytes)) (after taken) ≡ Some (o.trust, o.session) = ap (does (Given bytes (verdict_of says c bytes))) k.chip ∙ o.does_so in
    earlier_open told told' first n0 n0 n1 acts taken (Given bytes (verdict_of says c bytes)) (read_as c) (Some (o.trust, c.generation + 1)) k.kept (omega arith) (sym (ap trust_of k.chip)) (sym (ap trust_of done)) (o.leaves so k.disk)

-- ---- a making

module _ (told told' : ℕ → Standing) (first n0 n1 : ℕ) (acts taken : List Act) (t : Trust) (f : IsFirstWritten t told told' n0 n1) (k : Kept f.mid first f.found acts taken) (none : trust_of (after taken) ≡ None) where
  pub made_kept : IsStable (Some (t, 0)) (told' n1) → Kept told' first n1 (act (Made t) n0 n1 Answered ∷ acts) (act (Made t) n0 n1 Answered ∷ taken)
  made_kept stable = earlier_kept f.mid told' first n0 f.found n1 acts taken (Made t) None (Some (t, 0)) k f.looked.works.later (sym none) refl f.writes stable

  pub made_open : Open told' first n1 acts taken (Made t) n0 n1
  made_open = earlier_open f.mid told' first n0 f.found n1 acts taken (Made t) None (Some (t, 0)) k f.looked.works.later (sym none) refl f.writes

-- ---- no way back from an opening

module _ (later_same : (t : Trust) → Later t t) (later_then : (t u v : Trust) → IsTrust t → Later t u → Later u v → Later t v) (step_later : (t : Trust) (s : SessionValue) (c : CertBody) (verdict : Bool) (t' : Trust) (s' : SessionValue) → IsTrust t → Step t s c verdict t' s' → Later t t') (step_trust : (t : Trust) (s : SessionValue) (c : CertBody) (verdict : Bool) (t' : Trust) (s' : SessionValue) → IsTrust t → Step t s c verdict t' s' → IsTrust t') where
  pub never_back : (newer older below : List Act) (n0 n m : ℕ) (image : List ℕ) (t : Trust) (s : SessionValue) → NoMaking newer → AreSettledBy n older → n0 ≤ n → n ≤ m → IsTaken older m below → after (act Opened n0 n Answered ∷ below) ≡ Some (t, s) → IsTrust t → MayRead (newer ++ act Opened n0 n Answered ∷ older) m (trust_read image) → (t' : Trust) × (trust_read image ≡ Some t') × Later t t'
  never_back newer older below n0 n m image t s none all begun le there is trust may =
      let h = read_has (act Opened n0 n Answered) older below m (omega (arith, begun, le), le) (λ u x. taken_once older n m u below le all x there) newer (trust_read image) none may in
      let r = no_way_back later_same later_then step_later step_trust h.0 (act Opened n0 n Answered ∷ below) h.1 t s is trust in
      (r.0.0, h.2 ∙ ap trust_of r.1, r.2.later)

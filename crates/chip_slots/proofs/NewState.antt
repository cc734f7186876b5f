-- The images while a gate is closed, a record is written behind it and the gate is opened again, and what stands then.
use Rattle.std.proofs.Common.{◌≡◌, inl, ℕ, ◌+◌, ◌*◌, ◌/◌, ◌<◌, ◌≤◌, List, [], ◌∷◌, ◌++◌, length, take, drop, get_or, Some, Result, Ok, Err, Bool, true, refl, sym, ◌∙◌, ap, subst, arith, length-take, length-drop, get_or-take, get_or-drop, take-append-drop}
use Rattle.std.proofs.lemmas.List.{ext_get_or}
use Rattle.std.specs.Prelude.{slice_index, is_ok, OnOk}
use Rattle.chip_verify.specs.Trust.{Trust}
use Rattle.chip_slots.specs.Slot.{record_of}
use Rattle.chip_slots.specs.Image.{Reading, is_memory, slots_in, gate, behind_gate, is_open, reads}
use Rattle.chip_slots.specs.Crash.{Standing, Crash, Reads, Writes, Syncs, DeviceCall}
use Rattle.chip_slots.specs.Ready.{EachImage, ReadsAs, ReadsEither, IsApart, IsMore, IsSpare, IsFree, IsReady, AreRecord, IsStable}
use Rattle.chip_slots.proofs.SlotWrites.{closing, opening, seen_open, filling}
use Rattle.chip_slots.proofs.DeviceWork.{clean_image, own_image, no_work, one_more, done_call}

-- ---- before and after

pub spare_image : (slot : ℕ) (old : Reading) (s : Standing) → IsSpare slot old s → (c : List ℕ) → Crash s c → reads c ≡ old
spare_image slot old s spare c crash = ap reads (clean_image s c spare.clean crash) ∙ spare.read

synced_bytes : (s t : Standing) → Syncs true s t → t.bytes ≡ s.bytes
synced_bytes s t synced = ap (λ (z : Standing). z.bytes) synced

-- a slot that is spare stays so
still_spare : (slot : ℕ) (old : Reading) (before s t : Standing) → IsSpare slot old before → length s.bytes ≡ length before.bytes → reads s.bytes ≡ old → Syncs true s t → IsSpare slot old t
still_spare slot old before s t spare size read synced =
    let sizes : length t.bytes ≡ length before.bytes = ap length (synced_bytes s t synced) ∙ size in
    let slots : slots_in t.bytes ≡ slots_in before.bytes = ap (λ (n : ℕ). n / 8192) sizes in
    record {
      clean = ap (λ (z : Standing). z.pending) synced;
      memory = ap is_memory sizes ∙ spare.memory;
      read = ap reads (synced_bytes s t synced) ∙ read;
      inside = subst (λ (k : ℕ). slot < k) (sym slots) spare.inside;
      apart = subst (λ (k : ℕ). IsApart old k slot) (sym slots) spare.apart;
    }

-- ---- a gate is closed

pub close_write : (slot : ℕ) (old : Reading) (past told : ℕ → Standing) (before now : ℕ) (ok : Bool) → IsSpare slot old (past before) → is_open (gate (past before).bytes slot) ≡ true → DeviceCall ok (Writes (8192 * slot) (0 ∷ []) ok) before now past told → EachImage (ReadsAs old) past told before now
close_write slot old past told before now ok spare open_is call =
    one_more (ReadsAs old) past past told before before now ok (Writes (8192 * slot) (0 ∷ []) ok) (no_work (ReadsAs old) past before (spare_image slot old (past before) spare)) call
    (λ s i wrote crash. closing slot old (past before) s i spare ok crash 0 wrote open_is)

pub closed_now : (slot : ℕ) (old : Reading) (past mid told : ℕ → Standing) (before next now : ℕ) → IsSpare slot old (past before) → is_open (gate (past before).bytes slot) ≡ true → DeviceCall true (Writes (8192 * slot) (0 ∷ []) true) before next past mid → DeviceCall true (Syncs true) next now mid told → IsFree slot old (told now)
closed_now slot old past mid told before next now spare open_is wrote_call sync_call =
    let wrote = done_call (Writes (8192 * slot) (0 ∷ []) true) past mid before next wrote_call in
    let synced = done_call (Syncs true) mid told next now sync_call in
    let byte : slice_index (mid next).bytes (8192 * slot + 0) ≡ 0 = wrote.there refl 0 (omega arith) in
    let at : 8192 * slot ≡ 8192 * slot + 0 = omega arith in
    let gates : gate (told now).bytes slot ≡ 0 = ap (λ (b : List ℕ). slice_index b (8192 * slot)) (synced_bytes (mid next) (told now) synced) ∙ ap (slice_index (mid next).bytes) at ∙ byte in
    record {
      spare = still_spare slot old (past before) (mid next) (told now) spare wrote.size (closing slot old (past before) (mid next) (mid next).bytes spare true (own_image (mid next)) 0 wrote open_is) synced;
      closed = ap is_open gates;
    }

-- ---- a record is written

pub fill_write : (slot : ℕ) (old : Reading) (bytes : List ℕ) (past told : ℕ → Standing) (before now : ℕ) (ok : Bool) → length bytes ≤ 8191 → IsFree slot old (past before) → DeviceCall ok (Writes (8192 * slot + 1) bytes ok) before now past told → EachImage (ReadsAs old) past told before now
fill_write slot old bytes past told before now ok short free call =
    one_more (ReadsAs old) past past told before before now ok (Writes (8192 * slot + 1) bytes ok) (no_work (ReadsAs old) past before (spare_image slot old (past before) free.spare)) call
    (λ s i wrote crash. filling slot old (past before) s i free.spare ok crash bytes short wrote free.closed)

-- the record lies behind the gate
record_there : (slot : ℕ) (bytes : List ℕ) (before s : Standing) → slot < slots_in before.bytes → length bytes ≤ 8191 → Writes (8192 * slot + 1) bytes true before s → behind_gate s.bytes slot ≡ bytes ++ drop (length bytes) (behind_gate s.bytes slot)
record_there slot bytes before s inside short wrote =
    sym (take-append-drop (length bytes) (behind_gate s.bytes slot)) ∙ ap (λ (l : List ℕ). l ++ drop (length bytes) (behind_gate s.bytes slot)) front
  where
    fits : 8192 * slot + 8192 ≤ length s.bytes
    fits = omega (arith, inside, wrote.size)

    front : take (length bytes) (behind_gate s.bytes slot) ≡ bytes
    front = ext_get_or 0 (take (length bytes) (behind_gate s.bytes slot)) bytes (simp (length-take, length-drop) (omega (arith, fits, short))) each
      where
        each : (i : ℕ) → i < length (take (length bytes) (behind_gate s.bytes slot)) → get_or (take (length bytes) (behind_gate s.bytes slot)) i 0 ≡ get_or bytes i 0
        each i h =
            let lt : i < length bytes = omega (arith, length-take (length bytes) (behind_gate s.bytes slot), h) in
            get_or-take (length bytes) (behind_gate s.bytes slot) i 0 lt ∙ get_or-take 8191 (drop (8192 * slot + 1) s.bytes) i 0 (omega (arith, lt, short)) ∙ get_or-drop (8192 * slot + 1) s.bytes i 0 ∙ wrote.there refl i lt

pub filled_now : (slot : ℕ) (old : Reading) (y : Trust × ℕ) (bytes : List ℕ) (past mid told : ℕ → Standing) (before next now : ℕ) → length bytes ≤ 8191 → IsFree slot old (past before) → AreRecord (slots_in (past before).bytes) slot bytes y → DeviceCall true (Writes (8192 * slot + 1) bytes true) before next past mid → DeviceCall true (Syncs true) next now mid told → IsReady slot old y (told now)
filled_now slot old y bytes past mid told before next now short free says wrote_call sync_call =
    let wrote = done_call (Writes (8192 * slot + 1) bytes true) past mid before next wrote_call in
    let synced = done_call (Syncs true) mid told next now sync_call in
    let same = synced_bytes (mid next) (told now) synced in
    let slots : slots_in (told now).bytes ≡ slots_in (past before).bytes = ap (λ (b : List ℕ). slots_in b) same ∙ ap (λ (n : ℕ). n / 8192) wrote.size in
    let there = record_there slot bytes (past before) (mid next) free.spare.inside short wrote in
    record {
      spare = still_spare slot old (past before) (mid next) (told now) free.spare wrote.size (filling slot old (past before) (mid next) (mid next).bytes free.spare true (own_image (mid next)) bytes short wrote free.closed) synced;
      filled =
          ap (λ (k : ℕ). record_of k slot (behind_gate (told now).bytes slot)) slots
          ∙ ap (λ (b : List ℕ). record_of (slots_in (past before).bytes) slot (behind_gate b slot)) same
          ∙ ap (record_of (slots_in (past before).bytes) slot) there
          ∙ says (drop (length bytes) (behind_gate (mid next).bytes slot));
    }

-- ---- the gate is opened

pub open_write : (slot : ℕ) (old : Reading) (y : Trust × ℕ) (past told : ℕ → Standing) (before now : ℕ) (ok : Bool) → IsReady slot old y (past before) → IsMore old y → DeviceCall ok (Writes (8192 * slot) (165 ∷ []) ok) before now past told → EachImage (ReadsEither old (Some y)) past told before now
open_write slot old y past told before now ok ready more call =
    one_more (ReadsEither old (Some y)) past past told before before now ok (Writes (8192 * slot) (165 ∷ []) ok) (no_work (ReadsEither old (Some y)) past before (λ c crash. inl (spare_image slot old (past before) ready.spare c crash))) call
    (λ s i wrote crash. opening slot old (past before) s i ready.spare ok crash 165 wrote y ready.filled more)

pub opened_now : (slot : ℕ) (old : Reading) (y : Trust × ℕ) (past mid told : ℕ → Standing) (before next now : ℕ) → IsReady slot old y (past before) → IsMore old y → DeviceCall true (Writes (8192 * slot) (165 ∷ []) true) before next past mid → DeviceCall true (Syncs true) next now mid told → IsStable (Some y) (told now)
opened_now slot old y past mid told before next now ready more wrote_call sync_call =
    let wrote = done_call (Writes (8192 * slot) (165 ∷ []) true) past mid before next wrote_call in
    let synced = done_call (Syncs true) mid told next now sync_call in
    let byte : slice_index (mid next).bytes (8192 * slot + 0) ≡ 165 = wrote.there refl 0 (omega arith) in
    let at : 8192 * slot ≡ 8192 * slot + 0 = omega arith in
    let gates : is_open (gate (mid next).bytes slot) ≡ true = ap is_open (ap (slice_index (mid next).bytes) at ∙ byte) in
    record {
      clean = ap (λ (z : Standing). z.pending) synced;
      read = ap reads (synced_bytes (mid next) (told now) synced) ∙ seen_open slot old (past before) (mid next) (mid next).bytes ready.spare true (own_image (mid next)) 165 wrote y ready.filled more gates;
    }

-- ---- answers

-- a fact where a result is Ok
pub on_ok : {T E : Type 0} (r : Result T E) (P : Type 0) → (is_ok r ≡ true → P) → OnOk r P
on_ok (Ok v) P h = h refl
on_ok (Err e) P h = tt

pub ok_gives : {T E : Type 0} (r : Result T E) (P : Type 0) → OnOk r P → is_ok r ≡ true → P
ok_gives (Ok v) P h is = h
ok_gives (Err e) P h is = absurd (cc)

pub synced_when : (ok : Bool) (past told : ℕ → Standing) (before now : ℕ) → ok ≡ true → DeviceCall ok (Syncs ok) before now past told → DeviceCall true (Syncs true) before now past told
synced_when ok past told before now is call = subst (λ (b : Bool). DeviceCall b (Syncs b) before now past told) is call

-- ---- other moments

pub same_slots : (a b : List ℕ) (n m : ℕ) → length a ≡ n → length b ≡ m → m ≡ n → slots_in a ≡ slots_in b
same_slots a b n m is are same = ap (λ (k : ℕ). k / 8192) (is ∙ sym same ∙ sym are)

pub says_there : (slot : ℕ) (y : Trust × ℕ) (bytes a b : List ℕ) → slots_in a ≡ slots_in b → AreRecord (slots_in a) slot bytes y → AreRecord (slots_in b) slot bytes y
says_there slot y bytes a b same says = subst (λ (k : ℕ). AreRecord k slot bytes y) same says

-- a reading leaves a slot spare
pub spare_read : (slot : ℕ) (old : Reading) (past told : ℕ → Standing) (before now : ℕ) → IsSpare slot old (past before) → DeviceCall true Reads before now past told → IsSpare slot old (told now)
spare_read slot old past told before now spare call = subst (IsSpare slot old) (sym (done_call Reads past told before now call)) spare

pub gate_read : (slot : ℕ) (b : Bool) (past told : ℕ → Standing) (before now : ℕ) → is_open (gate (past before).bytes slot) ≡ b → DeviceCall true Reads before now past told → is_open (gate (told now).bytes slot) ≡ b
gate_read slot b past told before now is call = subst (λ (s : Standing). is_open (gate s.bytes slot) ≡ b) (sym (done_call Reads past told before now call)) is

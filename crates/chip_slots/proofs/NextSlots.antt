-- The slot of a generation that follows what is read is spare, and the record belongs there.
use Rattle.std.proofs.Common.{◌≡◌, ◌≢◌, inl, ℕ, suc, ◌/◌, ◌%◌, ◌^◌, ◌<◌, ◌≤◌, List, ◌++◌, length, Some, None, Bool, true, false, IsTrue, refl, sym, ◌∙◌, ap, subst, arith, ⊎_elim}
use Rattle.std.proofs.lemmas.Bool.{cases_lt}
use Rattle.std.proofs.lemmas.Bool.Decides.{nat_tests}
use Rattle.std.proofs.Math.Nat.{suc-mod, mod-lt, mod-eq_of_lt, mod_self}
use Rattle.std.specs.Prelude.{◌&&◌, ◌==◌, nat_le}
use Rattle.eac_base.specs.Bytes.{is_within}
use Rattle.chip_verify.specs.Trust.{Trust}
use Rattle.chip_slots.specs.Slot.{is_kept_trust, record_text, record_of}
use Rattle.chip_slots.specs.Image.{Reading, is_memory, slots_in, reads}
use Rattle.chip_slots.specs.Crash.{Standing}
use Rattle.chip_slots.specs.Ready.{EachImage, ReadsEither, IsApart, IsMore, IsSpare, AreRecord, IsStable, IsFollowing}
use Rattle.chip_slots.specs.Found.{IsFoundIn}
use Rattle.chip_verify.specs.Session.{SessionValue}
use Rattle.chip_slots.specs.Chips.{ChipValue, in_session}
use Rattle.chip_slots.proofs.DeviceWork.{no_work, clean_image}
use Rattle.chip_slots.proofs.RecordTexts.{record_front}

-- ---- numbers

and_left : (a b : Bool) → (a && b) ≡ true → a ≡ true
and_left true b is = refl
and_left false b is = absurd (cc (is))

and_right : (a b : Bool) → (a && b) ≡ true → b ≡ true
and_right true b is = is
and_right false b is = absurd (cc (is))

pub at_least_two : (size : ℕ) → is_memory size ≡ true → 2 ≤ size / 8192
at_least_two size is =
    let within : is_within 2 16 (size / 8192) ≡ true = and_right (size % 8192 == 0) (is_within 2 16 (size / 8192)) is in
    let low : nat_le 2 (size / 8192) ≡ true = and_left (nat_le 2 (size / 8192)) (nat_le (size / 8192) 16) within in
    grind (arith, nat_tests)

pub at_most_sixteen : (size : ℕ) → is_memory size ≡ true → size / 8192 ≤ 16
at_most_sixteen size is =
    let within : is_within 2 16 (size / 8192) ≡ true = and_right (size % 8192 == 0) (is_within 2 16 (size / 8192)) is in
    let high : nat_le (size / 8192) 16 ≡ true = and_right (nat_le 2 (size / 8192)) (nat_le (size / 8192) 16) within in
    grind (arith, nat_tests)

-- two generations in turn go to two slots
pub next_slot : (n m : ℕ) → 2 ≤ m → n % m ≢ suc n % m
next_slot n m two same = ⊎_elim
    (λ (less : suc (n % m) < m). let e : n % m ≡ suc (n % m) = same ∙ suc-mod n m ∙ mod-eq_of_lt less in absurd (omega (arith, e)))
    (λ (full : m ≤ suc (n % m)).
    let below : n % m < m = mod-lt n (omega (arith, two)) in
    let is : suc (n % m) ≡ m = omega (arith, below, full) in
    let e : n % m ≡ 0 = same ∙ suc-mod n m ∙ ap (λ (k : ℕ). k % m) is ∙ mod_self m in
    absurd (omega (arith, e, is, two)))
    (cases_lt (suc (n % m)) m)

-- ---- the slot

apart_of : (old : Reading) (generation slots : ℕ) → 2 ≤ slots → IsFollowing old generation → IsApart old slots (generation % slots)
apart_of None generation slots two follows = tt
apart_of (Some x) generation slots two follows = λ same.
    let next : generation ≡ suc x.1 = omega (arith, follows) in
    next_slot x.1 slots two (same ∙ ap (λ (k : ℕ). k % slots) next)

pub more_of : (old : Reading) (t : Trust) (generation : ℕ) → IsFollowing old generation → IsMore old (t, generation)
more_of None t generation follows = tt
more_of (Some x) t generation follows = omega (arith, follows)

pub slots_of : (s : Standing) (size : ℕ) → length s.bytes ≡ size → slots_in s.bytes ≡ size / 8192
slots_of s size is = ap (λ (n : ℕ). n / 8192) is

pub spare_of : (old : Reading) (s : Standing) (size generation slots : ℕ) → IsStable old s → length s.bytes ≡ size → is_memory size ≡ true → slots ≡ size / 8192 → IsFollowing old generation → IsSpare (generation % slots) old s
spare_of old s size generation slots stable is memory are follows =
    let two : 2 ≤ slots = omega (arith, at_least_two size memory, are) in
    let same : slots_in s.bytes ≡ slots = slots_of s size is ∙ sym are in
    record {
      clean = stable.clean;
      memory = ap is_memory is ∙ memory;
      read = stable.read;
      inside = subst (λ (k : ℕ). generation % slots < k) (sym same) (mod-lt generation (omega (arith, two)));
      apart = subst (λ (k : ℕ). IsApart old k (generation % slots)) (sym same) (apart_of old generation slots two follows);
    }

same_test : (n : ℕ) → (n == n) ≡ true
same_test n = grind (arith, nat_tests)

-- the record is the one of this slot
pub record_for : (s : Standing) (size generation slots : ℕ) (t : Trust) (bytes : List ℕ) → length s.bytes ≡ size → slots ≡ size / 8192 → generation < 2 ^ 64 → IsTrue (is_kept_trust t) → bytes ≡ record_text t generation → AreRecord (slots_in s.bytes) (generation % slots) bytes (t, generation)
record_for s size generation slots t bytes is are small kept text rest =
    let same : slots_in s.bytes ≡ slots = slots_of s size is ∙ sym are in
    ap (λ (k : ℕ). record_of k (generation % slots) (bytes ++ rest)) same
    ∙ ap (λ (b : List ℕ). record_of slots (generation % slots) (b ++ rest)) text
    ∙ record_front slots (generation % slots) t generation rest kept small (same_test (generation % slots))

-- ---- the state that follows, by its generation

pub works_next : (old : Reading) (t : Trust) (n m : ℕ) (past told : ℕ → Standing) (from to : ℕ) → n ≡ m → EachImage (ReadsEither old (Some (t, n))) past told from to → EachImage (ReadsEither old (Some (t, m))) past told from to
works_next old t n m past told from to is works = subst (λ (k : ℕ). EachImage (ReadsEither old (Some (t, k))) past told from to) is works

pub stable_next : (t : Trust) (n m : ℕ) (s : Standing) → n ≡ m → IsStable (Some (t, n)) s → IsStable (Some (t, m)) s
stable_next t n m s is stable = subst (λ (k : ℕ). IsStable (Some (t, k)) s) is stable

-- nothing is done to the disk
pub idle_works : (old : Reading) (told : ℕ → Standing) (n : ℕ) → IsStable old (told n) → EachImage (ReadsEither old old) told told n n
idle_works old told n stable = no_work (ReadsEither old old) told n (λ c crash. inl (ap reads (clean_image (told n) c stable.clean crash) ∙ stable.read))

-- a memory that was found empty is stable
pub found_stable : (old : Reading) (past told : ℕ → Standing) (from to : ℕ) → old ≡ reads (past from).bytes → IsFoundIn past told from to → IsStable old (told to)
found_stable old past told from to is found =
    let now = found.stable to found.begun (omega arith) in
    record { clean = ap (λ (s : Standing). s.pending) now; read = ap (λ (s : Standing). reads s.bytes) now ∙ sym is }

-- ---- the chip's own value

pub moved_session : (v w : ChipValue) (s : SessionValue) → v ≡ w → w.needs_opening ≡ false → record { state = v.state; session = s; generation = v.generation; needs_opening = v.needs_opening } ≡ in_session w s
moved_session v w s same ready =
    let moved : ChipValue → Bool → ChipValue = λ x b. record { state = x.state; session = s; generation = x.generation; needs_opening = b } in
    ap (λ (x : ChipValue). moved x x.needs_opening) same ∙ ap (moved w) ready

-- One more call at the end of what a disk in memory has written down.
use Rattle.std.proofs.Common.{◌≡◌, ◌⊎◌, inl, inr, ℕ, zero, suc, ◌+◌, ◌<◌, ◌≤◌, List, [], ◌∷◌, ◌++◌, length, take, drop, Option, Some, None, Result, Ok, Err, ◌↔◌, IsTrue, Bool, true, false, refl, sym, ◌∙◌, ap, subst, arith, ⊎_elim, length-drop, length-append, take_all, drop-drop}
use Rattle.std.proofs.lemmas.Bool.{cases_lt}
use Rattle.std.proofs.lemmas.Bool.Decides.{nat_tests}
use Rattle.std.proofs.lemmas.List.{take-append-le, drop-append-le, append-nil, length_push}
use Rattle.std.proofs.Math.Seq.{take-length}
use borrow.Rule.Slice.PartMut.{put_mid}
use Rattle.std.specs.Prelude.{slice_index, option_map, IfSome, is_ok, IsErr}
use Rattle.chip_slots.specs.declared.disk.memory.Step.{Step}
use Rattle.chip_slots.specs.declared.disk.memory.Step.TheVariants as step
use Rattle.chip_slots.specs.Crash.{Standing, is_among, Reads, Writes, Syncs, DeviceCall}
use Rattle.chip_slots.specs.Recorded.{Did, Idle, Wrote, Torn, Synced, over, put, after_call, played, fresh, DiskValue, told_by, stands_now, IsSame, IsCounted, writing, syncing}
use Rattle.chip_slots.specs.RecordedSizes.{played_size, put_size}
use Rattle.chip_slots.specs.Steps.{written, did_of, seen, all_written, KeepsNow, room, IsWithin, AreWithin}

-- ---- what is written down

none_of : (texts : List ℕ) → 0 ≡ length texts → texts ≡ []
none_of [] is = refl
none_of (b ∷ texts) is = absurd (omega (arith, is))

front_same : (s : Step) (texts more : List ℕ) → written s ≤ length texts → did_of s (texts ++ more) ≡ did_of s texts
front_same step.Idle texts more fits = refl
front_same (step.Wrote at size) texts more fits = ap (Wrote at) (take-append-le size texts more fits)
front_same (step.Torn at size) texts more fits = refl
front_same step.Synced texts more fits = refl

pub seen_more : (steps : List Step) (s : Step) (texts more : List ℕ) → all_written steps ≡ length texts → seen (steps ++ s ∷ []) (texts ++ more) ≡ seen steps texts ++ did_of s more ∷ []
seen_more [] s texts more sum = ap (λ (t : List ℕ). did_of s (t ++ more) ∷ []) (none_of texts sum)
seen_more (p ∷ steps) s texts more sum =
    let fits : written p ≤ length texts = omega (arith, sum) in
    let left : all_written steps ≡ length (drop (written p) texts) = omega (arith, sum, length-drop (written p) texts) in
    ap (λ (d : Did). d ∷ seen (steps ++ s ∷ []) (drop (written p) (texts ++ more))) (front_same p texts more fits)
    ∙ ap (λ (t : List ℕ). did_of p texts ∷ seen (steps ++ s ∷ []) t) (drop-append-le (written p) texts more fits)
    ∙ ap (λ (ds : List Did). did_of p texts ∷ ds) (seen_more steps s (drop (written p) texts) more left)

pub all_more : (steps : List Step) (s : Step) → all_written (steps ++ s ∷ []) ≡ all_written steps + written s
all_more [] s = omega arith
all_more (p ∷ steps) s = omega (arith, all_more steps s)

pub played_more : (s : Standing) (ds : List Did) (d : Did) → played s (ds ++ d ∷ []) ≡ after_call d (played s ds)
played_more s [] d = refl
played_more s (e ∷ ds) d = played_more (after_call e s) ds d

-- A call that wrote nothing leaves the bytes of all writes alone.
pub seen_plain : (steps steps' : List Step) (s : Step) (texts : List ℕ) → all_written steps ≡ length texts → steps' ≡ steps ++ s ∷ [] → seen steps' texts ≡ seen steps texts ++ did_of s [] ∷ []
seen_plain steps steps' s texts sum is =
    ap (λ (l : List Step). seen l texts) is
    ∙ ap (λ (t : List ℕ). seen (steps ++ s ∷ []) t) (sym (append-nil texts))
    ∙ seen_more steps s texts [] sum

pub seen_wrote : (steps steps' : List Step) (at : ℕ) (texts texts' from : List ℕ) → all_written steps ≡ length texts → steps' ≡ steps ++ step.Wrote at (length from) ∷ [] → texts' ≡ texts ++ from → seen steps' texts' ≡ seen steps texts ++ Wrote at from ∷ []
seen_wrote steps steps' at texts texts' from sum is are =
    ap (λ (l : List Step). seen l texts') is
    ∙ ap (λ (t : List ℕ). seen (steps ++ step.Wrote at (length from) ∷ []) t) are
    ∙ seen_more steps (step.Wrote at (length from)) texts from sum
    ∙ ap (λ (t : List ℕ). seen steps texts ++ Wrote at t ∷ []) (take_all (length from) from (omega arith))

-- ---- room

abbrev pub IsThere : Option (List ℕ) → Type 0
IsThere o = (now : List ℕ) × (o ≡ Some now)

pub has_bytes : (o : Option (List ℕ)) (a b : ℕ) → 0 < room o a b → IsThere o
has_bytes None a b h = absurd (omega (arith, h))
has_bytes (Some now) a b h = (now, refl)

pub has_step : (o : Option (List ℕ)) (a b : ℕ) → 0 < room o a b → 0 < a
has_step None a b h = absurd (omega (arith, h))
has_step (Some now) a b h = omega (arith, h)

pub has_text : (o : Option (List ℕ)) (a b : ℕ) → 0 < room o a b → 8192 ≤ b
has_text None a b h = absurd (omega (arith, h))
has_text (Some now) a b h = omega (arith, h)

-- ---- what stands now

pub keeps_call : (first : List ℕ) (done done' : List Did) (d : Did) (o o' : Option (List ℕ)) → IsThere o → done' ≡ done ++ d ∷ [] → KeepsNow first done o → ((s : Standing) → option_map (λ bytes. (after_call d (record { bytes = bytes; pending = s.pending })).bytes) o ≡ o') → KeepsNow first done' o'
keeps_call first done done' d None o' there is kept moves = absurd (cc (there.1))
keeps_call first done done' d (Some now) o' there is kept moves =
    let stands : Standing = played (fresh first) done in
    subst (KeepsNow first done') (moves stands) (
    ap (λ (b : List ℕ). (after_call d (record { bytes = b; pending = stands.pending })).bytes) kept
    ∙ ap (λ (s : Standing). s.bytes) (sym (ap (played (fresh first)) is ∙ played_more (fresh first) done d)))

-- ---- bytes in their place

over_is : (bytes old : List ℕ) → length bytes ≤ length old → over bytes old ≡ bytes ++ drop (length bytes) old
over_is [] old fits = refl
over_is (b ∷ bytes) [] fits = absurd (omega (arith, fits))
over_is (b ∷ bytes) (o ∷ old) fits = ap (λ (l : List ℕ). b ∷ l) (over_is bytes old (omega (arith, fits)))

pub put_is : (at : ℕ) (bytes old : List ℕ) → at + length bytes ≤ length old → put at bytes old ≡ take at old ++ (bytes ++ drop (at + length bytes) old)
put_is zero bytes old fits = over_is bytes old (omega (arith, fits)) ∙ ap (λ (n : ℕ). bytes ++ drop n old) (omega arith)
put_is (suc at) bytes [] fits = absurd (omega (arith, fits))
put_is (suc at) bytes (o ∷ old) fits =
    let next : suc (at + length bytes) ≡ suc at + length bytes = omega arith in
    ap (λ (l : List ℕ). o ∷ l) (put_is at bytes old (omega (arith, fits)))
    ∙ ap (λ (n : ℕ). (o ∷ take at old) ++ (bytes ++ drop n (o ∷ old))) next

-- what a part of a slice holds after bytes were copied to it
pub part_is : (at k : ℕ) (from old copied : List ℕ) → copied ≡ from → k ≡ length from → at + length from ≤ length old → put_mid at k old copied ≡ put at from old
part_is at k from old copied same is fits =
    let behind : drop (length from) (drop at old) ≡ drop (at + length from) old = drop-drop (length from) at old ∙ ap (λ (n : ℕ). drop n old) (omega arith) in
    let whole : put_mid at (length from) old from ≡ put at from old = ap (λ (l : List ℕ). take at old ++ (from ++ l)) behind ∙ sym (put_is at from old fits) in
    ap (put_mid at k old) same ∙ ap (λ (n : ℕ). put_mid at n old from) is ∙ whole

-- ---- the disk's own facts, kept by each call

abbrev pub Whole : List ℕ → List Step → List ℕ → Option (List ℕ) → Type 0
Whole first steps texts o = KeepsNow first (seen steps texts) o × (all_written steps ≡ length texts) × AreWithin (length first) steps

within_more : (bytes : ℕ) (steps : List Step) (s : Step) → AreWithin bytes steps → IsWithin bytes s → AreWithin bytes (steps ++ s ∷ [])
within_more bytes [] s are is = (is, tt)
within_more bytes (p ∷ steps) s are is = (are.0, within_more bytes steps s are.1 is)

within_next : (bytes : ℕ) (steps steps' : List Step) (s : Step) → AreWithin bytes steps → IsWithin bytes s → steps' ≡ steps ++ s ∷ [] → AreWithin bytes steps'
within_next bytes steps steps' s are is next = subst (AreWithin bytes) (sym next) (within_more bytes steps s are is)

same_bytes : (o : Option (List ℕ)) → option_map (λ (b : List ℕ). b) o ≡ o
same_bytes None = refl
same_bytes (Some b) = refl

plain_whole : (first : List ℕ) (steps steps' : List Step) (s : Step) (texts : List ℕ) (o : Option (List ℕ)) (a b : ℕ) → Whole first steps texts o → steps' ≡ steps ++ s ∷ [] → written s ≡ 0 → ((z : Standing) → option_map (λ bytes. (after_call (did_of s []) (record { bytes = bytes; pending = z.pending })).bytes) o ≡ o) → 0 < room o a b → IsWithin (length first) s → Whole first steps' texts o
plain_whole first steps steps' s texts o a b whole is plain moves more inside = (
  keeps_call first (seen steps texts) (seen steps' texts) (did_of s []) o o (has_bytes o a b more) (seen_plain steps steps' s texts whole.1 is) whole.0 moves,
  ap all_written is ∙ all_more steps s ∙ omega (arith, whole.1, plain),
  within_next (length first) steps steps' s whole.2 inside is,
)

pub idle_whole : (first : List ℕ) (steps steps' : List Step) (texts : List ℕ) (o : Option (List ℕ)) (a b : ℕ) → Whole first steps texts o → steps' ≡ steps ++ step.Idle ∷ [] → 0 < room o a b → Whole first steps' texts o
idle_whole first steps steps' texts o a b whole is more = plain_whole first steps steps' step.Idle texts o a b whole is refl (λ z. same_bytes o) more tt

pub torn_whole : (first : List ℕ) (steps steps' : List Step) (at size : ℕ) (texts : List ℕ) (o : Option (List ℕ)) (a b : ℕ) → Whole first steps texts o → steps' ≡ steps ++ step.Torn at size ∷ [] → 0 < room o a b → at + size ≤ length first → Whole first steps' texts o
torn_whole first steps steps' at size texts o a b whole is more inside = plain_whole first steps steps' (step.Torn at size) texts o a b whole is refl (λ z. same_bytes o) more inside

pub synced_whole : (first : List ℕ) (steps steps' : List Step) (texts : List ℕ) (o : Option (List ℕ)) (a b : ℕ) → Whole first steps texts o → steps' ≡ steps ++ step.Synced ∷ [] → 0 < room o a b → Whole first steps' texts o
synced_whole first steps steps' texts o a b whole is more = plain_whole first steps steps' step.Synced texts o a b whole is refl (λ z. same_bytes o) more tt

pub wrote_whole : (first : List ℕ) (steps steps' : List Step) (at : ℕ) (texts texts' from : List ℕ) (o o' : Option (List ℕ)) (a b : ℕ) → Whole first steps texts o → steps' ≡ steps ++ step.Wrote at (length from) ∷ [] → texts' ≡ texts ++ from → o' ≡ option_map (λ (bytes : List ℕ). put at from bytes) o → 0 < room o a b → at + length from ≤ length first → Whole first steps' texts' o'
wrote_whole first steps steps' at texts texts' from o o' a b whole is are moved more inside = (
  keeps_call first (seen steps texts) (seen steps' texts') (Wrote at from) o o' (has_bytes o a b more) (seen_wrote steps steps' at texts texts' from whole.1 is are) whole.0 (λ z. sym moved),
  ap all_written is ∙ all_more steps (step.Wrote at (length from)) ∙ omega (arith, whole.1, ap length are, length-append texts from),
  within_next (length first) steps steps' (step.Wrote at (length from)) whole.2 inside is,
)

-- ---- bytes behind a view

module _ {A : Type 0} (view : A → List ℕ) where
  pub fits_in : (first : List ℕ) (done : List Did) (o : Option A) (at size : ℕ) → KeepsNow first done (option_map view o) → at + size ≤ length first → IfSome o (λ v. at + size ≤ length (view v))
  fits_in first done None at size kept fits = tt
  fits_in first done (Some v) at size kept fits = omega (arith, fits, ap length kept, played_size (fresh first) done)

  pub maps_twice : (f : List ℕ → List ℕ) (o : Option A) → option_map (λ v. f (view v)) o ≡ option_map f (option_map view o)
  maps_twice f None = refl
  maps_twice f (Some v) = refl

pub seen_count : (steps : List Step) (texts : List ℕ) → length (seen steps texts) ≡ length steps
seen_count [] texts = refl
seen_count (s ∷ steps) texts = ap suc (seen_count steps (drop (written s) texts))

-- ---- the calls as the disk tells them

pub one_call : (v v' : DiskValue) (d : Did) (ok : Bool) (step : Standing → Standing → Type 0) → v'.first ≡ v.first → v'.done ≡ v.done ++ d ∷ [] → step (stands_now v) (after_call d (stands_now v)) → DeviceCall ok step (length v.done) (length v'.done) (told_by v) (told_by v')
one_call v v' d ok step same more moves = record {
  keeps = λ m le. ap (λ (l : List ℕ). played (fresh l) (take m v'.done)) same ∙ ap (λ (ds : List Did). played (fresh v.first) (take m ds)) more ∙ ap (played (fresh v.first)) (take-append-le m v.done (d ∷ []) le);
  steps = inl (ap length more ∙ length_push v.done d, subst (step (told_by v (length v.done))) (sym after) (subst (λ (s : Standing). step s (after_call d s)) (sym before) moves));
}
  where
    before : told_by v (length v.done) ≡ stands_now v
    before = ap (played (fresh v.first)) (take-length v.done)

    after : told_by v' (length v'.done) ≡ after_call d (told_by v (length v.done))
    after =
        ap (played (fresh v'.first)) (take-length v'.done)
        ∙ ap (λ (l : List ℕ). played (fresh l) v'.done) same
        ∙ ap (played (fresh v.first)) more
        ∙ played_more (fresh v.first) v.done d
        ∙ ap (after_call d) (sym before)

pub out_or_in : (i at size : ℕ) → is_among i ((at, size) ∷ []) ≡ false → (i < at) ⊎ (at + size ≤ i)
out_or_in i at size out = ⊎_elim
    (λ (low : i < at). inl low)
    (λ (from : at ≤ i). ⊎_elim
    (λ (below : i < at + size). absurd (grind (arith, nat_tests)))
    (λ (high : at + size ≤ i). inr high)
    (cases_lt i (at + size)))
    (cases_lt i at)

over_there : (bytes old : List ℕ) (i : ℕ) → length bytes ≤ length old → i < length bytes → slice_index (over bytes old) i ≡ slice_index bytes i
over_there [] old i fits lt = absurd (omega (arith, lt))
over_there (b ∷ bytes) [] i fits lt = absurd (omega (arith, fits))
over_there (b ∷ bytes) (o ∷ old) zero fits lt = refl
over_there (b ∷ bytes) (o ∷ old) (suc i) fits lt = over_there bytes old i (omega (arith, fits)) (omega (arith, lt))

over_past : (bytes old : List ℕ) (i : ℕ) → length bytes ≤ i → slice_index (over bytes old) i ≡ slice_index old i
over_past [] old i le = refl
over_past (b ∷ bytes) [] i le = refl
over_past (b ∷ bytes) (o ∷ old) zero le = absurd (omega (arith, le))
over_past (b ∷ bytes) (o ∷ old) (suc i) le = over_past bytes old i (omega (arith, le))

put_there : (at : ℕ) (bytes old : List ℕ) (i : ℕ) → at + length bytes ≤ length old → i < length bytes → slice_index (put at bytes old) (at + i) ≡ slice_index bytes i
put_there zero bytes old i fits lt = ap (slice_index (over bytes old)) (omega arith) ∙ over_there bytes old i (omega (arith, fits)) lt
put_there (suc at) bytes [] i fits lt = absurd (omega (arith, fits))
put_there (suc at) bytes (o ∷ old) i fits lt =
    let next : suc at + i ≡ suc (at + i) = omega arith in
    ap (slice_index (o ∷ put at bytes old)) next ∙ put_there at bytes old i (omega (arith, fits)) lt

pub put_out : (at : ℕ) (bytes old : List ℕ) (i : ℕ) → (i < at) ⊎ (at + length bytes ≤ i) → slice_index (put at bytes old) i ≡ slice_index old i
put_out zero bytes old i (inl low) = absurd (omega (arith, low))
put_out zero bytes old i (inr high) = over_past bytes old i (omega (arith, high))
put_out (suc at) bytes [] i out = refl
put_out (suc at) bytes (o ∷ old) zero out = refl
put_out (suc at) bytes (o ∷ old) (suc i) (inl low) = put_out at bytes old i (inl (omega (arith, low)))
put_out (suc at) bytes (o ∷ old) (suc i) (inr high) = put_out at bytes old i (inr (omega (arith, high)))

pub wrote_step : (at : ℕ) (bytes : List ℕ) (s : Standing) → at + length bytes ≤ length s.bytes → Writes at bytes true s (after_call (Wrote at bytes) s)
wrote_step at bytes s fits = record {
  size = put_size at bytes s.bytes;
  elsewhere = λ i out. put_out at bytes s.bytes i (out_or_in i at (length bytes) out);
  there = λ ok i lt. put_there at bytes s.bytes i fits lt;
  pending = refl;
}

pub torn_step : (at : ℕ) (bytes : List ℕ) (s : Standing) → Writes at bytes false s (after_call (Torn at (length bytes)) s)
torn_step at bytes s = record { size = refl; elsewhere = λ i out. refl; there = λ ok. absurd (cc (ok)); pending = refl }

-- a call, its answer and the count of its failure
module _ (v mid v' : DiskValue) (same : IsSame v mid) (counted : IsCounted mid v') where
  first_is : v'.first ≡ v.first
  first_is = counted.same.first ∙ same.first

  pub read_call : {T E : Type 0} (r : Result T E) → mid.done ≡ v.done ++ Idle ∷ [] → DeviceCall (is_ok r) Reads (length v.done) (length v'.done) (told_by v) (told_by v')
  read_call r more = one_call v v' Idle (is_ok r) Reads first_is (counted.done ∙ more) refl

  pub write_call : {T E : Type 0} (r : Result T E) (fails : Bool) (at : ℕ) (bytes : List ℕ) → (IsErr r ↔ IsTrue fails) → at + length bytes ≤ length v.first → mid.done ≡ v.done ++ writing fails at bytes ∷ [] → DeviceCall (is_ok r) (Writes at bytes (is_ok r)) (length v.done) (length v'.done) (told_by v) (told_by v')
  write_call (Ok u) true at bytes err fits more = absurd (cc (err.1 refl))
  write_call (Ok u) false at bytes err fits more =
      let inside : at + length bytes ≤ length (stands_now v).bytes = omega (arith, fits, played_size (fresh v.first) v.done) in
      one_call v v' (Wrote at bytes) true (Writes at bytes true) first_is (counted.done ∙ more) (wrote_step at bytes (stands_now v) inside)
  write_call (Err e) true at bytes err fits more = one_call v v' (Torn at (length bytes)) false (Writes at bytes false) first_is (counted.done ∙ more) (torn_step at bytes (stands_now v))
  write_call (Err e) false at bytes err fits more = absurd (cc (err.0 refl))

  pub sync_call : {T E : Type 0} (r : Result T E) (fails : Bool) → (IsErr r ↔ IsTrue fails) → mid.done ≡ v.done ++ syncing fails ∷ [] → DeviceCall (is_ok r) (Syncs (is_ok r)) (length v.done) (length v'.done) (told_by v) (told_by v')
  sync_call (Ok u) true err more = absurd (cc (err.1 refl))
  sync_call (Ok u) false err more = one_call v v' Synced true (Syncs true) first_is (counted.done ∙ more) refl
  sync_call (Err e) true err more = one_call v v' Idle false (Syncs false) first_is (counted.done ∙ more) refl
  sync_call (Err e) false err more = absurd (cc (err.0 refl))

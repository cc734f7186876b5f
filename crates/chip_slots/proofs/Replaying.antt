-- Calls that are played again, one by one, and the bytes that are torn then.
use Rattle.std.proofs.Common.{◌≡◌, ◌⊎◌, ℕ, zero, suc, ◌+◌, ◌<◌, ◌≤◌, List, [], ◌∷◌, ◌++◌, length, take, drop, set, get_or, reverse, replicate, Bool, true, false, Result, Ok, Err, refl, sym, ◌∙◌, ap, subst, arith, length-drop, length-take, drop-drop}
use Rattle.std.proofs.lemmas.List.{reverse-append}
use Rattle.std.proofs.Math.Seq.{take-suc}
use Rattle.chip_slots.specs.declared.disk.memory.Step.{Step}
use Rattle.chip_slots.specs.declared.disk.memory.Step.TheVariants as step
use Rattle.chip_slots.specs.declared.disk.replay.Replayed.{Replayed}
use Rattle.std.proofs.lemmas.List.{length-replicate}
use Rattle.std.specs.Prelude.{◌||◌, slice_index, IfOk}
use Rattle.chip_slots.specs.Crash.{Standing, Crash, is_among}
use Rattle.chip_slots.specs.Recorded.{Did, over, put, after_call, played, fresh, torn_over, torn_image, DiskValue, told_by}
use Rattle.chip_slots.specs.RecordedSizes.{put_size, played_size}
use Rattle.chip_slots.specs.Steps.{did_of, seen, written, all_written, IsWithin, AreWithin, AreRanges}
use Rattle.chip_slots.specs.Replays.{stood, ReplaysTo, IsReplayed}
use Rattle.chip_slots.proofs.Recordings.{played_more, put_out, out_or_in}

-- ---- bytes that are filled

over_none : (old : List ℕ) → over [] old ≡ old
over_none old = refl

pub put_none : (at : ℕ) (old : List ℕ) → put at [] old ≡ old
put_none zero old = refl
put_none (suc at) [] = refl
put_none (suc at) (o ∷ old) = ap (λ (l : List ℕ). o ∷ l) (put_none at old)

over_next : (n b : ℕ) (old : List ℕ) → n < length old → set (over (replicate n b) old) n b ≡ over (replicate (suc n) b) old
over_next n b [] lt = absurd (omega (arith, lt))
over_next zero b (o ∷ old) lt = refl
over_next (suc n) b (o ∷ old) lt = ap (λ (l : List ℕ). b ∷ l) (over_next n b old (omega (arith, lt)))

pub put_next : (at n b : ℕ) (old : List ℕ) → at + n < length old → set (put at (replicate n b) old) (at + n) b ≡ put at (replicate (n + 1) b) old
put_next at n b old lt =
    let next : suc n ≡ n + 1 = omega arith in
    go at old lt ∙ ap (λ (k : ℕ). put at (replicate k b) old) next
  where
    go : (k : ℕ) (bytes : List ℕ) → k + n < length bytes → set (put k (replicate n b) bytes) (k + n) b ≡ put k (replicate (suc n) b) bytes
    go zero bytes below =
        let none : 0 + n ≡ n = omega arith in
        ap (λ (m : ℕ). set (over (replicate n b) bytes) m b) none ∙ over_next n b bytes (omega (arith, below))
    go (suc k) [] below = absurd (omega (arith, below))
    go (suc k) (o ∷ bytes) below =
        let next : suc k + n ≡ suc (k + n) = omega arith in
        ap (λ (m : ℕ). set (o ∷ put k (replicate n b) bytes) m b) next ∙ ap (λ (l : List ℕ). o ∷ l) (go k bytes (omega (arith, below)))

pub torn_size : (torn : ℕ) (ranges : List (ℕ × ℕ)) (bytes : List ℕ) → length (torn_over torn ranges bytes) ≡ length bytes
torn_size torn [] bytes = refl
torn_size torn (r ∷ ranges) bytes = put_size r.0 (replicate r.1 torn) (torn_over torn ranges bytes) ∙ torn_size torn ranges bytes

pub range_at : (bytes : ℕ) (ranges : List (ℕ × ℕ)) (i : ℕ) (d : ℕ × ℕ) → AreRanges bytes ranges → i < length ranges → (get_or ranges i d).0 + (get_or ranges i d).1 ≤ bytes
range_at bytes [] i d are lt = absurd (omega (arith, lt))
range_at bytes (r ∷ ranges) zero d are lt = are.0
range_at bytes (r ∷ ranges) (suc i) d are lt = range_at bytes ranges i d are.1 (omega (arith, lt))

pub range_in : (ranges : List (ℕ × ℕ)) (i : ℕ) (d : ℕ × ℕ) (bytes now : List ℕ) → length now ≡ length bytes → AreRanges (length bytes) ranges → i < length ranges → (get_or ranges i d).0 + (get_or ranges i d).1 ≤ length now
range_in ranges i d bytes now same are lt = omega (arith, range_at (length bytes) ranges i d are lt, same)

pub torn_next : (torn : ℕ) (ranges : List (ℕ × ℕ)) (i : ℕ) (d : ℕ × ℕ) (bytes : List ℕ) → i < length ranges → put (get_or ranges i d).0 (replicate (get_or ranges i d).1 torn) (torn_over torn (reverse (take i ranges)) bytes) ≡ torn_over torn (reverse (take (i + 1) ranges)) bytes
torn_next torn ranges i d bytes lt =
    let next : suc i ≡ i + 1 = omega arith in
    ap (λ (l : List (ℕ × ℕ)). torn_over torn l bytes) (sym (reverse-append (take i ranges) (get_or ranges i d ∷ [])))
    ∙ ap (λ (l : List (ℕ × ℕ)). torn_over torn (reverse l) bytes) (sym (take-suc ranges i d lt))
    ∙ ap (λ (k : ℕ). torn_over torn (reverse (take k ranges)) bytes) next

-- ---- one call

abbrev standing : List ℕ → List (ℕ × ℕ) → Standing
standing bytes pending = record { bytes = bytes; pending = pending }

ranges_more : (bytes : ℕ) (ranges : List (ℕ × ℕ)) (r : ℕ × ℕ) → AreRanges bytes ranges → r.0 + r.1 ≤ bytes → AreRanges bytes (ranges ++ r ∷ [])
ranges_more bytes [] r are is = (is, tt)
ranges_more bytes (p ∷ ranges) r are is = (are.0, ranges_more bytes ranges r are.1 is)

module _ (s : Step) (texts : List ℕ) (old new : Replayed) where
  pub torn_replays : (at size : ℕ) → s ≡ step.Torn at size → IsWithin (length old.bytes.items) s → new.bytes.items ≡ old.bytes.items → new.pending.items ≡ old.pending.items ++ (at, size) ∷ [] → new.taken ≡ old.taken → ReplaysTo s texts old new
  torn_replays at size is inside bytes pending taken =
      let fits : at + size ≤ length old.bytes.items = subst (IsWithin (length old.bytes.items)) is inside in
      record {
        stands = stands_torn;
        taken = taken_torn;
        ranges = λ are. subst (λ (l : List ℕ). AreRanges (length l) new.pending.items) (sym bytes) (subst (AreRanges (length old.bytes.items)) (sym pending) (ranges_more (length old.bytes.items) old.pending.items (at, size) are fits));
      }
    where
      taken_torn : new.taken ≡ old.taken + written s
      taken_torn = let none : written s ≡ 0 = ap written is in omega (arith, taken, none)

      stands_torn : stood new ≡ after_call (did_of s (drop old.taken texts)) (stood old)
      stands_torn =
          ap (λ (l : List ℕ). standing l (reverse new.pending.items)) bytes
          ∙ ap (λ (l : List (ℕ × ℕ)). standing old.bytes.items (reverse l)) pending
          ∙ ap (standing old.bytes.items) (reverse-append old.pending.items ((at, size) ∷ []))
          ∙ ap (λ (d : Step). after_call (did_of d (drop old.taken texts)) (stood old)) (sym is)

  pub wrote_replays : (at size : ℕ) (text : List ℕ) → s ≡ step.Wrote at size → IsWithin (length old.bytes.items) s → old.taken + written s ≤ length texts → text ≡ take size (drop old.taken texts) → new.bytes.items ≡ put at text old.bytes.items → new.pending.items ≡ old.pending.items ++ (at, size) ∷ [] → new.taken ≡ old.taken + size → ReplaysTo s texts old new
  wrote_replays at size text is inside room said bytes pending taken =
      let fits : at + size ≤ length old.bytes.items = subst (IsWithin (length old.bytes.items)) is inside in
      let same : length new.bytes.items ≡ length old.bytes.items = ap length bytes ∙ put_size at text old.bytes.items in
      record {
        stands = stands_wrote;
        taken = taken_wrote;
        ranges = λ are. subst (λ (n : ℕ). AreRanges n new.pending.items) (sym same) (subst (AreRanges (length old.bytes.items)) (sym pending) (ranges_more (length old.bytes.items) old.pending.items (at, size) are fits));
      }
    where
      taken_wrote : new.taken ≡ old.taken + written s
      taken_wrote = let some : written s ≡ size = ap written is in omega (arith, taken, some)

      counted : size ≡ length (take size (drop old.taken texts))
      counted =
          let enough : old.taken + size ≤ length texts = subst (λ (d : Step). old.taken + written d ≤ length texts) is room in
          omega (arith, enough, length-take size (drop old.taken texts), length-drop old.taken texts)

      stands_wrote : stood new ≡ after_call (did_of s (drop old.taken texts)) (stood old)
      stands_wrote =
          ap (λ (l : List ℕ). standing l (reverse new.pending.items)) (bytes ∙ ap (λ (l : List ℕ). put at l old.bytes.items) said)
          ∙ ap (λ (l : List (ℕ × ℕ)). standing (put at (take size (drop old.taken texts)) old.bytes.items) (reverse l)) pending
          ∙ ap (standing (put at (take size (drop old.taken texts)) old.bytes.items)) (reverse-append old.pending.items ((at, size) ∷ []))
          ∙ ap (λ (n : ℕ). standing (put at (take size (drop old.taken texts)) old.bytes.items) ((at, n) ∷ reverse old.pending.items)) counted
          ∙ ap (λ (d : Step). after_call (did_of d (drop old.taken texts)) (stood old)) (sym is)

-- ---- one call after another

seen_snoc : (steps : List Step) (s : Step) (texts : List ℕ) → seen (steps ++ s ∷ []) texts ≡ seen steps texts ++ did_of s (drop (all_written steps) texts) ∷ []
seen_snoc [] s texts = refl
seen_snoc (p ∷ steps) s texts =
    let behind : drop (all_written steps) (drop (written p) texts) ≡ drop (written p + all_written steps) texts = drop-drop (all_written steps) (written p) texts ∙ ap (λ (n : ℕ). drop n texts) (omega arith) in
    ap (λ (ds : List Did). did_of p texts ∷ ds) (seen_snoc steps s (drop (written p) texts) ∙ ap (λ (l : List ℕ). seen steps (drop (written p) texts) ++ did_of s l ∷ []) behind)

all_snoc : (steps : List Step) (s : Step) → all_written (steps ++ s ∷ []) ≡ all_written steps + written s
all_snoc [] s = omega arith
all_snoc (p ∷ steps) s = omega (arith, all_snoc steps s)

pub replayed_none : (first texts : List ℕ) (r : Replayed) → r.bytes.items ≡ first → r.pending.items ≡ [] → r.taken ≡ 0 → IsReplayed first [] texts r
replayed_none first texts r bytes pending taken = record {
  stands = ap (λ (l : List ℕ). record { bytes = l; pending = reverse r.pending.items }) bytes ∙ ap (λ (l : List (ℕ × ℕ)). record { bytes = first; pending = reverse l }) pending;
  taken = taken;
  ranges = subst (AreRanges (length r.bytes.items)) (sym pending) tt;
}

pub replayed_next : (first texts : List ℕ) (steps : List Step) (i : ℕ) (d : Step) (old new : Replayed) → i < length steps → IsReplayed first (take i steps) texts old → ReplaysTo (get_or steps i d) texts old new → IsReplayed first (take (i + 1) steps) texts new
replayed_next first texts steps i d old new lt was step_is = record {
  stands =
      step_is.stands
      ∙ ap (λ (n : ℕ). after_call (did_of (get_or steps i d) (drop n texts)) (stood old)) was.taken
      ∙ ap (after_call (did_of (get_or steps i d) (drop (all_written (take i steps)) texts))) was.stands
      ∙ sym (played_more (fresh first) (seen (take i steps) texts) (did_of (get_or steps i d) (drop (all_written (take i steps)) texts)))
      ∙ ap (played (fresh first)) (sym (seen_snoc (take i steps) (get_or steps i d) texts))
      ∙ ap (λ (l : List Step). played (fresh first) (seen l texts)) next;
  taken = step_is.taken ∙ ap (λ (n : ℕ). n + written (get_or steps i d)) was.taken ∙ sym (all_snoc (take i steps) (get_or steps i d)) ∙ ap all_written next;
  ranges = step_is.ranges was.ranges;
}
  where
    next : take i steps ++ get_or steps i d ∷ [] ≡ take (i + 1) steps
    next =
        let more : suc i ≡ i + 1 = omega arith in
        sym (take-suc steps i d lt) ∙ ap (λ (k : ℕ). take k steps) more

pub step_at : (bytes : ℕ) (steps : List Step) (i : ℕ) (d : Step) → AreWithin bytes steps → i < length steps → IsWithin bytes (get_or steps i d)
step_at bytes [] i d are lt = absurd (omega (arith, lt))
step_at bytes (s ∷ steps) zero d are lt = are.0
step_at bytes (s ∷ steps) (suc i) d are lt = step_at bytes steps i d are.1 (omega (arith, lt))

pub written_at : (steps : List Step) (i : ℕ) (d : Step) → i < length steps → all_written (take i steps) + written (get_or steps i d) ≤ all_written steps
written_at [] i d lt = absurd (omega (arith, lt))
written_at (s ∷ steps) zero d lt = omega arith
written_at (s ∷ steps) (suc i) d lt = omega (arith, written_at steps i d (omega (arith, lt)))

pub replayed_size : (first texts : List ℕ) (steps : List Step) (r : Replayed) → IsReplayed first steps texts r → length r.bytes.items ≡ length first
replayed_size first texts steps r is = ap (λ (s : Standing). length s.bytes) is.stands ∙ played_size (fresh first) (seen steps texts)

-- ---- the image

pub seen_take : (n : ℕ) (steps : List Step) (texts : List ℕ) → take n (seen steps texts) ≡ seen (take n steps) texts
seen_take zero steps texts = refl
seen_take (suc n) [] texts = refl
seen_take (suc n) (s ∷ steps) texts = ap (λ (ds : List Did). did_of s texts ∷ ds) (seen_take n steps (drop (written s) texts))

pub within_take : (n bytes : ℕ) (steps : List Step) → AreWithin bytes steps → AreWithin bytes (take n steps)
within_take zero bytes steps are = tt
within_take (suc n) bytes [] are = tt
within_take (suc n) bytes (s ∷ steps) are = (are.0, within_take n bytes steps are.1)

pub written_take : (n : ℕ) (steps : List Step) → all_written (take n steps) ≤ all_written steps
written_take zero steps = omega arith
written_take (suc n) [] = omega arith
written_take (suc n) (s ∷ steps) = omega (arith, written_take n steps)

or_left : (a b : Bool) → (a || b) ≡ false → a ≡ false
or_left true b is = absurd (cc (is))
or_left false b is = refl

or_right : (a b : Bool) → (a || b) ≡ false → b ≡ false
or_right true b is = absurd (cc (is))
or_right false b is = is

torn_out : (torn : ℕ) (ranges : List (ℕ × ℕ)) (bytes : List ℕ) (i : ℕ) → is_among i ranges ≡ false → slice_index (torn_over torn ranges bytes) i ≡ slice_index bytes i
torn_out torn [] bytes i out = refl
torn_out torn (r ∷ ranges) bytes i out =
    let here : is_among i ((r.0, r.1) ∷ []) ≡ false = ap (λ (b : Bool). b || false) (or_left _ _ out) in
    let long : length (replicate r.1 torn) ≡ r.1 = length-replicate {A = ℕ} r.1 torn in
    put_out r.0 (replicate r.1 torn) (torn_over torn ranges bytes) i (subst (λ (n : ℕ). (i < r.0) ⊎ (r.0 + n ≤ i)) (sym long) (out_or_in i r.0 r.1 here))
    ∙ torn_out torn ranges bytes i (or_right _ _ out)

pub torn_crash : (torn : ℕ) (s : Standing) → Crash s (torn_image torn s)
torn_crash torn s = record { size = torn_size torn s.pending s.bytes; same = λ i out. torn_out torn s.pending s.bytes i out }

-- ---- the calls until a moment

module _ (n : ℕ) (first first' : List ℕ) (steps steps' : List Step) (texts texts' : List ℕ) (same_first : first' ≡ first) (same_steps : steps' ≡ steps) (same_texts : texts' ≡ texts) where
  pub until_within : AreWithin (length first) steps → AreWithin (length first') (take n steps')
  until_within are = subst (λ (l : List ℕ). AreWithin (length l) (take n steps')) (sym same_first) (subst (λ (l : List Step). AreWithin (length first) (take n l)) (sym same_steps) (within_take n (length first) steps are))

  pub until_texts : all_written steps ≡ length texts → all_written (take n steps') ≤ length texts'
  until_texts sum =
      let fewer : all_written (take n steps') ≤ all_written steps' = written_take n steps' in
      let whole : all_written steps' ≡ all_written steps = ap all_written same_steps in
      let size : length texts' ≡ length texts = ap length same_texts in
      omega (arith, fewer, whole, sum, size)

  until_told : (v : DiskValue) → first ≡ v.first → seen steps texts ≡ v.done → played (fresh first') (seen (take n steps') texts') ≡ told_by v n
  until_told v is_first is_done =
      ap (λ (l : List ℕ). played (fresh l) (seen (take n steps') texts')) (same_first ∙ is_first)
      ∙ ap (λ (l : List Step). played (fresh v.first) (seen (take n l) texts')) same_steps
      ∙ ap (λ (l : List ℕ). played (fresh v.first) (seen (take n steps) l)) same_texts
      ∙ ap (played (fresh v.first)) (sym (seen_take n steps texts))
      ∙ ap (λ (ds : List Did). played (fresh v.first) (take n ds)) is_done

  pub until_image : {E : Type 0} (v : DiskValue) (torn : ℕ) (r : Result (List ℕ) E) → first ≡ v.first → seen steps texts ≡ v.done → IfOk r (λ o. o ≡ torn_image torn (played (fresh first') (seen (take n steps') texts'))) → IfOk r (λ o. o ≡ torn_image torn (told_by v n))
  until_image v torn (Err e) is_first is_done image = tt
  until_image v torn (Ok o) is_first is_done image = image ∙ ap (torn_image torn) (until_told v is_first is_done)

pub image_crash : {E : Type 0} (torn : ℕ) (s : Standing) (r : Result (List ℕ) E) → IfOk r (λ o. o ≡ torn_image torn s) → IfOk r (λ o. Crash s o)
image_crash torn s (Err e) image = tt
image_crash torn s (Ok o) image = subst (Crash s) (sym image) (torn_crash torn s)

-- A chip is what its disk tells after an import too, whatever it was answered.
use Rattle.std.proofs.Common.{◌≡◌, ◌≢◌, ◌⊎◌, inl, inr, ℕ, ◌+◌, ◌-◌, ◌^◌, ◌<◌, ◌≤◌, ◌++◌, List, Some, Result, Ok, Err, refl, sym, ◌∙◌, ap, subst, arith, ⊎_elim}
use Rattle.std.specs.Prelude.{IsOk}
use Rattle.cvc_grammar.specs.ReadingOrder.{read_cert}
use Rattle.signature_provider.specs.Provider.{Says}
use Rattle.chip_verify.specs.declared.answers.Imported.{Imported}
use Rattle.chip_verify.specs.Trust.{Trust}
use Rattle.chip_verify.specs.Session.{SessionValue}
use Rattle.chip_slots.specs.declared.answers.ChipRefusal.{ChipRefusal}
use Rattle.chip_slots.specs.declared.answers.ChipRefusal.TheVariants as refusal
use Rattle.chip_slots.specs.Crash.{Standing}
use Rattle.chip_slots.specs.Image.{Reading, reads}
use Rattle.chip_slots.specs.Ready.{EachImage, ReadsEither, IsStable}
use Rattle.chip_slots.specs.Chips.{ChipValue, read_as}
use Rattle.chip_slots.specs.Outcomes.{IsMoved, Outcome, IsDone}
use Rattle.chip_slots.specs.ActsOf.{verdict_of}
use Rattle.chip_events.specs.Told.{one_more}
use Rattle.chip_events.specs.Verdicts.{asked}
use Rattle.chip_events.specs.Imports.{InHand, follows, ack_of}
use Rattle.chip_events.specs.Held.{IsChipAt, IsInHand}
use Rattle.chip_events.proofs.ImportedChips.{idle, stable_before, answered, cut_off, cut_reads}
use Rattle.chip_events.proofs.GivenNext.{answered_chip, answered_next, cut_chip, next}

-- what a disk tells is the same
pub record SameDisk (told told' : ℕ → Standing) (n0 n1 f0 f1 : ℕ) : Type 0 where
  pub told_is : told' ≡ told
  pub calls_are : n1 ≡ n0
  pub faults_are : f1 ≡ f0

module _ (tells : Type 0) (told told' : ℕ → Standing) (n0 n1 f0 f1 : ℕ) (o o' : ChipValue) where
  -- a chip that was moved without another generation reads as before
  same_reading : (following : Trust × SessionValue) → IsMoved o following o' → o'.generation ≡ o.generation → read_as o ≡ read_as o'
  same_reading following moved is = ⊎_elim
      (λ (m : (following.0 ≡ o.state) × (o'.generation ≡ o.generation)). λ i. Some (sym (moved.state ∙ m.0) i, sym m.1 i))
      (λ (m : (following.0 ≢ o.state) × (o.generation < 2 ^ 64 - 1) × (o'.generation ≡ o.generation + 1)). absurd (omega (arith, is, m.2)))
      moved.generation

  works_of : (following : Trust × SessionValue) → IsMoved o following o' → tells → IsStable (read_as o) (told n0) → (o'.generation ≡ o.generation → SameDisk told told' n0 n1 f0 f1) →
      ((o'.generation ≡ o.generation) ⊎ ((tells → IsStable (read_as o) (told n0) → EachImage (ReadsEither (read_as o) (read_as o')) told told' n0 n1) × (tells → IsStable (read_as o) (told n0) → IsStable (read_as o') (told' n1)))) →
      EachImage (ReadsEither (read_as o) (read_as o')) told told' n0 n1 × IsStable (read_as o') (told' n1)
  works_of following moved told_now stable untouched (inl is) =
      let same = untouched is in
      let read = same_reading following moved is in (
        subst (λ (x : (ℕ → Standing) × (ℕ × Reading)). EachImage (ReadsEither (read_as o) x.1.1) told x.0 n0 x.1.0) (λ i. (sym same.told_is i, (sym same.calls_are i, read i))) (idle told n0 (read_as o) stable),
        subst (λ (x : (ℕ → Standing) × (ℕ × Reading)). IsStable x.1.1 (x.0 x.1.0)) (λ i. (sym same.told_is i, (sym same.calls_are i, read i))) stable,
      )
  works_of following moved told_now stable untouched (inr d) = (d.0 told_now stable, d.1 told_now stable)

module _ (tells : Type 0) (told told' : ℕ → Standing) (size n0 n1 f0 f1 first p1 : ℕ) (says : Says) (chip : ℕ) (w : InHand) (o' : ChipValue) (bytes : List ℕ) (hand : IsInHand told size n0 f0 first w) (told_now : tells) (faults : f0 ≤ f1) where
  abbrev after : Result Imported ChipRefusal → InHand
  after r = next chip w o' bytes (verdict_of says w.opened bytes) n1 f1 p1 (reads (told' n1).bytes) r

  abbrev Comes : Result Imported ChipRefusal → Type 0
  Comes r = Outcome tells told told' n0 n1 says w.opened o' (read_cert bytes) r

  abbrev Untouched : Result Imported ChipRefusal → Type 0
  Untouched r = r ≢ Err refusal.DiskFault → o'.generation ≡ w.opened.generation → SameDisk told told' n0 n1 f0 f1

  -- the chip and what is in hand, where more may be given
  pub record Stands (r : Result Imported ChipRefusal) : Type 0 where
    pub chip_at : IsChipAt told' size n1 f1 first (after r).chip
    pub in_hand : IsOk r → IsInHand told' size n1 f1 first (after r)

  stable : IsStable (read_as w.opened) (told n0)
  stable = stable_before told told' size n0 n1 f0 f1 first w hand faults bytes (verdict_of says w.opened bytes) (one_more w.chip.imports)

  in_hand_then : (r : Result Imported ChipRefusal) → (o'.generation ≡ w.opened.generation → SameDisk told told' n0 n1 f0 f1) → IsDone tells told told' n0 n1 says w.opened o' (read_cert bytes) r →
      IsInHand told' size n1 f1 first (answered_next chip w o' bytes (verdict_of says w.opened bytes) n1 f1 p1 (reads (told' n1).bytes) r)
  in_hand_then r untouched d =
      let x = works_of tells told told' n0 n1 f0 f1 w.opened o' (follows w.opened bytes (verdict_of says w.opened bytes)) d.moved told_now stable untouched d.disk in
      answered told told' size n0 n1 f0 f1 first w hand faults bytes (verdict_of says w.opened bytes) (one_more w.chip.imports) r o' d.moved x.0 x.1
      (answered_chip chip w o' bytes (verdict_of says w.opened bytes) n1 f1 p1 (reads (told' n1).bytes) r) refl
      (w.acks ++ ack_of chip (one_more w.chip.imports) n1 r) (w.verdicts ++ asked w.opened (read_cert bytes) (verdict_of says w.opened bytes)) p1

  -- the chip with one more import, on a disk that is as it was
  counted : SameDisk told told' n0 n1 f0 f1 → (n : ℕ) → IsChipAt told' size n1 f1 first (record w.chip { imports = n })
  counted same n = subst (λ (x : (ℕ → Standing) × (ℕ × ℕ)). IsChipAt x.0 size x.1.0 x.1.1 first (record w.chip { imports = n })) (λ i. (sym same.told_is i, (sym same.calls_are i, sym same.faults_are i)))
      (record {
        size_is = hand.chip_at.size_is;
        calls_are = hand.chip_at.calls_are;
        faults_are = hand.chip_at.faults_are;
        reads_as = hand.chip_at.reads_as;
        begun = hand.chip_at.begun;
        since = hand.chip_at.since;
        images = hand.chip_at.images;
        order = hand.chip_at.order;
        until = hand.chip_at.until;
        stand_on = hand.chip_at.stand_on;
        openings = hand.chip_at.openings;
      })

  pub stands : (r : Result Imported ChipRefusal) → Untouched r → Comes r → Stands r
  stands (Ok what) untouched d =
      let h = in_hand_then (Ok what) (untouched (λ x. absurd (cc (x)))) d in record { chip_at = h.chip_at; in_hand = λ u. h }
  stands (Err (refusal.Syntax e)) untouched d =
      let h = in_hand_then (Err (refusal.Syntax e)) (untouched (λ x. absurd (cc (x)))) d in record { chip_at = h.chip_at; in_hand = λ u. h }
  stands (Err (refusal.Refused e)) untouched d =
      let h = in_hand_then (Err (refusal.Refused e)) (untouched (λ x. absurd (cc (x)))) d in record { chip_at = h.chip_at; in_hand = λ u. h }
  stands (Err refusal.ProviderFault) untouched d = record {
    chip_at = counted (untouched (λ x. absurd (cc (x))) (ap (λ (c : ChipValue). c.generation) d.chip)) (one_more w.chip.imports);
    in_hand = λ u. absurd (cc (u));
  }
  stands (Err refusal.Worn) untouched d = record {
    chip_at = counted (untouched (λ x. absurd (cc (x))) (ap (λ (c : ChipValue). c.generation) d.chip)) (one_more w.chip.imports);
    in_hand = λ u. absurd (cc (u));
  }
  stands (Err refusal.DiskFault) untouched d = record {
    chip_at = cut_off told told' size n0 n1 f0 f1 first w hand faults bytes (verdict_of says w.opened bytes) (one_more w.chip.imports) (d.leaves told_now stable)
        (cut_chip chip w o' bytes (verdict_of says w.opened bytes) n1 f1 p1 (reads (told' n1).bytes)) refl;
    in_hand = λ u. absurd (cc (u));
  }
  stands (Err refusal.NoChip) untouched d = absurd d
  stands (Err refusal.NeedsOpen) untouched d = absurd d

  -- after a device failure the memory reads as the old state or as the new one
  pub either : (r : Result Imported ChipRefusal) → Comes r → r ≡ Err refusal.DiskFault → (reads (told' n1).bytes ≡ w.chip.reads) ⊎ (reads (told' n1).bytes ≡ Some ((follows w.opened bytes (verdict_of says w.opened bytes)).0, w.opened.generation + 1))
  either (Err refusal.DiskFault) d e = cut_reads told told' size n0 n1 f0 f1 first w hand faults bytes (verdict_of says w.opened bytes) (one_more w.chip.imports) (d.leaves told_now stable)
  either (Ok what) d e = absurd (cc (e))
  either (Err (refusal.Syntax k)) d e = absurd (cc (e))
  either (Err (refusal.Refused k)) d e = absurd (cc (e))
  either (Err refusal.ProviderFault) d e = absurd (cc (e))
  either (Err refusal.Worn) d e = absurd (cc (e))
  either (Err refusal.NoChip) d e = absurd (cc (e))
  either (Err refusal.NeedsOpen) d e = absurd (cc (e))

-- One import by a disk, told or not.
use Rattle.std.proofs.Common.{◌≡◌, ◌≢◌, inl, ℕ, ◌≤◌, List, ◌++◌, Option, Some, None, Result, Ok, Err, Bool, true, false, refl, sym, ◌∙◌, ap, subst, arith}
use Rattle.std.specs.Prelude.{IfOk, OnOk, IsOk}
use Rattle.eac_base.specs.Causes.{Rose}
use Rattle.eac_base.specs.declared.acks.Ack.{Ack}
use Rattle.cvc_grammar.specs.ReadingOrder.{read_cert}
use Rattle.cvc_grammar.specs.declared.certificate.Cert.{Cert}
use Rattle.cvc_grammar.specs.declared.refusal.CvcRefusal.{CvcRefusal}
use Rattle.signature_provider.specs.Provider.{Says}
use Rattle.signature_provider.specs.declared.provider.SignatureProvider.{Ghosts as ProviderOf}
use Rattle.chip_verify.specs.declared.answers.Imported.{Imported}
use Rattle.chip_slots.specs.declared.answers.ChipRefusal.{ChipRefusal}
use Rattle.chip_slots.specs.declared.answers.ChipRefusal.TheVariants as refusal
use Rattle.chip_slots.specs.declared.disk.ChipDisk.{Ghosts as DiskOf}
use Rattle.chip_slots.specs.ActsOf.{verdict_of}
use Rattle.chip_slots.specs.Chips.{ChipValue, ImportsRead, ImportsWhere, Imports as SlotImports}
use Rattle.chip_slots.specs.Crash.{Standing}
use Rattle.chip_slots.specs.Image.{Reading, is_memory, reads}
use Rattle.chip_slots.specs.Outcomes.{Outcome}
use Rattle.chip_slots.proofs.ImportOutcomes.{outcome_of}
use Rattle.chip_events.specs.declared.answers.Taken.{Taken}
use Rattle.chip_events.specs.declared.count.ImportCount.{ImportCount}
use Rattle.chip_events.specs.Told.{one_more}
use Rattle.chip_events.specs.Imports.{InHand, ack_of, Imports}
use Rattle.chip_events.specs.Givings.{taken_as, taken_by, Gives}
use Rattle.chip_events.specs.Held.{IsChipAt, IsInHand}
use Rattle.chip_events.specs.DiskTurns.{DiskKnown, disk_of, counts_of, IsChipFor, IsHandFor, IsHandOf, IsLeft, HandTurn}
use Rattle.chip_events.proofs.GivenNext.{asked_by, said_by, Counts, next, imports_so, opened_so, provider_so, number_so, verdicts_so, acks_so, counts_so}
use Rattle.chip_events.proofs.GivenChips.{stands, either}

-- what the chip answered
abbrev pub result_of : Result Taken ChipRefusal → Result Imported ChipRefusal
result_of (Ok taken) = Ok taken.what
result_of (Err e) = Err e

module _ {D P : Type 0} (G : DiskOf D) (H : ProviderOf P) (d d' : D) (p p' : P) (imports imports' : ImportCount) (acks acks' : List Ack) (o o' : ChipValue) (bytes : List ℕ) where
  -- what the call has said
  pub record Said (r : Result Imported ChipRefusal) : Type 0 where
    pub answer : SlotImports (G.tells d) (G.told d) (G.told d') (G.moment d) (G.moment d') (H.says p) o bytes r o'
    pub untouched : r ≢ Err refusal.DiskFault → o'.generation ≡ o.generation → d' ≡ d
    pub cause : r ≡ Err refusal.DiskFault → is_memory (G.size d) ≡ true → Rose (G.faults d) (G.faults d')
    pub quiet : r ≢ Err refusal.DiskFault → G.faults d' ≡ G.faults d
    pub unheard : r ≡ Err refusal.ProviderFault → Rose (H.faults p) (H.faults p')
    pub heard : r ≢ Err refusal.ProviderFault → H.faults p' ≡ H.faults p
    pub grown : H.faults p ≤ H.faults p'
    pub tells : G.tells d → G.tells d'
    pub size : G.size d' ≡ G.size d
    pub later : G.moment d ≤ G.moment d'
    pub faults : G.faults d ≤ G.faults d'
    pub counted : imports' ≡ record { chip = imports.chip; count = one_more imports.count }
    pub noted : acks' ≡ acks ++ ack_of imports.chip (one_more imports.count) (G.moment d') r

  module _ (r : Result Imported ChipRefusal) (s : Said r) (w : InHand) (opened : w.opened ≡ o) (provider : w.provider ≡ H.faults p) (number : w.chip.imports ≡ imports.count)
      (ready : w.opened.needs_opening ≡ false) (memory : is_memory (G.size d) ≡ true) (counts_are : disk_of w.chip ≡ counts_of G d) where
    calls_are : w.chip.calls ≡ G.moment d
    calls_are = ap (λ (k : DiskKnown). k.calls) counts_are

    faults_are : w.chip.faults ≡ G.faults d
    faults_are = ap (λ (k : DiskKnown). k.faults) counts_are

    abbrev Comes : Type 0
    Comes = Outcome (G.tells d) (G.told d) (G.told d') (G.moment d) (G.moment d') (H.says p) w.opened o' (read_cert bytes) r

    comes : Comes
    comes = outcome_of (G.tells d) (G.told d) (G.told d') (G.moment d) (G.moment d') (H.says p) w.opened o' ready bytes r
        (subst (λ (x : ChipValue). SlotImports (G.tells d) (G.told d) (G.told d') (G.moment d) (G.moment d') (H.says p) x bytes r o') (sym opened) s.answer)

    untouched : r ≢ Err refusal.DiskFault → o'.generation ≡ w.opened.generation → d' ≡ d
    untouched not_disk same = s.untouched not_disk (same ∙ ap (λ (x : ChipValue). x.generation) opened)

    counts : Counts w o' (G.moment d') (G.faults d') (H.faults p') r
    counts = record {
      calls = omega (arith, s.later, calls_are);
      idle = λ not_disk same. ap G.moment (untouched not_disk same) ∙ sym calls_are;
      faults = omega (arith, s.faults, faults_are);
      quiet = λ not_disk. s.quiet not_disk ∙ sym faults_are;
      cause = λ is. subst (λ (n : ℕ). Rose n (G.faults d')) (sym faults_are) (s.cause is memory);
      later = omega (arith, s.grown, provider);
      heard = λ not_provider. s.heard not_provider ∙ sym provider;
      unheard = λ is. subst (λ (n : ℕ). Rose n (H.faults p')) (sym provider) (s.unheard is);
    }

    abbrev left : Reading → InHand
    left read = next imports.chip w o' bytes (verdict_of (H.says p) w.opened bytes) (G.moment d') (G.faults d') (H.faults p') read r

    pub record Left (since : Option ℕ) : Type 0 where
      pub read : Reading
      pub gives : Imports imports.chip w bytes (verdict_of (H.says p) w.opened bytes) r (left read)
      pub chip_at : IsChipFor G d' since (left read).chip
      pub in_hand : IsOk r → IsHandFor G d' since (left read)

    pub left_so : (since : Option ℕ) (l : Left since) → IsLeft G d' since (H.faults p') imports'.count o' (IsOk r) (asked_by o bytes (verdict_of (H.says p) o bytes) r) (ack_of imports.chip (one_more imports.count) (G.moment d') r) w (left l.read)
    left_so since l =
        let opened_then = opened_so imports.chip w o' bytes (H.says p) (G.moment d') (G.faults d') (H.faults p') l.read (G.tells d) (G.told d) (G.told d') (G.moment d) (G.moment d') r comes in
        let provider_then = provider_so imports.chip w o' bytes (H.says p) (G.moment d') (G.faults d') (H.faults p') l.read (G.tells d) (G.told d) (G.told d') (G.moment d) (G.moment d') r counts comes in
        let number_then = number_so imports.chip w o' bytes (H.says p) (G.moment d') (G.faults d') (H.faults p') l.read (G.tells d) (G.told d) (G.told d') (G.moment d) (G.moment d') r comes
        ∙ ap one_more number ∙ sym (ap (λ (k : ImportCount). k.count) s.counted) in
        record {
          chip_at = l.chip_at;
          in_hand = λ ok. record {
            hand = l.in_hand ok;
            memory = ap is_memory s.size ∙ memory;
            opened = opened_then;
            provider_is = provider_then;
            number_is = number_then;
          };
          opened = opened_then;
          provider_is = provider_then;
          number_is = number_then;
          verdicts = verdicts_so imports.chip w o' bytes (H.says p) (G.moment d') (G.faults d') (H.faults p') l.read (G.tells d) (G.told d) (G.told d') (G.moment d) (G.moment d') r comes
              ∙ ap (λ (x : ChipValue). w.verdicts ++ asked_by x bytes (verdict_of (H.says p) x bytes) r) opened;
          acks = acks_so imports.chip w o' bytes (H.says p) (G.moment d') (G.faults d') (H.faults p') l.read (G.tells d) (G.told d) (G.told d') (G.moment d) (G.moment d') r comes
              ∙ ap (λ (n : ℕ). w.acks ++ ack_of imports.chip (one_more n) (G.moment d') r) number;
        }

    -- where the disk tells nothing, its counts alone are known
    ready_then : IsOk r → o'.needs_opening ≡ false
    ready_then ok = go r ok comes
      where
        go : (x : Result Imported ChipRefusal) → IsOk x → Outcome (G.tells d) (G.told d) (G.told d') (G.moment d) (G.moment d') (H.says p) w.opened o' (read_cert bytes) x → o'.needs_opening ≡ false
        go (Ok what) ok c = c.moved.ready
        go (Err e) ok c = absurd (cc (ok))

    pub untold : Left None
    untold =
        let same = counts_so imports.chip w o' bytes (H.says p) (G.moment d') (G.faults d') (H.faults p') w.chip.reads (G.tells d) (G.told d) (G.told d') (G.moment d) (G.moment d') r counts comes
        ∙ (λ i. record { size = (ap (λ (k : DiskKnown). k.size) counts_are ∙ sym s.size) i; calls = G.moment d'; faults = G.faults d' }) in
        record {
          read = w.chip.reads;
          gives = imports_so imports.chip w o' bytes (H.says p) (G.moment d') (G.faults d') (H.faults p') w.chip.reads (G.tells d) (G.told d) (G.told d') (G.moment d) (G.moment d') r counts (λ is. inl refl) comes;
          chip_at = same;
          in_hand = λ ok. (same, ap (λ (x : ChipValue). x.needs_opening) (opened_so imports.chip w o' bytes (H.says p) (G.moment d') (G.faults d') (H.faults p') w.chip.reads (G.tells d) (G.told d) (G.told d') (G.moment d) (G.moment d') r comes) ∙ ready_then ok);
        }

    pub told_so : (first : ℕ) → G.tells d → IsInHand (G.told d) (G.size d) (G.moment d) (G.faults d) first w → Left (Some first)
    told_so first told_now hand =
        let st = stands (G.tells d) (G.told d) (G.told d') (G.size d) (G.moment d) (G.moment d') (G.faults d) (G.faults d') first (H.faults p') (H.says p) imports.chip w o' bytes hand told_now s.faults r
        (λ not_disk same. let is = untouched not_disk same in record { told_is = ap G.told is; calls_are = ap G.moment is; faults_are = ap G.faults is }) comes in
        record {
          read = reads (G.told d' (G.moment d')).bytes;
          gives = imports_so imports.chip w o' bytes (H.says p) (G.moment d') (G.faults d') (H.faults p') (reads (G.told d' (G.moment d')).bytes) (G.tells d) (G.told d) (G.told d') (G.moment d) (G.moment d') r counts
              (either (G.tells d) (G.told d) (G.told d') (G.size d) (G.moment d) (G.moment d') (G.faults d) (G.faults d') first (H.faults p') (H.says p) imports.chip w o' bytes hand told_now s.faults r comes) comes;
          chip_at = (s.tells told_now, subst (λ (n : ℕ). IsChipAt (G.told d') n (G.moment d') (G.faults d') first (left (reads (G.told d' (G.moment d')).bytes)).chip) (sym s.size) st.chip_at);
          in_hand = λ ok. (s.tells told_now, subst (λ (n : ℕ). IsInHand (G.told d') n (G.moment d') (G.faults d') first (left (reads (G.told d' (G.moment d')).bytes))) (sym s.size) (st.in_hand ok));
        }

  -- what is known of the chip in hand
  counts_in : (since : Option ℕ) (w : InHand) → IsHandFor G d since w → disk_of w.chip ≡ counts_of G d
  counts_in None w h = h.0
  counts_in (Some first) w h = λ i. record { size = h.1.chip_at.size_is i; calls = h.1.chip_at.calls_are i; faults = h.1.chip_at.faults_are i }

  ready_in : (since : Option ℕ) (w : InHand) → IsHandFor G d since w → w.opened.needs_opening ≡ false
  ready_in None w h = h.1
  ready_in (Some first) w h = h.1.ready

  abbrev Onward : Result Imported ChipRefusal → Option ℕ → InHand → Type 0
  Onward r since w = (left : InHand) × ((verdict : Bool) × Imports imports.chip w bytes verdict r left)
      × IsLeft G d' since (H.faults p') imports'.count o' (IsOk r) (asked_by o bytes (verdict_of (H.says p) o bytes) r) (ack_of imports.chip (one_more imports.count) (G.moment d') r) w left

  onward : (r : Result Imported ChipRefusal) → Said r → (since : Option ℕ) (w : InHand) → IsHandOf G d since (H.faults p) imports.count o w → Onward r since w
  onward r s since w h = go since h.hand
    where
      into : (since : Option ℕ) (counts_are : disk_of w.chip ≡ counts_of G d) (ready : w.opened.needs_opening ≡ false) → Left r s w h.opened h.provider_is h.number_is ready h.memory counts_are since → Onward r since w
      into since counts_are ready l = (left r s w h.opened h.provider_is h.number_is ready h.memory counts_are l.read, (verdict_of (H.says p) w.opened bytes, l.gives), left_so r s w h.opened h.provider_is h.number_is ready h.memory counts_are since l)

      go : (since : Option ℕ) → IsHandFor G d since w → Onward r since w
      go None hand = into None (counts_in None w hand) (ready_in None w hand) (untold r s w h.opened h.provider_is h.number_is (ready_in None w hand) h.memory (counts_in None w hand))
      go (Some first) hand = into (Some first) (counts_in (Some first) w hand) (ready_in (Some first) w hand) (told_so r s w h.opened h.provider_is h.number_is (ready_in (Some first) w hand) h.memory (counts_in (Some first) w hand) first hand.0 hand.1)

  ok_of : (t : Result Taken ChipRefusal) → IsOk t → IsOk (result_of t)
  ok_of (Ok taken) ok = refl
  ok_of (Err e) ok = ok

  gives_of : (t : Result Taken ChipRefusal) → IfOk t (λ taken. taken ≡ taken_as taken.what bytes) → (w left : InHand) → (verdict : Bool) × Imports imports.chip w bytes verdict (result_of t) left → Gives imports.chip w bytes t left
  gives_of (Ok taken) is w left (verdict, x) = (verdict, x, is)
  gives_of (Err e) is w left x = x

  pub hand_turn : (t : Result Taken ChipRefusal) → IfOk t (λ taken. taken ≡ taken_as taken.what bytes) → Said (result_of t) →
      HandTurn G H d d' p p' imports imports' acks acks' o o' (IsOk t) (λ w left. Gives imports.chip w bytes t left)
  hand_turn t is s = record {
    asked = asked_by o bytes (verdict_of (H.says p) o bytes) (result_of t);
    said = said_by (H.says p) o bytes (result_of t);
    new = ack_of imports.chip (one_more imports.count) (G.moment d') (result_of t);
    acks_are = s.noted;
    chip = ap (λ (k : ImportCount). k.chip) s.counted;
    size = s.size;
    tells = s.tells;
    turn = λ since w h. let x = onward (result_of t) s since w h in (
      x.0,
      gives_of t is w x.0 x.1,
      record {
        chip_at = x.2.chip_at;
        in_hand = λ ok. x.2.in_hand (ok_of t ok);
        opened = x.2.opened;
        provider_is = x.2.provider_is;
        number_is = x.2.number_is;
        verdicts = x.2.verdicts;
        acks = x.2.acks;
      },
    );
  }

  -- ---- as the call has it

  by_result : (r : Result Imported ChipRefusal) → result_of (taken_by r bytes) ≡ r
  by_result (Ok what) = refl
  by_result (Err e) = refl

  taken_is : (r : Result Imported ChipRefusal) → IfOk (taken_by r bytes) (λ taken. taken ≡ taken_as taken.what bytes)
  taken_is (Ok what) = refl
  taken_is (Err e) = tt

  pub given_turn : (r : Result Imported ChipRefusal) (t : Result Taken ChipRefusal) → t ≡ taken_by r bytes → Said r → HandTurn G H d d' p p' imports imports' acks acks' o o' (IsOk t) (λ w left. Gives imports.chip w bytes t left)
  given_turn r t is s = subst (λ (x : Result Taken ChipRefusal). HandTurn G H d d' p p' imports imports' acks acks' o o' (IsOk x) (λ w left. Gives imports.chip w bytes x left)) (sym is)
      (hand_turn (taken_by r bytes) (taken_is r) (subst Said (sym (by_result r)) s))

-- ---- an Ok is of bytes that can be read

read_ok : (tells : Type 0) (past told : ℕ → Standing) (from to : ℕ) (says : Says) (o : ChipValue) (r : Result Cert CvcRefusal) (result : Result Imported ChipRefusal) (o' : ChipValue) → ImportsRead tells past told from to says o r result o' → OnOk result (IsOk r)
read_ok tells past told from to says o (Ok c) (Ok what) o' x = refl
read_ok tells past told from to says o (Ok c) (Err e) o' x = tt
read_ok tells past told from to says o (Err k) (Ok what) o' x = absurd (cc (x.0))
read_ok tells past told from to says o (Err k) (Err e) o' x = tt

where_ok : (tells : Type 0) (past told : ℕ → Standing) (from to : ℕ) (says : Says) (needs : Bool) (o : ChipValue) (bytes : List ℕ) (result : Result Imported ChipRefusal) (o' : ChipValue) → ImportsWhere tells past told from to needs says o bytes result o' → OnOk result (IsOk (read_cert bytes))
where_ok tells past told from to says true o bytes (Ok what) o' x = absurd (cc (x.0))
where_ok tells past told from to says true o bytes (Err e) o' x = tt
where_ok tells past told from to says false o bytes result o' x = read_ok tells past told from to says o (read_cert bytes) result o' x

pub readable : (tells : Type 0) (past told : ℕ → Standing) (from to : ℕ) (says : Says) (o : ChipValue) (bytes : List ℕ) (result : Result Imported ChipRefusal) (o' : ChipValue) → SlotImports tells past told from to says o bytes result o' → OnOk result (IsOk (read_cert bytes))
readable tells past told from to says o bytes result o' x = where_ok tells past told from to says o.needs_opening o bytes result o' x

-- What stands in hand after an import, by what the chip answered: told or not.
use Rattle.std.proofs.Common.{◌≡◌, ◌≢◌, ◌⊎◌, ℕ, ◌+◌, ◌≤◌, List, [], ◌∷◌, ◌++◌, Option, Some, None, Result, Ok, Err, Bool, refl, sym, ap, append-nil}
use Rattle.eac_base.specs.Causes.{Rose}
use Rattle.cvc_grammar.specs.ReadingOrder.{read_cert}
use Rattle.cvc_grammar.specs.declared.certificate.Cert.{Cert}
use Rattle.cvc_grammar.specs.declared.refusal.CvcRefusal.{CvcRefusal}
use Rattle.signature_provider.specs.Provider.{Says}
use Rattle.chip_verify.specs.declared.answers.Checked.{Checked}
use Rattle.chip_verify.specs.declared.answers.Checked.TheVariants as checks
use Rattle.chip_verify.specs.declared.answers.Imported.{Imported}
use Rattle.chip_verify.specs.Refusals.{Issuer, issuer_of, checked}
use Rattle.chip_verify.specs.Step.{verdict_under as says_under}
use Rattle.chip_slots.specs.declared.answers.ChipRefusal.{ChipRefusal}
use Rattle.chip_slots.specs.declared.answers.ChipRefusal.TheVariants as refusal
use Rattle.chip_slots.specs.Acts.{Settling, Answered, Unsettled}
use Rattle.chip_slots.specs.ActsOf.{verdict_read, verdict_of}
use Rattle.chip_slots.specs.Chips.{ChipValue, read_as}
use Rattle.chip_slots.specs.Crash.{Standing}
use Rattle.chip_slots.specs.Image.{Reading}
use Rattle.chip_slots.specs.Outcomes.{Outcome, IsDone}
use Rattle.chip_events.specs.Acts.{ChipAct, GiveCall}
use Rattle.chip_events.specs.Told.{ChipTold, one_more}
use Rattle.chip_events.specs.Verdicts.{Verdict, AreSaid, verdict_under, verdict_where, asked}
use Rattle.chip_events.specs.Imports.{InHand, follows, ack_of, IsAnswered, Imports}
use Rattle.chip_events.specs.DiskTurns.{disk_of}

-- ---- what was asked

-- nothing is told of a question where the provider failed
abbrev pub asked_by : ChipValue → List ℕ → Bool → Result Imported ChipRefusal → List Verdict
asked_by o bytes good (Ok what) = asked o (read_cert bytes) good
asked_by o bytes good (Err (refusal.Syntax e)) = asked o (read_cert bytes) good
asked_by o bytes good (Err (refusal.Refused k)) = asked o (read_cert bytes) good
asked_by o bytes good (Err refusal.Worn) = asked o (read_cert bytes) good
asked_by o bytes good (Err refusal.DiskFault) = asked o (read_cert bytes) good
asked_by o bytes good (Err refusal.ProviderFault) = []
asked_by o bytes good (Err refusal.NoChip) = []
asked_by o bytes good (Err refusal.NeedsOpen) = []

said_under : (says : Says) (i : Option Issuer) (c : Cert) → AreSaid says (verdict_under i c (says_under says i c))
said_under says (Some i) c = (refl, tt)
said_under says None c = tt

said_where : (says : Says) (k : Checked) (i : Option Issuer) (c : Cert) → AreSaid says (verdict_where k i c (says_under says i c))
said_where says checks.Held i c = tt
said_where says (checks.Refused k) i c = tt
said_where says checks.Ask i c = said_under says i c

said_read : (says : Says) (o : ChipValue) (r : Result Cert CvcRefusal) → AreSaid says (asked o r (verdict_read says o r))
said_read says o (Ok c) = said_where says (checked o.state o.session c.body) (issuer_of o.state o.session c.body) c
said_read says o (Err e) = tt

-- what was asked the provider says
pub said_by : (says : Says) (o : ChipValue) (bytes : List ℕ) (r : Result Imported ChipRefusal) → AreSaid says (asked_by o bytes (verdict_of says o bytes) r)
said_by says o bytes (Ok what) = said_read says o (read_cert bytes)
said_by says o bytes (Err (refusal.Syntax e)) = said_read says o (read_cert bytes)
said_by says o bytes (Err (refusal.Refused k)) = said_read says o (read_cert bytes)
said_by says o bytes (Err refusal.Worn) = said_read says o (read_cert bytes)
said_by says o bytes (Err refusal.DiskFault) = said_read says o (read_cert bytes)
said_by says o bytes (Err refusal.ProviderFault) = tt
said_by says o bytes (Err refusal.NoChip) = tt
said_by says o bytes (Err refusal.NeedsOpen) = tt

-- ---- the counts of an import

pub record Counts (w : InHand) (o' : ChipValue) (n1 f1 p1 : ℕ) (r : Result Imported ChipRefusal) : Type 0 where
  pub calls : w.chip.calls ≤ n1
  pub idle : r ≢ Err refusal.DiskFault → o'.generation ≡ w.opened.generation → n1 ≡ w.chip.calls
  pub faults : w.chip.faults ≤ f1
  pub quiet : r ≢ Err refusal.DiskFault → f1 ≡ w.chip.faults
  pub cause : r ≡ Err refusal.DiskFault → Rose w.chip.faults f1
  pub later : w.provider ≤ p1
  pub heard : r ≢ Err refusal.ProviderFault → p1 ≡ w.provider
  pub unheard : r ≡ Err refusal.ProviderFault → Rose w.provider p1

-- ---- what stands in hand then

module _ (chip : ℕ) (w : InHand) (o' : ChipValue) (bytes : List ℕ) (good : Bool) (n1 f1 p1 : ℕ) (read : Reading) where
  abbrev pub num : ℕ
  num = one_more w.chip.imports

  abbrev pub act_so : Result Imported ChipRefusal → Settling → ChipAct
  act_so r settling = record { call = GiveCall bytes good num r; from = w.chip.calls; to = n1; settling = settling }

  abbrev pub answered_chip : Result Imported ChipRefusal → ChipTold
  answered_chip r = record w.chip { calls = n1; faults = f1; reads = read_as o'; imports = num; acts = act_so r Answered ∷ w.chip.acts }

  abbrev pub answered_next : Result Imported ChipRefusal → InHand
  answered_next r = record {
    chip = answered_chip r;
    opened = o';
    acks = w.acks ++ ack_of chip num n1 r;
    verdicts = w.verdicts ++ asked w.opened (read_cert bytes) good;
    provider = p1;
  }

  abbrev pub cut_chip : ChipTold
  cut_chip = record w.chip { calls = n1; faults = f1; reads = read; imports = num; acts = act_so (Err refusal.DiskFault) Unsettled ∷ w.chip.acts }

  abbrev pub cut_next : InHand
  cut_next = record { chip = cut_chip; opened = o'; acks = w.acks; verdicts = w.verdicts ++ asked w.opened (read_cert bytes) good; provider = p1 }

  abbrev pub next : Result Imported ChipRefusal → InHand
  next (Ok what) = answered_next (Ok what)
  next (Err (refusal.Syntax e)) = answered_next (Err (refusal.Syntax e))
  next (Err (refusal.Refused k)) = answered_next (Err (refusal.Refused k))
  next (Err refusal.ProviderFault) = record w { chip = record w.chip { imports = num }; provider = p1 }
  next (Err refusal.Worn) = record w { chip = record w.chip { imports = num }; verdicts = w.verdicts ++ asked w.opened (read_cert bytes) good }
  next (Err refusal.DiskFault) = cut_next
  next (Err refusal.NoChip) = w
  next (Err refusal.NeedsOpen) = w

module _ (chip : ℕ) (w : InHand) (o' : ChipValue) (bytes : List ℕ) (says : Says) (n1 f1 p1 : ℕ) (read : Reading)
    (tells : Type 0) (past told : ℕ → Standing) (from to : ℕ) where
  abbrev after : Result Imported ChipRefusal → InHand
  after r = next chip w o' bytes (verdict_of says w.opened bytes) n1 f1 p1 read r

  abbrev Comes : Result Imported ChipRefusal → Type 0
  Comes r = Outcome tells past told from to says w.opened o' (read_cert bytes) r

  -- the reading that a device failure leaves
  abbrev Either : Type 0
  Either = (read ≡ w.chip.reads) ⊎ (read ≡ Some ((follows w.opened bytes (verdict_of says w.opened bytes)).0, w.opened.generation + 1))

  answers : (r : Result Imported ChipRefusal) → r ≢ Err refusal.DiskFault → r ≢ Err refusal.ProviderFault → Counts w o' n1 f1 p1 r →
      IsDone tells past told from to says w.opened o' (read_cert bytes) r →
      IsAnswered chip w bytes (verdict_of says w.opened bytes) r (answered_next chip w o' bytes (verdict_of says w.opened bytes) n1 f1 p1 read r)
  answers r disk asked k d = record {
    due = d.due;
    moved = d.moved;
    calls = k.calls;
    faults = k.quiet disk;
    provider = k.heard asked;
    told = refl;
    acks = refl;
    verdicts = refl;
  }

  pub imports_so : (r : Result Imported ChipRefusal) → Counts w o' n1 f1 p1 r → (r ≡ Err refusal.DiskFault → Either) → Comes r → Imports chip w bytes (verdict_of says w.opened bytes) r (after r)
  imports_so (Ok what) k e d = answers (Ok what) (λ x. absurd (cc (x))) (λ x. absurd (cc (x))) k d
  imports_so (Err (refusal.Syntax x)) k e d = answers (Err (refusal.Syntax x)) (λ y. absurd (cc (y))) (λ y. absurd (cc (y))) k d
  imports_so (Err (refusal.Refused x)) k e d = answers (Err (refusal.Refused x)) (λ y. absurd (cc (y))) (λ y. absurd (cc (y))) k d
  imports_so (Err refusal.ProviderFault) k e d = record { is_asked = d.asked; cause = k.unheard refl; later = k.later; next = refl }
  imports_so (Err refusal.Worn) k e d = record { what = d.what; due = d.due; other = d.other; last = d.last; next = refl }
  imports_so (Err refusal.DiskFault) k e d = record {
    what = d.what;
    due = d.due;
    other = d.other;
    room = d.room;
    cause = k.cause refl;
    calls = k.calls;
    faults = k.faults;
    provider = k.heard (λ x. absurd (cc (x)));
    either = e refl;
    opened = d.chip;
    told = refl;
    acks = refl;
    verdicts = refl;
  }
  imports_so (Err refusal.NoChip) k e d = absurd d
  imports_so (Err refusal.NeedsOpen) k e d = absurd d

  -- ---- what it has of the disk, the chip and the provider

  pub opened_so : (r : Result Imported ChipRefusal) → Comes r → (after r).opened ≡ o'
  opened_so (Ok what) d = refl
  opened_so (Err (refusal.Syntax x)) d = refl
  opened_so (Err (refusal.Refused x)) d = refl
  opened_so (Err refusal.ProviderFault) d = sym d.chip
  opened_so (Err refusal.Worn) d = sym d.chip
  opened_so (Err refusal.DiskFault) d = refl
  opened_so (Err refusal.NoChip) d = absurd d
  opened_so (Err refusal.NeedsOpen) d = absurd d

  pub provider_so : (r : Result Imported ChipRefusal) → Counts w o' n1 f1 p1 r → Comes r → (after r).provider ≡ p1
  provider_so (Ok what) k d = refl
  provider_so (Err (refusal.Syntax x)) k d = refl
  provider_so (Err (refusal.Refused x)) k d = refl
  provider_so (Err refusal.ProviderFault) k d = refl
  provider_so (Err refusal.Worn) k d = sym (k.heard (λ x. absurd (cc (x))))
  provider_so (Err refusal.DiskFault) k d = refl
  provider_so (Err refusal.NoChip) k d = absurd d
  provider_so (Err refusal.NeedsOpen) k d = absurd d

  pub number_so : (r : Result Imported ChipRefusal) → Comes r → (after r).chip.imports ≡ one_more w.chip.imports
  number_so (Ok what) d = refl
  number_so (Err (refusal.Syntax x)) d = refl
  number_so (Err (refusal.Refused x)) d = refl
  number_so (Err refusal.ProviderFault) d = refl
  number_so (Err refusal.Worn) d = refl
  number_so (Err refusal.DiskFault) d = refl
  number_so (Err refusal.NoChip) d = absurd d
  number_so (Err refusal.NeedsOpen) d = absurd d

  pub verdicts_so : (r : Result Imported ChipRefusal) → Comes r → (after r).verdicts ≡ w.verdicts ++ asked_by w.opened bytes (verdict_of says w.opened bytes) r
  verdicts_so (Ok what) d = refl
  verdicts_so (Err (refusal.Syntax x)) d = refl
  verdicts_so (Err (refusal.Refused x)) d = refl
  verdicts_so (Err refusal.ProviderFault) d = sym (append-nil w.verdicts)
  verdicts_so (Err refusal.Worn) d = refl
  verdicts_so (Err refusal.DiskFault) d = refl
  verdicts_so (Err refusal.NoChip) d = absurd d
  verdicts_so (Err refusal.NeedsOpen) d = absurd d

  pub acks_so : (r : Result Imported ChipRefusal) → Comes r → (after r).acks ≡ w.acks ++ ack_of chip (one_more w.chip.imports) n1 r
  acks_so (Ok what) d = refl
  acks_so (Err (refusal.Syntax x)) d = refl
  acks_so (Err (refusal.Refused x)) d = refl
  acks_so (Err refusal.ProviderFault) d = sym (append-nil w.acks)
  acks_so (Err refusal.Worn) d = sym (append-nil w.acks)
  acks_so (Err refusal.DiskFault) d = sym (append-nil w.acks)
  acks_so (Err refusal.NoChip) d = absurd d
  acks_so (Err refusal.NeedsOpen) d = absurd d

  pub counts_so : (r : Result Imported ChipRefusal) → Counts w o' n1 f1 p1 r → Comes r → disk_of (after r).chip ≡ record { size = w.chip.size; calls = n1; faults = f1 }
  counts_so (Ok what) k d = refl
  counts_so (Err (refusal.Syntax x)) k d = refl
  counts_so (Err (refusal.Refused x)) k d = refl
  counts_so (Err refusal.ProviderFault) k d = λ i. record {
    size = w.chip.size;
    calls = sym (k.idle (λ x. absurd (cc (x))) (ap (λ (c : ChipValue). c.generation) d.chip)) i;
    faults = sym (k.quiet (λ x. absurd (cc (x)))) i;
  }
  counts_so (Err refusal.Worn) k d = λ i. record {
    size = w.chip.size;
    calls = sym (k.idle (λ x. absurd (cc (x))) (ap (λ (c : ChipValue). c.generation) d.chip)) i;
    faults = sym (k.quiet (λ x. absurd (cc (x)))) i;
  }
  counts_so (Err refusal.DiskFault) k d = refl
  counts_so (Err refusal.NoChip) k d = absurd d
  counts_so (Err refusal.NeedsOpen) k d = absurd d

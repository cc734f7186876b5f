-- A chip as its calls see it, what they answer and what they do to its memory (this project's own).
use Rattle.std.specs.Prelude.{◌≡◌, ◌≢◌, ◌⊎◌, ◌+◌, ◌-◌, ◌<◌, ◌^◌, ℕ, List, Some, None, Result, Ok, Err, Bool, true, false}
use Rattle.cvc_grammar.specs.declared.certificate.Cert.{Cert}
use Rattle.cvc_grammar.specs.declared.refusal.CvcRefusal.{CvcRefusal}
use Rattle.cvc_grammar.specs.ReadingOrder.{read_cert}
use Rattle.signature_provider.specs.Provider.{Says}
use Rattle.chip_verify.specs.declared.answers.Checked.TheVariants as checks
use Rattle.chip_verify.specs.declared.answers.Imported.{Imported}
use Rattle.chip_verify.specs.declared.answers.Imported.TheVariants as imports
use Rattle.chip_verify.specs.declared.answers.Judged.{Judged}
use Rattle.chip_verify.specs.declared.answers.Judged.TheVariants as judges
use Rattle.chip_verify.specs.Trust.{Trust}
use Rattle.chip_verify.specs.Session.{SessionValue, no_session}
use Rattle.chip_verify.specs.Refusals.{checked}
use Rattle.chip_verify.specs.Step.{Judges}
use Rattle.chip_slots.specs.declared.answers.ChipRefusal.{ChipRefusal}
use Rattle.chip_slots.specs.declared.answers.ChipRefusal.TheVariants as refusal
use Rattle.chip_slots.specs.declared.answers.MakeRefusal.{MakeRefusal}
use Rattle.chip_slots.specs.declared.answers.MakeRefusal.TheVariants as refuses
use Rattle.chip_slots.specs.Crash.{Standing}
use Rattle.chip_slots.specs.Image.{Reading}
use Rattle.chip_slots.specs.Ready.{IsStable, EachImage, ReadsEither}
use Rattle.chip_slots.specs.Found.{IsLookedAt, IsFoundIn}

-- What a chip holds between its calls. It needs opening where a device failure has left open which state its memory has.
pub record ChipValue : Type 0 where
  pub state : Trust
  pub session : SessionValue
  pub generation : ℕ
  pub needs_opening : Bool

-- What its memory reads as.
abbrev pub read_as : ChipValue → Reading
read_as c = Some (c.state, c.generation)

-- ---- opening

pub record IsOpened (c : ChipValue) : Type 0 where
  pub session : c.session ≡ no_session
  pub ready : c.needs_opening ≡ false

-- What an opening answers, of a memory that reads so, and what stands then.
abbrev pub Opens : Result ChipValue ChipRefusal → Reading → Standing → Type 0
Opens (Ok c) found now = (found ≡ read_as c) × IsStable (read_as c) now
Opens (Err refusal.NoChip) found now = (found ≡ None) × IsStable None now
Opens (Err refusal.DiskFault) found now = Unit {0}
Opens (Err refusal.ProviderFault) found now = ⊥
Opens (Err refusal.NeedsOpen) found now = ⊥
Opens (Err (refusal.Syntax e)) found now = ⊥
Opens (Err (refusal.Refused k)) found now = ⊥
Opens (Err refusal.Worn) found now = ⊥

-- ---- importing

-- No row of the table comes before the signature of a certificate.
abbrev pub IsAsked : ChipValue → Cert → Type 0
IsAsked c cert = checked c.state c.session cert.body ≡ checks.Ask

abbrev pub IsReadAsked : ChipValue → Result Cert CvcRefusal → Type 0
IsReadAsked c (Ok cert) = IsAsked c cert
IsReadAsked c (Err e) = ⊥

-- The provider is asked: the chip is ready, the bytes are a certificate, and the rules ask for its signature.
abbrev pub Asks : ChipValue → List ℕ → Type 0
Asks c bytes = (c.needs_opening ≡ false) × IsReadAsked c (read_cert bytes)

-- The state is no other one: only the session moves.
abbrev pub in_session : ChipValue → SessionValue → ChipValue
in_session c s = record { state = c.state; session = s; generation = c.generation; needs_opening = false }

-- Another state, of the next generation.
abbrev pub in_state : ChipValue → Trust → SessionValue → ChipValue
in_state c t s = record { state = t; session = s; generation = c.generation + 1; needs_opening = false }

-- After a device failure the session is empty, and the chip has to be opened.
abbrev pub broken : ChipValue → ChipValue
broken c = record { state = c.state; session = no_session; generation = c.generation; needs_opening = true }

-- The disk tells so; what stood at each moment before and after, from the call's start to its return.
module _ (tells : Type 0) (past told : ℕ → Standing) (from to : ℕ) where
  -- Each image reads as one of the two.
  abbrev pub LeavesEither : Reading → Reading → Type 0
  LeavesEither old new = tells → IsStable old (past from) → EachImage (ReadsEither old new) past told from to

  -- Each image now reads as this one alone.
  abbrev pub EndsAs : Reading → Reading → Type 0
  EndsAs old new = tells → IsStable old (past from) → IsStable new (told to)

  -- The chip moved to this session, with its state as it was.
  pub record MovesSession (c : ChipValue) (t : Trust) (s : SessionValue) (c' : ChipValue) : Type 0 where
    pub same : t ≡ c.state
    pub chip : c' ≡ in_session c s
    pub leaves : LeavesEither (read_as c) (read_as c)
    pub keeps : EndsAs (read_as c) (read_as c)

  -- The chip moved to another state.
  pub record MovesState (c : ChipValue) (t : Trust) (s : SessionValue) (c' : ChipValue) : Type 0 where
    pub other : t ≢ c.state
    pub room : c.generation < 2 ^ 64 - 1
    pub chip : c' ≡ in_state c t s
    pub leaves : LeavesEither (read_as c) (Some (t, c.generation + 1))
    pub keeps : EndsAs (read_as c) (Some (t, c.generation + 1))

  pub record IsWorn (c : ChipValue) (t : Trust) (c' : ChipValue) : Type 0 where
    pub other : t ≢ c.state
    pub last : c.generation ≡ 2 ^ 64 - 1
    pub chip : c' ≡ c

  -- A device failure: the old state or the new one.
  pub record Breaks (c : ChipValue) (t : Trust) (c' : ChipValue) : Type 0 where
    pub other : t ≢ c.state
    pub room : c.generation < 2 ^ 64 - 1
    pub chip : c' ≡ broken c
    pub leaves : LeavesEither (read_as c) (Some (t, c.generation + 1))

  -- This state and session follow, of a certificate of this sort.
  abbrev pub Moves : ChipValue → Trust → SessionValue → Imported → Result Imported ChipRefusal → ChipValue → Type 0
  Moves c t s what (Ok w) c' = (w ≡ what) × (MovesSession c t s c' ⊎ MovesState c t s c')
  Moves c t s what (Err refusal.Worn) c' = IsWorn c t c'
  Moves c t s what (Err refusal.DiskFault) c' = Breaks c t c'
  Moves c t s what (Err refusal.NoChip) c' = ⊥
  Moves c t s what (Err refusal.ProviderFault) c' = ⊥
  Moves c t s what (Err refusal.NeedsOpen) c' = ⊥
  Moves c t s what (Err (refusal.Syntax e)) c' = ⊥
  Moves c t s what (Err (refusal.Refused k)) c' = ⊥

  -- What comes of a certificate that is judged so.
  abbrev pub Follows : ChipValue → Judged → Result Imported ChipRefusal → ChipValue → Type 0
  Follows c judges.Held result c' = (result ≡ Ok imports.Held) × (c' ≡ c)
  Follows c (judges.Refused k) result c' = (result ≡ Err (refusal.Refused k)) × (c' ≡ c)
  Follows c (judges.Next t s what) result c' = Moves c t s what result c'

  -- The provider's answer is a judgement, or it failed.
  pub record IsJudged (says : Says) (c : ChipValue) (cert : Cert) (result : Result Imported ChipRefusal) (c' : ChipValue) : Type 0 where
    pub judged : Judged
    pub judges : Judges says c.state c.session cert judged
    pub follows : Follows c judged result c'

  pub record IsUnheard (c : ChipValue) (cert : Cert) (result : Result Imported ChipRefusal) (c' : ChipValue) : Type 0 where
    pub asked : IsAsked c cert
    pub answer : result ≡ Err refusal.ProviderFault
    pub chip : c' ≡ c

  abbrev pub ImportsCert : Says → ChipValue → Cert → Result Imported ChipRefusal → ChipValue → Type 0
  ImportsCert says c cert result c' = IsJudged says c cert result c' ⊎ IsUnheard c cert result c'

  abbrev pub ImportsRead : Says → ChipValue → Result Cert CvcRefusal → Result Imported ChipRefusal → ChipValue → Type 0
  ImportsRead says c (Ok cert) result c' = ImportsCert says c cert result c'
  ImportsRead says c (Err e) result c' = (result ≡ Err (refusal.Syntax e)) × (c' ≡ c)

  abbrev pub ImportsWhere : Bool → Says → ChipValue → List ℕ → Result Imported ChipRefusal → ChipValue → Type 0
  ImportsWhere true says c bytes result c' = (result ≡ Err refusal.NeedsOpen) × (c' ≡ c)
  ImportsWhere false says c bytes result c' = ImportsRead says c (read_cert bytes) result c'

  -- What an import of these bytes answers, and what it does.
  abbrev pub Imports : Says → ChipValue → List ℕ → Result Imported ChipRefusal → ChipValue → Type 0
  Imports says c bytes result c' = ImportsWhere c.needs_opening says c bytes result c'

-- ---- making

-- The memory was found empty, and the first state is written.
pub record IsFirstWritten (t : Trust) (past told : ℕ → Standing) (from to : ℕ) : Type 0 where
  pub mid : ℕ → Standing
  pub found : ℕ
  pub looked : IsLookedAt past mid from found
  pub stable : IsFoundIn past mid from found
  pub writes : EachImage (ReadsEither None (Some (t, 0))) mid told found to

-- What a making with this first state answers on a disk of the right length, whose memory reads so, and what it does.
abbrev pub Makes : Trust → Reading → Result (Unit {0}) MakeRefusal → (ℕ → Standing) → (ℕ → Standing) → ℕ → ℕ → Type 0
Makes t found (Ok u) past told from to = (found ≡ None) × IsFirstWritten t past told from to × IsStable (Some (t, 0)) (told to)
Makes t found (Err refuses.Made) past told from to = (found ≢ None) × IsLookedAt past told from to × IsFoundIn past told from to
Makes t found (Err refuses.DiskFault) past told from to = IsLookedAt past told from to ⊎ ((found ≡ None) × IsFirstWritten t past told from to)
Makes t found (Err refuses.Size) past told from to = ⊥
Makes t found (Err refuses.NotRoot) past told from to = ⊥

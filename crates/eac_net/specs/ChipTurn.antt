-- What one event of a chip does to what is told of that chip, by what the keeper's rows handed to it (BSI TR-03110-3 for what
-- a chip does; the events are this project's own).
use Rattle.std.specs.Prelude.{◌≡◌, ◌⊎◌, ℕ, List, [], ◌∷◌, Option, Some, None, Result, Ok, Err}
use Rattle.eac_base.specs.declared.failures.NoMemory.{NoMemory}
use Rattle.chip_verify.specs.Trust.{Trust}
use Rattle.chip_slots.specs.declared.answers.ChipRefusal.{ChipRefusal}
use Rattle.chip_events.specs.declared.answers.Looked.{Looked}
use Rattle.chip_events.specs.declared.answers.ImportAnswer.{ImportAnswer}
use Rattle.chip_events.specs.declared.answers.MakeAnswer.{MakeAnswer}
use Rattle.chip_events.specs.declared.answers.MakeAnswer.TheVariants as makes
use Rattle.chip_events.specs.declared.answers.Shown.{Shown}
use Rattle.chip_events.specs.Told.{ChipTold, ChipPart}
use Rattle.chip_events.specs.Openings.{Opens}
use Rattle.chip_events.specs.Imports.{InHand}
use Rattle.chip_events.specs.Givings.{ShowsAll, references_of, in_hand, put_back}
use Rattle.chip_events.specs.Makings.{Makes}
use Rattle.chip_events.specs.Events.{Looks, ImportsOne}
use Rattle.eac_net.specs.Handed.{Request, Handed, RootOf, ChainFor, Unasked, Certs, NoneFor, KeeperFailed, NoRoom}
use Rattle.eac_net.specs.declared.answer.Answer.{Answer}
use Rattle.eac_net.specs.declared.answer.Answer.TheVariants as answers
use Rattle.eac_net.specs.declared.answer.Fault.TheVariants as faults
use Rattle.eac_net.specs.declared.answer.Presented.TheVariants as presented
use Rattle.eac_net.specs.declared.event.Event.{Event}
use Rattle.eac_net.specs.declared.event.Event.TheVariants as events

-- ---- how an event is told

-- so, or memory was wanting for its text
abbrev pub IsTold : (answer said : Option Answer) → Type 0
IsTold answer said = (answer ≡ said) ⊎ (answer ≡ None)

-- by the result of a call on a chip
abbrev pub told_by : {A E : Type 0} → (A → Answer) → Result A E → Option Answer
told_by answer (Ok a) = Some (answer a)
told_by answer (Err e) = None

-- nothing but the chip itself was changed: nothing was acknowledged, and the provider wasn't called
abbrev pub IsChipAlone : ChipPart → ChipPart → Type 0
IsChipAlone s s' = s' ≡ record s { chip = s'.chip }

module _ (s : ChipPart) (handed : Handed) (answer : Option Answer) (s' : ChipPart) where
  -- ---- `look`

  pub record LookTurn : Type 0 where
    pub unasked : handed ≡ Unasked
    pub result : Result Looked NoMemory
    pub looks : Looks s.chip result s'.chip
    pub rest : IsChipAlone s s'
    pub told : IsTold answer (told_by answers.Looked result)

  -- ---- `import`

  pub record ImportTurn (chip : ℕ) (bytes : List ℕ) : Type 0 where
    pub unasked : handed ≡ Unasked
    pub result : Result ImportAnswer NoMemory
    pub imports : ImportsOne chip bytes s result s'
    pub told : IsTold answer (told_by answers.Imported result)

-- ---- nothing more was done

-- The event ended so, and left the chip's part like this.
pub record EndsAt (answer said : Option Answer) (left s' : ChipPart) : Type 0 where
  pub told : IsTold answer said
  pub next : s' ≡ left

-- ---- `make`

-- A making with the one certificate that was handed.
pub record MakesWith (day : ℕ) (certs : List (List ℕ)) (s : ChipPart) (answer : Option Answer) (s' : ChipPart) : Type 0 where
  pub root : List ℕ
  pub alone : certs ≡ root ∷ []
  pub result : Result MakeAnswer NoMemory
  pub makes : Makes root day s.chip result s'.chip
  pub rest : IsChipAlone s s'
  pub told : IsTold answer (told_by answers.Made result)

-- Without a certificate of the authority nothing is made.
abbrev pub MakesBy : (day : ℕ) → Handed → ChipPart → Option Answer → ChipPart → Type 0
MakesBy day Unasked s answer s' = EndsAt answer None s s'
MakesBy day (Certs request certs) s answer s' = MakesWith day certs s answer s'
MakesBy day (NoneFor request) s answer s' = EndsAt answer (Some (answers.Made makes.Unfounded)) s s'
MakesBy day (KeeperFailed request) s answer s' = EndsAt answer (Some (answers.Failed faults.Keeper)) s s'
MakesBy day (NoRoom request) s answer s' = EndsAt answer None s s'

-- It was this that was asked for, if anything was.
abbrev pub IsFor : Request → Handed → Type 0
IsFor request Unasked = Unit {0}
IsFor request (Certs asked certs) = asked ≡ request
IsFor request (NoneFor asked) = asked ≡ request
IsFor request (KeeperFailed asked) = asked ≡ request
IsFor request (NoRoom asked) = asked ≡ request

pub record MakeTurn (day authority : ℕ) (s : ChipPart) (handed : Handed) (answer : Option Answer) (s' : ChipPart) : Type 0 where
  pub asked : IsFor (RootOf authority) handed
  pub makes : MakesBy day handed s answer s'

-- ---- `present`

abbrev pub shown_as : Shown → Answer
shown_as shown = answers.Presented (presented.Shown shown)

-- The certificates that were handed were shown to the chip in hand.
pub record ShowsThem (chip : ℕ) (hand : InHand) (certs : List (List ℕ)) (answer : Option Answer) (s' : ChipPart) : Type 0 where
  pub result : Result Shown NoMemory
  pub left : InHand
  pub shows : ShowsAll chip hand certs result left
  pub next : s' ≡ put_back left
  pub told : IsTold answer (told_by shown_as result)

-- Where there is no chain, nothing is shown.
abbrev pub ShowsBy : (chip : ℕ) → InHand → Handed → Option Answer → ChipPart → Type 0
ShowsBy chip hand Unasked answer s' = EndsAt answer None (put_back hand) s'
ShowsBy chip hand (Certs request certs) answer s' = ShowsThem chip hand certs answer s'
ShowsBy chip hand (NoneFor request) answer s' = EndsAt answer (Some (answers.Presented presented.NoChain)) (put_back hand) s'
ShowsBy chip hand (KeeperFailed request) answer s' = EndsAt answer (Some (answers.Failed faults.Keeper)) (put_back hand) s'
ShowsBy chip hand (NoRoom request) answer s' = EndsAt answer None (put_back hand) s'

-- The chip was opened, and the chain for the points that it read was asked for.
pub record IsPresented (chip terminal : ℕ) (s : ChipPart) (handed : Handed) (answer : Option Answer) (s' : ChipPart) : Type 0 where
  pub read : Trust × ℕ
  pub now : ChipTold
  pub opens : Opens s.chip (Ok read) now
  pub asked : IsFor (ChainFor terminal (references_of read.0)) handed
  pub shows : ShowsBy chip (in_hand s now read) handed answer s'

-- It wasn't opened, and nothing was asked for.
pub record IsUnopened (s : ChipPart) (handed : Handed) (answer : Option Answer) (s' : ChipPart) : Type 0 where
  pub unasked : handed ≡ Unasked
  pub refusal : ChipRefusal
  pub opens : Opens s.chip (Err refusal) s'.chip
  pub rest : IsChipAlone s s'
  pub told : IsTold answer (Some (answers.Presented (presented.NotOpened refusal)))

-- Memory was wanting before anything was done.
pub record IsUndone (s : ChipPart) (handed : Handed) (answer : Option Answer) (s' : ChipPart) : Type 0 where
  pub unasked : handed ≡ Unasked
  pub none : answer ≡ None
  pub same : s' ≡ s

abbrev pub PresentTurn : (chip terminal : ℕ) → ChipPart → Handed → Option Answer → ChipPart → Type 0
PresentTurn chip terminal s handed answer s' =
    IsPresented chip terminal s handed answer s' ⊎ (IsUnopened s handed answer s' ⊎ IsUndone s handed answer s')

-- ---- one event of a chip

abbrev pub ChipTurn : (day : ℕ) → Event → Handed → Option Answer → ChipPart → ChipPart → Type 0
ChipTurn day (events.Make chip authority) handed answer s s' = MakeTurn day authority s handed answer s'
ChipTurn day (events.Present chip terminal) handed answer s s' = PresentTurn chip terminal s handed answer s'
ChipTurn day (events.Import chip bytes) handed answer s s' = ImportTurn s handed answer s' chip bytes
ChipTurn day (events.Look chip) handed answer s s' = LookTurn s handed answer s'
ChipTurn day (events.Day today) handed answer s s' = ⊥
ChipTurn day (events.Ask reference bytes) handed answer s s' = ⊥
ChipTurn day (events.Found authority) handed answer s s' = ⊥
ChipTurn day (events.Link authority) handed answer s s' = ⊥
ChipTurn day (events.Trust party authority) handed answer s s' = ⊥
ChipTurn day (events.Apply holder authority root) handed answer s s' = ⊥
ChipTurn day (events.Fetch party desk) handed answer s s' = ⊥
ChipTurn day (events.Send from to bytes) handed answer s s' = ⊥
ChipTurn day (events.Push desk party) handed answer s s' = ⊥
ChipTurn day (events.Deliver packet) handed answer s s' = ⊥

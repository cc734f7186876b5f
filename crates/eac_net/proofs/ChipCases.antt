-- What an event of a chip did to the chip, whatever it answered.
use Rattle.std.proofs.Common.{◌≡◌, ℕ, List, Some, Ok, Err, inl, inr, refl, sym, ap, ◌∙◌, subst}
use Rattle.std.specs.declared.option.Option.{Option}
use Rattle.std.specs.declared.result.Result.{Result}
use Rattle.eac_base.specs.declared.failures.NoMemory.{NoMemory}
use Rattle.cvc_grammar.specs.ReadingOrder.{read_cert}
use Rattle.cvc_grammar.specs.declared.certificate.Cert.{Cert}
use Rattle.cvc_grammar.specs.declared.refusal.CvcRefusal.{CvcRefusal}
use Rattle.chip_verify.specs.Trust.{Trust}
use Rattle.chip_slots.specs.declared.answers.ChipRefusal.{ChipRefusal}
use Rattle.chip_events.specs.declared.answers.ImportAnswer.{ImportAnswer}
use Rattle.chip_events.specs.declared.answers.Looked.{Looked}
use Rattle.chip_events.specs.declared.answers.Looked.TheVariants as looks
use Rattle.chip_events.specs.declared.answers.MakeAnswer.{MakeAnswer}
use Rattle.chip_events.specs.declared.answers.Shown.{Shown}
use Rattle.chip_events.specs.Told.{ChipTold, ChipPart}
use Rattle.chip_events.specs.Openings.{Opens}
use Rattle.chip_events.specs.Givings.{in_hand, put_back}
use Rattle.chip_events.specs.Makings.{MakesSo, Makes}
use Rattle.chip_events.specs.Events.{Looks, ImportsOne, Presents}
use Rattle.eac_net.specs.ChipTurn.{IsChipAlone, MakesBy, ShowsBy, PresentTurn, ChipTurn}
use Rattle.eac_net.specs.Chips.{chip_in}
use Rattle.eac_net.specs.Handed.{Handed, Unasked, Certs, NoneFor, KeeperFailed, NoRoom}
use Rattle.eac_net.specs.declared.answer.Answer.{Answer}
use Rattle.eac_net.specs.declared.event.Event.{Event}
use Rattle.eac_net.specs.declared.event.Event.TheVariants as events
use Rattle.eac_net.proofs.ChipSlices.{some_same}

-- It was left alone, opened or made alone, given a certificate, or shown some.
pub data ChipCase (chip : ℕ) (s s' : ChipPart) : Type 0 where
  Still : s' ≡ s → ChipCase chip s s'
  Opened : (read : Result (Trust × ℕ) ChipRefusal) → Opens s.chip read s'.chip → IsChipAlone s s' → ChipCase chip s s'
  Making : (root : Result Cert CvcRefusal) → (day : ℕ) → (answer : MakeAnswer) → MakesSo root day s.chip answer s'.chip → IsChipAlone s s' → ChipCase chip s s'
  Importing : (bytes : List ℕ) → (result : Result ImportAnswer NoMemory) → ImportsOne chip bytes s result s' → ChipCase chip s s'
  Presenting : (certs : List (List ℕ)) → (result : Result Shown NoMemory) → Presents chip certs s result s' → ChipCase chip s s'

module _ (chip : ℕ) (s s' : ChipPart) where
  -- nothing but the chip is another one, and the chip is the same
  still_chip : IsChipAlone s s' → s'.chip ≡ s.chip → ChipCase chip s s'
  still_chip rest same = Still (rest ∙ ap (λ (c : ChipTold). record s { chip = c }) same)

  looked : (result : Result Looked NoMemory) → Looks s.chip result s'.chip → IsChipAlone s s' → ChipCase chip s s'
  looked (Ok (looks.Read state generation)) x rest = Opened (Ok (state, generation)) x rest
  looked (Ok (looks.NotOpened e)) x rest = Opened (Err e) x rest
  looked (Err e) x rest = still_chip rest x

  made : (root : List ℕ) (day : ℕ) (result : Result MakeAnswer NoMemory) → Makes root day s.chip result s'.chip → IsChipAlone s s' → ChipCase chip s s'
  made root day (Ok answer) x rest = Making (read_cert root) day answer x rest
  made root day (Err e) x rest = still_chip rest x.1

  made_by : (day : ℕ) (handed : Handed) (answer : Option Answer) → MakesBy day handed s answer s' → ChipCase chip s s'
  made_by day Unasked answer x = Still x.next
  made_by day (Certs request certs) answer x = made x.root day x.result x.makes x.rest
  made_by day (NoneFor request) answer x = Still x.next
  made_by day (KeeperFailed request) answer x = Still x.next
  made_by day (NoRoom request) answer x = Still x.next

  -- after an opening
  module _ (read : Trust × ℕ) (now : ChipTold) (opens : Opens s.chip (Ok read) now) where
    alone : s' ≡ put_back (in_hand s now read) → ChipCase chip s s'
    alone next =
        let chip_is : s'.chip ≡ now = ap (λ (x : ChipPart). x.chip) next in
        Opened (Ok read) (subst (Opens s.chip (Ok read)) (sym chip_is) opens) (next ∙ ap (λ (c : ChipTold). record s { chip = c }) (sym chip_is))

    shown_by : (handed : Handed) (answer : Option Answer) → ShowsBy chip (in_hand s now read) handed answer s' → ChipCase chip s s'
    shown_by Unasked answer x = alone x.next
    shown_by (Certs request certs) answer x =
        Presenting certs x.result (record { hand = in_hand s now read; first = record { read = read; now = now; opens = opens; hand = refl }; left = x.left; shows = x.shows; next = x.next })
    shown_by (NoneFor request) answer x = alone x.next
    shown_by (KeeperFailed request) answer x = alone x.next
    shown_by (NoRoom request) answer x = alone x.next

  presented : (terminal : ℕ) (handed : Handed) (answer : Option Answer) → PresentTurn chip terminal s handed answer s' → ChipCase chip s s'
  presented terminal handed answer (inl x) = shown_by x.read x.now x.opens handed answer x.shows
  presented terminal handed answer (inr (inl x)) = Opened (Err x.refusal) x.opens x.rest
  presented terminal handed answer (inr (inr x)) = Still x.same

-- the chip is the event's
pub case_of : (day : ℕ) (e : Event) (handed : Handed) (answer : Option Answer) (s s' : ChipPart) (chip : ℕ) → chip_in e ≡ Some chip → ChipTurn day e handed answer s s' → ChipCase chip s s'
case_of day (events.Make n authority) handed answer s s' chip own x = subst (λ (m : ℕ). ChipCase m s s') (some_same n chip own) (made_by n s s' day handed answer x.makes)
case_of day (events.Present n terminal) handed answer s s' chip own x = subst (λ (m : ℕ). ChipCase m s s') (some_same n chip own) (presented n s s' terminal handed answer x)
case_of day (events.Import n bytes) handed answer s s' chip own x = subst (λ (m : ℕ). ChipCase m s s') (some_same n chip own) (Importing bytes x.result x.imports)
case_of day (events.Look n) handed answer s s' chip own x = subst (λ (m : ℕ). ChipCase m s s') (some_same n chip own) (looked n s s' x.result x.looks x.rest)
case_of day (events.Day today) handed answer s s' chip own x = absurd x
case_of day (events.Ask reference bytes) handed answer s s' chip own x = absurd x
case_of day (events.Found authority) handed answer s s' chip own x = absurd x
case_of day (events.Link authority) handed answer s s' chip own x = absurd x
case_of day (events.Trust party authority) handed answer s s' chip own x = absurd x
case_of day (events.Apply holder authority root) handed answer s s' chip own x = absurd x
case_of day (events.Fetch party desk) handed answer s s' chip own x = absurd x
case_of day (events.Send from to bytes) handed answer s s' chip own x = absurd x
case_of day (events.Push desk party) handed answer s s' chip own x = absurd x
case_of day (events.Deliver packet) handed answer s s' chip own x = absurd x

-- an event with a turn has a chip
pub chip_there : (day : ℕ) (e : Event) (handed : Handed) (answer : Option Answer) (s s' : ChipPart) → ChipTurn day e handed answer s s' → (chip : ℕ) × (chip_in e ≡ Some chip)
chip_there day (events.Make n authority) handed answer s s' x = (n, refl)
chip_there day (events.Present n terminal) handed answer s s' x = (n, refl)
chip_there day (events.Import n bytes) handed answer s s' x = (n, refl)
chip_there day (events.Look n) handed answer s s' x = (n, refl)
chip_there day (events.Day today) handed answer s s' x = absurd x
chip_there day (events.Ask reference bytes) handed answer s s' x = absurd x
chip_there day (events.Found authority) handed answer s s' x = absurd x
chip_there day (events.Link authority) handed answer s s' x = absurd x
chip_there day (events.Trust party authority) handed answer s s' x = absurd x
chip_there day (events.Apply holder authority root) handed answer s s' x = absurd x
chip_there day (events.Fetch party desk) handed answer s s' x = absurd x
chip_there day (events.Send from to bytes) handed answer s s' x = absurd x
chip_there day (events.Push desk party) handed answer s s' x = absurd x
chip_there day (events.Deliver packet) handed answer s s' x = absurd x

-- The acknowledgements of an item are of its event's chip.
use Rattle.std.proofs.Common.{◌≡◌, inl, inr, ℕ, List, [], ◌∷◌, ◌++◌, Bool, true, false, cond, eqb, Some, None, Ok, Err, refl, sym, ap, ◌∙◌, subst}
use Rattle.std.specs.Prelude.{filter}
use Rattle.std.specs.List.{AllByRecursion}
use Rattle.std.specs.declared.option.Option.{Option}
use Rattle.std.specs.declared.result.Result.{Result}
use Rattle.std.proofs.lemmas.Bool.{eqb-true, eq-eqb}
use Rattle.std.proofs.lemmas.List.Elements.{filter-append}
use Rattle.eac_base.specs.declared.acks.Ack.{Ack}
use Rattle.eac_base.specs.declared.failures.NoMemory.{NoMemory}
use Rattle.chip_verify.specs.declared.answers.Imported.{Imported}
use Rattle.chip_slots.specs.declared.answers.ChipRefusal.{ChipRefusal}
use Rattle.chip_slots.specs.declared.answers.ChipRefusal.TheVariants as refusal
use Rattle.chip_events.specs.declared.answers.ImportAnswer.{ImportAnswer}
use Rattle.chip_events.specs.declared.answers.ImportAnswer.TheVariants as imports
use Rattle.chip_events.specs.declared.answers.Shown.{Shown}
use Rattle.chip_events.specs.declared.answers.ShownEnd.{ShownEnd}
use Rattle.chip_events.specs.declared.answers.ShownEnd.TheVariants as ends
use Rattle.chip_events.specs.declared.answers.Taken.{Taken}
use Rattle.chip_events.specs.Acts.{IsIn}
use Rattle.chip_events.specs.Told.{ChipPart, found_so, one_more}
use Rattle.chip_events.specs.Imports.{InHand, Imports, ack_of}
use Rattle.chip_events.specs.Givings.{Gives, Stop, AllTaken, AnsweredBy, OutOfRoom, GivesAll, EndsAt, ShowsAll, put_back}
use Rattle.chip_events.specs.Events.{IsOpenedFirst, IsGiven, ImportsOne}
use Rattle.eac_net.specs.ChipSays.{OfChip, OfNone, ChipSays}
use Rattle.eac_net.specs.Chips.{chip_in, is_this, is_chip_of}
use Rattle.eac_net.specs.Items.{Ran, acks_of, own_items}
use Rattle.eac_net.specs.Laws.{AcksAreOwn, AcksAreOfItems}
use Rattle.eac_net.specs.declared.event.Event.{Event}
use Rattle.eac_net.specs.declared.event.Event.TheVariants as events
use Rattle.eac_net.proofs.ChipCases.{ChipCase, Still, Opened, Making, Importing, Presenting, case_of}

module _ (chip : ℕ) where
  abbrev Own : List Ack → Type 0
  Own acks = AllByRecursion (λ (a : Ack). a.chip ≡ chip) acks

  own_append : (xs ys : List Ack) → Own xs → Own ys → Own (xs ++ ys)
  own_append [] ys h k = k
  own_append (x ∷ xs) ys h k = (h.0, own_append xs ys h.1 k)

  ack_own : (number calls : ℕ) (result : Result Imported ChipRefusal) → Own (ack_of chip number calls result)
  ack_own number calls (Ok what) = (refl, tt)
  ack_own number calls (Err e) = tt

  same_own : (before now : List Ack) → now ≡ before → Own before → Own now
  same_own before now is h = subst Own (sym is) h

  -- ---- a certificate that is given

  answered_own : (w w' : InHand) (number calls : ℕ) (result : Result Imported ChipRefusal) → w'.acks ≡ w.acks ++ ack_of chip number calls result → Own w.acks → Own w'.acks
  answered_own w w' number calls result is h = same_own (w.acks ++ ack_of chip number calls result) w'.acks is (own_append w.acks (ack_of chip number calls result) h (ack_own number calls result))

  imports_own : (w w' : InHand) (bytes : List ℕ) (verdict : Bool) (result : Result Imported ChipRefusal) → Imports chip w bytes verdict result w' → Own w.acks → Own w'.acks
  imports_own w w' bytes verdict (Ok what) v h = answered_own w w' (one_more w.chip.imports) w'.chip.calls (Ok what) v.acks h
  imports_own w w' bytes verdict (Err (refusal.Syntax e)) v h = answered_own w w' (one_more w.chip.imports) w'.chip.calls (Err (refusal.Syntax e)) v.acks h
  imports_own w w' bytes verdict (Err (refusal.Refused k)) v h = answered_own w w' (one_more w.chip.imports) w'.chip.calls (Err (refusal.Refused k)) v.acks h
  imports_own w w' bytes verdict (Err refusal.ProviderFault) v h = same_own w.acks w'.acks (ap (λ (x : InHand). x.acks) v.next) h
  imports_own w w' bytes verdict (Err refusal.Worn) v h = same_own w.acks w'.acks (ap (λ (x : InHand). x.acks) v.next) h
  imports_own w w' bytes verdict (Err refusal.DiskFault) v h = same_own w.acks w'.acks v.acks h
  imports_own w w' bytes verdict (Err refusal.NoChip) v h = absurd v
  imports_own w w' bytes verdict (Err refusal.NeedsOpen) v h = absurd v

  gives_own : (w w' : InHand) (bytes : List ℕ) (result : Result Taken ChipRefusal) → Gives chip w bytes result w' → Own w.acks → Own w'.acks
  gives_own w w' bytes (Ok taken) (verdict, v, is) h = imports_own w w' bytes verdict (Ok taken.what) v h
  gives_own w w' bytes (Err e) (verdict, v) h = imports_own w w' bytes verdict (Err e) v h

  all_own : (w w' : InHand) (certs : List (List ℕ)) (taken : List Taken) (stop : Stop) → GivesAll chip w certs taken stop w' → Own w.acks → Own w'.acks
  all_own w w' [] [] AllTaken v h = same_own w.acks w'.acks (ap (λ (x : InHand). x.acks) v) h
  all_own w w' (b ∷ certs) (t ∷ taken) stop (mid, gives, rest) h = all_own mid w' certs taken stop rest (gives_own w mid b (Ok t) gives h)
  all_own w w' (b ∷ certs) [] (AnsweredBy e) v h = gives_own w w' b (Err e) v h
  all_own w w' (b ∷ certs) [] OutOfRoom v h = same_own w.acks w'.acks (ap (λ (x : InHand). x.acks) v) h
  all_own w w' [] [] (AnsweredBy e) v h = absurd v
  all_own w w' [] [] OutOfRoom v h = absurd v
  all_own w w' [] (t ∷ taken) stop v h = absurd v
  all_own w w' (b ∷ certs) [] AllTaken v h = absurd v

  ends_own : (w w' : InHand) (certs : List (List ℕ)) (taken : List Taken) (end : ShownEnd) → EndsAt chip w certs taken end w' → Own w.acks → Own w'.acks
  ends_own w w' certs taken (ends.AllTaken grant) v h = all_own w w' certs taken AllTaken v.0 h
  ends_own w w' certs taken (ends.NotTaken e) v h = all_own w w' certs taken (AnsweredBy e) v h

  shows_own : (w w' : InHand) (certs : List (List ℕ)) (result : Result Shown NoMemory) → ShowsAll chip w certs result w' → Own w.acks → Own w'.acks
  shows_own w w' certs (Ok shown) v h = ends_own w w' certs shown.taken shown.end v h
  shows_own w w' certs (Err e) (taken, v) h = all_own w w' certs taken OutOfRoom v h

  -- ---- an event

  module _ (s s' : ChipPart) (h : Own s.acks) where
    first_own : (w : InHand) → IsOpenedFirst s w → Own w.acks
    first_own w x = same_own s.acks w.acks (ap (λ (y : InHand). y.acks) x.hand) h

    next_own : (u : ChipPart) → s' ≡ u → Own u.acks → Own s'.acks
    next_own u is k = same_own u.acks s'.acks (ap (λ (x : ChipPart). x.acks) is) k

    given_own : (bytes : List ℕ) (result : Result Taken ChipRefusal) (left : InHand) → IsGiven chip bytes s result left s' → Own s'.acks
    given_own bytes result left v = next_own (put_back left) v.next (gives_own v.hand left bytes result v.gives (first_own v.hand v.first))

    one_own : (bytes : List ℕ) (result : Result ImportAnswer NoMemory) → ImportsOne chip bytes s result s' → Own s'.acks
    one_own bytes (Ok (imports.NotOpened e)) (c, opens, next) = next_own (record s { chip = c }) next h
    one_own bytes (Ok (imports.Took taken day)) (left, v, is) = given_own bytes (Ok taken) left v
    one_own bytes (Ok (imports.NotTaken e)) (left, v) = given_own bytes (Err e) left v
    one_own bytes (Err e) (inl next) = next_own s next h
    one_own bytes (Err e) (inr v) = next_own (put_back v.hand) v.next (first_own v.hand v.first)

    case_own : ChipCase chip s s' → Own s'.acks
    case_own (Still is) = next_own s is h
    case_own (Opened read opens rest) = next_own (record s { chip = s'.chip }) rest h
    case_own (Making root day answer makes rest) = next_own (record s { chip = s'.chip }) rest h
    case_own (Importing bytes result v) = one_own bytes result v
    case_own (Presenting certs result v) = next_own (put_back v.left) v.next (shows_own v.hand v.left certs result v.shows (first_own v.hand v.first))

-- ---- an item

own_in : (chip : ℕ) (acks : List Ack) → Own chip acks → (a : Ack) → IsIn a acks → a.chip ≡ chip
own_in chip [] h a i = absurd i
own_in chip (x ∷ acks) h a (inl is) = ap (λ (y : Ack). y.chip) is ∙ h.0
own_in chip (x ∷ acks) h a (inr i) = own_in chip acks h.1 a i

of_chip : (i : Ran) (chip : ℕ) → OfChip chip i → chip_in i.event ≡ Some chip → (a : Ack) → IsIn a i.acks → chip_in i.event ≡ Some a.chip
of_chip i chip x own a among =
    let s : ChipPart = found_so x.some i.from.parties.provider in
    let s' : ChipPart = record { chip = x.then_some; acks = i.acks; verdicts = x.turn.verdicts; provider = i.to.parties.provider } in
    let all : Own chip i.acks = case_own chip s s' tt (case_of x.turn.day i.event i.handed i.answer s s' chip own x.turn.turn) in
    own ∙ ap (λ (n : ℕ). Some n) (sym (own_in chip i.acks all a among))

of_none : (i : Ran) → OfNone i → (a : Ack) → IsIn a i.acks → chip_in i.event ≡ Some a.chip
of_none i x a among = absurd (subst (λ (l : List Ack). IsIn a l) x.acks among)

own_by : (i : Ran) (e : Event) → i.event ≡ e → ChipSays e i → (a : Ack) → IsIn a i.acks → chip_in i.event ≡ Some a.chip
own_by i (events.Make chip authority) is x = of_chip i chip x (ap chip_in is)
own_by i (events.Present chip terminal) is x = of_chip i chip x (ap chip_in is)
own_by i (events.Import chip bytes) is x = of_chip i chip x (ap chip_in is)
own_by i (events.Look chip) is x = of_chip i chip x (ap chip_in is)
own_by i (events.Day day) is x = of_none i x
own_by i (events.Ask reference bytes) is x = of_none i x
own_by i (events.Found authority) is x = of_none i x
own_by i (events.Link authority) is x = of_none i x
own_by i (events.Trust party authority) is x = of_none i x
own_by i (events.Apply holder authority root) is x = of_none i x
own_by i (events.Fetch party desk) is x = of_none i x
own_by i (events.Push desk party) is x = of_none i x
own_by i (events.Send from to bytes) is x = of_none i x
own_by i (events.Deliver number) is x = of_none i x

pub acks_are_own : AcksAreOwn
acks_are_own setup i a says among = own_by i i.event refl says.chips a among

-- ---- a run

this_is : (chip : ℕ) (o : Option ℕ) → is_this chip o ≡ true → o ≡ Some chip
this_is chip (Some other) is = ap (λ (n : ℕ). Some n) (sym (eqb-true chip other is))
this_is chip None is = absurd (cc (is))

-- an item of this chip
pub own_event : (chip : ℕ) (e : Event) → is_chip_of chip e ≡ true → chip_in e ≡ Some chip
own_event chip e is = this_is chip (chip_in e) is

-- one of another acknowledges nothing of this chip
pub none_of_other : (chip : ℕ) (i : Ran) → is_chip_of chip i.event ≡ false → ((a : Ack) → IsIn a i.acks → chip_in i.event ≡ Some a.chip) → (a : Ack) → IsIn a i.acks → chip ≡ a.chip → ⊥
none_of_other chip i other own a among is =
    let was : is_chip_of chip i.event ≡ true = ap (is_this chip) (own a among) ∙ eq-eqb chip a.chip is in
    absurd (cc (other, was))

module _ (test : Ack → Bool) where
  all_pass : (acks : List Ack) → ((a : Ack) → IsIn a acks → test a ≡ true) → filter test acks ≡ acks
  all_pass [] h = refl
  all_pass (x ∷ acks) h = ap (λ (b : Bool). cond b (x ∷ filter test acks) (filter test acks)) (h x (inl refl)) ∙ ap (λ (l : List Ack). x ∷ l) (all_pass acks (λ a i. h a (inr i)))

  none_pass : (acks : List Ack) → ((a : Ack) → IsIn a acks → test a ≡ false) → filter test acks ≡ []
  none_pass [] h = refl
  none_pass (x ∷ acks) h = ap (λ (b : Bool). cond b (x ∷ filter test acks) (filter test acks)) (h x (inl refl)) ∙ none_pass acks (λ a i. h a (inr i))

module _ (chip : ℕ) where
  abbrev of_this : Ack → Bool
  of_this a = eqb chip a.chip

  item_acks : (i : Ran) (rest : List Ran) (b : Bool) → is_chip_of chip i.event ≡ b → ((a : Ack) → IsIn a i.acks → chip_in i.event ≡ Some a.chip) →
      filter of_this i.acks ++ acks_of rest ≡ acks_of (cond b (i ∷ rest) rest)
  item_acks i rest true is own =
      ap (λ (l : List Ack). l ++ acks_of rest) (all_pass of_this i.acks (λ a among. ap (is_this chip) (sym (own a among)) ∙ is))
  item_acks i rest false is own =
      ap (λ (l : List Ack). l ++ acks_of rest) (none_pass of_this i.acks (λ a among. ap (is_this chip) (sym (own a among)) ∙ is))

pub acks_are_of_items : AcksAreOfItems
acks_are_of_items setup k k' [] chip ran = refl
acks_are_of_items setup k k' (i ∷ items) chip ran =
    filter-append (of_this chip) i.acks (acks_of items)
    ∙ ap (λ (l : List Ack). filter (of_this chip) i.acks ++ l) (acks_are_of_items setup ran.0 k' items chip ran.2)
    ∙ item_acks chip i (own_items chip items) (is_chip_of chip i.event) refl (λ a among. acks_are_own setup i a ran.1.answers among)

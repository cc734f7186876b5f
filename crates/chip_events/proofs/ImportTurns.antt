-- What comes after an opening, as an event of its own.
use Rattle.std.proofs.Common.{◌≡◌, inr, ℕ, List, [], Option, Some, None, Result, Ok, Err, false, refl, sym, ◌∙◌, ap, subst, append-nil}
use Rattle.std.specs.Prelude.{IsOk}
use Rattle.eac_base.specs.declared.acks.Ack.{Ack}
use Rattle.signature_provider.specs.declared.provider.SignatureProvider.{Ghosts as ProviderOf}
use Rattle.chip_verify.specs.Session.{no_session}
use Rattle.chip_slots.specs.declared.answers.ChipRefusal.{ChipRefusal}
use Rattle.chip_slots.specs.declared.disk.ChipDisk.{Ghosts as DiskOf}
use Rattle.chip_slots.specs.Chips.{ChipValue}
use Rattle.chip_events.specs.declared.answers.ImportAnswer.{ImportAnswer}
use Rattle.chip_events.specs.declared.answers.ImportAnswer.TheVariants as answers
use Rattle.chip_events.specs.declared.answers.Shown.{Shown}
use Rattle.chip_events.specs.declared.answers.Taken.{Taken}
use Rattle.chip_events.specs.declared.count.ImportCount.{ImportCount}
use Rattle.chip_events.specs.Told.{ChipTold, ChipPart, found_so}
use Rattle.chip_events.specs.Openings.{Opens, read_in}
use Rattle.chip_events.specs.Imports.{InHand}
use Rattle.chip_events.specs.Givings.{Gives, ShowsAll, WereTaken, in_hand, put_back}
use Rattle.chip_events.specs.Events.{IsOpenedFirst, IsGiven, ImportsOne, Presents}
use Rattle.chip_events.specs.DiskTurns.{ProvidedTurn, IsChipFor, IsOpenedTo, OpensTo, HandTurn, IsUntouched}
use Rattle.chip_events.proofs.Untouched.{chip_for_same, still_turn}

-- ---- an opening and a turn of what is in hand

module _ {D P : Type 0} (G : DiskOf D) (H : ProviderOf P) (first mid d' : D) (p p' : P) (imports imports' : ImportCount) (acks acks' : List Ack) (o o' : ChipValue) (goes_on : Type 0)
    (onward : InHand → InHand → Type 0) (opens : OpensTo G first mid imports.count (Ok o)) (turns : HandTurn G H mid d' p p' imports imports' acks acks' o o' goes_on onward) where
  -- what was in hand, by the chip as it was found and as it was opened
  abbrev hand_of : ChipTold → InHand
  hand_of c' = record { chip = c'; opened = o; acks = []; verdicts = []; provider = H.faults p }

  pub record Joined (c c' : ChipTold) : Type 0 where
    pub hand : InHand
    pub left : InHand
    pub first_is : IsOpenedFirst (found_so c (H.faults p)) hand
    pub turn : onward hand left
    pub next : record { chip = c'; acks = turns.new; verdicts = turns.asked; provider = H.faults p' } ≡ put_back left
    pub opened : left.opened ≡ o'

  opened_is : record { state = o.state; session = no_session; generation = o.generation; needs_opening = false } ≡ o
  opened_is = λ i. record { state = o.state; session = sym opens.is_chip.session i; generation = o.generation; needs_opening = sym opens.is_chip.ready i }

  join : (since : Option ℕ) (c now : ChipTold) → IsOpenedTo G mid since c (Ok o) now → now.imports ≡ imports.count →
      (c' : ChipTold) × (c'.imports ≡ imports'.count) × IsChipFor G d' since c' × Joined c c'
  join since c now at number =
      let h = at.in_hand [] [] (H.faults p) in
      let t = turns.turn since (hand_of now) (record { hand = h.hand; memory = h.memory; opened = refl; provider_is = refl; number_is = number }) in (
        t.0.chip,
        t.2.number_is,
        t.2.chip_at,
        record {
          hand = hand_of now;
          left = t.0;
          first_is = record {
            read = (o.state, o.generation);
            now = now;
            opens = at.opens;
            hand = λ i. record { chip = now; opened = sym opened_is i; acks = []; verdicts = []; provider = H.faults p };
          };
          turn = t.1;
          next = λ i. record { chip = t.0.chip; acks = sym t.2.acks i; verdicts = sym t.2.verdicts i; provider = sym t.2.provider_is i };
          opened = t.2.opened;
        },
      )

  pub joined_turn : (leads : ChipPart → ChipPart → Type 0) → ((c c' : ChipTold) → Joined c c' → leads (found_so c (H.faults p)) (record { chip = c'; acks = turns.new; verdicts = turns.asked; provider = H.faults p' })) →
      ProvidedTurn G H first d' p p' imports imports' acks acks' leads
  joined_turn leads made =
      let some = join None opens.some opens.then_some opens.turn opens.after.imports in
      record {
        asked = turns.asked;
        said = turns.said;
        new = turns.new;
        acks_are = turns.acks_are;
        chip = turns.chip;
        turn = record {
          some = opens.some;
          then_some = some.0;
          before = opens.before;
          after = record { disk = some.2; imports = some.1 };
          turn = made opens.some some.0 some.3;
          tells = λ tells. turns.tells (opens.tells tells);
          told = λ tells since c at number.
              let r = opens.told tells since c at in
              let x = join (Some since) c r.0 r.2 (r.1 ∙ number) in
              (x.0, x.1, x.2.1, made c x.0 x.3);
        };
      }

-- ---- an opening alone

module _ {D P : Type 0} (G : DiskOf D) (H : ProviderOf P) (first mid d' : D) (p p' : P) (imports imports' : ImportCount) (acks acks' : List Ack) (opened : Result ChipValue ChipRefusal)
    (opens : OpensTo G first mid imports.count opened) (u : IsUntouched G mid d') (same_provider : p' ≡ p) (same_imports : imports' ≡ imports) (same_acks : acks' ≡ acks) where
  -- nothing came after it: nothing was asked, counted or acknowledged
  pub alone_turn : (leads : ChipPart → ChipPart → Type 0) → ((c now : ChipTold) → Opens c (read_in opened) now → leads (found_so c (H.faults p)) (found_so now (H.faults p))) → ProvidedTurn G H first d' p p' imports imports' acks acks' leads
  alone_turn leads made = record {
    asked = [];
    said = tt;
    new = [];
    acks_are = same_acks ∙ sym (append-nil acks);
    chip = ap (λ (k : ImportCount). k.chip) same_imports;
    turn = record {
      some = opens.some;
      then_some = opens.then_some;
      before = opens.before;
      after = record { disk = chip_for_same G mid d' u None opens.then_some opens.turn.chip_at; imports = opens.after.imports ∙ number_same };
      turn = goes opens.some opens.then_some opens.turn.opens;
      tells = λ tells. u.tells.0 (opens.tells tells);
      told = λ tells since c at number.
          let r = opens.told tells since c at in
          (r.0, r.1 ∙ number ∙ number_same, (chip_for_same G mid d' u (Some since) r.0 r.2.chip_at).1, goes c r.0 r.2.opens);
    };
  }
    where
      number_same : imports.count ≡ imports'.count
      number_same = sym (ap (λ (k : ImportCount). k.count) same_imports)

      goes : (c now : ChipTold) → Opens c (read_in opened) now → leads (found_so c (H.faults p)) (found_so now (H.faults p'))
      goes c now o = subst (λ (n : ℕ). leads (found_so c (H.faults p)) (found_so now n)) (sym (ap H.faults same_provider)) (made c now o)

-- ---- nothing at all

module _ {D P : Type 0} (G : DiskOf D) (H : ProviderOf P) (d d' : D) (p : P) (imports : ImportCount) (acks : List Ack) (u : IsUntouched G d d') where
  pub nothing_turn : (leads : ChipPart → ChipPart → Type 0) → ((s : ChipPart) → leads s s) → ProvidedTurn G H d d' p p imports imports acks acks leads
  nothing_turn leads made = record {
    asked = [];
    said = tt;
    new = [];
    acks_are = sym (append-nil acks);
    chip = refl;
    turn = still_turn G d d' u (λ c c'. leads (found_so c (H.faults p)) (found_so c' (H.faults p))) (λ c size. made (found_so c (H.faults p))) imports.count;
  }

-- ---- an import

abbrev taken_so : Taken → Result Taken ChipRefusal
taken_so taken = Ok taken

abbrev refused_so : ChipRefusal → Result Taken ChipRefusal
refused_so e = Err e

module _ (E : Type 0) {D P : Type 0} (G : DiskOf D) (H : ProviderOf P) (first mid d' : D) (p p' : P) (imports imports' : ImportCount) (acks acks' : List Ack) (bytes : List ℕ) where
  abbrev Turns : Result ImportAnswer E → Type 0
  Turns answer = ProvidedTurn G H first d' p p' imports imports' acks acks' (λ s s'. ImportsOne {E = E} imports.chip bytes s answer s')

  module _ (o o' : ChipValue) (opens : OpensTo G first mid imports.count (Ok o)) where
    pub given_turn : (t : Result Taken ChipRefusal) (answer : Result ImportAnswer E) → ((s s' : ChipPart) (left : InHand) → left.opened ≡ o' → IsGiven imports.chip bytes s t left s' → ImportsOne {E = E} imports.chip bytes s answer s')
        → HandTurn G H mid d' p p' imports imports' acks acks' o o' (IsOk t) (λ w left. Gives imports.chip w bytes t left) → Turns answer
    given_turn t answer made turns = joined_turn G H first mid d' p p' imports imports' acks acks' o o' (IsOk t) (λ w left. Gives imports.chip w bytes t left) opens turns (λ s s'. ImportsOne {E = E} imports.chip bytes s answer s')
        (λ c c' j. made _ _ j.left j.opened (record { hand = j.hand; first = j.first_is; gives = j.turn; next = j.next }))

    pub took_turn : (taken : Taken) (day : ℕ) → day ≡ o'.state.day → HandTurn G H mid d' p p' imports imports' acks acks' o o' (IsOk (taken_so taken)) (λ w left. Gives imports.chip w bytes (Ok taken) left) → Turns (Ok (answers.Took taken day))
    took_turn taken day day_is turns = given_turn (Ok taken) (Ok (answers.Took taken day)) (λ s s' left is given. (left, given, day_is ∙ sym (ap (λ (x : ChipValue). x.state.day) is))) turns

    pub not_taken_turn : (e : ChipRefusal) → HandTurn G H mid d' p p' imports imports' acks acks' o o' (IsOk (refused_so e)) (λ w left. Gives imports.chip w bytes (Err e) left) → Turns (Ok (answers.NotTaken e))
    not_taken_turn e turns = given_turn (Err e) (Ok (answers.NotTaken e)) (λ s s' left is given. (left, given)) turns

    pub wanting_turn : (e : E) → IsUntouched G mid d' → p' ≡ p → imports' ≡ imports → acks' ≡ acks → Turns (Err e)
    wanting_turn e u same_provider same_imports same_acks = alone_turn G H first mid d' p p' imports imports' acks acks' (Ok o) opens u same_provider same_imports same_acks (λ s s'. ImportsOne {E = E} imports.chip bytes s (Err e) s')
        (λ c now x. inr (record { hand = in_hand (found_so c (H.faults p)) now (o.state, o.generation); first = record { read = (o.state, o.generation); now = now; opens = x; hand = refl }; next = refl }))

  pub not_opened_turn : (e : ChipRefusal) → OpensTo G first mid imports.count (Err e) → IsUntouched G mid d' → p' ≡ p → imports' ≡ imports → acks' ≡ acks → Turns (Ok (answers.NotOpened e))
  not_opened_turn e opens u same_provider same_imports same_acks = alone_turn G H first mid d' p p' imports imports' acks acks' (Err e) opens u same_provider same_imports same_acks (λ s s'. ImportsOne {E = E} imports.chip bytes s (Ok (answers.NotOpened e)) s')
      (λ c now x. (now, x, refl))

-- ---- certificates that are shown

module _ {D P : Type 0} {E : Type 0} (G : DiskOf D) (H : ProviderOf P) (first mid d' : D) (p p' : P) (imports imports' : ImportCount) (acks acks' : List Ack) (o o' : ChipValue) (certs : List (List ℕ)) (result : Result Shown E) where
  pub presented_turn : OpensTo G first mid imports.count (Ok o) → HandTurn G H mid d' p p' imports imports' acks acks' o o' (WereTaken result) (λ w left. ShowsAll imports.chip w certs result left) →
      ProvidedTurn G H first d' p p' imports imports' acks acks' (λ s s'. Presents imports.chip certs s result s')
  presented_turn opens turns = joined_turn G H first mid d' p p' imports imports' acks acks' o o' (WereTaken result) (λ w left. ShowsAll imports.chip w certs result left) opens turns (λ s s'. Presents imports.chip certs s result s')
      (λ c c' j. record { hand = j.hand; first = j.first_is; left = j.left; shows = j.turn; next = j.next })

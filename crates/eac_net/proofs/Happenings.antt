-- What an event of a chip did, by the calls that it made.
use Rattle.std.proofs.Common.{◌≡◌, ◌≢◌, ◌≤◌, ◌<◌, ◌⊎◌, inl, inr, false, ℕ, List, [], ◌∷◌, ◌++◌, length, Some, None, Ok, Err, refl, sym, ap, ◌∙◌, subst, append-nil, arith}
use Rattle.std.specs.Prelude.{IsSome, IsErr}
use Rattle.std.specs.declared.option.Option.{Option}
use Rattle.std.specs.declared.result.Result.{Result}
use Rattle.std.proofs.lemmas.List.{get_or-set_same, get_or-set_other}
use Rattle.eac_base.proofs.Tellings.{told_same}
use Rattle.eac_base.specs.Acknowledged.{AcksValue}
use Rattle.eac_base.specs.declared.acks.Ack.{Ack}
use Rattle.eac_base.specs.declared.failures.NoMemory.{NoMemory}
use Rattle.signature_provider.specs.Provider.{Says}
use Rattle.signature_provider.specs.declared.provider.SignatureProvider.{Ghosts as ProviderOf}
use Rattle.keeper.specs.declared.keeping.Keeper.{Ghosts as KeeperOf}
use Rattle.keeper.specs.declared.rows.Row.{Row}
use Rattle.holder_core.specs.Faults.{KeeperCaused}
use Rattle.holder_core.specs.declared.fault.HolderFault.{HolderFault}
use Rattle.holder_core.specs.declared.fault.HolderFault.TheVariants as fault
use Rattle.terminal_desk.specs.declared.search.SearchRefusal.{SearchRefusal}
use Rattle.chip_verify.specs.Session.{no_session}
use Rattle.chip_slots.specs.Chips.{ChipValue}
use Rattle.chip_slots.specs.declared.answers.ChipRefusal.{ChipRefusal}
use Rattle.chip_slots.specs.declared.disk.ChipDisk.{Ghosts as DiskOf}
use Rattle.chip_events.specs.DiskTurns.{DiskTurn, ProvidedTurn, OpensTo, IsOpenedTo, IsChipFor, HandTurn, IsUntouched}
use Rattle.chip_events.specs.Events.{Looks, ImportsOne}
use Rattle.chip_events.specs.Givings.{ShowsAll, WereTaken, references_of, in_hand, put_back}
use Rattle.chip_events.specs.Imports.{InHand}
use Rattle.chip_events.specs.Makings.{Makes}
use Rattle.chip_events.specs.Openings.{Opens, read_in}
use Rattle.chip_events.specs.Told.{ChipTold, ChipPart, found_so}
use Rattle.chip_events.specs.declared.answers.ImportAnswer.{ImportAnswer}
use Rattle.chip_events.specs.declared.answers.Looked.{Looked}
use Rattle.chip_events.specs.declared.answers.MakeAnswer.{MakeAnswer}
use Rattle.chip_events.specs.declared.answers.MakeAnswer.TheVariants as makes
use Rattle.chip_events.specs.declared.answers.Shown.{Shown}
use Rattle.chip_events.specs.declared.count.ImportCount.{ImportCount}
use Rattle.chip_events.proofs.Untouched.{still_turn}
use Rattle.eac_net.specs.Answers.{Tells, fault_answer}
use Rattle.eac_net.specs.ChipCalls.{KeepsWorld, CallsChip, HandsOver, Happens}
use Rattle.eac_net.specs.ChipTurn.{IsTold, IsFor, told_by, ChipTurn, ShowsBy, shown_as}
use Rattle.eac_net.specs.Counts.{count_at, counts_with}
use Rattle.eac_net.specs.Handed.{Request, Handed, Unasked, Certs, NoneFor, ChainFor, RootOf, handed_root, handed_chain}
use Rattle.eac_net.specs.Packets.{sent_of}
use Rattle.eac_net.specs.declared.answer.Answer.{Answer}
use Rattle.eac_net.specs.declared.answer.Answer.TheVariants as answers
use Rattle.eac_net.specs.declared.answer.Happened.{Happened}
use Rattle.eac_net.specs.declared.answer.Presented.TheVariants as presented
use Rattle.eac_net.specs.declared.event.Event.{Event}
use Rattle.eac_net.specs.declared.event.Event.TheVariants as events
use Rattle.eac_net.specs.declared.world.World.{World}

-- ---- turns of a disk

module _ {D : Type 0} (G : DiskOf D) (d d' : D) where
  -- something else may be said of it
  pub map_turn : (imports : ℕ × ℕ) (leads onward : ChipTold → ChipTold → Type 0) → ((c c' : ChipTold) → leads c c' → onward c c') → DiskTurn G d d' imports leads → DiskTurn G d d' imports onward
  map_turn imports leads onward f t = record {
    some = t.some;
    then_some = t.then_some;
    before = t.before;
    after = t.after;
    turn = f t.some t.then_some t.turn;
    tells = t.tells;
    told = λ tells first c at number. let r = t.told tells first c at number in (r.0, r.1, r.2, f c r.0 r.3);
  }

  -- an opening with nothing after it
  pub opened_turn : (number : ℕ) (opened : Result ChipValue ChipRefusal) → OpensTo G d d' number opened → DiskTurn G d d' (number, number) (λ c c'. Opens c (read_in opened) c')
  opened_turn number opened opens = record {
    some = opens.some;
    then_some = opens.then_some;
    before = opens.before;
    after = opens.after;
    turn = opens.turn.opens;
    tells = opens.tells;
    told = λ tells first c at number_is. let r = opens.told tells first c at in (r.0, r.1 ∙ number_is, r.2.chip_at.1, r.2.opens);
  }

-- ---- the world

-- Nothing but the room for counts is another one.
pub record IsSameWorld (w w' : World) : Type 0 where
  pub day : w'.day ≡ w.day
  pub packets : w'.packets ≡ w.packets
  pub acks : w'.acks ≡ w.acks
  pub counts : (chip : ℕ) → count_at w'.imports chip ≡ count_at w.imports chip

pub same_world : (w : World) → IsSameWorld w w
same_world w = record { day = refl; packets = refl; acks = refl; counts = λ chip. refl }

-- ---- calls of a chip

module _ {D : Type 0} (G : DiskOf D) (chip : ℕ) (d d' : D) where
  -- the provider wasn't asked, and nothing was acknowledged
  pub calls_alone : (says : Says) (provider : ℕ) (w w' : World) (leads : ChipPart → ChipPart → Type 0) → IsSameWorld w w' →
      DiskTurn G d d' (count_at w.imports chip, count_at w.imports chip) (λ c c'. leads (found_so c provider) (found_so c' provider)) → CallsChip G chip d d' says (provider, provider) w w' leads
  calls_alone says provider w w' leads same turn = record {
    world = record { day = same.day; packets = same.packets; others = λ other ne. same.counts other };
    asked = [];
    said = tt;
    new = [];
    acks = ap (λ (a : AcksValue). a.acks) same.acks ∙ sym (append-nil w.acks.acks);
    later = omega arith;
    turn = subst (λ (n : ℕ). DiskTurn G d d' (count_at w.imports chip, n) (λ c c'. leads (found_so c provider) (found_so c' provider))) (sym (same.counts chip)) turn;
  }

  -- nothing was done
  pub calls_none : (says : Says) (provider : ℕ) (w w' : World) (leads : ChipPart → ChipPart → Type 0) → IsSameWorld w w' → IsUntouched G d d' → ((s : ChipPart) → leads s s) → CallsChip G chip d d' says (provider, provider) w w' leads
  calls_none says provider w w' leads same u made = calls_alone says provider w w' leads same
      (still_turn G d d' u (λ c c'. leads (found_so c provider) (found_so c' provider)) (λ c size. made (found_so c provider)) (count_at w.imports chip))

  -- the count that the calls left was put back into its place
  pub calls_provided : {P : Type 0} (H : ProviderOf P) (p p' : P) (w w' : World) (reserved : List ℕ) (imports imports' : ImportCount) (leads : ℕ → ChipPart → ChipPart → Type 0) →
      ((other : ℕ) → count_at reserved other ≡ count_at w.imports other) → chip < length reserved → imports ≡ record { chip = chip; count = count_at reserved chip } →
      w'.day ≡ w.day → w'.packets ≡ w.packets → w'.imports ≡ counts_with reserved imports' → H.faults p ≤ H.faults p' →
      ProvidedTurn G H d d' p p' imports imports' w.acks.acks w'.acks.acks (leads imports.chip) → CallsChip G chip d d' (H.says p) (H.faults p, H.faults p') w w' (leads chip)
  calls_provided H p p' w w' reserved imports imports' leads kept room is same_day same_packets put later t =
      let chip_is : imports.chip ≡ chip = ap (λ (k : ImportCount). k.chip) is in
      let place : imports'.chip ≡ chip = t.chip ∙ chip_is in
      let count_is : imports.count ≡ count_at w.imports chip = ap (λ (k : ImportCount). k.count) is ∙ kept chip in
      let within : imports'.chip < length reserved = subst (λ (k : ℕ). k < length reserved) (sym place) room in
      let now : count_at w'.imports chip ≡ imports'.count = ap (λ (l : List ℕ). count_at l chip) put ∙ ap (λ (k : ℕ). count_at (counts_with reserved imports') k) (sym place) ∙ get_or-set_same reserved imports'.chip imports'.count 0 within in
      record {
        world = record {
          day = same_day;
          packets = same_packets;
          others = λ other ne. ap (λ (l : List ℕ). count_at l other) put ∙ get_or-set_other reserved imports'.chip other imports'.count 0 (λ e. ne (e ∙ place)) ∙ kept other;
        };
        asked = t.asked;
        said = t.said;
        new = t.new;
        acks = t.acks_are;
        later = later;
        turn = subst (λ (n : (ℕ × ℕ) × ℕ). DiskTurn G d d' n.0 (λ c c'. leads n.1 (found_so c (H.faults p)) (record { chip = c'; acks = t.new; verdicts = t.asked; provider = H.faults p' }))) (λ j. ((count_is j, sym now j), chip_is j)) t.turn;
      }

-- The count that a turn of the chip in hand left was put back into its place.
module _ {D P : Type 0} (G : DiskOf D) (H : ProviderOf P) (d d' : D) (p p' : P) (chip : ℕ) (counts counts' : List ℕ) (imports imports' : ImportCount) (acks acks' : List Ack) (o o' : ChipValue) (goes_on : Type 0) (leads : ℕ → InHand → InHand → Type 0)
    (room : chip < length counts) (is : imports ≡ record { chip = chip; count = count_at counts chip }) (put : counts' ≡ counts_with counts imports') (t : HandTurn G H d d' p p' imports imports' acks acks' o o' goes_on (leads imports.chip)) where
  place : imports'.chip ≡ chip
  place = t.chip ∙ ap (λ (k : ImportCount). k.chip) is

  pub put_hand : HandTurn G H d d' p p' (record { chip = chip; count = count_at counts chip }) (record { chip = chip; count = count_at counts' chip }) acks acks' o o' goes_on (leads chip)
  put_hand =
      let within : imports'.chip < length counts = subst (λ (k : ℕ). k < length counts) (sym place) room in
      let now : count_at counts' chip ≡ imports'.count = ap (λ (l : List ℕ). count_at l chip) put ∙ ap (λ (k : ℕ). count_at (counts_with counts imports') k) (sym place) ∙ get_or-set_same counts imports'.chip imports'.count 0 within in
      let then_is : imports' ≡ record { chip = chip; count = count_at counts' chip } = λ j. record { chip = place j; count = sym now j } in
      subst (λ (x : ImportCount × ImportCount). HandTurn G H d d' p p' x.0 x.1 acks acks' o o' goes_on (leads x.0.chip)) (λ j. (is j, then_is j)) t

  pub put_others : (other : ℕ) → other ≢ chip → count_at counts' other ≡ count_at counts other
  put_others other ne = ap (λ (l : List ℕ). count_at l other) put ∙ get_or-set_other counts imports'.chip other imports'.count 0 (λ e. ne (e ∙ place))

-- ---- how an event of it happened

module _ {D : Type 0} (G : DiskOf D) (day chip : ℕ) (event : Event) (d d' : D) (says : Says) (handed : Handed) where
  abbrev Leads : Option Answer → ChipPart → ChipPart → Type 0
  Leads said s s' = (answer : Option Answer) → IsTold answer said → ChipTurn day event handed answer s s'

  module _ {E : Type 0} (happened : Result Happened E) where
    pub happens_by : (provider : ℕ × ℕ) (w w' : World) (said : Option Answer) (leads : ChipPart → ChipPart → Type 0) → Tells happened said [] → ((s s' : ChipPart) → leads s s' → Leads said s s') →
        CallsChip G chip d d' says provider w w' leads → Happens G day chip event d d' says provider w w' handed happened
    happens_by provider w w' said leads tells made calls = record {
      said = said;
      tells = tells;
      calls = record {
        world = calls.world;
        asked = calls.asked;
        said = calls.said;
        new = calls.new;
        acks = calls.acks;
        later = calls.later;
        turn = map_turn G d d' (count_at w.imports chip, count_at w'.imports chip) (λ c c'. leads (found_so c provider.0) (record { chip = c'; acks = calls.new; verdicts = calls.asked; provider = provider.1 }))
            (λ c c'. Leads said (found_so c provider.0) (record { chip = c'; acks = calls.new; verdicts = calls.asked; provider = provider.1 }))
            (λ c c'. made (found_so c provider.0) (record { chip = c'; acks = calls.new; verdicts = calls.asked; provider = provider.1 })) calls.turn;
      };
    }

    pub alone_happens : (provider : ℕ) (w w' : World) (said : Option Answer) (leads : ChipTold → ChipTold → Type 0) → Tells happened said [] → IsSameWorld w w' →
        ((c c' : ChipTold) → leads c c' → Leads said (found_so c provider) (found_so c' provider)) → DiskTurn G d d' (count_at w.imports chip, count_at w.imports chip) leads →
        Happens G day chip event d d' says (provider, provider) w w' handed happened
    alone_happens provider w w' said leads tells same made turn = record {
      said = said;
      tells = tells;
      calls = calls_alone G chip d d' says provider w w' (Leads said) same (map_turn G d d' (count_at w.imports chip, count_at w.imports chip) leads (λ c c'. Leads said (found_so c provider) (found_so c' provider)) made turn);
    }

    pub nothing_happens : (provider : ℕ) (w w' : World) (said : Option Answer) → Tells happened said [] → IsSameWorld w w' → IsUntouched G d d' → ((s : ChipPart) → Leads said s s) →
        Happens G day chip event d d' says (provider, provider) w w' handed happened
    nothing_happens provider w w' said tells same u made = record { said = said; tells = tells; calls = calls_none G chip d d' says provider w w' (Leads said) same u made }

    -- after room was taken
    pub happens_after : (provider : ℕ × ℕ) (w mid w' : World) → IsSameWorld w mid → Happens G day chip event d d' says provider mid w' handed happened → Happens G day chip event d d' says provider w w' handed happened
    happens_after provider w mid w' same h = record {
      said = h.said;
      tells = h.tells;
      calls = record {
        world = record {
          day = h.calls.world.day ∙ same.day;
          packets = h.calls.world.packets ∙ same.packets;
          others = λ other ne. h.calls.world.others other ne ∙ same.counts other;
        };
        asked = h.calls.asked;
        said = h.calls.said;
        new = h.calls.new;
        acks = h.calls.acks ∙ ap (λ (a : AcksValue). a.acks ++ h.calls.new) same.acks;
        later = h.calls.later;
        turn = subst (λ (n : ℕ). DiskTurn G d d' (n, count_at w'.imports chip) (λ c c'. Leads h.said (found_so c provider.0) (record { chip = c'; acks = h.calls.new; verdicts = h.calls.asked; provider = provider.1 }))) (same.counts chip) h.calls.turn;
      };
    }

-- ---- the events

module _ {D E : Type 0} (G : DiskOf D) (day chip : ℕ) (d d' : D) (says : Says) (happened : Result Happened E) where
  pub look_happens : (provider : ℕ) (w : World) (result : Result Looked NoMemory) → Tells happened (told_by answers.Looked result) [] → DiskTurn G d d' (count_at w.imports chip, count_at w.imports chip) (λ c c'. Looks c result c') →
      Happens G day chip (events.Look chip) d d' says (provider, provider) w w Unasked happened
  look_happens provider w result tells turn = alone_happens G day chip (events.Look chip) d d' says Unasked happened provider w w (told_by answers.Looked result) (λ c c'. Looks c result c') tells (same_world w)
      (λ c c' looks answer told. record { unasked = refl; result = result; looks = looks; rest = refl; told = told }) turn

  pub import_happens : (provider : ℕ × ℕ) (w w' : World) (bytes : List ℕ) (result : Result ImportAnswer NoMemory) → Tells happened (told_by answers.Imported result) [] → CallsChip G chip d d' says provider w w' (λ s s'. ImportsOne chip bytes s result s') →
      Happens G day chip (events.Import chip bytes) d d' says provider w w' Unasked happened
  import_happens provider w w' bytes result tells calls = happens_by G day chip (events.Import chip bytes) d d' says Unasked happened provider w w' (told_by answers.Imported result) (λ s s'. ImportsOne chip bytes s result s') tells
      (λ s s' imports answer told. record { unasked = refl; result = result; imports = imports; told = told }) calls

  module _ (provider : ℕ) (w : World) (authority : ℕ) where
    pub make_happens : (root : List ℕ) (result : Result MakeAnswer NoMemory) → Tells happened (told_by answers.Made result) [] → DiskTurn G d d' (count_at w.imports chip, count_at w.imports chip) (λ c c'. Makes root day c result c') →
        Happens G day chip (events.Make chip authority) d d' says (provider, provider) w w (Certs (RootOf authority) (root ∷ [])) happened
    make_happens root result tells turn = alone_happens G day chip (events.Make chip authority) d d' says (Certs (RootOf authority) (root ∷ [])) happened provider w w (told_by answers.Made result) (λ c c'. Makes root day c result c') tells (same_world w)
        (λ c c' makes answer told. record { asked = refl; makes = record { root = root; alone = refl; result = result; makes = makes; rest = refl; told = told } }) turn

    pub unfounded_happens : Tells happened (Some (answers.Made makes.Unfounded)) [] → IsUntouched G d d' → Happens G day chip (events.Make chip authority) d d' says (provider, provider) w w (NoneFor (RootOf authority)) happened
    unfounded_happens tells u = nothing_happens G day chip (events.Make chip authority) d d' says (NoneFor (RootOf authority)) happened provider w w (Some (answers.Made makes.Unfounded)) tells (same_world w) u
        (λ s answer told. record { asked = refl; makes = record { told = told; next = refl } })

    pub failed_happens : {T : Type 0} (e : HolderFault) (before now : ℕ) → KeeperCaused {T = T} before now (Err e) → Tells happened (fault_answer e) [] → IsUntouched G d d' →
        Happens G day chip (events.Make chip authority) d d' says (provider, provider) w w (handed_root (RootOf authority) (Err e)) happened
    failed_happens fault.KeeperFault before now cause tells u = nothing_happens G day chip (events.Make chip authority) d d' says (handed_root (RootOf authority) (Err fault.KeeperFault)) happened provider w w (fault_answer fault.KeeperFault) tells (same_world w) u
        (λ s answer told. record { asked = refl; makes = record { told = told; next = refl } })
    failed_happens fault.NoMemory before now cause tells u = nothing_happens G day chip (events.Make chip authority) d d' says (handed_root (RootOf authority) (Err fault.NoMemory)) happened provider w w (fault_answer fault.NoMemory) tells (same_world w) u
        (λ s answer told. record { asked = refl; makes = record { told = told; next = refl } })
    failed_happens fault.ProviderFault before now cause tells u = absurd cause.failed
    failed_happens (fault.NoKey reference) before now cause tells u = absurd cause.failed

-- ---- a chain that is presented

either_so : {X : Type 0} (x y : X) → (x ≡ y) ⊎ (x ≡ y) → x ≡ y
either_so x y (inl e) = e
either_so x y (inr e) = e

module _ {D E : Type 0} (G : DiskOf D) (day chip terminal : ℕ) (d d' : D) (says : Says) (happened : Result Happened E) (provider : ℕ) (w : World) where
  abbrev Presenting : Event
  Presenting = events.Present chip terminal

  -- memory was wanting before anything was done
  pub undone_happens : (w' : World) → Tells happened None [] → IsSameWorld w w' → IsUntouched G d d' → Happens G day chip Presenting d d' says (provider, provider) w w' Unasked happened
  undone_happens w' tells same u = nothing_happens G day chip Presenting d d' says Unasked happened provider w w' None tells same u (λ s answer told. inr (inr (record { unasked = refl; none = either_so answer None told; same = refl })))

  pub unopened_happens : (w' : World) (e : ChipRefusal) → Tells happened (Some (answers.Presented (presented.NotOpened e))) [] → IsSameWorld w w' → OpensTo G d d' (count_at w.imports chip) (Err e) →
      Happens G day chip Presenting d d' says (provider, provider) w w' Unasked happened
  unopened_happens w' e tells same opens = alone_happens G day chip Presenting d d' says Unasked happened provider w w' (Some (answers.Presented (presented.NotOpened e))) (λ c c'. Opens c (Err e) c') tells same
      (λ c c' opened answer told. inr (inl (record { unasked = refl; refusal = e; opens = opened; rest = refl; told = told }))) (opened_turn G d d' (count_at w.imports chip) (Err e) opens)

  -- it was opened, and nothing was shown to it
  pub unshown_happens : (handed : Handed) (said : Option Answer) (o : ChipValue) → IsFor (ChainFor terminal (references_of o.state)) handed → Tells happened said [] →
      ((hand : InHand) (answer : Option Answer) → IsTold answer said → ShowsBy chip hand handed answer (put_back hand)) → OpensTo G d d' (count_at w.imports chip) (Ok o) →
      Happens G day chip Presenting d d' says (provider, provider) w w handed happened
  unshown_happens handed said o asked tells ends opens = alone_happens G day chip Presenting d d' says handed happened provider w w said (λ c c'. Opens c (Ok (o.state, o.generation)) c') tells (same_world w)
      (λ c c' opened answer told. inl (record { read = (o.state, o.generation); now = c'; opens = opened; asked = asked; shows = ends (in_hand (found_so c provider) c' (o.state, o.generation)) answer told })) (opened_turn G d d' (count_at w.imports chip) (Ok o) opens)

-- an opening and a showing are one event
module _ {D P : Type 0} (G : DiskOf D) (H : ProviderOf P) (day chip terminal : ℕ) (first d d' : D) (p p' : P) (w w' : World) (o o' : ChipValue) (points : List (List ℕ)) (points_are : points ≡ references_of o.state) (certs : List (List ℕ)) (result : Result Shown NoMemory)
    (opens : OpensTo G first d (count_at w.imports chip) (Ok o))
    (turns : HandTurn G H d d' p p' (record { chip = chip; count = count_at w.imports chip }) (record { chip = chip; count = count_at w'.imports chip }) w.acks.acks w'.acks.acks o o' (WereTaken result) (λ x left. ShowsAll chip x certs result left)) where
  abbrev hand_of : ChipTold → InHand
  hand_of c = record { chip = c; opened = o; acks = []; verdicts = []; provider = H.faults p }

  opened_is : record { state = o.state; session = no_session; generation = o.generation; needs_opening = false } ≡ o
  opened_is = λ i. record { state = o.state; session = sym opens.is_chip.session i; generation = o.generation; needs_opening = sym opens.is_chip.ready i }

  hand_is : (c c' : ChipTold) → hand_of c' ≡ in_hand (found_so c (H.faults p)) c' (o.state, o.generation)
  hand_is c c' = λ i. record { chip = c'; opened = sym opened_is i; acks = []; verdicts = []; provider = H.faults p }

  abbrev Shows : ChipTold → ChipTold → Type 0
  Shows c c' = (answer : Option Answer) → IsTold answer (told_by shown_as result) → ChipTurn day (events.Present chip terminal) (Certs (ChainFor terminal points) certs) answer (found_so c (H.faults p))
      (record { chip = c'; acks = turns.new; verdicts = turns.asked; provider = H.faults p' })

  join : (since : Option ℕ) (c now : ChipTold) → IsOpenedTo G d since c (Ok o) now → now.imports ≡ count_at w.imports chip → (c' : ChipTold) × (c'.imports ≡ count_at w'.imports chip) × IsChipFor G d' since c' × Shows c c'
  join since c now at number =
      let h = at.in_hand [] [] (H.faults p) in
      let t = turns.turn since (hand_of now) (record { hand = h.hand; memory = h.memory; opened = refl; provider_is = refl; number_is = number }) in (
        t.0.chip,
        t.2.number_is,
        t.2.chip_at,
        λ answer told. inl (record {
          read = (o.state, o.generation);
          now = now;
          opens = at.opens;
          asked = ap (ChainFor terminal) points_are;
          shows = record {
            result = result;
            left = t.0;
            shows = subst (λ (x : InHand). ShowsAll chip x certs result t.0) (hand_is c now) t.1;
            next = λ i. record { chip = t.0.chip; acks = sym t.2.acks i; verdicts = sym t.2.verdicts i; provider = sym t.2.provider_is i };
            told = told;
          };
        }),
      )

  pub shown_happens : {E : Type 0} (happened : Result Happened E) → Tells happened (told_by shown_as result) [] → KeepsWorld chip w w' → H.faults p ≤ H.faults p' →
      Happens G day chip (events.Present chip terminal) first d' (H.says p) (H.faults p, H.faults p') w w' (Certs (ChainFor terminal points) certs) happened
  shown_happens happened tells world later =
      let some = join None opens.some opens.then_some opens.turn opens.after.imports in
      record {
        said = told_by shown_as result;
        tells = tells;
        calls = record {
          world = world;
          asked = turns.asked;
          said = turns.said;
          new = turns.new;
          acks = turns.acks_are;
          later = later;
          turn = record {
            some = opens.some;
            then_some = some.0;
            before = opens.before;
            after = record { disk = some.2; imports = some.1 };
            turn = some.3;
            tells = λ tells_now. turns.tells (opens.tells tells_now);
            told = λ tells_now since c at number.
                let r = opens.told tells_now since c at in
                let x = join (Some since) c r.0 r.2 (r.1 ∙ number) in
                (x.0, x.1, x.2.1, x.3);
          };
        };
      }

-- ---- the day in force

pub some_day : (today : Option ℕ) → IsSome today → (day : ℕ) × (today ≡ Some day)
some_day None some = absurd (cc)
some_day (Some day) some = (day, refl)

-- ---- what is told, and what the keeper hands over

pub told_tells : (E : Type 0) (h : Happened) (a : Answer) → h.answer ≡ a → h.sent ≡ None → Tells {E = E} (Ok h) (Some a) []
told_tells E h a answer sent = (ap some_answer (sym answer), ap sent_of (sym sent))
  where
    some_answer : Answer → Option Answer
    some_answer x = Some x

-- nothing was asked
pub hands_none : {B : Type 0} (K : KeeperOf B) (k : B) → HandsOver K k k Unasked
hands_none K k = record { told = told_same (λ (before after : List Row). (after ≡ before) × Unit {0}) (K.rows k) (λ rows. (refl, tt)); from = refl }

-- by what was found of a chain
pub hands_known : {B : Type 0} (K : KeeperOf B) (k k' : B) (request : Request) (result known : Result (List (List ℕ)) SearchRefusal) → result ≡ known → HandsOver K k k' (handed_chain request result) → HandsOver K k k' (handed_chain request known)
hands_known K k k' request result known is h = subst (λ (r : Result (List (List ℕ)) SearchRefusal). HandsOver K k k' (handed_chain request r)) is h

pub err_tells : {E : Type 0} (happened : Result Happened E) → IsErr happened → Tells happened None []
err_tells (Err e) failed = tt
err_tells (Ok h) failed = absurd (cc)

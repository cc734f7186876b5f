-- Certificates that are given one after another.
use Rattle.std.proofs.Common.{◌≡◌, ℕ, ◌+◌, List, [], ◌∷◌, ◌++◌, take, drop, Option, Some, None, Result, Ok, Err, refl, sym, ◌∙◌, ap, subst, append_assoc, append-nil}
use Rattle.std.specs.Prelude.{IsOk, slice_get}
use Rattle.std.proofs.lemmas.List.{take_more, take-append-drop}
use Rattle.std.proofs.lemmas.Option.{slice_get_within, get_or_from_slice_get}
use Rattle.eac_base.specs.declared.acks.Ack.{Ack}
use Rattle.signature_provider.specs.Provider.{Says}
use Rattle.signature_provider.specs.declared.provider.SignatureProvider.{Ghosts as ProviderOf}
use Rattle.chip_slots.specs.declared.answers.ChipRefusal.{ChipRefusal}
use Rattle.chip_slots.specs.declared.disk.ChipDisk.{Ghosts as DiskOf}
use Rattle.chip_slots.specs.Chips.{ChipValue}
use Rattle.chip_slots.specs.Image.{is_memory}
use Rattle.chip_events.specs.declared.answers.Shown.{Shown}
use Rattle.chip_events.specs.declared.answers.Taken.{Taken}
use Rattle.chip_events.specs.declared.count.ImportCount.{ImportCount}
use Rattle.chip_events.specs.Verdicts.{Verdict, AreSaid}
use Rattle.chip_events.specs.Imports.{InHand}
use Rattle.chip_events.specs.Givings.{Gives, GivesNext, GivesAll, ShowsAll, WereTaken, IsAll, stop_of, ended_as, grant_in, Stop, AllTaken, AnsweredBy, OutOfRoom}
use Rattle.chip_events.specs.DiskTurns.{IsChipFor, IsHandFor, HandTurn, IsUntouched}
use Rattle.chip_events.proofs.Untouched.{hand_same, chip_for_same}

-- ---- lists of them

pub gives_then : (chip : ℕ) (w : InHand) (xs : List (List ℕ)) (taken : List Taken) (mid : InHand) (ys : List (List ℕ)) (more : List Taken) (stop : Stop) (left : InHand) →
    GivesAll chip w xs taken AllTaken mid → GivesAll chip mid ys more stop left → GivesAll chip w (xs ++ ys) (taken ++ more) stop left
gives_then chip w [] [] mid ys more stop left is rest = subst (λ (v : InHand). GivesAll chip v ys more stop left) is rest
gives_then chip w (x ∷ xs) (t ∷ taken) mid ys more stop left (next, gives, all) rest = (next, gives, gives_then chip next xs taken mid ys more stop left all rest)
gives_then chip w [] (t ∷ taken) mid ys more stop left is rest = absurd is
gives_then chip w (x ∷ xs) [] mid ys more stop left is rest = absurd is

pub next_taken : (certs : List (List ℕ)) (at : ℕ) (bytes : List ℕ) → slice_get certs at ≡ Some bytes → take (at + 1) certs ≡ take at certs ++ bytes ∷ []
next_taken certs at bytes e = take_more certs at [] (slice_get_within certs at bytes e) ∙ ap (λ (x : List ℕ). take at certs ++ x ∷ []) (get_or_from_slice_get certs at bytes [] e)

pub next_split : (certs : List (List ℕ)) (at : ℕ) (bytes : List ℕ) → slice_get certs at ≡ Some bytes → take at certs ++ bytes ∷ drop (at + 1) certs ≡ certs
next_split certs at bytes e = sym (append_assoc (take at certs) (bytes ∷ []) (drop (at + 1) certs)) ∙ ap (λ (x : List (List ℕ)). x ++ drop (at + 1) certs) (sym (next_taken certs at bytes e)) ∙ take-append-drop (at + 1) certs

said_then : (says : Says) (xs ys : List Verdict) → AreSaid says xs → AreSaid says ys → AreSaid says (xs ++ ys)
said_then says [] ys xs_are ys_are = ys_are
said_then says (x ∷ xs) ys xs_are ys_are = (xs_are.0, said_then says xs ys xs_are.1 ys_are)

-- ---- turns of what is in hand

-- one after the other
pub record Then (leads onward : InHand → InHand → Type 0) (w left : InHand) : Type 0 where
  pub mid : InHand
  pub front : leads w mid
  pub rest : onward mid left

module _ {D P : Type 0} (G : DiskOf D) (H : ProviderOf P) where
  -- nothing was given yet
  pub first_hand : (d : D) (p : P) (imports : ImportCount) (acks : List Ack) (o : ChipValue) → HandTurn G H d d p p imports imports acks acks o o (Unit {0}) (λ w left. left ≡ w)
  first_hand d p imports acks o = record {
    asked = [];
    said = tt;
    new = [];
    acks_are = sym (append-nil acks);
    chip = refl;
    size = refl;
    tells = λ tells. tells;
    turn = λ since w h. (
      w,
      refl,
      record {
        chip_at = chip_of since w h.hand;
        in_hand = λ u. h;
        opened = h.opened;
        provider_is = h.provider_is;
        number_is = h.number_is;
        verdicts = sym (append-nil w.verdicts);
        acks = sym (append-nil w.acks);
      },
    );
  }
    where
      chip_of : (since : Option ℕ) (w : InHand) → IsHandFor G d since w → IsChipFor G d since w.chip
      chip_of None w h = h.0
      chip_of (Some first) w h = (h.0, h.1.chip_at)

  module _ (d d' d'' : D) (p p' p'' : P) (imports imports' imports'' : ImportCount) (acks acks' acks'' : List Ack) (o o' o'' : ChipValue) (goes_on : Type 0) (leads onward : InHand → InHand → Type 0)
      (same_says : H.says p' ≡ H.says p) (a : HandTurn G H d d' p p' imports imports' acks acks' o o' (Unit {0}) leads) where
    -- one after another
    pub then_hand : HandTurn G H d' d'' p' p'' imports' imports'' acks' acks'' o' o'' goes_on onward → HandTurn G H d d'' p p'' imports imports'' acks acks'' o o'' goes_on (Then leads onward)
    then_hand b = record {
      asked = a.asked ++ b.asked;
      said = said_then (H.says p) a.asked b.asked a.said (subst (λ (s : Says). AreSaid s b.asked) same_says b.said);
      new = a.new ++ b.new;
      acks_are = b.acks_are ∙ ap (λ (l : List Ack). l ++ b.new) a.acks_are ∙ append_assoc acks a.new b.new;
      chip = b.chip ∙ a.chip;
      size = b.size ∙ a.size;
      tells = λ tells. b.tells (a.tells tells);
      turn = λ since w h.
          let x = a.turn since w h in
          let y = b.turn since x.0 (x.2.in_hand tt) in (
            y.0,
            record { mid = x.0; front = x.1; rest = y.1 },
            record {
              chip_at = y.2.chip_at;
              in_hand = y.2.in_hand;
              opened = y.2.opened;
              provider_is = y.2.provider_is;
              number_is = y.2.number_is;
              verdicts = y.2.verdicts ∙ ap (λ (l : List Verdict). l ++ b.asked) x.2.verdicts ∙ append_assoc w.verdicts a.asked b.asked;
              acks = y.2.acks ∙ ap (λ (l : List Ack). l ++ b.new) x.2.acks ∙ append_assoc w.acks a.new b.new;
            },
          );
    }

  module _ (d d' : D) (p p' : P) (imports imports' : ImportCount) (acks acks' : List Ack) (o o' : ChipValue) (goes_on goes_on' : Type 0) (leads leads' : InHand → InHand → Type 0) where
    -- something else may be said of it
    pub map_left : (goes_on' → goes_on) → ((w left : InHand) → left.opened ≡ o' → leads w left → leads' w left) → HandTurn G H d d' p p' imports imports' acks acks' o o' goes_on leads → HandTurn G H d d' p p' imports imports' acks acks' o o' goes_on' leads'
    map_left on f a = record {
      asked = a.asked;
      said = a.said;
      new = a.new;
      acks_are = a.acks_are;
      chip = a.chip;
      size = a.size;
      tells = a.tells;
      turn = λ since w h.
          let x = a.turn since w h in (
            x.0,
            f w x.0 x.2.opened x.1,
            record {
              chip_at = x.2.chip_at;
              in_hand = λ g. x.2.in_hand (on g);
              opened = x.2.opened;
              provider_is = x.2.provider_is;
              number_is = x.2.number_is;
              verdicts = x.2.verdicts;
              acks = x.2.acks;
            },
          );
    }

    pub map_hand : (goes_on' → goes_on) → ((w left : InHand) → leads w left → leads' w left) → HandTurn G H d d' p p' imports imports' acks acks' o o' goes_on leads → HandTurn G H d d' p p' imports imports' acks acks' o o' goes_on' leads'
    map_hand on f a = map_left on (λ w left is x. f w left x) a

  module _ (d d' d'' : D) (p p' p'' : P) (imports imports' imports'' : ImportCount) (acks acks' acks'' : List Ack) (o o' o'' : ChipValue) (leads : InHand → InHand → Type 0)
      (a : HandTurn G H d d' p p' imports imports' acks acks' o o' (Unit {0}) leads) (u : IsUntouched G d' d'') (same_provider : p'' ≡ p') (same_imports : imports'' ≡ imports') (same_acks : acks'' ≡ acks') (same_chip : o'' ≡ o') where
    -- memory was wanting: nothing more was done
    pub still_hand : HandTurn G H d d'' p p'' imports imports'' acks acks'' o o'' (Unit {0}) leads
    still_hand = record {
      asked = a.asked;
      said = a.said;
      new = a.new;
      acks_are = same_acks ∙ a.acks_are;
      chip = ap (λ (k : ImportCount). k.chip) same_imports ∙ a.chip;
      size = u.size ∙ a.size;
      tells = λ tells. u.tells.0 (a.tells tells);
      turn = λ since w h.
          let x = a.turn since w h in (
            x.0,
            x.1,
            record {
              chip_at = chip_for_same G d' d'' u since x.0.chip x.2.chip_at;
              in_hand = λ g. let k = x.2.in_hand g in record {
                hand = hand_same G d' d'' u since x.0 k.hand;
                memory = ap is_memory u.size ∙ k.memory;
                opened = k.opened ∙ sym same_chip;
                provider_is = k.provider_is ∙ sym (ap H.faults same_provider);
                number_is = k.number_is ∙ sym (ap (λ (i : ImportCount). i.count) same_imports);
              };
              opened = x.2.opened ∙ sym same_chip;
              provider_is = x.2.provider_is ∙ sym (ap H.faults same_provider);
              number_is = x.2.number_is ∙ sym (ap (λ (i : ImportCount). i.count) same_imports);
              verdicts = x.2.verdicts;
              acks = x.2.acks;
            },
          );
    }

-- ---- after room was taken

module _ {D P : Type 0} (G : DiskOf D) (H : ProviderOf P) (d mid d' : D) (u : IsUntouched G d mid) (p p' : P) (imports imports' : ImportCount) (acks acks0 acks' : List Ack) (same_acks : acks0 ≡ acks) (o o' : ChipValue) (goes_on : Type 0) (leads : InHand → InHand → Type 0) where
  pub hand_after : HandTurn G H mid d' p p' imports imports' acks0 acks' o o' goes_on leads → HandTurn G H d d' p p' imports imports' acks acks' o o' goes_on leads
  hand_after t = record {
    asked = t.asked;
    said = t.said;
    new = t.new;
    acks_are = t.acks_are ∙ ap (λ (l : List Ack). l ++ t.new) same_acks;
    chip = t.chip;
    size = t.size ∙ u.size;
    tells = λ tells. t.tells (u.tells.0 tells);
    turn = λ since w h. t.turn since w (record {
      hand = hand_same G d mid u since w h.hand;
      memory = ap is_memory u.size ∙ h.memory;
      opened = h.opened;
      provider_is = h.provider_is;
      number_is = h.number_is;
    });
  }

-- ---- as the loop goes

abbrev ok_so : Unit {0} → Result (Unit {0}) ChipRefusal
ok_so u = Ok u

abbrev err_so : ChipRefusal → Result (Unit {0}) ChipRefusal
err_so e = Err e

module _ {D P : Type 0} (G : DiskOf D) (H : ProviderOf P) (d d' d'' : D) (p p' p'' : P) (imports imports' imports'' : ImportCount) (acks acks' acks'' : List Ack) (o o' o'' : ChipValue)
    (certs : List (List ℕ)) (at : ℕ) (taken taken' : List Taken) where
  -- those before this place were taken
  abbrev pub Front : Type 0
  Front = HandTurn G H d d' p p' imports imports' acks acks' o o' (Unit {0}) (λ w left. GivesAll imports.chip w (take at certs) taken AllTaken left)

  module _ (bytes : List ℕ) (there : slice_get certs at ≡ Some bytes) (front : Front) where
    abbrev Next : Result (Unit {0}) ChipRefusal → Type 0
    Next r = HandTurn G H d' d'' p' p'' imports' imports'' acks' acks'' o' o'' (IsOk r) (λ w left. GivesNext imports'.chip w bytes r taken taken' left)

    abbrev Both : Result (Unit {0}) ChipRefusal → InHand → InHand → Type 0
    Both r = Then (λ w left. GivesAll imports.chip w (take at certs) taken AllTaken left) (λ w left. GivesNext imports'.chip w bytes r taken taken' left)

    both : (r : Result (Unit {0}) ChipRefusal) → H.says p' ≡ H.says p → Next r → HandTurn G H d d'' p p'' imports imports'' acks acks'' o o'' (IsOk r) (Both r)
    both r same next = then_hand G H d d' d'' p p' p'' imports imports' imports'' acks acks' acks'' o o' o'' (IsOk r) (λ w left. GivesAll imports.chip w (take at certs) taken AllTaken left) (λ w left. GivesNext imports'.chip w bytes r taken taken' left) same front next

    taken_then : (u : Unit {0}) (w left : InHand) → Both (Ok u) w left → GivesAll imports.chip w (take (at + 1) certs) taken' AllTaken left
    taken_then u w left x = subst (λ (y : List (List ℕ) × List Taken). GivesAll imports.chip w y.0 y.1 AllTaken left) (λ i. (sym (next_taken certs at bytes there) i, sym x.rest.2 i))
        (gives_then imports.chip w (take at certs) taken x.mid (bytes ∷ []) (x.rest.0 ∷ []) AllTaken left x.front (left, subst (λ (n : ℕ). Gives n x.mid bytes (Ok x.rest.0) left) front.chip x.rest.1, refl))

    refused_then : (e : ChipRefusal) (w left : InHand) → Both (Err e) w left → GivesAll imports.chip w certs taken' (AnsweredBy e) left
    refused_then e w left x = subst (λ (y : List (List ℕ) × List Taken). GivesAll imports.chip w y.0 y.1 (AnsweredBy e) left) (λ i. (next_split certs at bytes there i, (append-nil taken ∙ sym x.rest.1) i))
        (gives_then imports.chip w (take at certs) taken x.mid (bytes ∷ drop (at + 1) certs) [] (AnsweredBy e) left x.front (subst (λ (n : ℕ). Gives n x.mid bytes (Err e) left) front.chip x.rest.0))

    wanting_then : (w left : InHand) → GivesAll imports.chip w (take at certs) taken AllTaken left → GivesAll imports.chip w certs taken OutOfRoom left
    wanting_then w left all = subst (λ (y : List (List ℕ) × List Taken). GivesAll imports.chip w y.0 y.1 OutOfRoom left) (λ i. (next_split certs at bytes there i, append-nil taken i))
        (gives_then imports.chip w (take at certs) taken left (bytes ∷ drop (at + 1) certs) [] OutOfRoom left all refl)

    -- so was this one
    pub one_more_taken : (u : Unit {0}) → H.says p' ≡ H.says p → Next (Ok u) → HandTurn G H d d'' p p'' imports imports'' acks acks'' o o'' (Unit {0}) (λ w left. GivesAll imports.chip w (take (at + 1) certs) taken' AllTaken left)
    one_more_taken u same next = map_hand G H d d'' p p'' imports imports'' acks acks'' o o'' (IsOk (ok_so u)) (Unit {0}) (Both (Ok u)) (λ w left. GivesAll imports.chip w (take (at + 1) certs) taken' AllTaken left) (λ x. refl) (taken_then u) (both (Ok u) same next)

    -- it was answered so
    pub one_refused : (e : ChipRefusal) (goes_on : Type 0) → (goes_on → ⊥) → H.says p' ≡ H.says p → Next (Err e) → HandTurn G H d d'' p p'' imports imports'' acks acks'' o o'' goes_on (λ w left. GivesAll imports.chip w certs taken' (AnsweredBy e) left)
    one_refused e goes_on never same next = map_hand G H d d'' p p'' imports imports'' acks acks'' o o'' (IsOk (err_so e)) goes_on (Both (Err e)) (λ w left. GivesAll imports.chip w certs taken' (AnsweredBy e) left) (λ x. absurd (never x)) (refused_then e) (both (Err e) same next)

    -- memory was wanting before it
    pub none_given : (goes_on : Type 0) → IsUntouched G d' d'' → p'' ≡ p' → imports'' ≡ imports' → acks'' ≡ acks' → o'' ≡ o' → taken' ≡ taken → HandTurn G H d d'' p p'' imports imports'' acks acks'' o o'' goes_on (λ w left. GivesAll imports.chip w certs taken' OutOfRoom left)
    none_given goes_on u same_provider same_imports same_acks same_chip same_taken =
        subst (λ (t : List Taken). HandTurn G H d d'' p p'' imports imports'' acks acks'' o o'' goes_on (λ w left. GivesAll imports.chip w certs t OutOfRoom left)) (sym same_taken)
        (map_hand G H d d'' p p'' imports imports'' acks acks'' o o'' (Unit {0}) goes_on (λ w left. GivesAll imports.chip w (take at certs) taken AllTaken left) (λ w left. GivesAll imports.chip w certs taken OutOfRoom left) (λ x. tt) wanting_then
        (still_hand G H d d' d'' p p' p'' imports imports' imports'' acks acks' acks'' o o' o'' (λ w left. GivesAll imports.chip w (take at certs) taken AllTaken left) front u same_provider same_imports same_acks same_chip))

-- ---- what is told of all of them

module _ (E : Type 0) {D P : Type 0} (G : DiskOf D) (H : ProviderOf P) (d d' : D) (p p' : P) (imports imports' : ImportCount) (acks acks' : List Ack) (o o' : ChipValue) (certs : List (List ℕ)) (taken : List Taken) where
  abbrev Shows : Shown → Type 0
  Shows shown = HandTurn G H d d' p p' imports imports' acks acks' o o' (WereTaken {E = E} (Ok shown)) (λ w left. ShowsAll {E = E} imports.chip w certs (Ok shown) left)

  abbrev Given : Result (Unit {0}) ChipRefusal → Type 0
  Given answer = HandTurn G H d d' p p' imports imports' acks acks' o o' (IsAll {E = E} (Ok answer)) (λ w left. GivesAll imports.chip w certs taken (stop_of {E = E} (Ok answer)) left)

  shown_so : (answer : Result (Unit {0}) ChipRefusal) → Given answer → Shows (record { taken = taken; end = ended_as o' answer })
  shown_so (Ok u) a = map_left G H d d' p p' imports imports' acks acks' o o' (Unit {0}) (Unit {0}) (λ w left. GivesAll imports.chip w certs taken AllTaken left)
      (λ w left. GivesAll imports.chip w certs taken AllTaken left × (grant_in o' ≡ grant_in left.opened)) (λ x. x) (λ w left is x. (x, sym (ap grant_in is))) a
  shown_so (Err e) a = a

  pub shown_turn : (answer : Result (Unit {0}) ChipRefusal) (shown : Shown) → shown ≡ record { taken = taken; end = ended_as o' answer } → Given answer → Shows shown
  shown_turn answer shown is a = subst Shows (sym is) (shown_so answer a)

-- A chain that is shown in a turn of a chip, and what was asked about it.
use Rattle.std.proofs.Common.{◌≡◌, inl, inr, ℕ, List, [], ◌∷◌, ◌++◌, Some, Ok, Err, Bool, refl, sym, ap, ◌∙◌, subst}
use Rattle.std.specs.Prelude.{map}
use Rattle.std.specs.List.{Contains}
use Rattle.std.specs.declared.option.Option.{Option}
use Rattle.std.specs.declared.result.Result.{Result}
use Rattle.std.proofs.lemmas.List.Elements.{Contains-append_left, Contains-append_right, Contains-push}
use Rattle.eac_base.specs.declared.failures.NoMemory.{NoMemory}
use Rattle.cvc_grammar.specs.ReadingOrder.{read_cert}
use Rattle.chip_verify.specs.declared.answers.Imported.{Imported}
use Rattle.chip_verify.specs.Trust.{Trust}
use Rattle.chip_slots.specs.declared.answers.ChipRefusal.{ChipRefusal}
use Rattle.chip_slots.specs.declared.answers.ChipRefusal.TheVariants as refusal
use Rattle.chip_events.specs.declared.answers.Shown.{Shown}
use Rattle.chip_events.specs.declared.answers.ShownEnd.{ShownEnd}
use Rattle.chip_events.specs.declared.answers.Taken.{Taken}
use Rattle.chip_events.specs.Acts.{IsIn}
use Rattle.chip_events.specs.Givings.{Stop, AllTaken, AnsweredBy, OutOfRoom, Gives, GivesAll, ShowsAll, references_of, in_hand}
use Rattle.chip_events.specs.Imports.{InHand, Imports}
use Rattle.chip_events.specs.Told.{ChipTold, ChipPart, found_so}
use Rattle.chip_events.specs.Verdicts as chips
use Rattle.eac_net.specs.ChipSays.{heard, IsTurn}
use Rattle.eac_net.specs.ChipTurn.{IsTold, told_by, shown_as, IsFor, ShowsBy, IsPresented, PresentTurn, ChipTurn}
use Rattle.eac_net.specs.Grants.{EndsIn}
use Rattle.eac_net.specs.Handed.{Request, Handed, ChainFor, Unasked, Certs, NoneFor, KeeperFailed, NoRoom}
use Rattle.eac_net.specs.Items.{Ran}
use Rattle.eac_net.specs.declared.answer.Answer.{Answer}
use Rattle.eac_net.specs.declared.event.Event.{Event}
use Rattle.eac_net.specs.declared.event.Event.TheVariants as events

-- ---- verdicts in lists

in_left : {X : Type 0} (xs ys : List X) (x : X) → IsIn x xs → IsIn x (xs ++ ys)
in_left [] ys x h = absurd h
in_left (y ∷ xs) ys x (inl h) = inl h
in_left (y ∷ xs) ys x (inr h) = inr (in_left xs ys x h)

pub in_last : {X : Type 0} (xs : List X) (x : X) → IsIn x (xs ++ x ∷ [])
in_last [] x = inl refl
in_last (y ∷ xs) x = inr (in_last xs x)

in_heard : (xs : List chips.Verdict) (v : chips.Verdict) → IsIn v xs → Contains (map heard xs) (heard v)
in_heard [] v h = absurd h
in_heard (x ∷ xs) v (inl same) = Contains-append_left (heard x ∷ []) (map heard xs) (heard v) (subst (λ (y : chips.Verdict). Contains (heard x ∷ []) (heard y)) (sym same) (Contains-push [] (heard x)))
in_heard (x ∷ xs) v (inr h) = Contains-append_right (heard x ∷ []) (map heard xs) (heard v) (in_heard xs v h)

-- ---- what was asked stays asked

abbrev pub Keeps : InHand → InHand → Type 0
Keeps w w' = (v : chips.Verdict) → IsIn v w.verdicts → IsIn v w'.verdicts

more_keeps : (w w' : InHand) (new : List chips.Verdict) → w'.verdicts ≡ w.verdicts ++ new → Keeps w w'
more_keeps w w' new is v h = subst (λ (l : List chips.Verdict). IsIn v l) (sym is) (in_left w.verdicts new v h)

same_keeps : (w w' : InHand) → w'.verdicts ≡ w.verdicts → Keeps w w'
same_keeps w w' is v h = subst (λ (l : List chips.Verdict). IsIn v l) (sym is) h

module _ (chip : ℕ) where
  import_keeps : (w : InHand) (bytes : List ℕ) (verdict : Bool) (w' : InHand) (result : Result Imported ChipRefusal) → Imports chip w bytes verdict result w' → Keeps w w'
  import_keeps w bytes verdict w' (Ok what) h = more_keeps w w' (chips.asked w.opened (read_cert bytes) verdict) h.verdicts
  import_keeps w bytes verdict w' (Err (refusal.Syntax e)) h = more_keeps w w' (chips.asked w.opened (read_cert bytes) verdict) h.verdicts
  import_keeps w bytes verdict w' (Err (refusal.Refused e)) h = more_keeps w w' (chips.asked w.opened (read_cert bytes) verdict) h.verdicts
  import_keeps w bytes verdict w' (Err refusal.ProviderFault) h = same_keeps w w' (ap (λ (x : InHand). x.verdicts) h.next)
  import_keeps w bytes verdict w' (Err refusal.Worn) h = more_keeps w w' (chips.asked w.opened (read_cert bytes) verdict) (ap (λ (x : InHand). x.verdicts) h.next)
  import_keeps w bytes verdict w' (Err refusal.DiskFault) h = more_keeps w w' (chips.asked w.opened (read_cert bytes) verdict) h.verdicts
  import_keeps w bytes verdict w' (Err refusal.NoChip) h = absurd h
  import_keeps w bytes verdict w' (Err refusal.NeedsOpen) h = absurd h

  gives_keeps : (w : InHand) (bytes : List ℕ) (t : Result Taken ChipRefusal) (w' : InHand) → Gives chip w bytes t w' → Keeps w w'
  gives_keeps w bytes (Ok taken) w' (verdict, h, is) = import_keeps w bytes verdict w' (Ok taken.what) h
  gives_keeps w bytes (Err e) w' (verdict, h) = import_keeps w bytes verdict w' (Err e) h

  pub all_keep : (w : InHand) (certs : List (List ℕ)) (taken : List Taken) (stop : Stop) (w' : InHand) → GivesAll chip w certs taken stop w' → Keeps w w'
  all_keep w [] [] AllTaken w' h = same_keeps w w' (ap (λ (x : InHand). x.verdicts) h)
  all_keep w (b ∷ certs) (t ∷ taken) stop w' (mid, gives, rest) = λ v i. all_keep mid certs taken stop w' rest v (gives_keeps w b (Ok t) mid gives v i)
  all_keep w (b ∷ certs) [] (AnsweredBy e) w' h = gives_keeps w b (Err e) w' h
  all_keep w (b ∷ certs) [] OutOfRoom w' h = same_keeps w w' (ap (λ (x : InHand). x.verdicts) h)
  all_keep w [] [] (AnsweredBy e) w' h = absurd h
  all_keep w [] [] OutOfRoom w' h = absurd h
  all_keep w [] (t ∷ taken) stop w' h = absurd h
  all_keep w (b ∷ certs) [] AllTaken w' h = absurd h

-- ---- a turn in which certificates were shown

pub record Showing (chip terminal : ℕ) (c : ChipTold) (i : Ran) (c' : ChipTold) (certs : List (List ℕ)) : Type 0 where
  pub read : Trust × ℕ
  pub reads : c.reads ≡ Some read
  pub handed : i.handed ≡ Certs (ChainFor terminal (references_of read.0)) certs
  pub now : ChipTold
  pub faults : now.faults ≡ c.faults
  pub result : Result Shown NoMemory
  pub left : InHand
  pub shows : ShowsAll chip (in_hand (found_so c i.from.parties.provider) now read) certs result left
  pub left_faults : left.chip.faults ≡ c'.faults
  pub left_provider : left.provider ≡ i.to.parties.provider
  pub told : IsTold i.answer (told_by shown_as result)
  pub asked : (v : chips.Verdict) → IsIn v left.verdicts → Contains i.asked (heard v)

-- what was told is what was to be said
pub told_is : (answer said : Option Answer) (a : Answer) → answer ≡ Some a → IsTold answer said → said ≡ Some a
told_is answer said a is (inl told) = sym told ∙ is
told_is answer said a is (inr none) = absurd (cc (sym none ∙ is))

module _ (chip terminal : ℕ) (c c' : ChipTold) (i : Ran) (turn : IsTurn chip c i c') (event_is : i.event ≡ events.Present chip terminal) where
  abbrev s : ChipPart
  s = found_so c i.from.parties.provider

  abbrev s' : ChipPart
  s' = record { chip = c'; acks = i.acks; verdicts = turn.verdicts; provider = i.to.parties.provider }

  presents : PresentTurn chip terminal s i.handed i.answer s'
  presents = subst (λ (e : Event). ChipTurn turn.day e i.handed i.answer s s') event_is turn.turn

  showing : (p : IsPresented chip terminal s i.handed i.answer s') (request : Request) (certs : List (List ℕ)) → i.handed ≡ Certs request certs → Showing chip terminal c i c' certs
  showing p request certs is =
      let asked : request ≡ ChainFor terminal (references_of p.read.0) = subst (IsFor (ChainFor terminal (references_of p.read.0))) is p.asked in
      let h = subst (λ (handed : Handed). ShowsBy chip (in_hand s p.now p.read) handed i.answer s') is p.shows in
      let verdicts : i.asked ≡ map heard h.left.verdicts = turn.asked ∙ ap (λ (x : ChipPart). map heard x.verdicts) h.next in
      record {
        read = p.read;
        reads = p.opens.read;
        handed = is ∙ ap (λ (r : Request). Certs r certs) asked;
        now = p.now;
        faults = p.opens.quiet.faults;
        result = h.result;
        left = h.left;
        shows = h.shows;
        left_faults = ap (λ (x : ChipPart). x.chip.faults) (sym h.next);
        left_provider = ap (λ (x : ChipPart). x.provider) (sym h.next);
        told = h.told;
        asked = λ v there. subst (λ (l : List _). Contains l (heard v)) (sym verdicts) (in_heard h.left.verdicts v there);
      }

  -- these certificates were handed
  pub handed_shows : (request : Request) (certs : List (List ℕ)) → i.handed ≡ Certs request certs → Showing chip terminal c i c' certs
  handed_shows request certs is = go presents
    where
      go : PresentTurn chip terminal s i.handed i.answer s' → Showing chip terminal c i c' certs
      go (inl p) = showing p request certs is
      go (inr (inl u)) = absurd (cc (sym u.unasked ∙ is))
      go (inr (inr u)) = absurd (cc (sym u.unasked ∙ is))

  -- it ended so
  pub answer_shows : (end : ShownEnd) → EndsIn i.answer end → (certs : List (List ℕ)) × Showing chip terminal c i c' certs
  answer_shows end e = go presents
    where
      by : (p : IsPresented chip terminal s i.handed i.answer s') (h : Handed) → i.handed ≡ h → ShowsBy chip (in_hand s p.now p.read) h i.answer s' → (certs : List (List ℕ)) × Showing chip terminal c i c' certs
      by p (Certs request certs) is shows = (certs, showing p request certs is)
      by p Unasked is shows = absurd (cc (told_is i.answer _ (shown_as e.shown) e.answer_is shows.told))
      by p (NoneFor request) is shows = absurd (cc (told_is i.answer _ (shown_as e.shown) e.answer_is shows.told))
      by p (KeeperFailed request) is shows = absurd (cc (told_is i.answer _ (shown_as e.shown) e.answer_is shows.told))
      by p (NoRoom request) is shows = absurd (cc (told_is i.answer _ (shown_as e.shown) e.answer_is shows.told))

      go : PresentTurn chip terminal s i.handed i.answer s' → (certs : List (List ℕ)) × Showing chip terminal c i c' certs
      go (inl p) = by p i.handed refl p.shows
      go (inr (inl u)) = absurd (cc (told_is i.answer _ (shown_as e.shown) e.answer_is u.told))
      go (inr (inr u)) = absurd (cc (sym u.none ∙ e.answer_is))

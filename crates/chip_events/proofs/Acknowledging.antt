-- Each event leaves each acknowledgement one of an act, and each import that was answered Ok acknowledged.
use Rattle.std.proofs.Common.{◌≡◌, ℕ, List, [], ◌∷◌, ◌++◌, Result, Ok, Err, Bool, refl, sym, ◌∙◌, ap, subst, inl, inr, ◌⊎◌, ⊎_elim, append-nil, append_assoc}
use Rattle.eac_base.specs.declared.acks.Ack.{Ack}
use Rattle.cvc_grammar.specs.declared.certificate.Cert.{Cert}
use Rattle.cvc_grammar.specs.declared.refusal.CvcRefusal.{CvcRefusal}
use Rattle.chip_verify.specs.declared.answers.Imported.{Imported}
use Rattle.chip_verify.specs.Trust.{Trust}
use Rattle.chip_slots.specs.declared.answers.ChipRefusal.{ChipRefusal}
use Rattle.chip_slots.specs.declared.answers.ChipRefusal.TheVariants as refusal
use Rattle.chip_slots.specs.Acts.{Settling, Answered, Unsettled, Found, Lost}
use Rattle.chip_events.specs.declared.answers.ImportAnswer.{ImportAnswer}
use Rattle.chip_events.specs.declared.answers.ImportAnswer.TheVariants as answers
use Rattle.chip_events.specs.declared.answers.MakeAnswer.{MakeAnswer}
use Rattle.chip_events.specs.declared.answers.MakeAnswer.TheVariants as makes
use Rattle.chip_events.specs.declared.answers.Shown.{Shown}
use Rattle.chip_events.specs.declared.answers.ShownEnd.{ShownEnd}
use Rattle.chip_events.specs.declared.answers.ShownEnd.TheVariants as ends
use Rattle.chip_events.specs.declared.answers.Taken.{Taken}
use Rattle.chip_events.specs.Acts.{ChipAct, GiveCall, Settles, SettlesOne, IsIn}
use Rattle.chip_events.specs.Told.{ChipTold, ChipPart, one_more}
use Rattle.chip_events.specs.Openings.{Opens}
use Rattle.chip_events.specs.Makings.{MakesSo}
use Rattle.chip_events.specs.Imports.{InHand, Imports}
use Rattle.chip_events.specs.Givings.{Gives, Stop, AllTaken, AnsweredBy, OutOfRoom, GivesAll, EndsAt, ShowsAll, put_back}
use Rattle.chip_events.specs.Events.{IsOpenedFirst, IsGiven, GivesOne, ImportsOne, Presents}
use Rattle.chip_events.specs.Crashes.{IsOkImport, Acknowledged, KeepsAcks}

-- ---- membership

in_left : {X : Type 0} (x : X) (xs ys : List X) → IsIn x xs → IsIn x (xs ++ ys)
in_left x [] ys h = absurd h
in_left x (y ∷ xs) ys (inl e) = inl e
in_left x (y ∷ xs) ys (inr h) = inr (in_left x xs ys h)

in_right : {X : Type 0} (x : X) (xs ys : List X) → IsIn x ys → IsIn x (xs ++ ys)
in_right x [] ys h = h
in_right x (y ∷ xs) ys h = inr (in_right x xs ys h)

in_either : {X : Type 0} (x : X) (xs ys : List X) → IsIn x (xs ++ ys) → IsIn x xs ⊎ IsIn x ys
in_either x [] ys h = inr h
in_either x (y ∷ xs) ys (inl e) = inl (inl e)
in_either x (y ∷ xs) ys (inr h) = ⊎_elim (λ (l : IsIn x xs). inl (inr l)) (λ (r : IsIn x ys). inr r) (in_either x xs ys h)

-- ---- a settling

record SameAct (c d : ChipAct) : Type 0 where
  call : d.call ≡ c.call
  to : d.to ≡ c.to
  answered : c.settling ≡ Answered → d.settling ≡ Answered

answered_stays : (at : ℕ) (x s : Settling) → SettlesOne at x s → x ≡ Answered → s ≡ Answered
answered_stays at Answered s h e = h
answered_stays at Unsettled s h e = absurd (cc)
answered_stays at (Found n) s h e = absurd (cc)
answered_stays at (Lost n) s h e = absurd (cc)

settles_to : (at : ℕ) (acts settled : List ChipAct) → Settles at acts settled → (c : ChipAct) → IsIn c acts → (d : ChipAct) × IsIn d settled × SameAct c d
settles_to at [] settled h c i = absurd i
settles_to at (a ∷ acts) settled h c (inl e) =
    let d : ChipAct = record a { settling = h.0 } in (
      d,
      subst (λ (l : List ChipAct). IsIn d l) (sym h.4) (inl refl),
      record {
        call = ap (λ (x : ChipAct). x.call) (sym e);
        to = ap (λ (x : ChipAct). x.to) (sym e);
        answered = λ is. answered_stays at a.settling h.0 h.2 (ap (λ (x : ChipAct). x.settling) (sym e) ∙ is);
      },
    )
settles_to at (a ∷ acts) settled h c (inr i) =
    let r = settles_to at acts h.1 h.3 c i in
    (r.0, subst (λ (l : List ChipAct). IsIn r.0 l) (sym h.4) (inr r.1), r.2)

settles_from : (at : ℕ) (acts settled : List ChipAct) → Settles at acts settled → (d : ChipAct) → IsIn d settled → (c : ChipAct) × IsIn c acts × (d.call ≡ c.call) × (d.to ≡ c.to)
settles_from at [] settled h d i = absurd (subst (λ (l : List ChipAct). IsIn d l) h i)
settles_from at (a ∷ acts) settled h d i = ⊎_elim
    (λ (e : d ≡ record a { settling = h.0 }). (a, inl refl, ap (λ (x : ChipAct). x.call) e, ap (λ (x : ChipAct). x.to) e))
    (λ (j : IsIn d h.1). let r = settles_from at acts h.1 h.3 d j in (r.0, inr r.1, r.2, r.3))
    (subst (λ (l : List ChipAct). IsIn d l) h.4 i)

module _ (chip : ℕ) where
  acked_settled : (at : ℕ) (acts settled : List ChipAct) (acks : List Ack) → Settles at acts settled → Acknowledged chip acts acks → Acknowledged chip settled acks
  acked_settled at acts settled acks st h = record {
    of_acts = λ a i e. let k = h.of_acts a i e in
        let d = settles_to at acts settled st k.0 k.1 in
        (d.0, d.1, record { import = subst (IsOkImport a.import) (sym d.2.call) k.2.import; answered = d.2.answered k.2.answered; calls = d.2.to ∙ k.2.calls });
    all = λ d number i ok. let c = settles_from at acts settled st d i in
        subst (λ (n : ℕ). IsIn (record { chip = chip; import = number; calls = n }) acks) (sym c.3) (h.all c.0 number c.1 (subst (IsOkImport number) c.2 ok));
  }

  -- an act that is no import answered Ok
  acked_more : (a : ChipAct) (acts : List ChipAct) (acks : List Ack) → ((n : ℕ) → IsOkImport n a.call → ⊥) → Acknowledged chip acts acks → Acknowledged chip (a ∷ acts) acks
  acked_more a acts acks apart h = record {
    of_acts = λ k i e. let r = h.of_acts k i e in (r.0, inr r.1, r.2);
    all = λ c number i ok. ⊎_elim
        (λ (e : c ≡ a). absurd (apart number (subst (IsOkImport number) (ap (λ (x : ChipAct). x.call) e) ok)))
        (λ (j : IsIn c acts). h.all c number j ok) i;
  }

  -- one that is, with its acknowledgement
  acked_import : (bytes : List ℕ) (verdict : Bool) (number from to : ℕ) (what : Imported) (acts : List ChipAct) (acks : List Ack) → Acknowledged chip acts acks →
      Acknowledged chip (record { call = GiveCall bytes verdict number (Ok what); from = from; to = to; settling = Answered } ∷ acts) (acks ++ record { chip = chip; import = number; calls = to } ∷ [])
  acked_import bytes verdict number from to what acts acks h =
      let a : ChipAct = record { call = GiveCall bytes verdict number (Ok what); from = from; to = to; settling = Answered } in
      let new : Ack = record { chip = chip; import = number; calls = to } in
      record {
        of_acts = λ k i e. ⊎_elim
            (λ (l : IsIn k acks). let r = h.of_acts k l e in (r.0, inr r.1, r.2))
            (λ (r : IsIn k (new ∷ [])). ⊎_elim
            (λ (is : k ≡ new). (a, inl refl, record { import = sym (ap (λ (x : Ack). x.import) is); answered = refl; calls = sym (ap (λ (x : Ack). x.calls) is) }))
            (λ (none : ⊥). absurd none) r)
            (in_either k acks (new ∷ []) i);
        all = λ c n i ok. ⊎_elim
            (λ (e : c ≡ a). let same : number ≡ n = subst (IsOkImport n) (ap (λ (x : ChipAct). x.call) e) ok in
            in_right (record { chip = chip; import = n; calls = c.to }) acks (new ∷ []) (inl (λ i. record { chip = chip; import = sym same i; calls = (e i).to })))
            (λ (j : IsIn c acts). in_left (record { chip = chip; import = n; calls = c.to }) acks (new ∷ []) (h.all c n j ok)) i;
      }

  -- ---- one call

  same_keeps : (acts acts' : List ChipAct) (acks acks' : List Ack) → acts' ≡ acts → acks' ≡ acks → KeepsAcks chip acts acts' acks acks'
  same_keeps acts acts' acks acks' same_acts same_acks = record {
    new = [];
    added = same_acks ∙ sym (append-nil acks);
    keeps = λ more k. subst (λ (x : List ChipAct × List Ack). Acknowledged chip x.0 x.1) (λ i. (sym same_acts i, sym (append-nil more) i)) k;
  }

  then_keeps : (a b c : List ChipAct) (x y z : List Ack) → KeepsAcks chip a b x y → KeepsAcks chip b c y z → KeepsAcks chip a c x z
  then_keeps a b c x y z f g = record {
    new = f.new ++ g.new;
    added = g.added ∙ ap (λ (l : List Ack). l ++ g.new) f.added ∙ append_assoc x f.new g.new;
    keeps = λ more k. subst (Acknowledged chip c) (append_assoc more f.new g.new) (g.keeps (more ++ f.new) (f.keeps more k));
  }

  -- acts that a reading settled, and one act above them that is no import answered Ok
  settled_keeps : (at : ℕ) (acts settled acts' : List ChipAct) (acks : List Ack) → Settles at acts settled → acts' ≡ settled → KeepsAcks chip acts acts' acks acks
  settled_keeps at acts settled acts' acks st is = record {
    new = [];
    added = sym (append-nil acks);
    keeps = λ more k. subst (λ (x : List ChipAct × List Ack). Acknowledged chip x.0 x.1) (λ i. (sym is i, sym (append-nil more) i)) (acked_settled at acts settled more st k);
  }

  act_keeps : (a : ChipAct) (acts acts' : List ChipAct) (acks : List Ack) → ((n : ℕ) → IsOkImport n a.call → ⊥) → acts' ≡ a ∷ acts → KeepsAcks chip acts acts' acks acks
  act_keeps a acts acts' acks apart is = record {
    new = [];
    added = sym (append-nil acks);
    keeps = λ more k. subst (λ (x : List ChipAct × List Ack). Acknowledged chip x.0 x.1) (λ i. (sym is i, sym (append-nil more) i)) (acked_more a acts more apart k);
  }

  acts_of_next : (c c' : ChipTold) → c' ≡ c → c'.acts ≡ c.acts
  acts_of_next c c' e = ap (λ (x : ChipTold). x.acts) e

  pub opening_keeps : (c : ChipTold) (o : Result (Trust × ℕ) ChipRefusal) (c' : ChipTold) (acks : List Ack) → Opens c o c' → KeepsAcks chip c.acts c'.acts acks acks
  opening_keeps c (Ok read) c' acks h = then_keeps c.acts h.settled c'.acts acks acks acks (settled_keeps c'.calls c.acts h.settled h.settled acks h.settles.each refl) (act_keeps _ h.settled c'.acts acks (λ n ok. ok) (ap (λ (x : ChipTold). x.acts) h.next))
  opening_keeps c (Err refusal.NoChip) c' acks h = settled_keeps c'.calls c.acts c'.acts c'.acts acks h.settles.each refl
  opening_keeps c (Err refusal.DiskFault) c' acks h = same_keeps c.acts c'.acts acks acks (ap (λ (x : ChipTold). x.acts) h.next) refl
  opening_keeps c (Err refusal.ProviderFault) c' acks h = absurd h
  opening_keeps c (Err refusal.NeedsOpen) c' acks h = absurd h
  opening_keeps c (Err (refusal.Syntax e)) c' acks h = absurd h
  opening_keeps c (Err (refusal.Refused k)) c' acks h = absurd h
  opening_keeps c (Err refusal.Worn) c' acks h = absurd h

  pub making_keeps : (read : Result Cert CvcRefusal) (day : ℕ) (c : ChipTold) (answer : MakeAnswer) (c' : ChipTold) (acks : List Ack) → MakesSo read day c answer c' → KeepsAcks chip c.acts c'.acts acks acks
  making_keeps read day c makes.WrongSize c' acks h = same_keeps c.acts c'.acts acks acks (acts_of_next c c' h.1) refl
  making_keeps read day c makes.Unfounded c' acks h = same_keeps c.acts c'.acts acks acks (acts_of_next c c' h.2) refl
  making_keeps read day c (makes.Made holder) c' acks h = then_keeps c.acts h.2.settled c'.acts acks acks acks (settled_keeps h.2.settles.at c.acts h.2.settled h.2.settled acks h.2.settles.settles.each refl) (act_keeps _ h.2.settled c'.acts acks (λ n ok. ok) (ap (λ (x : ChipTold). x.acts) h.2.next))
  making_keeps read day c makes.WasMade c' acks h = settled_keeps h.2.settles.at c.acts c'.acts c'.acts acks h.2.settles.settles.each refl
  making_keeps read day c makes.DiskFault c' acks (memory, root, inl h) = same_keeps c.acts c'.acts acks acks (ap (λ (x : ChipTold). x.acts) h.next) refl
  making_keeps read day c makes.DiskFault c' acks (memory, root, inr h) = then_keeps c.acts h.settled c'.acts acks acks acks (settled_keeps h.settles.at c.acts h.settled h.settled acks h.settles.settles.each refl) (act_keeps _ h.settled c'.acts acks (λ n ok. ok) (ap (λ (x : ChipTold). x.acts) h.next))

  module _ (w : InHand) (bytes : List ℕ) (verdict : Bool) (w' : InHand) where
    -- an act that isn't acknowledged
    alone_keeps : (a : ChipAct) → ((n : ℕ) → IsOkImport n a.call → ⊥) → w'.chip.acts ≡ a ∷ w.chip.acts → w'.acks ≡ w.acks → KeepsAcks chip w.chip.acts w'.chip.acts w.acks w'.acks
    alone_keeps a apart acts acks = then_keeps w.chip.acts w'.chip.acts w'.chip.acts w.acks w.acks w'.acks (act_keeps a w.chip.acts w'.chip.acts w.acks apart acts) (same_keeps w'.chip.acts w'.chip.acts w.acks w'.acks refl acks)

    import_keeps : (result : Result Imported ChipRefusal) → Imports chip w bytes verdict result w' → KeepsAcks chip w.chip.acts w'.chip.acts w.acks w'.acks
    import_keeps (Ok what) h = record {
      new = record { chip = chip; import = one_more w.chip.imports; calls = w'.chip.calls } ∷ [];
      added = h.acks;
      keeps = λ more k. subst (λ (l : List ChipAct). Acknowledged chip l (more ++ record { chip = chip; import = one_more w.chip.imports; calls = w'.chip.calls } ∷ [])) (sym (ap (λ (x : ChipTold). x.acts) h.told))
          (acked_import bytes verdict (one_more w.chip.imports) w.chip.calls w'.chip.calls what w.chip.acts more k);
    }
    import_keeps (Err (refusal.Syntax e)) h = alone_keeps _ (λ n ok. ok) (ap (λ (x : ChipTold). x.acts) h.told) (h.acks ∙ append-nil w.acks)
    import_keeps (Err (refusal.Refused e)) h = alone_keeps _ (λ n ok. ok) (ap (λ (x : ChipTold). x.acts) h.told) (h.acks ∙ append-nil w.acks)
    import_keeps (Err refusal.ProviderFault) h = same_keeps w.chip.acts w'.chip.acts w.acks w'.acks (ap (λ (x : InHand). x.chip.acts) h.next) (ap (λ (x : InHand). x.acks) h.next)
    import_keeps (Err refusal.Worn) h = same_keeps w.chip.acts w'.chip.acts w.acks w'.acks (ap (λ (x : InHand). x.chip.acts) h.next) (ap (λ (x : InHand). x.acks) h.next)
    import_keeps (Err refusal.DiskFault) h = alone_keeps _ (λ n ok. ok) (ap (λ (x : ChipTold). x.acts) h.told) h.acks
    import_keeps (Err refusal.NoChip) h = absurd h
    import_keeps (Err refusal.NeedsOpen) h = absurd h

  gives_keeps : (w : InHand) (bytes : List ℕ) (t : Result Taken ChipRefusal) (w' : InHand) → Gives chip w bytes t w' → KeepsAcks chip w.chip.acts w'.chip.acts w.acks w'.acks
  gives_keeps w bytes (Ok taken) w' (verdict, h, is) = import_keeps w bytes verdict w' (Ok taken.what) h
  gives_keeps w bytes (Err e) w' (verdict, h) = import_keeps w bytes verdict w' (Err e) h

  all_keeps : (w : InHand) (certs : List (List ℕ)) (taken : List Taken) (stop : Stop) (w' : InHand) → GivesAll chip w certs taken stop w' → KeepsAcks chip w.chip.acts w'.chip.acts w.acks w'.acks
  all_keeps w [] [] AllTaken w' h = same_keeps w.chip.acts w'.chip.acts w.acks w'.acks (ap (λ (x : InHand). x.chip.acts) h) (ap (λ (x : InHand). x.acks) h)
  all_keeps w (b ∷ certs) (t ∷ taken) stop w' (mid, gives, rest) = then_keeps w.chip.acts mid.chip.acts w'.chip.acts w.acks mid.acks w'.acks (gives_keeps w b (Ok t) mid gives) (all_keeps mid certs taken stop w' rest)
  all_keeps w (b ∷ certs) [] (AnsweredBy e) w' h = gives_keeps w b (Err e) w' h
  all_keeps w (b ∷ certs) [] OutOfRoom w' h = same_keeps w.chip.acts w'.chip.acts w.acks w'.acks (ap (λ (x : InHand). x.chip.acts) h) (ap (λ (x : InHand). x.acks) h)
  all_keeps w [] [] (AnsweredBy e) w' h = absurd h
  all_keeps w [] [] OutOfRoom w' h = absurd h
  all_keeps w [] (t ∷ taken) stop w' h = absurd h
  all_keeps w (b ∷ certs) [] AllTaken w' h = absurd h

  ends_keeps : (w : InHand) (certs : List (List ℕ)) (taken : List Taken) (end : ShownEnd) (w' : InHand) → EndsAt chip w certs taken end w' → KeepsAcks chip w.chip.acts w'.chip.acts w.acks w'.acks
  ends_keeps w certs taken (ends.AllTaken grant) w' h = all_keeps w certs taken AllTaken w' h.0
  ends_keeps w certs taken (ends.NotTaken e) w' h = all_keeps w certs taken (AnsweredBy e) w' h

  shows_keeps : (E : Type 0) (w : InHand) (certs : List (List ℕ)) (result : Result Shown E) (w' : InHand) → ShowsAll chip w certs result w' → KeepsAcks chip w.chip.acts w'.chip.acts w.acks w'.acks
  shows_keeps E w certs (Ok shown) w' h = ends_keeps w certs shown.taken shown.end w' h
  shows_keeps E w certs (Err e) w' (taken, h) = all_keeps w certs taken OutOfRoom w' h

  -- ---- one event

  first_keeps : (s : ChipPart) (w : InHand) → IsOpenedFirst s w → KeepsAcks chip s.chip.acts w.chip.acts s.acks w.acks
  first_keeps s w h = subst (λ (x : InHand). KeepsAcks chip s.chip.acts x.chip.acts s.acks x.acks) (sym h.hand) (opening_keeps s.chip (Ok h.read) h.now s.acks h.opens)

  back_keeps : (s s' : ChipPart) (w : InHand) → s' ≡ put_back w → KeepsAcks chip s.chip.acts w.chip.acts s.acks w.acks → KeepsAcks chip s.chip.acts s'.chip.acts s.acks s'.acks
  back_keeps s s' w is k = subst (λ (x : ChipPart). KeepsAcks chip s.chip.acts x.chip.acts s.acks x.acks) (sym is) k

  given_keeps : (bytes : List ℕ) (s : ChipPart) (t : Result Taken ChipRefusal) (left : InHand) (s' : ChipPart) → IsGiven chip bytes s t left s' → KeepsAcks chip s.chip.acts s'.chip.acts s.acks s'.acks
  given_keeps bytes s t left s' h = back_keeps s s' left h.next (then_keeps s.chip.acts h.hand.chip.acts left.chip.acts s.acks h.hand.acks left.acks (first_keeps s h.hand h.first) (gives_keeps h.hand bytes t left h.gives))

  one_keeps : (bytes : List ℕ) (s : ChipPart) (answer : ImportAnswer) (s' : ChipPart) → GivesOne chip bytes s answer s' → KeepsAcks chip s.chip.acts s'.chip.acts s.acks s'.acks
  one_keeps bytes s (answers.NotOpened e) s' (c, opens, is) = subst (λ (x : ChipPart). KeepsAcks chip s.chip.acts x.chip.acts s.acks x.acks) (sym is) (opening_keeps s.chip (Err e) c s.acks opens)
  one_keeps bytes s (answers.Took taken day) s' (left, h, is) = given_keeps bytes s (Ok taken) left s' h
  one_keeps bytes s (answers.NotTaken e) s' (left, h) = given_keeps bytes s (Err e) left s' h

  pub importing_keeps : (E : Type 0) (bytes : List ℕ) (s : ChipPart) (result : Result ImportAnswer E) (s' : ChipPart) → ImportsOne chip bytes s result s' → KeepsAcks chip s.chip.acts s'.chip.acts s.acks s'.acks
  importing_keeps E bytes s (Ok answer) s' h = one_keeps bytes s answer s' h
  importing_keeps E bytes s (Err e) s' (inl h) = same_keeps s.chip.acts s'.chip.acts s.acks s'.acks (ap (λ (x : ChipPart). x.chip.acts) h) (ap (λ (x : ChipPart). x.acks) h)
  importing_keeps E bytes s (Err e) s' (inr h) = back_keeps s s' h.hand h.next (first_keeps s h.hand h.first)

  pub presenting_keeps : (E : Type 0) (certs : List (List ℕ)) (s : ChipPart) (result : Result Shown E) (s' : ChipPart) → Presents chip certs s result s' → KeepsAcks chip s.chip.acts s'.chip.acts s.acks s'.acks
  presenting_keeps E certs s result s' h = back_keeps s s' h.left h.next (then_keeps s.chip.acts h.hand.chip.acts h.left.chip.acts s.acks h.hand.acks h.left.acks (first_keeps s h.hand h.first) (shows_keeps E h.hand certs result h.left h.shows))

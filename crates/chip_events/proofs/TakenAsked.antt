-- What an event newly takes it has asked for.
use Rattle.std.proofs.Common.{◌≡◌, ℕ, List, [], ◌∷◌, ◌++◌, Option, Some, None, Result, Ok, Err, Bool, true, false, cond, refl, sym, ◌∙◌, ap, subst, inl, inr, ⊎_elim, append-nil, append_assoc}
use Rattle.cvc_grammar.specs.declared.certificate.Cert.{Cert}
use Rattle.cvc_grammar.specs.declared.refusal.CvcRefusal.{CvcRefusal}
use Rattle.chip_verify.specs.declared.answers.Imported.{Imported}
use Rattle.chip_verify.specs.Trust.{Trust}
use Rattle.chip_slots.specs.declared.answers.ChipRefusal.{ChipRefusal}
use Rattle.chip_slots.specs.declared.answers.ChipRefusal.TheVariants as refusal
use Rattle.chip_slots.specs.Acts.{Settling, Answered, Unsettled, Found, Lost}
use Rattle.chip_events.specs.declared.answers.ImportAnswer.{ImportAnswer}
use Rattle.chip_events.specs.declared.answers.ImportAnswer.TheVariants as answers
use Rattle.chip_events.specs.declared.answers.MakeAnswer.{MakeAnswer}
use Rattle.chip_events.specs.declared.answers.MakeAnswer.TheVariants as makes
use Rattle.chip_events.specs.declared.answers.Shown.{Shown}
use Rattle.chip_events.specs.declared.answers.ShownEnd.{ShownEnd}
use Rattle.chip_events.specs.declared.answers.ShownEnd.TheVariants as ends
use Rattle.chip_events.specs.declared.answers.Taken.{Taken}
use Rattle.chip_events.specs.Acts.{ChipAct, Settles, SettlesOne, IsIn}
use Rattle.chip_events.specs.Told.{ChipTold, ChipPart}
use Rattle.chip_events.specs.Openings.{Opens}
use Rattle.chip_events.specs.Makings.{MakesSo}
use Rattle.chip_events.specs.Imports.{InHand, Imports}
use Rattle.chip_events.specs.Givings.{Gives, Stop, AllTaken, AnsweredBy, OutOfRoom, GivesAll, EndsAt, ShowsAll, put_back}
use Rattle.chip_events.specs.Events.{IsOpenedFirst, IsGiven, GivesOne, ImportsOne, Presents}
use Rattle.chip_events.specs.Asked.{GotYes, IsNew, Took, WasAsked, TakesAsked}
use Rattle.chip_events.specs.Verdicts.{Verdict, verdict_under, verdict_where, asked}
use Rattle.cvc_grammar.specs.ReadingOrder.{read_cert}
use Rattle.chip_verify.specs.declared.answers.Imported.TheVariants as imported
use Rattle.chip_verify.specs.declared.answers.ImportRefusal.{ImportRefusal}
use Rattle.chip_verify.specs.declared.answers.Checked.{Checked}
use Rattle.chip_verify.specs.declared.answers.Checked.TheVariants as checks
use Rattle.chip_verify.specs.Refusals.{Sort, sort_of, Issuer, issuer_of, is_held, first_refusal, refusal_of, refused_or_ask, checked}
use Rattle.chip_slots.specs.Outcomes.{answer_for, due_answer}
use Rattle.chip_slots.specs.Chips.{ChipValue}

-- ---- verdicts

got_left : (xs ys : List Verdict) (cert : Cert) → GotYes xs cert → GotYes (xs ++ ys) cert
got_left [] ys cert h = absurd h
got_left (x ∷ xs) ys cert (inl e) = inl e
got_left (x ∷ xs) ys cert (inr h) = inr (got_left xs ys cert h)

got_right : (xs ys : List Verdict) (cert : Cert) → GotYes ys cert → GotYes (xs ++ ys) cert
got_right [] ys cert h = h
got_right (x ∷ xs) ys cert h = inr (got_right xs ys cert h)

left_asked : (bytes : List ℕ) (xs ys : List Verdict) → WasAsked bytes xs → WasAsked bytes (xs ++ ys)
left_asked bytes xs ys h = record { cert = h.cert; reads = h.reads; got = got_left xs ys h.cert h.got }

right_asked : (bytes : List ℕ) (xs ys : List Verdict) → WasAsked bytes ys → WasAsked bytes (xs ++ ys)
right_asked bytes xs ys h = record { cert = h.cert; reads = h.reads; got = got_right xs ys h.cert h.got }

-- ---- an act that was answered was so before a settling

answered_before : (at : ℕ) (x s : Settling) → SettlesOne at x s → s ≡ Answered → x ≡ Answered
answered_before at Answered s h e = refl
answered_before at Unsettled s (inl h) e = absurd (cc (h, e))
answered_before at Unsettled s (inr h) e = absurd (cc (h, e))
answered_before at (Found n) s h e = absurd (cc (h, e))
answered_before at (Lost n) s h e = absurd (cc (h, e))

same_act : (a : ChipAct) (s : Settling) → a.settling ≡ s → record a { settling = s } ≡ a
same_act a s e = λ i. record a { settling = sym e i }

settled_before : (at : ℕ) (acts settled : List ChipAct) → Settles at acts settled → (d : ChipAct) → IsIn d settled → d.settling ≡ Answered → IsIn d acts
settled_before at [] settled h d i e = absurd (subst (λ (l : List ChipAct). IsIn d l) h i)
settled_before at (a ∷ acts) settled h d i e = ⊎_elim
    (λ (is : d ≡ record a { settling = h.0 }).
    let now : h.0 ≡ Answered = sym (ap (λ (x : ChipAct). x.settling) is) ∙ e in
    let was : a.settling ≡ Answered = answered_before at a.settling h.0 h.2 now in
    inl (is ∙ same_act a h.0 (was ∙ sym now)))
    (λ (j : IsIn d h.1). inr (settled_before at acts h.1 h.3 d j e))
    (subst (λ (l : List ChipAct). IsIn d l) h.4 i)

-- ---- what was newly taken was asked

issuer_there : (sort : Sort) (t : Trust) (c : Cert) (i : Option Issuer) → refused_or_ask (first_refusal sort t c.body i) ≡ checks.Ask → GotYes (verdict_under i c true) c
issuer_there sort t c (Some i) e = inl (record { message = refl; signature = refl; yes = refl })
issuer_there sort t c None e = absurd (cc (e))

asks_by : (held : Bool) (r : Option ImportRefusal) → cond held checks.Held (refused_or_ask r) ≡ checks.Ask → refused_or_ask r ≡ checks.Ask
asks_by true r e = absurd (cc (e))
asks_by false r e = e

due_asked : (o : ChipValue) (c : Cert) (good : Bool) (what : Imported) (k : Checked) → checked o.state o.session c.body ≡ k → Ok what ≡ answer_for k good (sort_of c.body.template.role) → IsNew what →
    GotYes (verdict_where k (issuer_of o.state o.session c.body) c good) c
due_asked o c good what checks.Held is due new = let same : what ≡ imported.Held = cc in absurd (subst IsNew same new)
due_asked o c good what (checks.Refused r) is due new = absurd (cc (due))
due_asked o c true what checks.Ask is due new = issuer_there (sort_of c.body.template.role) o.state c (issuer_of o.state o.session c.body) (asks_by (is_held o.state c.body) (refusal_of o.state o.session c.body) is)
due_asked o c false what checks.Ask is due new = absurd (cc (due))

read_asked : (o : ChipValue) (bytes : List ℕ) (good : Bool) (what : Imported) (r : Result Cert CvcRefusal) → read_cert bytes ≡ r → Ok what ≡ due_answer o r good → IsNew what → WasAsked bytes (asked o r good)
read_asked o bytes good what (Ok c) is due new = record { cert = c; reads = is; got = due_asked o c good what (checked o.state o.session c.body) refl due new }
read_asked o bytes good what (Err e) is due new = absurd (cc (due))

module _ (chip : ℕ) where
  -- ---- one call

  same_keeps : (acts acts' : List ChipAct) (acks acks' : List Verdict) → acts' ≡ acts → acks' ≡ acks → TakesAsked acts acts' acks acks'
  same_keeps acts acts' acks acks' same_acts same_acks = record {
    new = [];
    added = same_acks ∙ sym (append-nil acks);
    asked = λ a bytes i e took. inl (subst (λ (l : List ChipAct). IsIn a l) same_acts i);
  }

  then_keeps : (a b c : List ChipAct) (x y z : List Verdict) → TakesAsked a b x y → TakesAsked b c y z → TakesAsked a c x z
  then_keeps a b c x y z f g = record {
    new = f.new ++ g.new;
    added = g.added ∙ ap (λ (l : List Verdict). l ++ g.new) f.added ∙ append_assoc x f.new g.new;
    asked = λ d bytes i e took. ⊎_elim
        (λ (j : IsIn d b). ⊎_elim
        (λ (k : IsIn d a). inl k)
        (λ (k : WasAsked bytes f.new). inr (left_asked bytes f.new g.new k))
        (f.asked d bytes j e took))
        (λ (k : WasAsked bytes g.new). inr (right_asked bytes f.new g.new k))
        (g.asked d bytes i e took);
  }

  -- acts that a reading settled, and one act above them that took nothing
  settled_keeps : (at : ℕ) (acts settled acts' : List ChipAct) (acks : List Verdict) → Settles at acts settled → acts' ≡ settled → TakesAsked acts acts' acks acks
  settled_keeps at acts settled acts' acks st is = record {
    new = [];
    added = sym (append-nil acks);
    asked = λ d bytes i e took. inl (settled_before at acts settled st d (subst (λ (l : List ChipAct). IsIn d l) is i) e);
  }

  act_keeps : (a : ChipAct) (acts acts' : List ChipAct) (acks : List Verdict) → ((b : List ℕ) → Took a.call b → ⊥) → acts' ≡ a ∷ acts → TakesAsked acts acts' acks acks
  act_keeps a acts acts' acks apart is = record {
    new = [];
    added = sym (append-nil acks);
    asked = λ d bytes i e took. ⊎_elim
        (λ (same : d ≡ a). absurd (apart bytes (subst (λ (x : ChipAct). Took x.call bytes) same took)))
        (λ (j : IsIn d acts). inl j)
        (subst (λ (l : List ChipAct). IsIn d l) is i);
  }

  acts_of_next : (c c' : ChipTold) → c' ≡ c → c'.acts ≡ c.acts
  acts_of_next c c' e = ap (λ (x : ChipTold). x.acts) e

  pub opening_keeps : (c : ChipTold) (o : Result (Trust × ℕ) ChipRefusal) (c' : ChipTold) (acks : List Verdict) → Opens c o c' → TakesAsked c.acts c'.acts acks acks
  opening_keeps c (Ok read) c' acks h = then_keeps c.acts h.settled c'.acts acks acks acks (settled_keeps c'.calls c.acts h.settled h.settled acks h.settles.each refl) (act_keeps _ h.settled c'.acts acks (λ b took. took) (ap (λ (x : ChipTold). x.acts) h.next))
  opening_keeps c (Err refusal.NoChip) c' acks h = settled_keeps c'.calls c.acts c'.acts c'.acts acks h.settles.each refl
  opening_keeps c (Err refusal.DiskFault) c' acks h = same_keeps c.acts c'.acts acks acks (ap (λ (x : ChipTold). x.acts) h.next) refl
  opening_keeps c (Err refusal.ProviderFault) c' acks h = absurd h
  opening_keeps c (Err refusal.NeedsOpen) c' acks h = absurd h
  opening_keeps c (Err (refusal.Syntax e)) c' acks h = absurd h
  opening_keeps c (Err (refusal.Refused k)) c' acks h = absurd h
  opening_keeps c (Err refusal.Worn) c' acks h = absurd h

  pub making_keeps : (read : Result Cert CvcRefusal) (day : ℕ) (c : ChipTold) (answer : MakeAnswer) (c' : ChipTold) (acks : List Verdict) → MakesSo read day c answer c' → TakesAsked c.acts c'.acts acks acks
  making_keeps read day c makes.WrongSize c' acks h = same_keeps c.acts c'.acts acks acks (acts_of_next c c' h.1) refl
  making_keeps read day c makes.Unfounded c' acks h = same_keeps c.acts c'.acts acks acks (acts_of_next c c' h.2) refl
  making_keeps read day c (makes.Made holder) c' acks h = then_keeps c.acts h.2.settled c'.acts acks acks acks (settled_keeps h.2.settles.at c.acts h.2.settled h.2.settled acks h.2.settles.settles.each refl) (act_keeps _ h.2.settled c'.acts acks (λ b took. took) (ap (λ (x : ChipTold). x.acts) h.2.next))
  making_keeps read day c makes.WasMade c' acks h = settled_keeps h.2.settles.at c.acts c'.acts c'.acts acks h.2.settles.settles.each refl
  making_keeps read day c makes.DiskFault c' acks (memory, root, inl h) = same_keeps c.acts c'.acts acks acks (ap (λ (x : ChipTold). x.acts) h.next) refl
  making_keeps read day c makes.DiskFault c' acks (memory, root, inr h) = then_keeps c.acts h.settled c'.acts acks acks acks (settled_keeps h.settles.at c.acts h.settled h.settled acks h.settles.settles.each refl) (act_keeps _ h.settled c'.acts acks (λ b took. took) (ap (λ (x : ChipTold). x.acts) h.next))

  module _ (w : InHand) (bytes : List ℕ) (verdict : Bool) (w' : InHand) where
    new_verdicts : w'.verdicts ≡ w.verdicts ++ asked w.opened (read_cert bytes) verdict → (a : ChipAct) → w'.chip.acts ≡ a ∷ w.chip.acts → ((b : List ℕ) → Took a.call b → WasAsked b (asked w.opened (read_cert bytes) verdict)) → TakesAsked w.chip.acts w'.chip.acts w.verdicts w'.verdicts
    new_verdicts verdicts a acts was = record {
      new = asked w.opened (read_cert bytes) verdict;
      added = verdicts;
      asked = λ d b i e took. ⊎_elim
          (λ (same : d ≡ a). inr (was b (subst (λ (x : ChipAct). Took x.call b) same took)))
          (λ (j : IsIn d w.chip.acts). inl j)
          (subst (λ (l : List ChipAct). IsIn d l) acts i);
    }

    worn_verdicts : w'.verdicts ≡ w.verdicts ++ asked w.opened (read_cert bytes) verdict → w'.chip.acts ≡ w.chip.acts → TakesAsked w.chip.acts w'.chip.acts w.verdicts w'.verdicts
    worn_verdicts verdicts acts = record {
      new = asked w.opened (read_cert bytes) verdict;
      added = verdicts;
      asked = λ d b i e took. inl (subst (λ (l : List ChipAct). IsIn d l) acts i);
    }

    import_keeps : (result : Result Imported ChipRefusal) → Imports chip w bytes verdict result w' → TakesAsked w.chip.acts w'.chip.acts w.verdicts w'.verdicts
    import_keeps (Ok what) h = new_verdicts h.verdicts _ (ap (λ (x : ChipTold). x.acts) h.told) (λ b took. subst (λ (x : List ℕ). WasAsked x (asked w.opened (read_cert bytes) verdict)) took.0 (read_asked w.opened bytes verdict what (read_cert bytes) refl h.due took.1))
    import_keeps (Err (refusal.Syntax e)) h = new_verdicts h.verdicts _ (ap (λ (x : ChipTold). x.acts) h.told) (λ b took. absurd took.1)
    import_keeps (Err (refusal.Refused e)) h = new_verdicts h.verdicts _ (ap (λ (x : ChipTold). x.acts) h.told) (λ b took. absurd took.1)
    import_keeps (Err refusal.ProviderFault) h = same_keeps w.chip.acts w'.chip.acts w.verdicts w'.verdicts (ap (λ (x : InHand). x.chip.acts) h.next) (ap (λ (x : InHand). x.verdicts) h.next)
    import_keeps (Err refusal.Worn) h = worn_verdicts (ap (λ (x : InHand). x.verdicts) h.next) (ap (λ (x : InHand). x.chip.acts) h.next)
    import_keeps (Err refusal.DiskFault) h = new_verdicts h.verdicts _ (ap (λ (x : ChipTold). x.acts) h.told) (λ b took. absurd took.1)
    import_keeps (Err refusal.NoChip) h = absurd h
    import_keeps (Err refusal.NeedsOpen) h = absurd h

  gives_keeps : (w : InHand) (bytes : List ℕ) (t : Result Taken ChipRefusal) (w' : InHand) → Gives chip w bytes t w' → TakesAsked w.chip.acts w'.chip.acts w.verdicts w'.verdicts
  gives_keeps w bytes (Ok taken) w' (verdict, h, is) = import_keeps w bytes verdict w' (Ok taken.what) h
  gives_keeps w bytes (Err e) w' (verdict, h) = import_keeps w bytes verdict w' (Err e) h

  all_keeps : (w : InHand) (certs : List (List ℕ)) (taken : List Taken) (stop : Stop) (w' : InHand) → GivesAll chip w certs taken stop w' → TakesAsked w.chip.acts w'.chip.acts w.verdicts w'.verdicts
  all_keeps w [] [] AllTaken w' h = same_keeps w.chip.acts w'.chip.acts w.verdicts w'.verdicts (ap (λ (x : InHand). x.chip.acts) h) (ap (λ (x : InHand). x.verdicts) h)
  all_keeps w (b ∷ certs) (t ∷ taken) stop w' (mid, gives, rest) = then_keeps w.chip.acts mid.chip.acts w'.chip.acts w.verdicts mid.verdicts w'.verdicts (gives_keeps w b (Ok t) mid gives) (all_keeps mid certs taken stop w' rest)
  all_keeps w (b ∷ certs) [] (AnsweredBy e) w' h = gives_keeps w b (Err e) w' h
  all_keeps w (b ∷ certs) [] OutOfRoom w' h = same_keeps w.chip.acts w'.chip.acts w.verdicts w'.verdicts (ap (λ (x : InHand). x.chip.acts) h) (ap (λ (x : InHand). x.verdicts) h)
  all_keeps w [] [] (AnsweredBy e) w' h = absurd h
  all_keeps w [] [] OutOfRoom w' h = absurd h
  all_keeps w [] (t ∷ taken) stop w' h = absurd h
  all_keeps w (b ∷ certs) [] AllTaken w' h = absurd h

  ends_keeps : (w : InHand) (certs : List (List ℕ)) (taken : List Taken) (end : ShownEnd) (w' : InHand) → EndsAt chip w certs taken end w' → TakesAsked w.chip.acts w'.chip.acts w.verdicts w'.verdicts
  ends_keeps w certs taken (ends.AllTaken grant) w' h = all_keeps w certs taken AllTaken w' h.0
  ends_keeps w certs taken (ends.NotTaken e) w' h = all_keeps w certs taken (AnsweredBy e) w' h

  shows_keeps : (E : Type 0) (w : InHand) (certs : List (List ℕ)) (result : Result Shown E) (w' : InHand) → ShowsAll chip w certs result w' → TakesAsked w.chip.acts w'.chip.acts w.verdicts w'.verdicts
  shows_keeps E w certs (Ok shown) w' h = ends_keeps w certs shown.taken shown.end w' h
  shows_keeps E w certs (Err e) w' (taken, h) = all_keeps w certs taken OutOfRoom w' h

  -- ---- one event

  first_keeps : (s : ChipPart) (w : InHand) → IsOpenedFirst s w → TakesAsked s.chip.acts w.chip.acts s.verdicts w.verdicts
  first_keeps s w h = subst (λ (x : InHand). TakesAsked s.chip.acts x.chip.acts s.verdicts x.verdicts) (sym h.hand) (opening_keeps s.chip (Ok h.read) h.now s.verdicts h.opens)

  back_keeps : (s s' : ChipPart) (w : InHand) → s' ≡ put_back w → TakesAsked s.chip.acts w.chip.acts s.verdicts w.verdicts → TakesAsked s.chip.acts s'.chip.acts s.verdicts s'.verdicts
  back_keeps s s' w is k = subst (λ (x : ChipPart). TakesAsked s.chip.acts x.chip.acts s.verdicts x.verdicts) (sym is) k

  given_keeps : (bytes : List ℕ) (s : ChipPart) (t : Result Taken ChipRefusal) (left : InHand) (s' : ChipPart) → IsGiven chip bytes s t left s' → TakesAsked s.chip.acts s'.chip.acts s.verdicts s'.verdicts
  given_keeps bytes s t left s' h = back_keeps s s' left h.next (then_keeps s.chip.acts h.hand.chip.acts left.chip.acts s.verdicts h.hand.verdicts left.verdicts (first_keeps s h.hand h.first) (gives_keeps h.hand bytes t left h.gives))

  one_keeps : (bytes : List ℕ) (s : ChipPart) (answer : ImportAnswer) (s' : ChipPart) → GivesOne chip bytes s answer s' → TakesAsked s.chip.acts s'.chip.acts s.verdicts s'.verdicts
  one_keeps bytes s (answers.NotOpened e) s' (c, opens, is) = subst (λ (x : ChipPart). TakesAsked s.chip.acts x.chip.acts s.verdicts x.verdicts) (sym is) (opening_keeps s.chip (Err e) c s.verdicts opens)
  one_keeps bytes s (answers.Took taken day) s' (left, h, is) = given_keeps bytes s (Ok taken) left s' h
  one_keeps bytes s (answers.NotTaken e) s' (left, h) = given_keeps bytes s (Err e) left s' h

  pub importing_keeps : (E : Type 0) (bytes : List ℕ) (s : ChipPart) (result : Result ImportAnswer E) (s' : ChipPart) → ImportsOne chip bytes s result s' → TakesAsked s.chip.acts s'.chip.acts s.verdicts s'.verdicts
  importing_keeps E bytes s (Ok answer) s' h = one_keeps bytes s answer s' h
  importing_keeps E bytes s (Err e) s' (inl h) = same_keeps s.chip.acts s'.chip.acts s.verdicts s'.verdicts (ap (λ (x : ChipPart). x.chip.acts) h) (ap (λ (x : ChipPart). x.verdicts) h)
  importing_keeps E bytes s (Err e) s' (inr h) = back_keeps s s' h.hand h.next (first_keeps s h.hand h.first)

  pub presenting_keeps : (E : Type 0) (certs : List (List ℕ)) (s : ChipPart) (result : Result Shown E) (s' : ChipPart) → Presents chip certs s result s' → TakesAsked s.chip.acts s'.chip.acts s.verdicts s'.verdicts
  presenting_keeps E certs s result s' h = back_keeps s s' h.left h.next (then_keeps s.chip.acts h.hand.chip.acts h.left.chip.acts s.verdicts h.hand.verdicts h.left.verdicts (first_keeps s h.hand h.first) (shows_keeps E h.hand certs result h.left h.shows))

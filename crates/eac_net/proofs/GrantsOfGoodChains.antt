-- A good chain that was handed is granted where nothing failed, but for a worn chip.
use Rattle.std.proofs.Common.{◌≡◌, inl, inr, ℕ, List, [], ◌∷◌, ◌++◌, Some, Ok, Err, Bool, true, false, cond, refl, sym, ap, ◌∙◌, subst, ⊎_elim}
use Rattle.std.specs.Prelude.{IsSome, option_map, is_some, not, ◌||◌}
use Rattle.std.specs.List.{Contains}
use Rattle.std.specs.declared.option.Option.{Option}
use Rattle.std.specs.declared.result.Result.{Result}
use Rattle.std.proofs.lemmas.List.Elements.{All-contains}
use Rattle.eac_base.specs.Causes.{Rose}
use Rattle.eac_base.specs.declared.failures.NoMemory.{NoMemory}
use Rattle.signature_provider.specs.Provider.{Says}
use Rattle.cvc_grammar.specs.Certificate.{body_text}
use Rattle.cvc_grammar.specs.ReadingOrder.{read_cert}
use Rattle.cvc_grammar.specs.declared.certificate.Cert.{Cert}
use Rattle.cvc_grammar.specs.declared.refusal.CvcRefusal.{CvcRefusal}
use Rattle.chip_verify.specs.declared.answers.Checked.TheVariants as checks
use Rattle.chip_verify.specs.declared.answers.Imported.{Imported}
use Rattle.chip_verify.specs.GoodChain.{GoodChain, Accepts}
use Rattle.chip_verify.specs.Refusals.{Sort, OfVerifier, OfTerminal, Issuer, key_of, sort_of, checked, refused_or_ask}
use Rattle.chip_verify.specs.Session.{SessionValue, no_session, granted}
use Rattle.chip_verify.specs.Step.{session_after, Step, verdict_under, verdict_on, imported_as}
use Rattle.chip_verify.specs.Trust.{Trust}
use Rattle.chip_verify.proofs.GoodChains.{good_or_accepted}
use Rattle.chip_slots.specs.declared.answers.ChipRefusal.{ChipRefusal}
use Rattle.chip_slots.specs.declared.answers.ChipRefusal.TheVariants as refusal
use Rattle.chip_slots.specs.Acts.{moved, given}
use Rattle.chip_slots.specs.Outcomes.{answer_for, due_answer}
use Rattle.chip_events.specs.declared.answers.Grant.{Grant}
use Rattle.chip_events.specs.declared.answers.Shown.{Shown}
use Rattle.chip_events.specs.declared.answers.ShownEnd.{ShownEnd}
use Rattle.chip_events.specs.declared.answers.ShownEnd.TheVariants as ends
use Rattle.chip_events.specs.declared.answers.Taken.{Taken}
use Rattle.chip_events.specs.Acts.{IsIn}
use Rattle.chip_events.specs.Givings.{Stop, AllTaken, AnsweredBy, OutOfRoom, GivesAll, EndsAt, ShowsAll, in_hand}
use Rattle.chip_events.specs.Imports.{InHand, IsAnswered, Imports}
use Rattle.chip_events.specs.Told.{ChipTold, found_so}
use Rattle.chip_events.specs.Verdicts as chips
use Rattle.eac_net.specs.ChipSays.{heard, IsTurn}
use Rattle.eac_net.specs.ChipTurn.{IsTold, told_by, shown_as}
use Rattle.eac_net.specs.Grants.{AreCerts, IsShown, NoneFailed, IsGranted, GoodChainsAreGranted, GoodChainsOfRows}
use Rattle.eac_net.specs.Items.{Ran}
use Rattle.eac_net.specs.Made.{Made, all_made, IsNot, IfRefused}
use Rattle.eac_net.specs.Verdicts.{Verdict, said_of}
use Rattle.eac_net.specs.declared.answer.Answer.{Answer}
use Rattle.eac_net.proofs.GrantsAsked.{in_last, Keeps, all_keep, Showing, handed_shows}
use Rattle.eac_net.proofs.TrueVerdicts.{providers_grow}

module _ (good : Says) where
  -- each of them that is good got a yes
  abbrev Pass : List chips.Verdict → Type 0
  Pass verdicts = (v : chips.Verdict) → IsIn v verdicts → good v.question.key v.question.message v.question.signature ≡ true → v.yes ≡ true

  -- ---- the next certificate of an accepted chain

  module _ (chip : ℕ) (w : InHand) (b : List ℕ) (c : Cert) (reads : read_cert b ≡ Ok c) (mid : Trust) (next : SessionValue) (st : Step w.opened.state w.opened.session c.body (verdict_on good w.opened.state w.opened.session c) mid next) (verdict : Bool) where
    asks : checked w.opened.state w.opened.session c.body ≡ checks.Ask
    asks = λ j. cond (st.not_held j) checks.Held (refused_or_ask (st.allowed j))

    abbrev question : chips.Verdict
    question = record { question = record { key = key_of st.issuer; message = body_text c.body; signature = c.signature }; yes = verdict }

    is_asked : chips.asked w.opened (read_cert b) verdict ≡ question ∷ []
    is_asked = ap (λ (r : Result Cert CvcRefusal). chips.asked w.opened r verdict) reads ∙ (λ j. chips.verdict_where (asks j) (st.named j) c verdict)

    is_good : good (key_of st.issuer) (body_text c.body) c.signature ≡ true
    is_good = sym (ap (λ (x : Option Issuer). verdict_under good x c) st.named) ∙ st.yes

    is_yes : (w' left : InHand) → w'.verdicts ≡ w.verdicts ++ chips.asked w.opened (read_cert b) verdict → Keeps w' left → Pass left.verdicts → verdict ≡ true
    is_yes w' left is kept pass =
        let now : IsIn question w'.verdicts = subst (λ (l : List chips.Verdict). IsIn question l) (sym (is ∙ ap (λ (l : List chips.Verdict). w.verdicts ++ l) is_asked)) (in_last w.verdicts question) in
        pass question (kept question now) is_good

    is_due : verdict ≡ true → due_answer w.opened (read_cert b) verdict ≡ Ok (imported_as (sort_of c.body.template.role))
    is_due true_is = ap (λ (r : Result Cert CvcRefusal). due_answer w.opened r verdict) reads ∙ (λ j. answer_for (asks j) (true_is j) (sort_of c.body.template.role))

    goes : verdict ≡ true → given w.opened.state w.opened.session (read_cert b) verdict ≡ (mid, next)
    goes true_is =
        ap (λ (r : Result Cert CvcRefusal). given w.opened.state w.opened.session r verdict) reads
        ∙ (λ j. cond (st.not_held j || is_some (st.allowed j) || not (true_is j)) (w.opened.state, w.opened.session) (moved w.opened.state w.opened.session c.body (st.named j)))
        ∙ (λ j. (sym st.trust j, sym st.session j))

    arrives : (what : Imported) (w' : InHand) → IsAnswered chip w b verdict (Ok what) w' → verdict ≡ true → (w'.opened.state ≡ mid) × (w'.opened.session ≡ next)
    arrives what w' h true_is = (h.moved.state ∙ ap (λ (x : Trust × SessionValue). x.0) (goes true_is), h.moved.session ∙ ap (λ (x : Trust × SessionValue). x.1) (goes true_is))

    not_refused : (e : ChipRefusal) → Err e ≡ due_answer w.opened (read_cert b) verdict → verdict ≡ true → ⊥
    not_refused e due true_is = absurd (cc (due ∙ is_due true_is))

    same_keeps : (w' : InHand) → Keeps w' w'
    same_keeps w' v h = h

    stops : (e : ChipRefusal) (w' : InHand) → Imports chip w b verdict (Err e) w' → Pass w'.verdicts → ¬ Rose w.chip.faults w'.chip.faults → ¬ Rose w.provider w'.provider → e ≡ refusal.Worn
    stops (refusal.Syntax e) w' h pass disk provider = absurd (not_refused (refusal.Syntax e) h.due (is_yes w' w' h.verdicts (same_keeps w') pass))
    stops (refusal.Refused k) w' h pass disk provider = absurd (not_refused (refusal.Refused k) h.due (is_yes w' w' h.verdicts (same_keeps w') pass))
    stops refusal.ProviderFault w' h pass disk provider = absurd (provider h.cause)
    stops refusal.Worn w' h pass disk provider = refl
    stops refusal.DiskFault w' h pass disk provider = absurd (disk h.cause)
    stops refusal.NoChip w' h pass disk provider = absurd h
    stops refusal.NeedsOpen w' h pass disk provider = absurd h

  -- ---- all of them

  abbrev Stopped : Trust → SessionValue → Stop → InHand → Type 0
  Stopped t' s' AllTaken left = (left.opened.state ≡ t') × (left.opened.session ≡ s')
  Stopped t' s' (AnsweredBy e) left = e ≡ refusal.Worn
  Stopped t' s' OutOfRoom left = Unit {0}

  module _ (chip : ℕ) (t' : Trust) (s' : SessionValue) where
    stopped : (w : InHand) (certs : List (List ℕ)) (chain : List Cert) (taken : List Taken) (stop : Stop) (left : InHand) → AreCerts certs chain → Accepts good w.opened.state w.opened.session chain t' s' → GivesAll chip w certs taken stop left →
        Pass left.verdicts → ¬ Rose w.chip.faults left.chip.faults → ¬ Rose w.provider left.provider → Stopped t' s' stop left
    stopped w [] (c ∷ chain) taken stop left are acc h pass disk provider = absurd (cc (are))
    stopped w (b ∷ certs) [] taken stop left are acc h pass disk provider = absurd (cc (are))
    stopped w [] [] [] AllTaken left are acc h pass disk provider = (ap (λ (x : InHand). x.opened.state) h ∙ sym acc.0, ap (λ (x : InHand). x.opened.session) h ∙ sym acc.1)
    stopped w [] [] [] (AnsweredBy e) left are acc h pass disk provider = absurd h
    stopped w [] [] [] OutOfRoom left are acc h pass disk provider = absurd h
    stopped w [] [] (x ∷ taken) stop left are acc h pass disk provider = absurd h
    stopped w (b ∷ certs) (c ∷ chain) [] AllTaken left are acc h pass disk provider = absurd h
    stopped w (b ∷ certs) (c ∷ chain) [] OutOfRoom left are acc h pass disk provider = tt
    stopped w (b ∷ certs) (c ∷ chain) [] (AnsweredBy e) left are (mid, next, st, acc) (verdict, h) pass disk provider =
        let reads : read_cert b ≡ Ok c = cc (are) in
        stops chip w b c reads mid next st verdict e left h pass disk provider
    stopped w (b ∷ certs) (c ∷ chain) (x ∷ taken) stop left are (mid, next, st, acc) (now, (verdict, h, is), rest) pass disk provider =
        let reads : read_cert b ≡ Ok c = cc (are) in
        let more : AreCerts certs chain = cc (are) in
        let true_is = is_yes chip w b c reads mid next st verdict now left h.verdicts (all_keep chip now certs taken stop left rest) pass in
        let there = arrives chip w b c reads mid next st verdict x.what now h true_is in
        stopped now certs chain taken stop left more (subst (λ (y : Trust × SessionValue). Accepts good y.0 y.1 chain t' s') (λ j. (sym there.0 j, sym there.1 j)) acc) rest pass
        (λ rose. disk (subst (λ (n : ℕ). Rose n left.chip.faults) h.faults rose))
        (λ rose. provider (subst (λ (n : ℕ). Rose n left.provider) h.provider rose))

  -- ---- the session at its end

  last_two : (t : Trust) (s : SessionValue) (links : List Cert) (v w : Cert) (t' : Trust) (s' : SessionValue) → Accepts good t s (links ++ v ∷ w ∷ []) t' s' → sort_of v.body.template.role ≡ OfVerifier → sort_of w.body.template.role ≡ OfTerminal → (rights : ℕ) × (granted s' ≡ Some rights)
  last_two t s [] v w t' s' (mid, next, one, (last, after, two, (is, same))) verifier terminal =
      let has = one.session ∙ ap (λ (so : Sort). session_after so s v.body one.issuer) verifier in
      let ends = same ∙ two.session ∙ ap (λ (so : Sort). session_after so next w.body two.issuer) terminal ∙ ap (λ (x : SessionValue). session_after OfTerminal x w.body two.issuer) has in
      (_, ap granted ends)
  last_two t s (l ∷ links) v w t' s' (mid, next, one, rest) verifier terminal = last_two mid next links v w t' s' rest verifier terminal

  -- ---- the answer

  module _ (chip terminal : ℕ) (c c' : ChipTold) (i : Ran) (t : Trust) (links : List Cert) (v w : Cert) (passed : (q : Verdict) → Contains i.asked q → good q.question.key q.question.message q.question.signature ≡ true → q.yes ≡ true) (turn : IsTurn chip c i c') (shown : IsShown chip terminal c i t (links ++ v ∷ w ∷ [])) (chain : GoodChain good t links v w) (none : NoneFailed chip i) (answered : IsSome i.answer) where
    h : Showing chip terminal c i c' shown.certs
    h = handed_shows chip terminal c c' i turn shown.event_is shown.request shown.certs shown.handed

    abbrev hand : InHand
    hand = in_hand (found_so c i.from.parties.provider) h.now h.read

    pass : Pass h.left.verdicts
    pass v there = passed (heard v) (h.asked v there)

    disk : ¬ Rose hand.chip.faults h.left.chip.faults
    disk rose = none.disk (subst (λ (x : ℕ × ℕ). Rose x.0 x.1) (λ j. ((h.faults ∙ ap (λ k. k.faults) turn.before.disk) j, (h.left_faults ∙ ap (λ k. k.faults) turn.after.disk) j)) rose)

    provider : ¬ Rose hand.provider h.left.provider
    provider rose = none.provider (subst (λ (n : ℕ). Rose i.from.parties.provider n) h.left_provider rose)

    trust_is : h.read.0 ≡ t
    trust_is = let e : Some h.read ≡ Some (t, shown.generation) = sym h.reads ∙ shown.read in let is : h.read ≡ (t, shown.generation) = cc (e) in ap (λ (x : Trust × ℕ). x.0) is

    told_ok : (said : Option Answer) → IsTold i.answer said → i.answer ≡ said
    told_ok said (inl is) = is
    told_ok said (inr is) = absurd (cc (subst IsSome is answered))

    by_end : (x : Shown) (end : ShownEnd) → x.end ≡ end → i.answer ≡ Some (shown_as x) → EndsAt chip hand shown.certs x.taken end h.left → IsGranted i.answer
    by_end x (ends.AllTaken grant) end_is answer_is (gives, is) =
        let a = (good_or_accepted good t links v w shown.trust).0 chain in
        let acc = subst (λ (u : Trust). Accepts good u no_session (links ++ v ∷ w ∷ []) a.trust a.session) (sym trust_is) a.steps in
        let there = stopped chip a.trust a.session hand shown.certs (links ++ v ∷ w ∷ []) x.taken AllTaken h.left shown.are_read acc gives pass disk provider in
        let g = last_two t no_session links v w a.trust a.session a.steps a.roles.verifier a.roles.terminal in
        let rights : granted h.left.opened.session ≡ Some g.0 = ap granted there.1 ∙ g.1 in
        let grant_is = is ∙ ap (λ (o : Option ℕ). option_map (λ (n : ℕ). record { rights = n; day = h.left.opened.state.day }) o) rights in
        inl (record { rights = g.0; day = h.left.opened.state.day }, record { shown = x; answer_is = answer_is; end_is = end_is ∙ ap (λ (o : Option Grant). ends.AllTaken o) grant_is })
    by_end x (ends.NotTaken e) end_is answer_is gives =
        let a = (good_or_accepted good t links v w shown.trust).0 chain in
        let acc = subst (λ (u : Trust). Accepts good u no_session (links ++ v ∷ w ∷ []) a.trust a.session) (sym trust_is) a.steps in
        let worn = stopped chip a.trust a.session hand shown.certs (links ++ v ∷ w ∷ []) x.taken (AnsweredBy e) h.left shown.are_read acc gives pass disk provider in
        inr (record { shown = x; answer_is = answer_is; end_is = end_is ∙ ap (λ (k : ChipRefusal). ends.NotTaken k) worn })

    by_result : (result : Result Shown NoMemory) → i.answer ≡ told_by shown_as result → ShowsAll chip hand shown.certs result h.left → IsGranted i.answer
    by_result (Ok x) is shows = by_end x x.end refl is shows
    by_result (Err e) is shows = absurd (cc (subst IsSome is answered))

    granted_so : IsGranted i.answer
    granted_so = by_result h.result (told_ok (told_by shown_as h.result) h.told) h.shows

-- ---- by what the provider says

pub good_chains_are_granted : GoodChainsAreGranted
good_chains_are_granted setup chip terminal c c' i t links v w a turn shown chain none answered = granted_so i.from.says chip terminal c c' i t links v w passed turn shown chain none answered
  where
    passed : (q : Verdict) → Contains i.asked q → i.from.says q.question.key q.question.message q.question.signature ≡ true → q.yes ≡ true
    passed q there is = All-contains (λ (x : Verdict). x.yes ≡ said_of i.from.says x.question) i.asked q a.asked there ∙ is

-- ---- by the rows

yes_of : (made : List Made) (q : Verdict) (yes : Bool) → q.yes ≡ yes → IfRefused made q.question yes → Contains made (record { key = Some q.question.key; message = q.question.message; signature = q.question.signature }) → q.yes ≡ true
yes_of made q true is h there = is
yes_of made q false is h there = absurd (All-contains (IsNot q.question) made _ h there refl refl refl)

pub good_chains_of_rows : GoodChainsOfRows
good_chains_of_rows setup first before s s' good chip terminal c c' i t links v w ran a step said turn shown chain none answered = granted_so good chip terminal c c' i t links v w passed turn shown chain none answered
  where
    says_now : (q : Verdict) → Contains i.asked q → first.says q.question.key q.question.message q.question.signature ≡ true → q.yes ≡ true
    says_now q there is = All-contains (λ (x : Verdict). x.yes ≡ said_of i.from.says x.question) i.asked q a.asked there ∙ (providers_grow setup first i.from before ran).0 q.question.key q.question.message q.question.signature is

    is_made : (q : Verdict) → Contains i.asked q → Contains (all_made setup s.rows) (record { key = Some q.question.key; message = q.question.message; signature = q.question.signature }) → q.yes ≡ true
    is_made q there made = yes_of (all_made setup s.rows) q q.yes refl (All-contains (λ (x : Verdict). IfRefused (all_made setup s.rows) x.question x.yes) i.asked q step.unrefused there) made

    passed : (q : Verdict) → Contains i.asked q → good q.question.key q.question.message q.question.signature ≡ true → q.yes ≡ true
    passed q there is = ⊎_elim (says_now q there) (is_made q there) (said q.question.key q.question.message q.question.signature is)

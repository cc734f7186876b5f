-- A grant is of the chain that was handed.
use Rattle.std.proofs.Common.{◌≡◌, ◌⊎◌, inl, inr, ℕ, List, [], ◌∷◌, ◌++◌, Some, None, Ok, Err, Bool, true, false, cond, refl, sym, ap, ◌∙◌, subst}
use Rattle.std.specs.Prelude.{option_map, is_some, not, ◌||◌}
use Rattle.std.specs.List.{Contains}
use Rattle.std.specs.declared.option.Option.{Option}
use Rattle.std.specs.declared.result.Result.{Result}
use Rattle.eac_base.specs.declared.failures.NoMemory.{NoMemory}
use Rattle.cvc_grammar.specs.Certificate.{body_text}
use Rattle.cvc_grammar.specs.ReadingOrder.{read_cert}
use Rattle.cvc_grammar.specs.declared.certificate.Cert.{Cert}
use Rattle.cvc_grammar.specs.declared.certificate.CertBody.{CertBody}
use Rattle.cvc_grammar.specs.declared.refusal.CvcRefusal.{CvcRefusal}
use Rattle.chip_verify.specs.declared.answers.Checked.{Checked}
use Rattle.chip_verify.specs.declared.answers.Checked.TheVariants as checks
use Rattle.chip_verify.specs.declared.answers.ImportRefusal.{ImportRefusal}
use Rattle.chip_verify.specs.declared.answers.Imported.{Imported}
use Rattle.chip_verify.specs.Grant.{Accepted, Leads}
use Rattle.chip_verify.specs.Refusals.{Issuer, key_of, sort_of, issuer_of, is_held, first_refusal, refusal_of, refused_or_ask, checked}
use Rattle.chip_verify.specs.Session.{SessionValue, no_session, granted}
use Rattle.chip_verify.specs.Step.{trust_after, session_after, Step}
use Rattle.chip_verify.specs.Trust.{Trust}
use Rattle.chip_verify.proofs.Grants.{session_grants}
use Rattle.chip_slots.specs.Acts.{moved, given}
use Rattle.chip_slots.specs.Chips.{ChipValue}
use Rattle.chip_slots.specs.Outcomes.{answer_for, due_answer, IsMoved}
use Rattle.chip_events.specs.declared.answers.Grant.{Grant}
use Rattle.chip_events.specs.declared.answers.Shown.{Shown}
use Rattle.chip_events.specs.declared.answers.ShownEnd.{ShownEnd}
use Rattle.chip_events.specs.declared.answers.ShownEnd.TheVariants as ends
use Rattle.chip_events.specs.declared.answers.Taken.{Taken}
use Rattle.chip_events.specs.Acts.{IsIn}
use Rattle.chip_events.specs.Givings.{AllTaken, GivesAll, EndsAt, ShowsAll, grant_in, in_hand}
use Rattle.chip_events.specs.Imports.{InHand, IsAnswered}
use Rattle.chip_events.specs.Told.{ChipTold, found_so}
use Rattle.chip_events.specs.Verdicts as chips
use Rattle.eac_net.specs.ChipSays.{heard}
use Rattle.eac_net.specs.ChipTurn.{told_by, shown_as}
use Rattle.eac_net.specs.Grants.{AreCerts, EndsIn, Validates, IsOfChain, GrantsAreOfTheChain}
use Rattle.eac_net.specs.Items.{Ran}
use Rattle.eac_net.specs.Verdicts.{Verdict}
use Rattle.eac_net.proofs.GrantsAsked.{in_last, all_keep, Showing, told_is, answer_shows}

-- ---- one certificate that was taken

-- the yes, as the chip's events record it
abbrev chip_yes : Issuer → Cert → chips.Verdict
chip_yes issuer c = record { question = record { key = key_of issuer; message = body_text c.body; signature = c.signature }; yes = true }

-- it was accepted, with a yes that was asked for
record Accepts (o : ChipValue) (c : Cert) (verdict : Bool) : Type 0 where
  step : Step o.state o.session c.body true (given o.state o.session (Ok c) verdict).0 (given o.state o.session (Ok c) verdict).1
  yes : chips.asked o (Ok c) verdict ≡ chip_yes step.issuer c ∷ []

-- it is the newest point shown again
record Repeats (o : ChipValue) (c : Cert) (verdict : Bool) : Type 0 where
  held : is_held o.state c.body ≡ true
  stays : given o.state o.session (Ok c) verdict ≡ (o.state, o.session)

none_held : (held : Bool) (r : Option ImportRefusal) → cond held checks.Held (refused_or_ask r) ≡ checks.Ask → (held ≡ false) × (r ≡ None)
none_held true r e = absurd (cc (e))
none_held false (Some k) e = absurd (cc (e))
none_held false None e = (refl, refl)

is_held_so : (held : Bool) (r : Option ImportRefusal) → cond held checks.Held (refused_or_ask r) ≡ checks.Held → held ≡ true
is_held_so true r e = refl
is_held_so false (Some k) e = absurd (cc (e))
is_held_so false None e = absurd (cc (e))

module _ (o : ChipValue) (c : Cert) where
  accepted_under : (i : Option Issuer) → issuer_of o.state o.session c.body ≡ i → is_held o.state c.body ≡ false → refusal_of o.state o.session c.body ≡ None → Accepts o c true
  accepted_under None named not_held allowed = absurd (cc (sym (ap (first_refusal (sort_of c.body.template.role) o.state c.body) named) ∙ allowed))
  accepted_under (Some i) named not_held allowed =
      let next : given o.state o.session (Ok c) true ≡ (trust_after (sort_of c.body.template.role) o.state o.session c.body i, session_after (sort_of c.body.template.role) o.session c.body i) =
      λ j. cond (not_held j || is_some (allowed j) || not true) (o.state, o.session) (moved o.state o.session c.body (named j)) in
      let asks : checked o.state o.session c.body ≡ checks.Ask = λ j. cond (not_held j) checks.Held (refused_or_ask (allowed j)) in
      record {
        step = record {
          issuer = i;
          named = named;
          not_held = not_held;
          allowed = allowed;
          yes = refl;
          trust = ap (λ (x : Trust × SessionValue). x.0) next;
          session = ap (λ (x : Trust × SessionValue). x.1) next;
        };
        yes = λ j. chips.verdict_where (asks j) (named j) c true;
      }

  taken_so : (verdict : Bool) (what : Imported) (k : Checked) → checked o.state o.session c.body ≡ k → Ok what ≡ answer_for k verdict (sort_of c.body.template.role) → Accepts o c verdict ⊎ Repeats o c verdict
  taken_so verdict what checks.Held is due =
      let held = is_held_so (is_held o.state c.body) (refusal_of o.state o.session c.body) is in
      inr (record {
        held = held;
        stays = λ j. cond (held j || is_some (refusal_of o.state o.session c.body) || not verdict) (o.state, o.session) (moved o.state o.session c.body (issuer_of o.state o.session c.body));
      })
  taken_so verdict what (checks.Refused k) is due = absurd (cc (due))
  taken_so true what checks.Ask is due =
      let none = none_held (is_held o.state c.body) (refusal_of o.state o.session c.body) is in
      inl (accepted_under (issuer_of o.state o.session c.body) refl none.0 none.1)
  taken_so false what checks.Ask is due = absurd (cc (due))

-- ---- all of them

module _ (chip : ℕ) (asked : List Verdict) where
  record Validated (w : InHand) (certs : List (List ℕ)) (told : List Accepted) (left : InHand) : Type 0 where
    chain : List Cert
    are_read : AreCerts certs chain
    accepted : List Accepted
    validates : Validates asked w.opened.state w.opened.session chain told left.opened.state left.opened.session accepted

  module _ (w : InHand) (b : List ℕ) (verdict : Bool) (what : Imported) (mid : InHand) (h : IsAnswered chip w b verdict (Ok what) mid) (certs : List (List ℕ)) (told : List Accepted) (left : InHand) (there : (v : chips.Verdict) → IsIn v mid.verdicts → Contains asked (heard v)) (more : (told' : List Accepted) → Validated mid certs told' left) where
    module _ (c : Cert) (reads : read_cert b ≡ Ok c) where
      due : Ok what ≡ due_answer w.opened (Ok c) verdict
      due = h.due ∙ ap (λ (x : Result Cert CvcRefusal). due_answer w.opened x verdict) reads

      to : IsMoved w.opened (given w.opened.state w.opened.session (Ok c) verdict) mid.opened
      to = subst (λ (x : Result Cert CvcRefusal). IsMoved w.opened (given w.opened.state w.opened.session x verdict) mid.opened) reads h.moved

      verdicts : mid.verdicts ≡ w.verdicts ++ chips.asked w.opened (Ok c) verdict
      verdicts = h.verdicts ∙ ap (λ (x : Result Cert CvcRefusal). w.verdicts ++ chips.asked w.opened x verdict) reads

      by : Accepts w.opened c verdict ⊎ Repeats w.opened c verdict → Validated w (b ∷ certs) told left
      by (inl a) =
          let st : Step w.opened.state w.opened.session c.body true mid.opened.state mid.opened.session = record {
            issuer = a.step.issuer;
            named = a.step.named;
            not_held = a.step.not_held;
            allowed = a.step.allowed;
            yes = refl;
            trust = to.state ∙ a.step.trust;
            session = to.session ∙ a.step.session;
          } in
          let r = more (record { body = c.body; issuer = a.step.issuer } ∷ told) in
          let now : IsIn (chip_yes a.step.issuer c) mid.verdicts = subst (λ (l : List chips.Verdict). IsIn (chip_yes a.step.issuer c) l) (sym (verdicts ∙ ap (λ (l : List chips.Verdict). w.verdicts ++ l) a.yes)) (in_last w.verdicts (chip_yes a.step.issuer c)) in
          record {
            chain = c ∷ r.chain;
            are_read = λ j. reads j ∷ r.are_read j;
            accepted = r.accepted;
            validates = inl (mid.opened.state, mid.opened.session, st, there (chip_yes a.step.issuer c) now, r.validates);
          }
      by (inr x) =
          let r = more told in
          let same : (mid.opened.state, mid.opened.session) ≡ (w.opened.state, w.opened.session) = (λ j. (to.state j, to.session j)) ∙ x.stays in
          record {
            chain = c ∷ r.chain;
            are_read = λ j. reads j ∷ r.are_read j;
            accepted = r.accepted;
            validates = inr (x.held, subst (λ (y : Trust × SessionValue). Validates asked y.0 y.1 r.chain told left.opened.state left.opened.session r.accepted) same r.validates);
          }

    with_next : Validated w (b ∷ certs) told left
    with_next = go (read_cert b) refl
      where
        go : (r : Result Cert CvcRefusal) → read_cert b ≡ r → Validated w (b ∷ certs) told left
        go (Err e) reads = absurd (cc (h.due ∙ ap (λ (x : Result Cert CvcRefusal). due_answer w.opened x verdict) reads))
        go (Ok c) reads = by c reads (taken_so w.opened c verdict what (checked w.opened.state w.opened.session c.body) refl (due c reads))

  validated : (w : InHand) (certs : List (List ℕ)) (taken : List Taken) (told : List Accepted) (left : InHand) → GivesAll chip w certs taken AllTaken left → ((v : chips.Verdict) → IsIn v left.verdicts → Contains asked (heard v)) → Validated w certs told left
  validated w [] [] told left h there = record { chain = []; are_read = refl; accepted = told; validates = (ap (λ (x : InHand). x.opened.state) h, ap (λ (x : InHand). x.opened.session) h, refl) }
  validated w [] (t ∷ taken) told left h there = absurd h
  validated w (b ∷ certs) [] told left h there = absurd h
  validated w (b ∷ certs) (t ∷ taken) told left (mid, (verdict, h, is), rest) there =
      with_next w b verdict t.what mid h certs told left
      (λ v now. there v (all_keep chip mid certs taken AllTaken left rest v now))
      (λ told'. validated mid certs taken told' left rest there)

-- ---- the grant

no_yes : (t : Trust) (s : SessionValue) (c : CertBody) (t' : Trust) (s' : SessionValue) → Step t s c false t' s' → ⊥
no_yes t s c t' s' st = absurd (cc (st.yes))

leads : (asked : List Verdict) (t : Trust) (s : SessionValue) (chain : List Cert) (told : List Accepted) (t' : Trust) (s' : SessionValue) (told' : List Accepted) → Validates asked t s chain told t' s' told' → (cs : List (CertBody × Bool)) × Leads t s cs told t' s' told'
leads asked t s [] told t' s' told' h = ([], h)
leads asked t s (c ∷ chain) told t' s' told' (inl (mid, next, st, said, h)) =
    let r = leads asked mid next chain (record { body = c.body; issuer = st.issuer } ∷ told) t' s' told' h in
    ((c.body, true) ∷ r.0, inl (mid, next, st, r.1))
leads asked t s (c ∷ chain) told t' s' told' (inr (held, h)) =
    let r = leads asked t s chain told t' s' told' h in
    ((c.body, false) ∷ r.0, inr (no_yes t s c.body, r.1))

grant_parts : (granted_is : Option ℕ) (day : ℕ) (grant : Grant) → Some grant ≡ option_map (λ (rights : ℕ). record { rights = rights; day = day }) granted_is → (granted_is ≡ Some grant.rights) × (grant.day ≡ day)
grant_parts None day grant e = absurd (cc (e))
grant_parts (Some rights) day grant e =
    let is : grant ≡ record { rights = rights; day = day } = cc (e) in
    (ap (λ (g : Grant). Some g.rights) (sym is), ap (λ (g : Grant). g.day) is)

module _ (chip terminal : ℕ) (c c' : ChipTold) (i : Ran) (grant : Grant) where
  of_chain : (certs : List (List ℕ)) (h : Showing chip terminal c i c' certs) (taken : List Taken) → GivesAll chip (in_hand (found_so c i.from.parties.provider) h.now h.read) certs taken AllTaken h.left → Some grant ≡ grant_in h.left.opened → IsOfChain terminal c i grant
  of_chain certs h taken gives is =
      let x = validated chip i.asked (in_hand (found_so c i.from.parties.provider) h.now h.read) certs taken [] h.left gives h.asked in
      let parts = grant_parts (granted h.left.opened.session) h.left.opened.state.day grant is in
      let l = leads i.asked h.read.0 no_session x.chain [] h.left.opened.state h.left.opened.session x.accepted x.validates in
      record {
        trust = h.read.0;
        generation = h.read.1;
        read = h.reads;
        certs = certs;
        handed = h.handed;
        chain = x.chain;
        are_read = x.are_read;
        now = h.left.opened.state;
        session = h.left.opened.session;
        accepted = x.accepted;
        validates = x.validates;
        rights = (session_grants h.read.0 l.0 h.left.opened.state h.left.opened.session x.accepted l.1 grant.rights).0 parts.0;
        day = parts.1;
      }

  by_end : (certs : List (List ℕ)) (h : Showing chip terminal c i c' certs) (shown : Shown) → shown.end ≡ ends.AllTaken (Some grant) → ShowsAll {E = NoMemory} chip (in_hand (found_so c i.from.parties.provider) h.now h.read) certs (Ok shown) h.left → IsOfChain terminal c i grant
  by_end certs h shown is shows =
      let e = subst (λ (end : ShownEnd). EndsAt chip (in_hand (found_so c i.from.parties.provider) h.now h.read) certs shown.taken end h.left) is shows in
      of_chain certs h shown.taken e.0 e.1

  by_result : (certs : List (List ℕ)) (h : Showing chip terminal c i c' certs) (e : EndsIn i.answer (ends.AllTaken (Some grant))) (result : Result Shown NoMemory) → told_by shown_as result ≡ Some (shown_as e.shown) → ShowsAll chip (in_hand (found_so c i.from.parties.provider) h.now h.read) certs result h.left → IsOfChain terminal c i grant
  by_result certs h e (Err x) is shows = absurd (cc (is))
  by_result certs h e (Ok shown) is shows =
      let same : shown ≡ e.shown = cc (is) in
      by_end certs h shown (ap (λ (x : Shown). x.end) same ∙ e.end_is) shows

pub grants_are_of_the_chain : GrantsAreOfTheChain
grants_are_of_the_chain chip terminal c c' i grant turn event_is e =
    let x = answer_shows chip terminal c c' i turn event_is (ends.AllTaken (Some grant)) e in
    let h = x.1 in
    by_result chip terminal c c' i grant x.0 h e h.result (told_is i.answer (told_by shown_as h.result) (shown_as e.shown) e.answer_is h.told) h.shows

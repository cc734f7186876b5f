-- An authority is founded, and links: what its calls leave, as steps of a run.
use Rattle.std.proofs.Common.{◌≡◌, ◌⊎◌, ℕ, ◌<◌, List, [], ◌∷◌, ◌++◌, length, Bool, true, false, cond, true≢false, Some, None, inl, inr, refl, sym, ap, ◌∙◌, subst, arith, nat_eq}
use Rattle.std.specs.Prelude.{◌&&◌, Contains, IfSome, IsSome, IsTrue, option_map, option_and_then, nat_le, is_none, is_some}
use Rattle.std.specs.declared.option.Option.{Option}
use Rattle.std.specs.declared.result.Result.{Result}
use Rattle.std.specs.Option.{option_or}
use Rattle.std.proofs.lemmas.Bool.{lt-ltb, leb-false, eqb-true, eq-eqb}
use Rattle.std.proofs.lemmas.List.Elements.{Contains-append_left, Contains-push}
use Rattle.std.proofs.lemmas.List.Folds.{find-append}
use Rattle.eac_base.specs.Telling.{Told}
use Rattle.eac_base.proofs.Tellings.{told_more}
use Rattle.eac_base.proofs.EqualBytes.{bytes_eq-self}
use Rattle.signature_provider.specs.Provider.{Says, Holds, Signed, public_key}
use Rattle.signature_provider.specs.declared.key.Key.{Key}
use Rattle.policy_limits.specs.Setup.{SetupValue, party, is_authority}
use Rattle.policy_limits.specs.declared.party.Party.{Party}
use Rattle.policy_limits.specs.declared.party.PartyKind.{PartyKind}
use Rattle.policy_limits.specs.declared.party.PartyKind.TheVariants as kinds
use Rattle.keeper.specs.declared.rows.Row.{Row}
use Rattle.keeper.specs.declared.rows.OwnPart.{OwnPart}
use Rattle.keeper.specs.declared.rows.Table.TheVariants as table
use Rattle.keeper.specs.Rows.{is_of, has_key, row_at}
use Rattle.issue_core.specs.Issuing.Causes.{StaysTrue}
use Rattle.issue_core.specs.Issuing.Rows.{AreReadable}
use Rattle.issue_core.specs.Issuing.Signed.{Pair}
use Rattle.holder_core.specs.Faults.{HolderCause, NoneMissing}
use Rattle.holder_core.specs.Lawful.{NumberedFrom, AreNumbered, AreFounded}
use Rattle.holder_core.specs.LawfulCalls.{KeepsNumbers}
use Rattle.holder_core.specs.OwnRows.{own_rows, own_part}
use Rattle.holder_core.specs.Readings.{settled_of}
use Rattle.holder_core.specs.Signers.{Signer, missing_of}
use Rattle.holder_core.specs.WritesOnce.{HasWritten, WritesOnce}
use Rattle.holder_core.specs.declared.fault.HolderFault.{HolderFault}
use Rattle.cvca_desk.specs.Terms as setups
use Rattle.cvca_desk.specs.Terms.{dates}
use Rattle.cvca_desk.specs.Founding.{Founds, SignsFounding, AsksFounding, found_refused, founding_of, founding_due}
use Rattle.cvca_desk.specs.Linking.{Links, ExactLink, LinksExactly, AsksLink, MissesLink, link_signer, link_refused, link_after, refused_by, link_due}
use Rattle.cvca_desk.specs.Lawful.{KeepsOwn}
use Rattle.cvca_desk.proofs.Lawfuls.{founding_keeps, link_keeps as link_keeps_own}
use Rattle.cvca_desk.specs.OwnCertificate.{issuer_of, signing_key, own_body, own_row, WritesOwn}
use Rattle.cvca_desk.specs.Signing.{SignsOwn}
use Rattle.cvca_desk.specs.declared.due.Due.{Due}
use Rattle.cvca_desk.specs.declared.founding.Founded.{Founded}
use Rattle.cvca_desk.specs.declared.founding.Founded.TheVariants as founded
use Rattle.cvca_desk.specs.declared.linking.Linked.{Linked}
use Rattle.cvca_desk.specs.declared.linking.Linked.TheVariants as linked
use Rattle.cvca_desk.specs.declared.terms.Terms.{Terms}
use Rattle.eac_net.specs.Acting.{AuthorityFits}
use Rattle.eac_net.specs.Answers.{Tells, Concludes, answer_by}
use Rattle.eac_net.specs.Lawful.{AreLawful}
use Rattle.eac_net.specs.Losing.{IsOwnDue}
use Rattle.eac_net.specs.Made.{key_in, key_at}
use Rattle.eac_net.specs.Moment.{Meanings, means}
use Rattle.eac_net.specs.Objects.{Outside, moment_at}
use Rattle.eac_net.specs.Packets.{AreBetween}
use Rattle.eac_net.specs.Parties.{kind_is, is_party_of}
use Rattle.eac_net.specs.Steps.{HasStepped}
use Rattle.eac_net.specs.Tracing.{IsOwnKey}
use Rattle.eac_net.specs.declared.answer.Answer.TheVariants as answers
use Rattle.eac_net.specs.declared.answer.Happened.{Happened}
use Rattle.eac_net.specs.declared.event.Event.TheVariants as events
use Rattle.eac_net.specs.declared.world.World.{World}
use Rattle.eac_net.proofs.Finding.{some_same, SignsFor, found_there, none_there, own_row_of, link_signs}
use Rattle.eac_net.proofs.Going.{KeepsRows, keeps_same}
use Rattle.eac_net.proofs.Grows.{key_at_more}
use Rattle.eac_net.proofs.Lawfulness.{lawful_after}
use Rattle.eac_net.proofs.OwnRows.{own_keeps, own_readable}
use Rattle.eac_net.proofs.OwnSignings.{OwnLoss, own_loss}
use Rattle.eac_net.proofs.Signings.{Called, signed_steps}
use Rattle.eac_net.proofs.Writings.{writes_cases}

none_of : {X : Type 0} (x : X) → ◌≡◌ {A = Option X} None (Some x) → ⊥
none_of x e = absurd (cc)

-- ---- the authority, by the setup

pub record IsAuthority (setup : SetupValue) (desk : ℕ) : Type 0 where
  pub p : Party
  pub party_is : party setup desk ≡ Some p
  pub t : Terms
  pub terms_are : setups.terms setup desk ≡ Some t
  pub holder_is : t.holder ≡ p.holder
  pub kind_is : IsTrue (is_authority p.kind)
  pub authority : is_party_of is_authority setup desk ≡ true

-- what a setup says of an authority of such a kind
pub record HasTerms (holder : List ℕ) (kind : PartyKind) : Type 0 where
  pub t : Terms
  pub is : setups.terms_of holder kind ≡ Some t
  pub holder_is : t.holder ≡ holder

terms_for : (holder : List ℕ) (kind : PartyKind) → IsTrue (is_authority kind) → HasTerms holder kind
terms_for holder (kinds.Cvca form rights days) a = record { t = record { holder = holder; form = form; rights = rights; days = days }; is = refl; holder_is = refl }
terms_for holder kinds.Dv a = absurd (true≢false (sym a))
terms_for holder kinds.Terminal a = absurd (true≢false (sym a))

pub authority_of : (setup : SetupValue) (desk : ℕ) → AuthorityFits setup desk → IsAuthority setup desk
authority_of setup desk fits = go (party setup desk) refl fits
  where
    go : (x : Option Party) → party setup desk ≡ x → AuthorityFits setup desk → IsAuthority setup desk
    go None is f = absurd (true≢false (sym f ∙ ap (λ (o : Option Party). kind_is is_authority (option_map (λ (p : Party). p.kind) o)) is))
    go (Some p) is f =
        let kind : IsTrue (is_authority p.kind) = sym (ap (λ (o : Option Party). kind_is is_authority (option_map (λ (p : Party). p.kind) o)) is) ∙ f in
        let h = terms_for p.holder p.kind kind in
        record {
          p = p;
          party_is = is;
          t = h.t;
          terms_are = ap (λ (o : Option Party). option_and_then (λ q. setups.terms_of q.holder q.kind) o) is ∙ h.is;
          holder_is = h.holder_is;
          kind_is = kind;
          authority = f;
        }

-- at these terms
pub at_terms : (setup : SetupValue) (desk : ℕ) (a : IsAuthority setup desk) (P : Terms → Type 0) → IfSome (setups.terms setup desk) P → P a.t
at_terms setup desk a P h = subst (λ (x : Option Terms). IfSome x P) a.terms_are h

pub some_terms : (setup : SetupValue) (desk : ℕ) → AuthorityFits setup desk → IsSome (setups.terms setup desk)
some_terms setup desk fits = let a = authority_of setup desk fits in ap (λ (x : Option Terms). is_some x) a.terms_are

both_told : (P Q : List Row → List Row → Type 0) (x y : Option (List Row)) → Told x y P → Told x y Q → Told x y (λ before after. P before after × Q before after)
both_told P Q x None p q = tt
both_told P Q None (Some y) p q = absurd p
both_told P Q (Some x) (Some y) p q = (p, q)

-- what a call says of rows and of what it signed, at these terms
pub told_at_terms : (setup : SetupValue) (desk : ℕ) (a : IsAuthority setup desk) (P Q : Terms → List Row → List Row → Type 0) (x y : Option (List Row)) →
    Told x y (λ before after. IfSome (setups.terms setup desk) (λ t. P t before after)) → Told x y (λ before after. IfSome (setups.terms setup desk) (λ t. Q t before after)) →
    Told x y (λ before after. P a.t before after × Q a.t before after)
told_at_terms setup desk a P Q x y p q =
    let P' : List Row → List Row → Type 0 = λ before after. IfSome (setups.terms setup desk) (λ t. P t before after) in
    let Q' : List Row → List Row → Type 0 = λ before after. IfSome (setups.terms setup desk) (λ t. Q t before after) in
    told_more (λ before after. P' before after × Q' before after) (λ before after. P a.t before after × Q a.t before after) x y (both_told P' Q' x y p q)
    (λ before after h. (at_terms setup desk a (λ t. P t before after) h.0, at_terms setup desk a (λ t. Q t before after) h.1))

-- ---- the new row's key is found by its reference

own_key : (desk : ℕ) (d : Due) (bytes : List ℕ) (key : Key) → has_key table.Own desk d.reference (own_row desk d bytes key) ≡ true
own_key desk d bytes key = λ j. eq-eqb desk desk refl j && bytes_eq-self d.reference j

last_found : (desk : ℕ) (before : List Row) (d : Due) (bytes : List ℕ) (key : Key) → row_at table.Own desk d.reference before ≡ None →
    key_at (before ++ own_row desk d bytes key ∷ []) desk d.reference ≡ Some (public_key key)
last_found desk before d bytes key none =
    ap key_in (find-append (has_key table.Own desk d.reference) before (own_row desk d bytes key ∷ []))
    ∙ ap (λ (x : Option Row). key_in (option_or x (row_at table.Own desk d.reference (own_row desk d bytes key ∷ [])))) none
    ∙ ap (λ (b : Bool). key_in (cond b (Some (own_row desk d bytes key)) None)) (own_key desk d bytes key)

-- ---- one call of an authority

module _ {A : Type 0} (New : List ℕ → A) (setup : SetupValue) (desk : ℕ) (a : IsAuthority setup desk) (said says : Says) (held holds : Holds) (signed : Signed × Signed) (provider : StaysTrue said says held holds signed.0 signed.1)
    (refused : Option A) (missing : Option (List ℕ)) (due : Option Due) (before after : List Row) (result : Result A HolderFault)
    (keeps : KeepsOwn desk a.t.holder before after)
    -- of what is due: who signs
    (finds : (d : Due) (bytes : List ℕ) (key : Key) → due ≡ Some d → refused ≡ None → key_at (before ++ own_row desk d bytes key ∷ []) desk (issuer_of d.reference d.by) ≡ Some (signing_key key d.by))
    (signer : (d : Due) (key : Key) (bytes : List ℕ) → due ≡ Some d → after ≡ before ++ own_row desk d bytes key ∷ [] → IsOwnKey after desk (issuer_of d.reference d.by) (signing_key key d.by)) where
  -- lawful, where what is added can be read
  lawful_so : (rows : List Row) → after ≡ rows → (AreReadable before → AreReadable rows) → AreLawful setup before → AreLawful setup rows
  lawful_so rows is reads l = lawful_after setup desk a.p a.party_is before rows
      (subst (λ (x : List ℕ × List Row). KeepsNumbers desk x.0 before x.1) (λ j. (a.holder_is j, is j)) keeps.numbers)
      (λ kind f. subst (AreFounded desk) is (keeps.founded f)) (reads l.readable) l

  keeps_so : (after ≡ before) ⊎ ((answer : A) × HasWritten refused missing None (WritesOwn New says held holds desk due before) after answer) → KeepsRows setup said says held holds before after
  keeps_so (inl same) = subst (KeepsRows setup said says held holds before) (sym same) (keeps_same setup said says held holds before provider.says_more provider.holds_more)
  keeps_so (inr w) =
      let x = w.1.written in
      subst (KeepsRows setup said says held holds before) (sym x.rows)
      (own_keeps setup said says held holds provider.says_more provider.holds_more desk a.authority before x.made.d x.made.key x.made.bytes x.made.certificate
      (lawful_so (before ++ own_row desk x.made.d x.made.bytes x.made.key ∷ []) x.rows (own_readable setup said says held holds provider.says_more provider.holds_more desk a.authority before x.made.d x.made.key x.made.bytes x.made.certificate))
      (finds x.made.d x.made.bytes x.made.key x.made.due_is w.1.due))

  pub keeps_own : WritesOnce refused missing None (WritesOwn New says held holds desk due before) before after result → KeepsRows setup said says held holds before after
  keeps_own w = keeps_so (writes_cases refused missing None (WritesOwn New says held holds desk due before) before after result w)

  pub loss_of : WritesOnce refused missing None (WritesOwn New says held holds desk due before) before after result → SignsOwn refused None held holds signed desk due before after result → OwnLoss refused due held holds signed before after result
  loss_of w s = own_loss refused due held holds signed desk before after result (keeps_own w).stay signer s

-- ---- a founding

-- what is due
pub record IsFirstDue (t : Terms) (d : Due) : Type 0 where
  pub by_is : d.by ≡ None

first_of : (day : ℕ) (t : Terms) (d : Due) → founding_due t day ≡ Some d → IsFirstDue t d
first_of day t d e = go (dates t day) e
  where
    go : (x : Option (ℕ × ℕ)) → option_map (founding_of t) x ≡ Some d → IsFirstDue t d
    go None k = absurd (none_of d k)
    go (Some days) k =
        let same : founding_of t days ≡ d = some_same (founding_of t days) d k in
        record { by_is = ap (λ (x : Due). x.by) (sym same) }

-- none is refused where there is no own row
no_own : (own : List Row) (days : Option (ℕ × ℕ)) → found_refused (length own) days ≡ None → own ≡ []
no_own [] days e = refl
no_own (x ∷ own) days e = absurd (none_of founded.AlreadyFounded (sym e ∙ ap (λ (b : Bool). cond b (Some founded.AlreadyFounded) (cond (is_none days) (Some founded.Short) None)) (lt-ltb 0 (length (x ∷ own)) (omega arith))))

module _ (setup : SetupValue) (desk : ℕ) (a : IsAuthority setup desk) (day : ℕ) (said says : Says) (held holds : Holds) (signed : Signed × Signed) (provider : StaysTrue said says held holds signed.0 signed.1)
    (before after : List Row) (result : Result Founded HolderFault) (founds : Founds held holds desk day a.t says before after result) (signs : SignsFounding held holds desk day a.t signed before after result) where
  abbrev refused : Option Founded
  refused = found_refused (length (own_rows desk before)) (dates a.t day)

  first_finds : (d : Due) (bytes : List ℕ) (key : Key) → founding_due a.t day ≡ Some d → refused ≡ None → key_at (before ++ own_row desk d bytes key ∷ []) desk (issuer_of d.reference d.by) ≡ Some (signing_key key d.by)
  first_finds d bytes key is allowed =
      let by = (first_of day a.t d is).by_is in
      ap (λ (x : Option Signer). key_at (before ++ own_row desk d bytes key ∷ []) desk (issuer_of d.reference x)) by
      ∙ last_found desk before d bytes key (none_there desk a.t.holder before d.reference (no_own (own_rows desk before) (dates a.t day) allowed))
      ∙ ap (λ (x : Option Signer). Some (signing_key key x)) (sym by)

  first_signer : (d : Due) (key : Key) (bytes : List ℕ) → founding_due a.t day ≡ Some d → after ≡ before ++ own_row desk d bytes key ∷ [] → IsOwnKey after desk (issuer_of d.reference d.by) (signing_key key d.by)
  first_signer d key bytes is rows =
      let by = (first_of day a.t d is).by_is in
      subst (λ (x : Option Signer). IsOwnKey after desk (issuer_of d.reference x) (signing_key key x)) (sym by)
      (record {
        row = own_row desk d bytes key;
        own = record { authority = d.terms.holder; request = []; key = key; settled = Some (settled_of bytes (own_body d key)) };
        among = subst (λ (l : List Row). Contains l (own_row desk d bytes key)) (sym rows) (Contains-push before (own_row desk d bytes key));
        desk_is = refl;
        reference_is = refl;
        part_is = refl;
        key_is = refl;
      })

  pub first_keeps : KeepsRows setup said says held holds before after
  first_keeps = keeps_own founded.New setup desk a said says held holds signed provider refused None (founding_due a.t day) before after result (founding_keeps says held holds desk day a.t before after result founds) first_finds first_signer founds

  pub first_loss : OwnLoss refused (founding_due a.t day) held holds signed before after result
  first_loss = loss_of founded.New setup desk a said says held holds signed provider refused None (founding_due a.t day) before after result (founding_keeps says held holds desk day a.t before after result founds) first_finds first_signer founds signs

-- ---- a link

-- what is due
pub record IsLinkDue (t : Terms) (own : List Row) (d : Due) : Type 0 where
  pub by : Signer
  pub signer_is : link_signer own ≡ Some by
  pub by_is : d.by ≡ Some by

link_of : (day : ℕ) (t : Terms) (own : List Row) (d : Due) → link_due day t own ≡ Some d → IsLinkDue t own d
link_of day t own d e = go (link_signer own) refl e
  where
    days_go : (by : Signer) → link_signer own ≡ Some by → (x : Option (ℕ × ℕ)) → option_map (link_after t (length own) by) x ≡ Some d → IsLinkDue t own d
    days_go by is None k = absurd (none_of d k)
    days_go by is (Some days) k =
        let same : link_after t (length own) by days ≡ d = some_same (link_after t (length own) by days) d k in
        record {
          by = by;
          signer_is = is;
          by_is = ap (λ (x : Due). x.by) (sym same);
        }

    go : (x : Option Signer) → link_signer own ≡ x → option_and_then (λ by. option_map (link_after t (length own) by) (dates t day)) x ≡ Some d → IsLinkDue t own d
    go None is k = absurd (none_of d k)
    go (Some by) is k = days_go by is (dates t day) k

-- none is refused where a number is left
few_own : (day : ℕ) (t : Terms) (own : List Row) → refused_by day t own ≡ None → length own < 99999
few_own day t own e = go (link_signer own) e
  where
    by_count : (by : Signer) (b : Bool) → nat_le 99999 (length own) ≡ b → cond b (Some linked.Exhausted) (cond (nat_le day by.settled.from) (Some linked.SameDay) (cond (is_none (dates t day)) (Some linked.Short) None)) ≡ None → length own < 99999
    by_count by true is k = absurd (none_of linked.Exhausted (sym k))
    by_count by false is k = leb-false 99999 (length own) is

    go : (x : Option Signer) → link_refused own day (dates t day) x ≡ None → length own < 99999
    go None k = absurd (none_of linked.Unfounded (sym k))
    go (Some by) k = by_count by (nat_le 99999 (length own)) refl k

module _ (setup : SetupValue) (desk : ℕ) (a : IsAuthority setup desk) (day : ℕ) (said says : Says) (held holds : Holds) (signed : Signed × Signed) (provider : StaysTrue said says held holds signed.0 signed.1)
    (before after : List Row) (result : Result Linked HolderFault) (lawful : AreLawful setup before) (links : Links held holds desk day a.t says before after result) (exact : ExactLink held holds desk day a.t says signed before after result) where
  abbrev own : List Row
  own = own_rows desk before

  own_numbered : NumberedFrom a.p.holder 1 own
  own_numbered = lawful.numbered desk a.p a.party_is

  signs_at : (by : Signer) → SignsFor desk before by → length own < 99999 → key_at before desk by.reference ≡ Some (public_key by.key)
  signs_at by s few =
      let there : row_at table.Own desk s.row.reference before ≡ Some s.row = found_there desk a.p.holder before 1 own_numbered (omega (arith, few)) s.row s.among in
      ap (λ (r : List ℕ). key_at before desk r) (sym s.signer.reference_is)
      ∙ ap key_in there
      ∙ ap (λ (p : _). option_map (λ (o : OwnPart). public_key o.key) (own_part p)) s.signer.part_is
      ∙ ap (λ (k : Key). Some (public_key k)) s.signer.key_is

  link_finds : (d : Due) (bytes : List ℕ) (key : Key) → link_due day a.t own ≡ Some d → refused_by day a.t own ≡ None → key_at (before ++ own_row desk d bytes key ∷ []) desk (issuer_of d.reference d.by) ≡ Some (signing_key key d.by)
  link_finds d bytes key is allowed =
      let l = link_of day a.t own d is in
      ap (λ (x : Option Signer). key_at (before ++ own_row desk d bytes key ∷ []) desk (issuer_of d.reference x)) l.by_is
      ∙ key_at_more before (own_row desk d bytes key ∷ []) desk l.by.reference (public_key l.by.key) (signs_at l.by (link_signs desk before l.by l.signer_is) (few_own day a.t own allowed))
      ∙ ap (λ (x : Option Signer). Some (signing_key key x)) (sym l.by_is)

  link_key : (d : Due) (key : Key) (bytes : List ℕ) → link_due day a.t own ≡ Some d → after ≡ before ++ own_row desk d bytes key ∷ [] → IsOwnKey after desk (issuer_of d.reference d.by) (signing_key key d.by)
  link_key d key bytes is rows =
      let l = link_of day a.t own d is in
      let s = link_signs desk before l.by l.signer_is in
      let o = own_row_of desk before s.row s.among in
      subst (λ (x : Option Signer). IsOwnKey after desk (issuer_of d.reference x) (signing_key key x)) (sym l.by_is)
      (record {
        row = s.row;
        own = s.signer.own;
        among = subst (λ (x : List Row). Contains x s.row) (sym rows) (Contains-append_left before (own_row desk d bytes key ∷ []) s.row o.among);
        desk_is = at_desk s.row o.of;
        reference_is = s.signer.reference_is;
        part_is = s.signer.part_is;
        key_is = ap public_key s.signer.key_is;
      })
    where
      desk_true : (x y : Bool) → x && y ≡ true → y ≡ true
      desk_true true y e = e
      desk_true false y e = absurd (true≢false (sym e))

      at_desk : (row : Row) → is_of table.Own desk row ≡ true → row.desk ≡ desk
      at_desk row e = eqb-true row.desk desk (desk_true _ (nat_eq row.desk desk) e)

  pub link_keeps : KeepsRows setup said says held holds before after
  link_keeps = keeps_own linked.New setup desk a said says held holds signed provider (refused_by day a.t own) (missing_of held (link_signer own)) (link_due day a.t own) before after result (link_keeps_own says held holds desk day a.t before after result links) link_finds link_key exact.rows

  pub link_loss : OwnLoss (refused_by day a.t own) (link_due day a.t own) held holds signed before after result
  link_loss = loss_of linked.New setup desk a said says held holds signed provider (refused_by day a.t own) (missing_of held (link_signer own)) (link_due day a.t own) before after result (link_keeps_own says held holds desk day a.t before after result links) link_finds link_key exact.rows exact.signs

-- ---- as steps

abbrev FoundDoes : ℕ → Meanings → ℕ → Terms → List Row → List Row → Result Founded HolderFault → Type 0
FoundDoes desk m d t before after x = Founds m.held m.holds desk d t m.says before after x

abbrev FoundDue : ℕ → Meanings → ℕ → Terms → List Row → Pair → Type 0
FoundDue desk m d t before pair = IsOwnDue (found_refused (length (own_rows desk before)) (dates t d)) (founding_due t d) m.held m.holds pair

abbrev FoundAsked : Meanings → ℕ → Terms → Result Founded HolderFault → Type 0
FoundAsked m d t x = AsksFounding m.held m.holds d t m.says m.signed x

abbrev FoundMisses : Meanings → ℕ → Terms → List ℕ → Type 0
FoundMisses m d t reference = NoneMissing reference

abbrev LinkDoes : ℕ → Meanings → ℕ → Terms → List Row → List Row → Result Linked HolderFault → Type 0
LinkDoes desk m d t before after x = ExactLink m.held m.holds desk d t m.says m.signed before after x

abbrev LinkDue : ℕ → Meanings → ℕ → Terms → List Row → Pair → Type 0
LinkDue desk m d t before pair = IsOwnDue (refused_by d t (own_rows desk before)) (link_due d t (own_rows desk before)) m.held m.holds pair

abbrev LinkAsked : ℕ → Meanings → ℕ → Terms → Result Linked HolderFault → Type 0
LinkAsked desk m d t x = AsksLink m.held m.holds desk d t m.says m.signed x

abbrev LinkMisses : ℕ → Meanings → ℕ → Terms → List ℕ → Type 0
LinkMisses desk m d t reference = MissesLink m.held desk d t reference

module _ (setup : SetupValue) (desk : ℕ) (a : IsAuthority setup desk) (w w' : World) (o o' : Outside) (same_disks : o'.disks ≡ o.disks) (day : ℕ) (today : w.day ≡ Some day) (provider : StaysTrue o.says o'.says o.holds o'.holds o.signed o'.signed) (was : AreBetween setup w.packets) where
  abbrev m : Meanings
  m = means (moment_at w o) (moment_at w' o')

  abbrev Founding : Result Founded HolderFault → List Row → List Row → Type 0
  Founding result before after = Founds o.holds o'.holds desk day a.t o'.says before after result × SignsFounding o.holds o'.holds desk day a.t (o.signed, o'.signed) before after result

  abbrev FoundCall : Result Founded HolderFault → List Row → List Row → Type 0
  FoundCall result before after = AreLawful setup before → Called setup (events.Found desk) desk answers.Founded (FoundDoes desk) (FoundDue desk) FoundAsked FoundMisses m day a.t before after result

  found_call : (result : Result Founded HolderFault) (before after : List Row) → Founding result before after → FoundCall result before after
  found_call result before after h lawful =
      let loss = first_loss setup desk a day o.says o'.says o.holds o'.holds (o.signed, o'.signed) provider before after result h.0 h.1 in
      record {
        does = h.0;
        losing = loss.losing;
        loses = loss.loses;
        keeps = first_keeps setup desk a day o.says o'.says o.holds o'.holds (o.signed, o'.signed) provider before after result h.0 h.1;
        traced = loss.traced;
      }

  pub found_steps : {E F : Type 0} (happened : Result Happened E) (r : Result (Unit {0}) F) (line line' : List ℕ) (result : Result Founded HolderFault) → Concludes happened r w w' line line' → Tells happened (answer_by answers.Founded result) [] →
      HolderCause NoneMissing (o.keeper_faults, o'.keeper_faults) (o.provider_faults, o'.provider_faults) result →
      Told o.rows o'.rows (Founding result) → AsksFounding o.holds o'.holds day a.t o'.says (o.signed, o'.signed) result → HasStepped setup (events.Found desk) r (w, line) (w', line') o o'
  found_steps happened r line line' result c tells cause told asked =
      signed_steps setup (events.Found desk) desk answers.Founded (FoundDoes desk) (FoundDue desk) FoundAsked FoundMisses
      (λ n s s' answer e. e) (λ n s s' answer e. e) (λ i x. x) w w' o o' same_disks day today a.t a.terms_are result cause provider happened r line line' c tells
      (told_more (Founding result) (FoundCall result) o.rows o'.rows told (found_call result)) asked was

  abbrev Linking : Result Linked HolderFault → List Row → List Row → Type 0
  Linking result before after = Links o.holds o'.holds desk day a.t o'.says before after result × LinksExactly o.holds o'.holds desk day a.t o'.says (o.signed, o'.signed) before after result

  abbrev LinkCall : Result Linked HolderFault → List Row → List Row → Type 0
  LinkCall result before after = AreLawful setup before → Called setup (events.Link desk) desk answers.Linked (LinkDoes desk) (LinkDue desk) (LinkAsked desk) (LinkMisses desk) m day a.t before after result

  link_call : (result : Result Linked HolderFault) (before after : List Row) → Linking result before after → LinkCall result before after
  link_call result before after h lawful =
      let exact = h.1 (subst (λ (x : List ℕ). AreNumbered desk x before) (sym a.holder_is) (lawful.numbered desk a.p a.party_is)) in
      let loss = link_loss setup desk a day o.says o'.says o.holds o'.holds (o.signed, o'.signed) provider before after result lawful h.0 exact in
      record {
        does = exact;
        losing = loss.losing;
        loses = loss.loses;
        keeps = link_keeps setup desk a day o.says o'.says o.holds o'.holds (o.signed, o'.signed) provider before after result lawful h.0 exact;
        traced = loss.traced;
      }

  pub link_steps : {E F : Type 0} (happened : Result Happened E) (r : Result (Unit {0}) F) (line line' : List ℕ) (result : Result Linked HolderFault) → Concludes happened r w w' line line' → Tells happened (answer_by answers.Linked result) [] →
      HolderCause (MissesLink o.holds desk day a.t) (o.keeper_faults, o'.keeper_faults) (o.provider_faults, o'.provider_faults) result →
      Told o.rows o'.rows (Linking result) → AsksLink o.holds o'.holds desk day a.t o'.says (o.signed, o'.signed) result → HasStepped setup (events.Link desk) r (w, line) (w', line') o o'
  link_steps happened r line line' result c tells cause told asked =
      signed_steps setup (events.Link desk) desk answers.Linked (LinkDoes desk) (LinkDue desk) (LinkAsked desk) (LinkMisses desk)
      (λ n s s' answer e. e) (λ n s s' answer e. e) (λ i x. x) w w' o o' same_disks day today a.t a.terms_are result cause provider happened r line line' c tells
      (told_more (Linking result) (LinkCall result) o.rows o'.rows told (link_call result)) asked was

-- Every turn keeps rows lawful.
use Rattle.std.proofs.Common.{◌≡◌, ◌⊎◌, inl, inr, ℕ, ◌+◌, List, [], ◌++◌, length, true≢false, Some, None, Ok, Err, refl, sym, ap, ◌∙◌, subst, arith, append-nil}
use Rattle.std.specs.Prelude.{is_some}
use Rattle.std.specs.declared.option.Option.{Option}
use Rattle.std.specs.declared.result.Result.{Result}
use Rattle.cvc_grammar.specs.declared.certificate.Cert.{Cert}
use Rattle.cvc_grammar.specs.declared.refusal.CvcRefusal.{CvcRefusal}
use Rattle.cvc_grammar.specs.declared.request.Request.{Request}
use Rattle.policy_limits.specs.Setup.{SetupValue}
use Rattle.keeper.specs.declared.rows.Row.{Row}
use Rattle.keeper.specs.declared.rows.Table.TheVariants as table
use Rattle.keeper.specs.Rows.{row_at}
use Rattle.issue_core.specs.Issuing.Readings.{request_of, cert_of}
use Rattle.issue_core.specs.Issuing.Rows.{AreReadable, row_for, left_row}
use Rattle.holder_core.specs.Lawful.{AreNumbered}
use Rattle.holder_core.specs.LawfulCalls.{KeepsNumbers}
use Rattle.holder_core.specs.Numbers.{reference_after}
use Rattle.holder_core.specs.OwnRows.{own_rows, ca_rows}
use Rattle.holder_core.specs.Requesting.{Requests, WritesRequest, authority_in, outer_signer, request_refused, request_late}
use Rattle.holder_core.specs.Signers.{missing_of}
use Rattle.holder_core.specs.WritesOnce.{HasWritten}
use Rattle.holder_core.specs.declared.fault.HolderFault.{HolderFault}
use Rattle.holder_core.specs.declared.made.Made.{Made}
use Rattle.holder_core.proofs.Lawfuls.{same_or_written, keeps_own, none_beyond, request_keeps}
use Rattle.cvca_desk.specs.Founding.{Founds, found_refused, founding_due}
use Rattle.cvca_desk.specs.Lawful.{KeepsOwn}
use Rattle.cvca_desk.specs.Linking.{ExactLink, link_late, link_signer, late_in, refused_by, link_due}
use Rattle.cvca_desk.specs.OwnCertificate.{own_body, WritesOwn}
use Rattle.cvca_desk.specs.Terms as setups
use Rattle.cvca_desk.specs.Terms.{dates}
use Rattle.cvca_desk.specs.declared.due.Due.{Due}
use Rattle.cvca_desk.specs.declared.founding.Founded.{Founded}
use Rattle.cvca_desk.specs.declared.founding.Founded.TheVariants as founded
use Rattle.cvca_desk.specs.declared.linking.Linked.{Linked}
use Rattle.cvca_desk.specs.declared.linking.Linked.TheVariants as linked
use Rattle.cvca_desk.specs.declared.terms.Terms.{Terms}
use Rattle.cvca_desk.proofs.Lawfuls.{founding_keeps, link_keeps}
use Rattle.cvca_desk.proofs.Linkings.{few_allowed}
use Rattle.eac_net.specs.Acting.{ApplyFits, home_of}
use Rattle.eac_net.specs.Arrival.{Arrival, NotSent, NoCall, AsksCertificate, AsksList, Brings, IsDeclined, NoReply, BringsBack, Notes, arrival}
use Rattle.eac_net.specs.Asking.{asked_on}
use Rattle.eac_net.specs.Delivering.{Arrives, DeliverTurn}
use Rattle.eac_net.specs.Laws.{TurnsKeepLaw}
use Rattle.eac_net.specs.Lawful.{AreLawful}
use Rattle.eac_net.specs.Moment.{Meanings, means}
use Rattle.eac_net.specs.Packets.{packet_at}
use Rattle.eac_net.specs.Parties.{holder_at}
use Rattle.eac_net.specs.State.{State}
use Rattle.eac_net.specs.Steps.{FitsLine}
use Rattle.eac_net.specs.Turn.{Turn}
use Rattle.eac_net.specs.declared.answer.Answer.{Answer}
use Rattle.eac_net.specs.declared.event.Event.{Event}
use Rattle.eac_net.specs.declared.event.Event.TheVariants as events
use Rattle.eac_net.specs.declared.packet.Packet.{Packet}
use Rattle.eac_net.proofs.Applyings.{holder_of_asks}
use Rattle.eac_net.proofs.Authorities.{IsAuthority, authority_of}
use Rattle.eac_net.proofs.Beside.{keeps_registered}
use Rattle.eac_net.proofs.Finding.{some_same}
use Rattle.eac_net.proofs.Grows.{readable_append, own_append}
use Rattle.eac_net.proofs.Lawfulness.{lawful_after}
use Rattle.eac_net.proofs.OwnRows.{settled_again}
use Rattle.eac_net.proofs.Receipts.{received_lawful}
use Rattle.eac_net.proofs.Trustings.{trusting_keeps}

-- ---- an authority's own certificate

module _ (setup : SetupValue) (m : Meanings) (desk day : ℕ) (a : IsAuthority setup desk) (before after : List Row) (lawful : AreLawful setup before) where
  own_lawful : KeepsOwn desk a.t.holder before after → AreReadable after → AreLawful setup after
  own_lawful keeps readable = lawful_after setup desk a.p a.party_is before after
      (subst (λ (holder : List ℕ). KeepsNumbers desk holder before after) a.holder_is keeps.numbers) (λ kind f. keeps.founded f) readable lawful

  own_reads : {A : Type 0} (New : List ℕ → A) (due : Option Due) (answer : A) → WritesOwn New m.says m.held m.holds desk due before answer after → AreReadable after
  own_reads New due answer w =
      let c = w.made.certificate in
      subst AreReadable (sym w.rows) (readable_append before _ lawful.readable (settled_again w.made.bytes (own_body w.made.d w.made.key) c.cert c.read c.body, tt))

  found_lawful : (result : Result Founded HolderFault) → Founds m.held m.holds desk day a.t m.says before after result → AreLawful setup after
  found_lawful result h = go (same_or_written (found_refused (length (own_rows desk before)) (dates a.t day)) None None
      (WritesOwn founded.New m.says m.held m.holds desk (founding_due a.t day) before) before after result h)
    where
      go : (after ≡ before) ⊎ ((answer : Founded) × HasWritten (found_refused (length (own_rows desk before)) (dates a.t day)) None None
          (WritesOwn founded.New m.says m.held m.holds desk (founding_due a.t day) before) after answer) → AreLawful setup after
      go (inl same) = subst (AreLawful setup) (sym same) lawful
      go (inr w) = own_lawful (founding_keeps m.says m.held m.holds desk day a.t before after (Ok w.0) (inr w.1)) (own_reads founded.New (founding_due a.t day) w.0 w.1.written)

  -- no row has the reference of the next key
  none_late : refused_by day a.t (own_rows desk before) ≡ None → late_in m.held m.holds desk day a.t before ≡ None
  none_late allowed =
      let few = few_allowed day a.t (own_rows desk before) allowed in
      let numbers : AreNumbered desk a.t.holder before = subst (λ (holder : List ℕ). AreNumbered desk holder before) (sym a.holder_is) (lawful.numbered desk a.p a.party_is) in
      ap (λ (x : Option Row). link_late (is_some x)) (none_beyond desk a.t.holder (length (own_rows desk before) + 1) (omega (arith, few)) before 1 numbers (omega arith))

  link_lawful : (result : Result Linked HolderFault) → ExactLink m.held m.holds desk day a.t m.says m.signed before after result → AreLawful setup after
  link_lawful result h = go (same_or_written (refused_by day a.t (own_rows desk before)) (missing_of m.held (link_signer (own_rows desk before))) None
      (WritesOwn linked.New m.says m.held m.holds desk (link_due day a.t (own_rows desk before)) before) before after result h.rows)
    where
      go : (after ≡ before) ⊎ ((answer : Linked) × HasWritten (refused_by day a.t (own_rows desk before)) (missing_of m.held (link_signer (own_rows desk before))) None
          (WritesOwn linked.New m.says m.held m.holds desk (link_due day a.t (own_rows desk before)) before) after answer) → AreLawful setup after
      go (inl same) = subst (AreLawful setup) (sym same) lawful
      go (inr w) = own_lawful
          (link_keeps m.says m.held m.holds desk day a.t before after (Ok w.0) (inr (record { due = w.1.due; new = none_late w.1.due; written = w.1.written })))
          (own_reads linked.New (link_due day a.t (own_rows desk before)) w.0 w.1.written)

-- ---- a request

module _ (setup : SetupValue) (m : Meanings) (holder authority root : ℕ) (fits : ApplyFits setup holder authority root) (before after : List Row) (lawful : AreLawful setup before) where
  abbrev Asks : Result Made HolderFault → Type 0
  Asks result = Requests m.says m.held m.holds m.signed holder (holder_at setup holder) (holder_at setup authority) (holder_at setup root) (home_of setup authority holder before) before after result

  pending_reads : (answer : Made) → WritesRequest m.says m.held m.holds m.signed holder (holder_at setup holder) (holder_at setup authority) (holder_at setup root) (home_of setup authority holder before) before answer after → AreReadable after
  pending_reads answer w = subst AreReadable (sym w.rows) (readable_append before _ lawful.readable (tt, tt))

  numbers_lawful : KeepsNumbers holder (holder_at setup holder) before after → AreReadable after → AreLawful setup after
  numbers_lawful keeps readable =
      let h = holder_of_asks setup holder authority root fits.asks in
      lawful_after setup holder h.p h.party_is before after (subst (λ (name : List ℕ). KeepsNumbers holder name before after) h.holder_is keeps)
      (λ kind f. absurd (true≢false (sym kind ∙ h.no_kind))) readable lawful

  apply_lawful : (result : Result Made HolderFault) → Asks result → AreLawful setup after
  apply_lawful result h = go (same_or_written
      (request_refused (own_rows holder before) (authority_in (holder_at setup authority) (holder_at setup root) (ca_rows holder before)))
      (missing_of m.held (outer_signer (holder_at setup authority) (home_of setup authority holder before) (own_rows holder before)))
      (request_late (is_some (row_at table.Own holder (reference_after (holder_at setup holder) (own_rows holder before)) before)))
      (WritesRequest m.says m.held m.holds m.signed holder (holder_at setup holder) (holder_at setup authority) (holder_at setup root) (home_of setup authority holder before) before)
      before after result h)
    where
      go : (after ≡ before) ⊎ ((answer : Made) × HasWritten
          (request_refused (own_rows holder before) (authority_in (holder_at setup authority) (holder_at setup root) (ca_rows holder before)))
          (missing_of m.held (outer_signer (holder_at setup authority) (home_of setup authority holder before) (own_rows holder before)))
          (request_late (is_some (row_at table.Own holder (reference_after (holder_at setup holder) (own_rows holder before)) before)))
          (WritesRequest m.says m.held m.holds m.signed holder (holder_at setup holder) (holder_at setup authority) (holder_at setup root) (home_of setup authority holder before) before)
          after answer) → AreLawful setup after
      go (inl same) = subst (AreLawful setup) (sym same) lawful
      go (inr w) = numbers_lawful
          (request_keeps m.says m.held m.holds m.signed holder (holder_at setup holder) (holder_at setup authority) (holder_at setup root) (home_of setup authority holder before) before after result h)
          (pending_reads w.0 w.1.written)

-- ---- the row of a delivery is no own row

row_owns : (desk other : ℕ) (bytes certificate : List ℕ) (read : Result Request CvcRefusal) (cert : Result Cert CvcRefusal) → own_rows other (row_for desk bytes certificate read cert) ≡ []
row_owns desk other bytes certificate (Ok r) (Ok c) = refl
row_owns desk other bytes certificate (Ok r) (Err e) = refl
row_owns desk other bytes certificate (Err e) cert = refl

left_owns : (desk other : ℕ) (bytes : List ℕ) (left : Option (List ℕ)) → own_rows other (left_row desk bytes left) ≡ []
left_owns desk other bytes None = refl
left_owns desk other bytes (Some p) = row_owns desk other bytes p (request_of bytes) (cert_of p)

pub delivered_lawful : (setup : SetupValue) (desk : ℕ) (bytes : List ℕ) (left : Option (List ℕ)) (before after : List Row) → after ≡ before ++ left_row desk bytes left →
    (AreReadable before → AreReadable after) → AreLawful setup before → AreLawful setup after
delivered_lawful setup desk bytes left before after is readable l =
    let same : (other : ℕ) → own_rows other after ≡ own_rows other before = λ other.
    ap (own_rows other) is ∙ own_append other before (left_row desk bytes left) ∙ ap (λ (rows : List Row). own_rows other before ++ rows) (left_owns desk other bytes left)
    ∙ append-nil (own_rows other before) in
    let keeps = keeps_own before after same in
    record {
      readable = readable l.readable;
      numbered = λ other p there. keeps.numbered other p.holder (l.numbered other p there);
      founded = λ other p there a. keeps.founded other (l.founded other p there a);
    }

-- ---- any event

module _ (setup : SetupValue) (m : Meanings) (s : State) (lawful : AreLawful setup s.rows) where
  by_rows : (t next : State) → t ≡ next → AreLawful setup next.rows → AreLawful setup t.rows
  by_rows t next is l = subst (λ (x : State). AreLawful setup x.rows) (sym is) l

  -- the terms are those of the authority
  at_terms : (desk : ℕ) (a : IsAuthority setup desk) (t : Terms) → setups.terms setup desk ≡ Some t → t ≡ a.t
  at_terms desk a t is = some_same t a.t (sym is ∙ a.terms_are)

  arrives_lawful : (came : Option Packet) (arrived : Arrival) (answer : Option Answer) (t : State) → Arrives setup m s came arrived answer t → AreLawful setup t.rows
  arrives_lawful (Some p) (AsksCertificate id request) answer t v =
      by_rows t _ v.next (delivered_lawful setup p.to request v.event.does.left s.rows v.rows v.event.does.rows v.event.does.readable lawful)
  arrives_lawful (Some p) (AsksList id) answer t v = by_rows t _ v.next lawful
  arrives_lawful (Some p) (Brings id certificates) answer t v =
      by_rows t _ v.next (received_lawful m.said p.to setup certificates s.rows v.rows v.event.received.items v.event.received.fault v.asked v.event.does lawful)
  arrives_lawful (Some p) (BringsBack certificates) answer t v =
      by_rows t _ v.next (received_lawful m.said p.to setup certificates s.rows v.rows v.event.received.items v.event.received.fault v.asked v.event.does lawful)
  arrives_lawful (Some p) NoCall answer t v = by_rows t _ v.next lawful
  arrives_lawful (Some p) (IsDeclined id) answer t v = by_rows t _ v.next lawful
  arrives_lawful (Some p) NoReply answer t v = by_rows t _ v.next lawful
  arrives_lawful (Some p) (Notes code) answer t v = by_rows t _ v.next lawful
  arrives_lawful (Some p) NotSent answer t v = absurd v
  arrives_lawful None arrived answer t v = by_rows t _ v.next lawful

  came_lawful : (number : ℕ) (answer : Option Answer) (t : State) → DeliverTurn setup m s number answer t → AreLawful setup t.rows
  came_lawful number answer t (inl nothing) = by_rows t s nothing.1 lawful
  came_lawful number answer t (inr v) = arrives_lawful (packet_at s.packets number) (arrival setup (packet_at s.packets number)) answer t v

  turn_lawful : (e : Event) (answer : Option Answer) (t : State) → FitsLine setup e → Turn setup m s e answer t → AreLawful setup t.rows
  turn_lawful (events.Day day) answer t fits v = by_rows t _ v.1 lawful
  turn_lawful (events.Ask reference bytes) answer t fits v = by_rows t _ v.next
      ((keeps_registered setup m.says m.says m.held m.held (λ key message signature h. h) (λ key h. h) s.rows (asked_on v.day reference bytes) v.left).lawful lawful)
  turn_lawful (events.Found authority) answer t fits v =
      let a = authority_of setup authority fits in
      let acts = v.event.event in
      by_rows t _ v.next (found_lawful setup m authority v.event.day a s.rows v.rows lawful acts.result
      (subst (λ (x : Terms). Founds m.held m.holds authority v.event.day x m.says s.rows v.rows acts.result) (at_terms authority a v.event.terms v.event.terms_are) acts.does.0))
  turn_lawful (events.Link authority) answer t fits v =
      let a = authority_of setup authority fits in
      let acts = v.event.event in
      by_rows t _ v.next (link_lawful setup m authority v.event.day a s.rows v.rows lawful acts.result
      (subst (λ (x : Terms). ExactLink m.held m.holds authority v.event.day x m.says m.signed s.rows v.rows acts.result) (at_terms authority a v.event.terms v.event.terms_are) acts.does.0))
  turn_lawful (events.Trust party authority) answer t fits v =
      by_rows t _ v.next ((trusting_keeps setup party authority m.says m.held s.rows v.rows v.event.result v.event.does).lawful lawful)
  turn_lawful (events.Apply holder authority root) answer t fits v =
      by_rows t _ v.next (apply_lawful setup m holder authority root fits s.rows v.rows lawful v.event.result v.event.does)
  turn_lawful (events.Fetch party desk) answer t fits v = by_rows t _ v.next lawful
  turn_lawful (events.Push desk party) answer t fits v = by_rows t _ v.next lawful
  turn_lawful (events.Send from to bytes) answer t fits v = by_rows t _ v.next lawful
  turn_lawful (events.Deliver number) answer t fits v = came_lawful number answer t v
  turn_lawful (events.Make chip authority) answer t fits v = by_rows t _ v.next lawful
  turn_lawful (events.Present chip terminal) answer t fits v = by_rows t _ v.next lawful
  turn_lawful (events.Import chip bytes) answer t fits v = by_rows t _ v.next lawful
  turn_lawful (events.Look chip) answer t fits v = by_rows t _ v.next lawful

pub turns_keep_law : TurnsKeepLaw
turns_keep_law setup s t i fits r = turn_lawful setup (means i.from i.to) s r.lawful i.event i.answer t fits r.turn

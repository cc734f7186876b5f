-- A request that comes to an issuing desk is answered where no count rises.
use Rattle.std.proofs.Common.{◌≡◌, inl, inr, ℕ, List, [], ◌∷◌, ◌++◌, Bool, true, false, cond, true≢false, Some, None, Ok, Err, refl, sym, ap, ◌∙◌, subst}
use Rattle.std.specs.Prelude.{IfSome, IsSome, option_map, is_some}
use Rattle.std.specs.declared.option.Option.{Option}
use Rattle.std.specs.declared.result.Result.{Result}
use Rattle.eac_base.specs.Causes.{Rose}
use Rattle.eac_base.proofs.EqualBytes.{bytes_eq-self}
use Rattle.policy_limits.specs.Setup.{SetupValue}
use Rattle.cvc_grammar.specs.declared.certificate.CertBody.{CertBody}
use Rattle.ledger.specs.Ledger.{faces, kept_for, left_entry}
use Rattle.ledger.specs.Story.{Adds, Tells}
use Rattle.issue_core.specs.declared.rule.Rule.{Rule}
use Rattle.issue_core.specs.declared.fault.IssueFault.{IssueFault}
use Rattle.issue_core.specs.declared.fault.IssueFault.TheVariants as issue_fault
use Rattle.issue_core.specs.declared.issuing.serving.Answer.{Answer as Issuance}
use Rattle.issue_core.specs.declared.issuing.serving.Answer.TheVariants as issuance
use Rattle.issue_core.specs.Issuing.Calls.{bare_case, outcome_of, delivery, is_held}
use Rattle.issue_core.specs.Issuing.Causes.{IssueCause}
use Rattle.issue_core.specs.Issuing.Desk.{issuing, is_signed, IssueEntries, IssueDelivery}
use Rattle.issue_core.specs.Issuing.Due.{due}
use Rattle.issue_core.specs.Issuing.Readings.{number_of, body_of}
use Rattle.issue_core.specs.Issuing.ProviderCalls.{MissesKey}
use Rattle.issue_core.specs.Issuing.Rows.{entries_at}
use Rattle.issue_core.specs.Issuing.Rules.{Case, first_rule}
use Rattle.desk_core.specs.Replies.{given, refused, request_served}
use Rattle.desk_core.specs.declared.served.Event1.TheVariants as served
use Rattle.desk_core.specs.declared.served.Served.{Served}
use Rattle.eac_net.specs.Arrival.{Arrival, AsksCertificate, arrival}
use Rattle.eac_net.specs.Completeness.{NoneRose, IsReplied, IsIssued, AnswersBy, IsServed, RequestsAreServed}
use Rattle.eac_net.specs.Delivered.{served_answer, served_sent}
use Rattle.eac_net.specs.Delivering.{case_at, EndsServed, RequestTurn, Arrives, DeliverTurn}
use Rattle.eac_net.specs.Items.{Ran}
use Rattle.eac_net.specs.Laws.{HasFault}
use Rattle.eac_net.specs.Moment.{Meanings, means}
use Rattle.eac_net.specs.Packets.{next_number, packet_at}
use Rattle.eac_net.specs.State.{State, Standing, standing_of}
use Rattle.eac_net.specs.Turn.{Turn, RowsStep}
use Rattle.eac_net.specs.declared.answer.Answer.{Answer}
use Rattle.eac_net.specs.declared.answer.Fault.{Fault}
use Rattle.eac_net.specs.declared.event.Event.{Event}
use Rattle.eac_net.specs.declared.packet.Packet.{Packet}
use Rattle.eac_net.proofs.Finding.{none_some}
use Rattle.eac_net.proofs.Ledgers.{desk_grows}
use Rattle.eac_net.proofs.Missing.{serves_never}

-- ---- what a ledger keeps with one entry more

kept_last : (es : IssueEntries) (query product : List ℕ) → kept_for issuing es query ≡ None → kept_for issuing (es ++ record { query = query; product = product } ∷ []) query ≡ Some product
kept_last [] query product none = ap (λ (b : Bool). cond b (Some product) None) (bytes_eq-self query)
kept_last (e ∷ es) query product none = behind (issuing.same e.query query) none (kept_last es query product)
  where
    behind : (b : Bool) → cond b (Some e.product) (kept_for issuing es query) ≡ None →
        (kept_for issuing es query ≡ None → kept_for issuing (es ++ record { query = query; product = product } ∷ []) query ≡ Some product) →
        cond b (Some e.product) (kept_for issuing (es ++ record { query = query; product = product } ∷ []) query) ≡ Some product
    behind true k more = absurd (none_some e.product (sym k))
    behind false k more = more k

-- ---- one request

module _ (setup : SetupValue) (m : Meanings) (p : Packet) (id request : List ℕ) (s : State) (i : Ran) (t : State) (v : RequestTurn setup m s p id request i.answer t)
    (keeper : ¬ Rose s.keeper v.now.keeper) (provider : ¬ Rose s.provider v.now.provider) (never : (reference : List ℕ) → v.event.issued ≡ Err (issue_fault.NoKey reference) → ⊥) (told : IsSome i.answer) where
  abbrev c : Case
  c = case_at setup m s p.to v.day request

  abbrev es : IssueEntries
  es = entries_at p.to s.rows

  replied_by : (due : Option Served) (x : Served) → due ≡ Some x → EndsServed p (standing_of s) i.answer v.now due → IsReplied p id request s i t x
  replied_by due x is (inl e) = record {
    answer = e.told ∙ ap (served_answer (next_number s.packets)) is;
    packets = ap (λ (y : State). y.packets) v.next ∙ e.packets ∙ ap (λ (y : Option Served). s.packets ++ served_sent p y) is;
  }
  replied_by due x is (inr e) = absurd (true≢false (sym told ∙ ap (λ (y : Option Answer). is_some y) e.told))

  -- memory wasn't wanting
  some_due : (due : Option Served) → due ≡ None → EndsServed p (standing_of s) i.answer v.now due → ⊥
  some_due due none (inl e) = true≢false (sym told ∙ ap (λ (y : Option Answer). is_some y) (e.told ∙ ap (served_answer (next_number s.packets)) none))
  some_due due none (inr e) = true≢false (sym told ∙ ap (λ (y : Option Answer). is_some y) e.told)

  abbrev By : Option (List ℕ) → Option Rule → Type 0
  By kept rule = AnswersBy p id request s i t c kept rule

  abbrev d : IssueDelivery
  d = delivery c (outcome_of v.event.issued) v.event.does.left (s.keeper, v.now.keeper) (s.provider, v.now.provider) (is_held m.held c)

  -- what the outcome of this result tells
  abbrev Told : Result Issuance IssueFault → Type 0
  Told result = Tells issuing es d (outcome_of result)

  abbrev Caused : Result Issuance IssueFault → Type 0
  Caused result = IssueCause (MissesKey m.said m.held (bare_case setup p.to v.day request [])) (s.keeper, v.now.keeper) (s.provider, v.now.provider) result

  same_body : (a b : Option CertBody) → option_map Some a ≡ Some b → a ≡ b
  same_body (Some x) b e = cc
  same_body None b e = absurd (cc)

  kept_now : (certificate : List ℕ) → v.event.does.left ≡ Some certificate → kept_for issuing es request ≡ None → kept_for issuing (entries_at p.to t.rows) request ≡ Some certificate
  kept_now certificate left none =
      ap (λ (l : IssueEntries). kept_for issuing l request)
      (ap (entries_at p.to) (ap (λ (x : State). x.rows) v.next ∙ v.event.does.rows)
      ∙ desk_grows m.says c (outcome_of v.event.issued) v.event.does.left (s.keeper, v.now.keeper) (s.provider, v.now.provider) (is_held m.held c) s.rows v.event.does.decides.left
      ∙ ap (λ (x : Option (List ℕ)). es ++ left_entry issuing request x) left)
      ∙ kept_last es request certificate none

  -- the answer, and that no fault is told
  abbrev Whole : Type 0
  Whole = By (kept_for issuing es request) (first_rule (faces issuing es) c) × ((f : Fault) → HasFault f i.answer → ⊥)

  issued_by : (result : Result Issuance IssueFault) → v.event.issued ≡ result → Told result → Caused result → Whole
  issued_by (Ok (issuance.Issued certificate)) is at cause =
      let adds : Adds issuing (is_signed m.says) es d certificate = subst (λ (left : Option (List ℕ)). IfSome left (Adds issuing (is_signed m.says) es d)) at v.event.does.decides.left in
      let r = replied_by (request_served id request v.event.issued) (given id (certificate ∷ []) (served.Issued (number_of request))) (ap (request_served id request) is) v.event.ends in
      let new : IsIssued p id request s i t c = record {
        certificate = certificate;
        body = same_body (due c) (body_of certificate) adds.body;
        kept = kept_now certificate at adds.new;
        replied = r;
      } in
      (subst (λ (x : Option (List ℕ) × Option Rule). By x.0 x.1) (λ j. (sym adds.new j, sym adds.allowed j)) new, λ f h. subst (HasFault f) r.answer h)
  issued_by (Ok (issuance.Kept certificate)) is at cause =
      let r = replied_by (request_served id request v.event.issued) (given id (certificate ∷ []) (served.Kept (number_of request))) (ap (request_served id request) is) v.event.ends in
      (subst (λ (x : Option (List ℕ)). By x (first_rule (faces issuing es) c)) (sym at) r, λ f h. subst (HasFault f) r.answer h)
  issued_by (Ok (issuance.Refused rule)) is at cause =
      let r = replied_by (request_served id request v.event.issued) (refused id rule) (ap (request_served id request) is) v.event.ends in
      (subst (λ (x : Option (List ℕ) × Option Rule). By x.0 x.1) (λ j. (sym at.0 j, sym at.1 j)) r, λ f h. subst (HasFault f) r.answer h)
  issued_by (Err issue_fault.KeeperFault) is at cause = absurd (keeper cause.failed)
  issued_by (Err issue_fault.ProviderFault) is at cause = absurd (provider cause.failed)
  issued_by (Err (issue_fault.NoKey reference)) is at cause = absurd (never reference is)
  issued_by (Err issue_fault.NoMemory) is at cause = absurd (some_due (request_served id request v.event.issued) (ap (request_served id request) is) v.event.ends)

  whole : Whole
  whole = issued_by v.event.issued refl v.event.does.decides.told v.event.cause

-- ---- the item that delivers it

module _ (setup : SetupValue) (s t : State) (i : Ran) (p : Packet) (id request : List ℕ) (r : RowsStep setup s i t) (none : NoneRose i) (told : IsSome i.answer) where
  abbrev m : Meanings
  m = means i.from i.to

  by_turn : RequestTurn setup m s p id request i.answer t → IsServed setup p id request s i t
  by_turn v =
      let keeper : ¬ Rose s.keeper v.now.keeper = λ rose. none.keeper (subst (λ (x : ℕ × ℕ). Rose x.0 x.1)
      (λ j. ((ap (λ (x : Standing). x.keeper) r.from) j, (sym (ap (λ (x : State). x.keeper) v.next) ∙ ap (λ (x : Standing). x.keeper) r.to) j)) rose) in
      let provider : ¬ Rose s.provider v.now.provider = λ rose. none.provider (subst (λ (x : ℕ × ℕ). Rose x.0 x.1)
      (λ j. ((ap (λ (x : Standing). x.provider) r.from) j, (sym (ap (λ (x : State). x.provider) v.next) ∙ ap (λ (x : Standing). x.provider) r.to) j)) rose) in
      let never = serves_never m.says m.held (case_at setup m s p.to v.day request) (s.keeper, v.now.keeper) (s.provider, v.now.provider) s.rows v.rows v.event.issued refl r.keys v.event.does in
      let w = whole setup m p id request s i t v keeper provider never told in
      record { day = v.day; today = v.today; answers_by = w.0; no_fault = w.1 }

  by_arrival : (number : ℕ) → packet_at s.packets number ≡ Some p → arrival setup (Some p) ≡ AsksCertificate id request → DeliverTurn setup m s number i.answer t → IsServed setup p id request s i t
  by_arrival number packet asks (inl nothing) = absurd (true≢false (sym told ∙ ap (λ (x : Option Answer). is_some x) nothing.0))
  by_arrival number packet asks (inr v) = by_turn (subst (λ (x : Option Packet × Arrival). Arrives setup m s x.0 x.1 i.answer t) (λ j. (packet j, (ap (arrival setup) packet ∙ asks) j)) v)

pub requests_are_served : RequestsAreServed
requests_are_served setup s t i p id request r d none told =
    by_arrival setup s t i p id request r none told d.number d.packet_is d.asks (subst (λ (e : Event). Turn setup (means i.from i.to) s e i.answer t) d.event_is r.turn)

-- What one turn tells of the desks, of the day, and of what was lost.
use Rattle.std.proofs.Common.{◌≡◌, ◌≢◌, ◌⊎◌, inl, inr, ℕ, ◌≤◌, Bool, cond, List, [], ◌∷◌, ◌++◌, Some, None, Ok, Err, refl, sym, ap, ◌∙◌, subst, arith, append-nil}
use Rattle.std.specs.Prelude.{is_some}
use Rattle.std.specs.declared.option.Option.{Option}
use Rattle.std.specs.declared.result.Result.{Result}
use Rattle.std.proofs.lemmas.Bool.{cases_eq, eq-eqb, ne_eqb}
use Rattle.std.proofs.lemmas.List.{map-append}
use Rattle.eac_base.specs.Causes.{Rose}
use Rattle.signature_provider.specs.Provider.{Says, Holds}
use Rattle.policy_limits.specs.Setup.{SetupValue}
use Rattle.keeper.specs.declared.rows.Row.{Row}
use Rattle.keeper.specs.declared.rows.CaPart.{CaPart}
use Rattle.keeper.specs.declared.rows.Table.TheVariants as table
use Rattle.keeper.specs.Rows.{row_at}
use Rattle.issue_core.specs.Registering.Desk.{Asked, Deliveries, register, unsigned, delivery_of, entries_of}
use Rattle.issue_core.specs.declared.fault.IssueFault.{IssueFault}
use Rattle.issue_core.specs.declared.fault.IssueFault.TheVariants as issue_fault
use Rattle.issue_core.specs.declared.issuing.serving.Answer.{Answer as Issuance}
use Rattle.issue_core.specs.declared.issuing.serving.Answer.TheVariants as issuance
use Rattle.issue_core.specs.Issuing.Calls.{outcome_of, delivery, is_held}
use Rattle.issue_core.specs.Issuing.Causes.{IssueCause}
use Rattle.issue_core.specs.Issuing.Desk.{issuing, is_signed, IssueDelivery}
use Rattle.issue_core.specs.Issuing.Rows.{entries_at, left_row}
use Rattle.issue_core.specs.Issuing.Rules.{Case}
use Rattle.issue_core.specs.Issuing.Signed.{Pair}
use Rattle.holder_core.specs.Faults.{HolderCause}
use Rattle.holder_core.specs.Numbers.{reference_after}
use Rattle.holder_core.specs.OwnRows.{own_rows, ca_rows}
use Rattle.holder_core.specs.Receiving.{Receives}
use Rattle.holder_core.specs.Requesting.{Requests, WritesRequest, authority_in, outer_signer, request_refused, request_late}
use Rattle.holder_core.specs.Signers.{Signer, missing_of}
use Rattle.holder_core.specs.Trusting.{Trusts, trust_due, trusted_row, unwritten}
use Rattle.holder_core.specs.WritesOnce.{WritesOnce, HasWritten}
use Rattle.holder_core.specs.declared.ca_rule.CaRule.TheVariants as rule
use Rattle.holder_core.specs.declared.ca_rule.TakenCa.{TakenCa}
use Rattle.holder_core.specs.declared.ca_rule.TakenCa.TheVariants as taken
use Rattle.holder_core.specs.declared.fault.HolderFault.{HolderFault}
use Rattle.holder_core.specs.declared.fault.HolderFault.TheVariants as fault
use Rattle.holder_core.specs.declared.made.Made.{Made}
use Rattle.holder_core.specs.declared.received.Received.{Received}
use Rattle.holder_core.proofs.Lawfuls.{same_or_written}
use Rattle.cvca_desk.specs.OwnCertificate.{WritesOwn}
use Rattle.cvca_desk.specs.declared.due.Due.{Due}
use Rattle.eac_net.specs.Acting.{founding_reference, TrustsRow, TrustsFounding}
use Rattle.eac_net.specs.Arrival.{Arrival, NotSent, NoCall, AsksCertificate, AsksList, Brings, IsDeclined, NoReply, BringsBack, Notes, arrival}
use Rattle.eac_net.specs.Asking.{asked_on, AskTurn}
use Rattle.eac_net.specs.Delivering.{fate_by, case_at, RequestTurn, ReceiptTurn, Arrives, DeliverTurn}
use Rattle.eac_net.specs.Losing.{Losing, fate_of, Loses}
use Rattle.eac_net.specs.Moment.{Meanings}
use Rattle.eac_net.specs.Packets.{packet_at}
use Rattle.eac_net.specs.Run.{asked_at, asks_of, cases}
use Rattle.eac_net.specs.State.{State, Standing, moved}
use Rattle.eac_net.specs.Steps.{later_day}
use Rattle.eac_net.specs.Turn.{ChipRests, Turn}
use Rattle.eac_net.specs.declared.answer.Answer.{Answer}
use Rattle.eac_net.specs.declared.answer.Trusted.{Trusted}
use Rattle.eac_net.specs.declared.answer.Trusted.TheVariants as trusted
use Rattle.eac_net.specs.declared.event.Event.{Event}
use Rattle.eac_net.specs.declared.event.Event.TheVariants as events
use Rattle.eac_net.specs.declared.packet.Packet.{Packet}
use Rattle.eac_net.proofs.Ledgers.{SameLedgers, same_ledgers, own_ledgers, ca_ledgers, register_grows, register_apart, desk_grows, desk_apart, desk_unregistered}
use Rattle.eac_net.proofs.Pieces.{TellsOn, tells_same, tells_one}
use Rattle.eac_net.proofs.Receipts.{received_ledgers}

-- nothing is lost, or the keeper failed
abbrev pub IsLostBy : State → State → Type 0
IsLostBy s t = (t.lost ≡ s.lost) ⊎ Rose s.keeper t.keeper

-- one event: a piece of the register's story and one of each desk's, with what is told of the day and of faults
pub record TurnTells (m : Meanings) (s : State) (e : Event) (t : State) : Type 0 where
  pub day : t.day ≡ later_day s.day e
  pub asked : cases t.register ≡ cases s.register ++ asks_of s.day e
  pub register : TellsOn register unsigned (entries_of s.rows) (entries_of t.rows) s.register t.register
  pub desks : (desk : ℕ) → TellsOn issuing (is_signed m.says) (entries_at desk s.rows) (entries_at desk t.rows) (s.desks desk) (t.desks desk)
  pub later : s.keeper ≤ t.keeper
  pub lost : IsLostBy s t

-- ---- an event that is no delivery

pub record IsQuiet (s t : State) : Type 0 where
  pub register : t.register ≡ s.register
  pub desks : t.desks ≡ s.desks
  pub ledgers : SameLedgers s.rows t.rows
  pub later : s.keeper ≤ t.keeper
  pub lost : IsLostBy s t

quiet_tells : (m : Meanings) (s : State) (e : Event) (t : State) → t.day ≡ later_day s.day e → asks_of s.day e ≡ [] → IsQuiet s t → TurnTells m s e t
quiet_tells m s e t day none q = record {
  day = day;
  asked = ap cases q.register ∙ sym (append-nil (cases s.register)) ∙ ap (λ (l : List Asked). cases s.register ++ l) (sym none);
  register = tells_same register unsigned (entries_of s.rows) (entries_of t.rows) s.register t.register q.ledgers.register q.register;
  desks = λ desk. tells_same issuing (is_signed m.says) (entries_at desk s.rows) (entries_at desk t.rows) (s.desks desk) (t.desks desk)
      (q.ledgers.desks desk) (ap (λ (f : ℕ → List IssueDelivery). f desk) q.desks);
  later = q.later;
  lost = q.lost;
}

no_earlier : (before now : ℕ) → now ≡ before → before ≤ now
no_earlier before now is = omega (arith, is)

-- the rows and the counts became these
moved_quiet : (s : State) (now : Standing) (rows : List Row) (t : State) → t ≡ moved s now rows → SameLedgers s.rows rows → s.keeper ≤ now.keeper → IsQuiet s t
moved_quiet s now rows t next same later = record {
  register = ap (λ (x : State). x.register) next;
  desks = ap (λ (x : State). x.desks) next;
  ledgers = subst (λ (x : State). SameLedgers s.rows x.rows) (sym next) same;
  later = subst (λ (x : State). s.keeper ≤ x.keeper) (sym next) later;
  lost = inl (ap (λ (x : State). x.lost) next);
}

-- no row changed
kept_quiet : (s : State) (now : Standing) (t : State) → t ≡ moved s now s.rows → s.keeper ≤ now.keeper → IsQuiet s t
kept_quiet s now t next later = moved_quiet s now s.rows t next (same_ledgers s.rows s.rows refl) later

-- an event of a chip
rested_quiet : (s t : State) → ChipRests s t → IsQuiet s t
rested_quiet s t v = record {
  register = ap (λ (x : State). x.register) v.next;
  desks = ap (λ (x : State). x.desks) v.next;
  ledgers = same_ledgers s.rows t.rows (ap (λ (x : State). x.rows) v.next);
  later = v.later;
  lost = inl (ap (λ (x : State). x.lost) v.next);
}

-- and these pairs have no row
signed_quiet : (s : State) (now : Standing) (rows : List Row) (l : Losing) (t : State) → t ≡ record (moved s now rows) { lost = s.lost ++ l.lost; dropped = s.dropped ++ l.dropped } →
    SameLedgers s.rows rows → s.keeper ≤ now.keeper → (l.lost ≡ []) ⊎ Rose s.keeper now.keeper → IsQuiet s t
signed_quiet s now rows l t next same later loses = record {
  register = ap (λ (x : State). x.register) next;
  desks = ap (λ (x : State). x.desks) next;
  ledgers = subst (λ (x : State). SameLedgers s.rows x.rows) (sym next) same;
  later = subst (λ (x : State). s.keeper ≤ x.keeper) (sym next) later;
  lost = by loses;
}
  where
    by : (l.lost ≡ []) ⊎ Rose s.keeper now.keeper → IsLostBy s t
    by (inl none) = inl (ap (λ (x : State). x.lost) next ∙ ap (λ (ps : List Pair). s.lost ++ ps) none ∙ append-nil s.lost)
    by (inr rose) = inr (subst (λ (x : State). Rose s.keeper x.keeper) (sym next) rose)

-- a pair is lost with a fault of the keeper alone
pub loses_by : {A : Type 0} (IsDue : Pair → Type 0) (missing : List ℕ → Type 0) (k p : ℕ × ℕ) (r : Result A HolderFault) (l : Losing) →
    HolderCause missing k p r → Loses IsDue (fate_of r) l → (l.lost ≡ []) ⊎ Rose k.0 k.1
loses_by IsDue missing k p (Ok a) l c h = inl (ap (λ (x : Losing). x.lost) h)
loses_by IsDue missing k p (Err fault.KeeperFault) l c h = inr c.failed
loses_by IsDue missing k p (Err fault.ProviderFault) l c h = inl (ap (λ (x : Losing). x.lost) h)
loses_by IsDue missing k p (Err (fault.NoKey reference)) l c h = inl (ap (λ (x : Losing). x.lost) h)
loses_by IsDue missing k p (Err fault.NoMemory) l c (inl h) = inl (ap (λ (x : Losing). x.lost) h)
loses_by IsDue missing k p (Err fault.NoMemory) l c (inr h) = inl (ap (λ (x : Losing). x.lost) h.2)

-- ---- calls that write no row of a ledger

pub own_call : {A : Type 0} (New : List ℕ → A) (says : Says) (held holds : Holds) (desk : ℕ) (due : Option Due) (refused : Option A) (missing : Option (List ℕ)) (late : Option A) (before after : List Row) (result : Result A HolderFault) →
    WritesOnce refused missing late (WritesOwn New says held holds desk due before) before after result → SameLedgers before after
own_call {A} New says held holds desk due refused missing late before after result h =
    go (same_or_written refused missing late (WritesOwn New says held holds desk due before) before after result h)
  where
    go : (after ≡ before) ⊎ ((answer : A) × HasWritten refused missing late (WritesOwn New says held holds desk due before) after answer) → SameLedgers before after
    go (inl same) = same_ledgers before after same
    go (inr w) = own_ledgers before after desk w.1.written.made.d.reference _ w.1.written.rows

request_call : (m : Meanings) (party : ℕ) (holder authority root : List ℕ) (home : Option Signer) (before after : List Row) (result : Result Made HolderFault) →
    Requests m.says m.held m.holds m.signed party holder authority root home before after result → SameLedgers before after
request_call m party holder authority root home before after result h = go (same_or_written
    (request_refused (own_rows party before) (authority_in authority root (ca_rows party before)))
    (missing_of m.held (outer_signer authority home (own_rows party before)))
    (request_late (is_some (row_at table.Own party (reference_after holder (own_rows party before)) before)))
    (WritesRequest m.says m.held m.holds m.signed party holder authority root home before) before after result h)
  where
    go : (after ≡ before) ⊎ ((answer : Made) × HasWritten
        (request_refused (own_rows party before) (authority_in authority root (ca_rows party before)))
        (missing_of m.held (outer_signer authority home (own_rows party before)))
        (request_late (is_some (row_at table.Own party (reference_after holder (own_rows party before)) before)))
        (WritesRequest m.says m.held m.holds m.signed party holder authority root home before) after answer) → SameLedgers before after
    go (inl same) = same_ledgers before after same
    go (inr w) = own_ledgers before after party (reference_after holder (own_rows party before)) _ w.1.written.rows

trust_call : (party : ℕ) (reference : List ℕ) (ca : CaPart) (before after : List Row) (result : Result TakenCa HolderFault) → Trusts party reference ca before after result → SameLedgers before after
trust_call party reference ca before after result h = go (same_or_written (unwritten (trust_due party reference before)) None None
    (λ answer rows. (answer ≡ taken.Stored reference) × (rows ≡ before ++ trusted_row party reference ca ∷ [])) before after result h)
  where
    go : (after ≡ before) ⊎ ((answer : TakenCa) × HasWritten (unwritten (trust_due party reference before)) None None
        (λ answer rows. (answer ≡ taken.Stored reference) × (rows ≡ before ++ trusted_row party reference ca ∷ [])) after answer) → SameLedgers before after
    go (inl same) = same_ledgers before after same
    go (inr w) = ca_ledgers before after party reference ca w.1.written.1

carried_call : (party : ℕ) (reference : List ℕ) (ca : CaPart) (before after : List Row) (result : Result Trusted HolderFault) → TrustsRow party reference ca before after result → SameLedgers before after
carried_call party reference ca before after (Ok (trusted.Stored r)) h = trust_call party reference ca before after (Ok (taken.Stored r)) h
carried_call party reference ca before after (Ok (trusted.Held r)) h = trust_call party reference ca before after (Ok (taken.Held r)) h
carried_call party reference ca before after (Ok trusted.Full) h = trust_call party reference ca before after (Ok (taken.Refused rule.Full)) h
carried_call party reference ca before after (Ok trusted.Unfounded) h = absurd h
carried_call party reference ca before after (Err f) h = trust_call party reference ca before after (Err f) h

founding_call : (setup : SetupValue) (party authority : ℕ) (before after : List Row) (result : Result Trusted HolderFault) → TrustsFounding setup party authority before after result → SameLedgers before after
founding_call setup party authority before after result (inl h) = same_ledgers before after h.2
founding_call setup party authority before after result (inr (inl h)) = same_ledgers before after h.1
founding_call setup party authority before after result (inr (inr h)) = carried_call party (founding_reference setup authority) h.ca before after result h.trusts

-- ---- the register is asked

cases_more : (ds : Deliveries) (asked : Asked) (more : Deliveries) → cases more ≡ asked ∷ [] → cases (ds ++ more) ≡ cases ds ++ asked ∷ []
cases_more ds asked more is = map-append _ ds more ∙ ap (λ (l : List Asked). cases ds ++ l) is

ask_tells : (m : Meanings) (s : State) (reference bytes : List ℕ) (answer : Option Answer) (t : State) → AskTurn s reference bytes answer t → TurnTells m s (events.Ask reference bytes) t
ask_tells m s reference bytes answer t v =
    let asked : Asked = asked_on v.day reference bytes in
    let d = delivery_of asked (s.keeper, v.faults) v.outcome v.left in
    let list : t.register ≡ s.register ++ d ∷ [] = ap (λ (x : State). x.register) v.next in
    record {
      day = ap (λ (x : State). x.day) v.next;
      asked = ap cases list ∙ cases_more s.register asked (d ∷ []) refl
          ∙ ap (λ (today : Option ℕ). cases s.register ++ asked_at today reference bytes) (sym v.today);
      register = tells_one register unsigned (entries_of s.rows) (entries_of t.rows) s.register t.register d list v.decides
          (ap (λ (x : State). entries_of x.rows) v.next ∙ register_grows s.rows asked v.left);
      desks = λ desk. tells_same issuing (is_signed m.says) (entries_at desk s.rows) (entries_at desk t.rows) (s.desks desk) (t.desks desk)
          (ap (λ (x : State). entries_at desk x.rows) v.next ∙ register_apart s.rows asked v.left desk) (ap (λ (x : State). x.desks desk) v.next);
      later = subst (λ (x : State). s.keeper ≤ x.keeper) (sym v.next) v.later;
      lost = inl (ap (λ (x : State). x.lost) v.next);
    }

-- ---- a packet came

-- a pair of a desk is lost with a fault of the keeper alone
issue_loses : (IsDue : Pair → Type 0) (misses : List ℕ → Type 0) (k p : ℕ × ℕ) (r : Result Issuance IssueFault) (l : Losing) →
    IssueCause misses k p r → Loses IsDue (fate_by (outcome_of r)) l → (l.lost ≡ []) ⊎ Rose k.0 k.1
issue_loses IsDue misses k p (Ok (issuance.Issued certificate)) l c h = inl (ap (λ (x : Losing). x.lost) h)
issue_loses IsDue misses k p (Ok (issuance.Kept certificate)) l c h = inl (ap (λ (x : Losing). x.lost) h)
issue_loses IsDue misses k p (Ok (issuance.Refused k_rule)) l c h = inl (ap (λ (x : Losing). x.lost) h)
issue_loses IsDue misses k p (Err issue_fault.KeeperFault) l c h = inr c.failed
issue_loses IsDue misses k p (Err issue_fault.ProviderFault) l c h = inl (ap (λ (x : Losing). x.lost) h)
issue_loses IsDue misses k p (Err (issue_fault.NoKey reference)) l c h = inl (ap (λ (x : Losing). x.lost) h)
issue_loses IsDue misses k p (Err issue_fault.NoMemory) l c (inl h) = inl (ap (λ (x : Losing). x.lost) h)
issue_loses IsDue misses k p (Err issue_fault.NoMemory) l c (inr h) = inl (ap (λ (x : Losing). x.lost) h.2)

module _ (setup : SetupValue) (m : Meanings) (s : State) where
  module _ (p : Packet) (id request : List ℕ) (answer : Option Answer) (t : State) (v : RequestTurn setup m s p id request answer t) where
    abbrev c : Case
    c = case_at setup m s p.to v.day request

    abbrev d : IssueDelivery
    d = delivery c (outcome_of v.event.issued) v.event.does.left (s.keeper, v.now.keeper) (s.provider, v.now.provider) (is_held m.held c)

    rows_are : t.rows ≡ s.rows ++ left_row p.to request v.event.does.left
    rows_are = ap (λ (x : State). x.rows) v.next ∙ v.event.does.rows

    at_desk : TellsOn issuing (is_signed m.says) (entries_at p.to s.rows) (entries_at p.to t.rows) (s.desks p.to) (t.desks p.to)
    at_desk = tells_one issuing (is_signed m.says) (entries_at p.to s.rows) (entries_at p.to t.rows) (s.desks p.to) (t.desks p.to) d
        (ap (λ (x : State). x.desks p.to) v.next ∙ ap (λ (b : Bool). cond b (s.desks p.to ++ d ∷ []) (s.desks p.to)) (eq-eqb p.to p.to refl))
        v.event.does.decides
        (ap (entries_at p.to) rows_are
        ∙ desk_grows m.says c (outcome_of v.event.issued) v.event.does.left (s.keeper, v.now.keeper) (s.provider, v.now.provider) (is_held m.held c) s.rows v.event.does.decides.left)

    elsewhere : (desk : ℕ) → desk ≢ p.to → TellsOn issuing (is_signed m.says) (entries_at desk s.rows) (entries_at desk t.rows) (s.desks desk) (t.desks desk)
    elsewhere desk ne = tells_same issuing (is_signed m.says) (entries_at desk s.rows) (entries_at desk t.rows) (s.desks desk) (t.desks desk)
        (ap (entries_at desk) rows_are ∙ desk_apart p.to desk request v.event.does.left s.rows (ne_eqb p.to desk (λ e. ne (sym e))))
        (ap (λ (x : State). x.desks desk) v.next ∙ ap (λ (b : Bool). cond b (s.desks desk ++ d ∷ []) (s.desks desk)) (ne_eqb desk p.to ne))

    at_any : (desk : ℕ) → (desk ≡ p.to) ⊎ (desk ≢ p.to) → TellsOn issuing (is_signed m.says) (entries_at desk s.rows) (entries_at desk t.rows) (s.desks desk) (t.desks desk)
    at_any desk (inl same) =
        subst (λ (n : ℕ). TellsOn issuing (is_signed m.says) (entries_at n s.rows) (entries_at n t.rows) (s.desks n) (t.desks n)) (sym same) at_desk
    at_any desk (inr ne) = elsewhere desk ne

    request_lost : (v.losing.lost ≡ []) ⊎ Rose s.keeper v.now.keeper → IsLostBy s t
    request_lost (inl none) = inl (ap (λ (x : State). x.lost) v.next ∙ ap (λ (ps : List Pair). s.lost ++ ps) none ∙ append-nil s.lost)
    request_lost (inr rose) = inr (subst (λ (x : State). Rose s.keeper x.keeper) (sym v.next) rose)

    request_tells : (number : ℕ) → TurnTells m s (events.Deliver number) t
    request_tells number = record {
      day = ap (λ (x : State). x.day) v.next;
      asked = ap (λ (x : State). cases x.register) v.next ∙ sym (append-nil (cases s.register));
      register = tells_same register unsigned (entries_of s.rows) (entries_of t.rows) s.register t.register
          (ap entries_of rows_are ∙ desk_unregistered p.to request v.event.does.left s.rows) (ap (λ (x : State). x.register) v.next);
      desks = λ desk. at_any desk (cases_eq desk p.to);
      later = subst (λ (x : State). s.keeper ≤ x.keeper) (sym v.next) v.event.cause.keeper_later;
      lost = request_lost (issue_loses _ _ _ _ v.event.issued v.losing v.event.cause v.loses);
    }

  receipt_tells : (number : ℕ) (E : Standing → (Received → Type 0) → Type 0) (party : ℕ) (certificates : List (List ℕ)) (t : State) (v : ReceiptTurn setup m s E party certificates t) (received : Received) →
      Receives m.said party certificates s.rows v.rows received.items received.fault v.asked → s.keeper ≤ v.now.keeper → TurnTells m s (events.Deliver number) t
  receipt_tells number E party certificates t v received does later = quiet_tells m s (events.Deliver number) t (ap (λ (x : State). x.day) v.next) refl (record {
    register = ap (λ (x : State). x.register) v.next;
    desks = ap (λ (x : State). x.desks) v.next;
    ledgers = subst (λ (x : State). SameLedgers s.rows x.rows) (sym v.next) (received_ledgers m.said party certificates s.rows v.rows received.items received.fault v.asked does);
    later = subst (λ (x : State). s.keeper ≤ x.keeper) (sym v.next) later;
    lost = inl (ap (λ (x : State). x.lost) v.next);
  })

  kept_tells : (number : ℕ) (now : Standing) (t : State) → t ≡ moved s now s.rows → s.keeper ≤ now.keeper → TurnTells m s (events.Deliver number) t
  kept_tells number now t next later = quiet_tells m s (events.Deliver number) t (ap (λ (x : State). x.day) next) refl (kept_quiet s now t next later)

  idle_tells : (number : ℕ) (now : Standing) (t : State) → t ≡ moved s now s.rows → now.keeper ≡ s.keeper → TurnTells m s (events.Deliver number) t
  idle_tells number now t next same = kept_tells number now t next (no_earlier s.keeper now.keeper same)

  arrives_tells : (number : ℕ) (came : Option Packet) (arrived : Arrival) (answer : Option Answer) (t : State) → Arrives setup m s came arrived answer t → TurnTells m s (events.Deliver number) t
  arrives_tells number (Some p) (AsksCertificate id request) answer t v = request_tells p id request answer t v number
  arrives_tells number (Some p) (AsksList id) answer t v = kept_tells number v.now t v.next v.event.cause.later
  arrives_tells number (Some p) (Brings id certificates) answer t v = receipt_tells number _ p.to certificates t v v.event.received v.event.does v.event.cause.keeper_later
  arrives_tells number (Some p) (BringsBack certificates) answer t v = receipt_tells number _ p.to certificates t v v.event.received v.event.does v.event.cause.keeper_later
  arrives_tells number (Some p) NoCall answer t v = idle_tells number v.now t v.next v.event.keeper
  arrives_tells number (Some p) (IsDeclined id) answer t v = idle_tells number v.now t v.next v.event.keeper
  arrives_tells number (Some p) NoReply answer t v = idle_tells number v.now t v.next v.event.keeper
  arrives_tells number (Some p) (Notes code) answer t v = idle_tells number v.now t v.next v.event.keeper
  arrives_tells number (Some p) NotSent answer t v = absurd v
  arrives_tells number None arrived answer t v = idle_tells number v.now t v.next v.event.keeper

  delivered_tells : (number : ℕ) (answer : Option Answer) (t : State) → DeliverTurn setup m s number answer t → TurnTells m s (events.Deliver number) t
  delivered_tells number answer t (inl nothing) = quiet_tells m s (events.Deliver number) t (ap (λ (x : State). x.day) nothing.1) refl (record {
    register = ap (λ (x : State). x.register) nothing.1;
    desks = ap (λ (x : State). x.desks) nothing.1;
    ledgers = same_ledgers s.rows t.rows (ap (λ (x : State). x.rows) nothing.1);
    later = no_earlier s.keeper t.keeper (ap (λ (x : State). x.keeper) nothing.1);
    lost = inl (ap (λ (x : State). x.lost) nothing.1);
  })
  delivered_tells number answer t (inr v) = arrives_tells number (packet_at s.packets number) (arrival setup (packet_at s.packets number)) answer t v

-- ---- any event

module _ (setup : SetupValue) (m : Meanings) (s : State) where
  pub turn_tells : (e : Event) (answer : Option Answer) (t : State) → Turn setup m s e answer t → TurnTells m s e t
  turn_tells (events.Day day) answer t v = quiet_tells m s (events.Day day) t (ap (λ (x : State). x.day) v.1) refl (record {
    register = ap (λ (x : State). x.register) v.1;
    desks = ap (λ (x : State). x.desks) v.1;
    ledgers = same_ledgers s.rows t.rows (ap (λ (x : State). x.rows) v.1);
    later = no_earlier s.keeper t.keeper (ap (λ (x : State). x.keeper) v.1);
    lost = inl (ap (λ (x : State). x.lost) v.1);
  })
  turn_tells (events.Ask reference bytes) answer t v = ask_tells m s reference bytes answer t v
  turn_tells (events.Found authority) answer t v =
      let a = v.event.event in
      quiet_tells m s (events.Found authority) t (ap (λ (x : State). x.day) v.next) refl
      (signed_quiet s v.now v.rows v.losing t v.next (own_call _ m.says m.held m.holds authority _ _ _ _ s.rows v.rows a.result a.does.0)
      a.cause.keeper_later (loses_by _ _ _ _ a.result v.losing a.cause a.does.1))
  turn_tells (events.Link authority) answer t v =
      let a = v.event.event in
      quiet_tells m s (events.Link authority) t (ap (λ (x : State). x.day) v.next) refl
      (signed_quiet s v.now v.rows v.losing t v.next (own_call _ m.says m.held m.holds authority _ _ _ _ s.rows v.rows a.result a.does.0.rows)
      a.cause.keeper_later (loses_by _ _ _ _ a.result v.losing a.cause a.does.1))
  turn_tells (events.Trust party authority) answer t v =
      quiet_tells m s (events.Trust party authority) t (ap (λ (x : State). x.day) v.next) refl
      (moved_quiet s v.now v.rows t v.next (founding_call setup party authority s.rows v.rows v.event.result v.event.does) v.event.cause.later)
  turn_tells (events.Apply holder authority root) answer t v =
      quiet_tells m s (events.Apply holder authority root) t (ap (λ (x : State). x.day) v.next) refl
      (moved_quiet s v.now v.rows t v.next (request_call m holder _ _ _ _ s.rows v.rows v.event.result v.event.does) v.event.cause.keeper_later)
  turn_tells (events.Fetch party desk) answer t v =
      quiet_tells m s (events.Fetch party desk) t (ap (λ (x : State). x.day) v.next) refl
      (kept_quiet s v.now t v.next (no_earlier s.keeper v.now.keeper v.event.keeper))
  turn_tells (events.Push desk party) answer t v =
      quiet_tells m s (events.Push desk party) t (ap (λ (x : State). x.day) v.next) refl (kept_quiet s v.now t v.next v.event.cause.later)
  turn_tells (events.Send from to bytes) answer t v =
      quiet_tells m s (events.Send from to bytes) t (ap (λ (x : State). x.day) v.next) refl
      (kept_quiet s v.now t v.next (no_earlier s.keeper v.now.keeper v.event.keeper))
  turn_tells (events.Deliver number) answer t v = delivered_tells setup m s number answer t v
  turn_tells (events.Make chip authority) answer t v = quiet_tells m s (events.Make chip authority) t (ap (λ (x : State). x.day) v.next) refl (rested_quiet s t v)
  turn_tells (events.Present chip terminal) answer t v = quiet_tells m s (events.Present chip terminal) t (ap (λ (x : State). x.day) v.next) refl (rested_quiet s t v)
  turn_tells (events.Import chip bytes) answer t v = quiet_tells m s (events.Import chip bytes) t (ap (λ (x : State). x.day) v.next) refl (rested_quiet s t v)
  turn_tells (events.Look chip) answer t v = quiet_tells m s (events.Look chip) t (ap (λ (x : State). x.day) v.next) refl (rested_quiet s t v)

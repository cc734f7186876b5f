-- Where the rows are told no key is missing: the key of each own row is held, and whoever signs is an own row.
use Rattle.std.proofs.Common.{◌≡◌, ℕ, List, [], ◌∷◌, Bool, true, false, true≢false, cond, Some, None, Ok, Err, inl, inr, refl, sym, ap, ◌∙◌, subst}
use Rattle.std.specs.Prelude.{IfSome, option_and_then, nat_lt}
use Rattle.std.specs.declared.option.Option.{Option}
use Rattle.std.specs.declared.result.Result.{Result}
use Rattle.std.specs.List.{All, AllByRecursion, find, cons_option}
use Rattle.std.specs.Str.{bytes_eq}
use Rattle.std.proofs.lemmas.List.Elements.{All-contains, All-filter, recursion_from_All}
use Rattle.signature_provider.specs.declared.key.Key.{Key}
use Rattle.signature_provider.specs.Provider.{Says, Holds, public_key}
use Rattle.cvc_grammar.specs.declared.refusal.CvcRefusal.{CvcRefusal}
use Rattle.cvc_grammar.specs.declared.request.Request.{Request}
use Rattle.holder_reference.specs.Reference.{holder_part}
use Rattle.policy_limits.specs.Setup.{SetupValue, number_of}
use Rattle.keeper.specs.declared.rows.Row.{Row}
use Rattle.keeper.specs.declared.rows.Settled.{Settled}
use Rattle.keeper.specs.declared.rows.Part.{Part}
use Rattle.keeper.specs.declared.rows.Part.TheVariants as part
use Rattle.keeper.specs.declared.rows.Table.TheVariants as table
use Rattle.keeper.specs.Rows.{is_of, has_key, row_at}
use Rattle.ledger.specs.Ledger.{Outcome, Issued, Kept, Refused, Faulted, NoMemory}
use Rattle.issue_core.specs.declared.rule.Rule.{Rule}
use Rattle.issue_core.specs.declared.fault.IssueFault.{IssueFault}
use Rattle.issue_core.specs.declared.fault.IssueFault.TheVariants as issue_fault
use Rattle.issue_core.specs.declared.issuing.serving.Answer.{Answer as Issuance}
use Rattle.issue_core.specs.declared.issuing.serving.Answer.TheVariants as issuance
use Rattle.issue_core.specs.declared.issuing.signer_row.Signer.{Signer as IssueSigner}
use Rattle.issue_core.specs.Registering.Desk.{RegisterFault}
use Rattle.issue_core.specs.Issuing.Calls.{Serves, outcome_of, is_held, held_in, signer_held}
use Rattle.issue_core.specs.Issuing.Desk.{KeyMissing}
use Rattle.issue_core.specs.Issuing.Readings.{request_of}
use Rattle.issue_core.specs.Issuing.Rules.{Case, settled_as, signer_of as issue_signer, signers, newer, newest, named, signer}
use Rattle.holder_core.specs.Faults.{HolderCause, KeeperCaused, NoneMissing}
use Rattle.holder_core.specs.OwnRows.{own_part, own_rows}
use Rattle.holder_core.specs.Receiving.{ending}
use Rattle.holder_core.specs.Requesting.{home_signer, or_home, outer_signer}
use Rattle.holder_core.specs.Signers.{Signer, missing_of, newest_wanted}
use Rattle.holder_core.specs.WritesOnce.{WritesOnce}
use Rattle.holder_core.specs.declared.fault.HolderFault.{HolderFault}
use Rattle.holder_core.specs.declared.fault.HolderFault.TheVariants as fault
use Rattle.holder_core.specs.declared.newest.Wanted.TheVariants as wanted
use Rattle.holder_core.specs.declared.received.Received.{Received}
use Rattle.desk_core.specs.Replies.{request_served, list_served}
use Rattle.cvca_desk.specs.Linking.{link_signer}
use Rattle.eac_net.specs.Acting.{home_of, home_for, home_reference, applied_as}
use Rattle.eac_net.specs.Answers.{answer_by, outcome_answer}
use Rattle.eac_net.specs.Arrival.{Arrival, NotSent, NoCall, AsksCertificate, AsksList, Brings, IsDeclined, NoReply, BringsBack, Notes, arrival}
use Rattle.eac_net.specs.ChipSays.{ChipSays}
use Rattle.eac_net.specs.Delivered.{served_answer}
use Rattle.eac_net.specs.Delivering.{case_at, Arrives, DeliverTurn}
use Rattle.eac_net.specs.Items.{Ran}
use Rattle.eac_net.specs.Laws.{IsToldAs, ReceiptFails, FailsWith, HasFault, NoKeyIsMissing}
use Rattle.eac_net.specs.Moment.{Meanings, AllHeld, means}
use Rattle.eac_net.specs.Packets.{next_number, packet_at}
use Rattle.eac_net.specs.State.{State}
use Rattle.eac_net.specs.Turn.{Turn}
use Rattle.eac_net.specs.declared.answer.Answer.{Answer}
use Rattle.eac_net.specs.declared.answer.Answer.TheVariants as answers
use Rattle.eac_net.specs.declared.answer.Fault.TheVariants as faults
use Rattle.eac_net.specs.declared.event.Event.{Event}
use Rattle.eac_net.specs.declared.event.Event.TheVariants as events
use Rattle.eac_net.specs.declared.packet.Packet.{Packet}
use Rattle.eac_net.proofs.Causes.{told_of, received_told, took_told}
use Rattle.eac_net.proofs.ChipCauses.{chip_no_key}
use Rattle.eac_net.proofs.Finding.{none_some, SignsFor, IsSigner, signer_of, own_row_of, link_signs, asked_signs}

-- ---- whoever signs has a key that is held

module _ (held : Holds) where
  abbrev HeldRow : Row → Type 0
  HeldRow row = IfSome (own_part row.part) (λ own. held (public_key own.key) ≡ true)

  row_held : (row : Row) (s : Signer) → HeldRow row → IsSigner row s → held (public_key s.key) ≡ true
  row_held row s h is =
      let own : held (public_key is.own.key) ≡ true = subst (λ (p : Part). IfSome (own_part p) (λ own. held (public_key own.key) ≡ true)) is.part_is h in
      subst (λ (k : Key). held (public_key k) ≡ true) is.key_is own

  signs_held : (desk : ℕ) (rows : List Row) (s : Signer) → AllHeld held rows → SignsFor desk rows s → held (public_key s.key) ≡ true
  signs_held desk rows s all signs =
      let among = (own_row_of desk rows signs.row signs.among).among in
      row_held signs.row s (All-contains HeldRow rows signs.row all among) signs.signer

  found_or : (x row : Row) (rest : Option Row) (b : Bool) → HeldRow x → (rest ≡ Some row → HeldRow row) → cond b (Some x) rest ≡ Some row → HeldRow row
  found_or x row rest true h more e = let same : x ≡ row = cc in subst HeldRow same h
  found_or x row rest false h more e = more e

  found_held : (test : Row → Bool) (rows : List Row) (row : Row) → AllByRecursion HeldRow rows → find test rows ≡ Some row → HeldRow row
  found_held test [] row all e = absurd (none_some row e)
  found_held test (x ∷ rows) row all e = found_or x row (find test rows) (test x) all.0 (found_held test rows row all.1) e

  home_held : (setup : SetupValue) (rows : List Row) (reference : Option (List ℕ)) (s : Signer) → AllHeld held rows → home_for setup reference rows ≡ Some s → held (public_key s.key) ≡ true
  home_held setup rows None s all e = absurd (none_some s e)
  home_held setup rows (Some r) s all e = at (number_of setup (holder_part r)) e
    where
      with_row : (desk : ℕ) (x : Option Row) → row_at table.Own desk r rows ≡ x → home_signer x ≡ Some s → held (public_key s.key) ≡ true
      with_row desk None is k = absurd (none_some s k)
      with_row desk (Some row) is k = row_held row s (found_held (has_key table.Own desk r) rows row (recursion_from_All HeldRow rows all) is) (signer_of row s k)

      at : (desk : Option ℕ) → home_signer (option_and_then (λ d. row_at table.Own d r rows) desk) ≡ Some s → held (public_key s.key) ≡ true
      at None k = absurd (none_some s k)
      at (Some desk) k = with_row desk (row_at table.Own desk r rows) refl k

  outer_held : (setup : SetupValue) (rows : List Row) (desk : ℕ) (authority : List ℕ) (reference : Option (List ℕ)) (s : Signer) → AllHeld held rows →
      outer_signer authority (home_for setup reference rows) (own_rows desk rows) ≡ Some s → held (public_key s.key) ≡ true
  outer_held setup rows desk authority reference s all e = go (newest_wanted (wanted.AskedFrom authority) (own_rows desk rows)) refl e
    where
      go : (x : Option Signer) → newest_wanted (wanted.AskedFrom authority) (own_rows desk rows) ≡ x → or_home x (home_for setup reference rows) ≡ Some s → held (public_key s.key) ≡ true
      go None is k = home_held setup rows reference s all k
      go (Some x) is k = signs_held desk rows s all (asked_signs authority desk rows s (is ∙ k))

  none_missing : (o : Option Signer) → ((s : Signer) → o ≡ Some s → held (public_key s.key) ≡ true) → (reference : List ℕ) → missing_of held o ≡ Some reference → ⊥
  none_missing None all reference e = none_some reference e
  none_missing (Some s) all reference e = none_some reference (sym (ap (λ (b : Bool). cond b None (Some s.reference)) (all s refl)) ∙ e)

-- ---- answers that tell a key

keeper_key : (reference : List ℕ) → faults.Keeper ≡ faults.Key reference → ⊥
keeper_key reference e = absurd (cc)

provider_key : (reference : List ℕ) → faults.Provider ≡ faults.Key reference → ⊥
provider_key reference e = absurd (cc)

-- of a party's call, where none is missing
pub key_told : {A : Type 0} (mk : A → Answer) → ((a : A) (reference : List ℕ) → FailsWith (faults.Key reference) (mk a) → ⊥) → (result : Result A HolderFault) →
    ((reference : List ℕ) → result ≡ Err (fault.NoKey reference) → ⊥) → (reference : List ℕ) → HasFault (faults.Key reference) (answer_by mk result) → ⊥
key_told mk quiet (Ok a) never reference h = quiet a reference h
key_told mk quiet (Err fault.KeeperFault) never reference h = keeper_key reference h
key_told mk quiet (Err fault.ProviderFault) never reference h = provider_key reference h
key_told mk quiet (Err (fault.NoKey r)) never reference h = never r refl
key_told mk quiet (Err fault.NoMemory) never reference h = h

-- one that may miss none
cause_never : {A : Type 0} (missing : List ℕ → Type 0) (k p : ℕ × ℕ) (result : Result A HolderFault) → HolderCause missing k p result → ((reference : List ℕ) → missing reference → ⊥) →
    (reference : List ℕ) → result ≡ Err (fault.NoKey reference) → ⊥
cause_never {A} missing k p result c none reference e = none reference (subst (λ (r : Result A HolderFault). HolderCause missing k p r) e c).failed

-- one that asks the keeper alone
pub keeper_never : {A : Type 0} (before now : ℕ) (result : Result A HolderFault) → KeeperCaused before now result → (reference : List ℕ) → result ≡ Err (fault.NoKey reference) → ⊥
keeper_never {A} before now result c reference e = (subst (λ (r : Result A HolderFault). KeeperCaused before now r) e c).failed

-- one that writes once, where the row to sign with has its key
written_never : {A : Type 0} (unwritten late : Option A) (missing : Option (List ℕ)) (Written : A → List Row → Type 0) (before after : List Row) (result : Result A HolderFault) →
    ((reference : List ℕ) → missing ≡ Some reference → ⊥) → WritesOnce unwritten missing late Written before after result → (reference : List ℕ) → result ≡ Err (fault.NoKey reference) → ⊥
written_never {A} unwritten late missing Written before after result none w reference e =
    none reference (subst (λ (r : Result A HolderFault). WritesOnce unwritten missing late Written before after r) e w).1

registered_key : (named reference : List ℕ) (outcome : Outcome (List ℕ) Rule RegisterFault) → HasFault (faults.Key reference) (outcome_answer named outcome) → ⊥
registered_key named reference (Issued day) h = h
registered_key named reference (Kept day) h = h
registered_key named reference (Refused rule) h = h
registered_key named reference (Faulted x) h = keeper_key reference h
registered_key named reference NoMemory h = h

-- ---- a delivery

-- the desk's own rows have the key to sign with
module _ (held : Holds) where
  HeldBy : IssueSigner → Type 0
  HeldBy s = held (public_key s.key) ≡ true

  settled_held : (reference : List ℕ) (key : Key) (o : Option Settled) → held (public_key key) ≡ true → IfSome (settled_as reference key o) HeldBy
  unfolding HeldBy
  settled_held reference key (Some s) h = h
  settled_held reference key None h = tt

  part_held : (reference : List ℕ) (q : Part) → IfSome (own_part q) (λ own. held (public_key own.key) ≡ true) → IfSome (issue_signer reference q) HeldBy
  part_held reference (part.Own own) h = settled_held reference own.key own.settled h
  part_held reference (part.Register request day) h = tt
  part_held reference (part.Issued p) h = tt
  part_held reference (part.Ca p) h = tt

  one_more : (o : Option IssueSigner) (ss : List IssueSigner) → IfSome o HeldBy → AllByRecursion HeldBy ss → AllByRecursion HeldBy (cons_option o ss)
  one_more (Some s) ss h k = (h, k)
  one_more None ss h k = k

  signers_held : (rows : List Row) → AllByRecursion (HeldRow held) rows → AllByRecursion HeldBy (signers rows)
  signers_held [] h = tt
  signers_held (row ∷ rows) h = one_more (issue_signer row.reference row.part) (signers rows) (part_held row.reference row.part h.0) (signers_held rows h.1)

  newer_held : (s : IssueSigner) (o : Option IssueSigner) → HeldBy s → IfSome o HeldBy → HeldBy (newer s o)
  newer_held s None h k = h
  newer_held s (Some t) h k = go (nat_lt t.settled.from s.settled.from)
    where
      go : (b : Bool) → HeldBy (cond b s t)
      go true = h
      go false = k

  newest_held : (ss : List IssueSigner) → AllByRecursion HeldBy ss → IfSome (newest ss) HeldBy
  newest_held [] h = tt
  newest_held (s ∷ ss) h = newer_held s (newest ss) h.0 (newest_held ss h.1)

  find_or : (s : IssueSigner) (rest : Option IssueSigner) (b : Bool) → HeldBy s → IfSome rest HeldBy → IfSome (cond b (Some s) rest) HeldBy
  find_or s rest true h more = h
  find_or s rest false h more = more

  find_held : (test : IssueSigner → Bool) (ss : List IssueSigner) → AllByRecursion HeldBy ss → IfSome (find test ss) HeldBy
  find_held test [] h = tt
  find_held test (s ∷ ss) h = find_or s (find test ss) (test s) h.0 (find_held test ss h.1)

  named_held : (reference : Option (List ℕ)) (ss : List IssueSigner) → AllByRecursion HeldBy ss → IfSome (named reference ss) HeldBy
  named_held (Some reference) ss h = find_held (λ s. bytes_eq s.reference reference) ss h
  named_held None ss h = newest_held ss h

  some_held : (o : Option IssueSigner) → IfSome o HeldBy → signer_held held o ≡ true
  unfolding HeldBy
  some_held (Some s) h = h
  some_held None h = refl

  read_held : (c : Case) (read : Result Request CvcRefusal) → AllByRecursion HeldBy (signers c.own) → held_in held c read ≡ true
  read_held c (Ok r) h = some_held (signer c r) (named_held r.body.authority (signers c.own) h)
  read_held c (Err e) h = refl

  case_held : (c : Case) (rows : List Row) → c.own ≡ own_rows c.desk rows → AllHeld held rows → is_held held c ≡ true
  case_held c rows own all =
      let mine : All (HeldRow held) (own_rows c.desk rows) = All-filter (is_of table.Own c.desk) (HeldRow held) rows all in
      let signing : AllByRecursion HeldBy (signers (own_rows c.desk rows)) = signers_held (own_rows c.desk rows) (recursion_from_All (HeldRow held) (own_rows c.desk rows) mine) in
      read_held c (request_of c.bytes) (subst (λ (l : List Row). AllByRecursion HeldBy (signers l)) (sym own) signing)

-- so a desk's delivery misses none
pub serves_never : (says : Says) (held : Holds) (c : Case) (k p : ℕ × ℕ) (before after : List Row) (result : Result Issuance IssueFault) → c.own ≡ own_rows c.desk before → AllHeld held before →
    Serves says held c (outcome_of result) k p before after → (reference : List ℕ) → result ≡ Err (issue_fault.NoKey reference) → ⊥
serves_never says held c k p before after result own all served reference e =
    let at : Serves says held c (Faulted (KeyMissing reference)) k p before after = subst (λ (r : Result Issuance IssueFault). Serves says held c (outcome_of r) k p before after) e served in
    true≢false (sym (case_held held c before own all) ∙ at.decides.told.2)

-- what is told of a request, where no key is missing
request_key : (reference : List ℕ) (reply : ℕ) (id request : List ℕ) (result : Result Issuance IssueFault) → ((r : List ℕ) → result ≡ Err (issue_fault.NoKey r) → ⊥) →
    HasFault (faults.Key reference) (served_answer reply (request_served id request result)) → ⊥
request_key reference reply id request (Ok (issuance.Issued p)) never h = h
request_key reference reply id request (Ok (issuance.Kept p)) never h = h
request_key reference reply id request (Ok (issuance.Refused k)) never h = h
request_key reference reply id request (Err issue_fault.KeeperFault) never h = absurd (cc (h))
request_key reference reply id request (Err issue_fault.ProviderFault) never h = absurd (cc (h))
request_key reference reply id request (Err (issue_fault.NoKey r)) never h = never r refl
request_key reference reply id request (Err issue_fault.NoMemory) never h = h

-- of a list
list_key : (reference : List ℕ) (reply : ℕ) (id : List ℕ) (result : Result (List (List ℕ)) HolderFault) → ((r : List ℕ) → result ≡ Err (fault.NoKey r) → ⊥) →
    HasFault (faults.Key reference) (served_answer reply (list_served id result)) → ⊥
list_key reference reply id (Ok list) never h = h
list_key reference reply id (Err fault.KeeperFault) never h = absurd (cc (h))
list_key reference reply id (Err fault.ProviderFault) never h = absurd (cc (h))
list_key reference reply id (Err (fault.NoKey r)) never h = never r refl
list_key reference reply id (Err fault.NoMemory) never h = h

-- of certificates
told_key : (reference : List ℕ) (x : HolderFault) → IsToldAs (faults.Key reference) x → x ≡ fault.NoKey reference
told_key reference fault.KeeperFault e = absurd (cc (e))
told_key reference fault.ProviderFault e = absurd (cc (e))
told_key reference (fault.NoKey r) e = cc
told_key reference fault.NoMemory e = absurd (cc (e))

receipt_key : (reference : List ℕ) (k p : ℕ × ℕ) (r : Received) → HolderCause NoneMissing k p (ending r.fault) → ReceiptFails (faults.Key reference) r → ⊥
receipt_key reference k p r c h =
    cause_never NoneMissing k p (ending r.fault) c (λ x miss. miss) reference
    (ap ending h.1 ∙ ap (λ (x : HolderFault). Err x) (told_key reference h.0 h.2))

-- ---- one turn

module _ (setup : SetupValue) (m : Meanings) (s : State) (keys : AllHeld m.held s.rows) (reference : List ℕ) where
  link_missing : (authority : ℕ) (r : List ℕ) → missing_of m.held (link_signer (own_rows authority s.rows)) ≡ Some r → ⊥
  link_missing authority = none_missing m.held (link_signer (own_rows authority s.rows)) (λ x is. signs_held m.held authority s.rows x keys (link_signs authority s.rows x is))

  apply_missing : (holder authority : ℕ) (asked : List ℕ) (r : List ℕ) → missing_of m.held (outer_signer asked (home_of setup authority holder s.rows) (own_rows holder s.rows)) ≡ Some r → ⊥
  apply_missing holder authority asked = none_missing m.held (outer_signer asked (home_of setup authority holder s.rows) (own_rows holder s.rows))
      (λ x is. outer_held m.held setup s.rows holder asked (home_reference setup authority holder) x keys is)

  arrives_holds : (came : Option Packet) (arrived : Arrival) (answer : Option Answer) (t : State) → Arrives setup m s came arrived answer t → HasFault (faults.Key reference) answer → ⊥
  arrives_holds (Some p) (AsksCertificate id request) answer t v h =
      request_key reference _ id request v.event.issued
      (serves_never m.says m.held (case_at setup m s p.to v.day request) _ _ s.rows v.rows v.event.issued refl keys v.event.does)
      (told_of _ _ answer _ _ (faults.Key reference) v.event.ends h)
  arrives_holds (Some p) (AsksList id) answer t v h =
      list_key reference _ id v.event.result (keeper_never _ _ v.event.result v.event.cause) (told_of _ _ answer _ _ (faults.Key reference) v.event.ends h)
  arrives_holds (Some p) (Brings id certificates) answer t v h =
      receipt_key reference _ _ v.event.received v.event.cause
      (received_told (faults.Key reference) _ id v.event.received v.event.received.fault (told_of _ _ answer _ _ (faults.Key reference) v.event.ends h))
  arrives_holds (Some p) (BringsBack certificates) answer t v h =
      receipt_key reference _ _ v.event.received v.event.cause
      (took_told (faults.Key reference) v.event.received v.event.received.fault (told_of _ _ answer _ _ (faults.Key reference) v.event.ends h))
  arrives_holds (Some p) NoCall answer t v h = absurd (told_of _ _ answer _ _ (faults.Key reference) v.event.ends h)
  arrives_holds (Some p) (IsDeclined id) answer t v h = absurd (told_of _ _ answer _ _ (faults.Key reference) v.event.ends h)
  arrives_holds (Some p) NoReply answer t v h = absurd (told_of _ _ answer _ _ (faults.Key reference) v.event.ends h)
  arrives_holds (Some p) (Notes code) answer t v h = absurd (told_of _ _ answer _ _ (faults.Key reference) v.event.ends h)
  arrives_holds (Some p) NotSent answer t v h = v
  arrives_holds None arrived answer t v h = absurd (told_of _ _ answer _ _ (faults.Key reference) v.event.ends h)

  delivered_holds : (number : ℕ) (answer : Option Answer) (t : State) → DeliverTurn setup m s number answer t → HasFault (faults.Key reference) answer → ⊥
  delivered_holds number answer t (inl nothing) h = absurd (subst (HasFault (faults.Key reference)) nothing.0 h)
  delivered_holds number answer t (inr v) h = arrives_holds (packet_at s.packets number) (arrival setup (packet_at s.packets number)) answer t v h

  turn_holds : (e : Event) (i : Ran) (t : State) → ChipSays e i → Turn setup m s e i.answer t → HasFault (faults.Key reference) i.answer → ⊥
  turn_holds (events.Day day) i t c v h = absurd (subst (HasFault (faults.Key reference)) v.0 h)
  turn_holds (events.Ask named bytes) i t c v h = registered_key named reference v.outcome (subst (HasFault (faults.Key reference)) v.told h)
  turn_holds (events.Found authority) i t c v h =
      let a = v.event.event in
      key_told answers.Founded (λ a r k. k) a.result (cause_never NoneMissing _ _ a.result a.cause (λ r miss. miss)) reference
      (told_of _ _ i.answer _ _ (faults.Key reference) a.ends h)
  turn_holds (events.Link authority) i t c v h =
      let a = v.event.event in
      key_told answers.Linked (λ a r k. k) a.result (written_never _ _ _ _ s.rows v.rows a.result (link_missing authority) a.does.0.rows) reference
      (told_of _ _ i.answer _ _ (faults.Key reference) a.ends h)
  turn_holds (events.Trust party authority) i t c v h =
      key_told answers.Trusted (λ a r k. k) v.event.result (keeper_never _ _ v.event.result v.event.cause) reference
      (told_of _ _ i.answer _ _ (faults.Key reference) v.event.ends h)
  turn_holds (events.Apply holder authority root) i t c v h =
      key_told (λ a. answers.Applied (applied_as (next_number s.packets) a)) (λ a r k. k) v.event.result
      (written_never _ _ _ _ s.rows v.rows v.event.result (apply_missing holder authority _) v.event.does) reference
      (told_of _ _ i.answer _ _ (faults.Key reference) v.event.ends h)
  turn_holds (events.Fetch party desk) i t c v h = absurd (told_of _ _ i.answer _ _ (faults.Key reference) v.event.ends h)
  turn_holds (events.Push desk party) i t c v h =
      key_told (λ (list : List (List ℕ)). answers.Sent (next_number s.packets)) (λ a r k. k) v.event.result (keeper_never _ _ v.event.result v.event.cause) reference
      (told_of _ _ i.answer _ _ (faults.Key reference) v.event.ends h)
  turn_holds (events.Send from to bytes) i t c v h = absurd (told_of _ _ i.answer _ _ (faults.Key reference) v.event.ends h)
  turn_holds (events.Deliver number) i t c v h = delivered_holds number i.answer t v h
  turn_holds (events.Make chip authority) i t c v h = chip_no_key chip i reference c h
  turn_holds (events.Present chip terminal) i t c v h = chip_no_key chip i reference c h
  turn_holds (events.Import chip bytes) i t c v h = chip_no_key chip i reference c h
  turn_holds (events.Look chip) i t c v h = chip_no_key chip i reference c h

pub no_key_is_missing : NoKeyIsMissing
no_key_is_missing setup s t i reference a r h = turn_holds setup (means i.from i.to) s r.keys reference i.event i t a.chips r.turn h

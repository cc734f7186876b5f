-- A holder applies: what its call leaves, as a step of a run.
use Rattle.std.proofs.Common.{◌≡◌, ◌⊎◌, ℕ, ◌<◌, List, [], ◌∷◌, ◌++◌, length, Bool, true, false, cond, true≢false, Some, None, Ok, Err, inl, inr, refl, sym, ap, ◌∙◌, subst, append-nil}
use Rattle.std.specs.Prelude.{IfSome, IfOk, IsTrue, nat_le, is_none, is_some, option_map}
use Rattle.std.specs.declared.option.Option.{Option}
use Rattle.std.specs.declared.result.Result.{Result}
use Rattle.std.specs.List.{All}
use Rattle.std.proofs.lemmas.Bool.{leb-false}
use Rattle.std.proofs.lemmas.List.Elements.{All-nil, All-cons, All-append, All-weaker}
use Rattle.eac_base.specs.Telling.{Told}
use Rattle.eac_base.proofs.Tellings.{told_more}
use Rattle.signature_provider.specs.Provider.{PublicKey, Says as Saying, Holds, Signed, SaysMore, HoldsMore, public_key}
use Rattle.signature_provider.specs.declared.key.Key.{Key}
use Rattle.cvc_grammar.specs.declared.request.Request.{Request}
use Rattle.cvc_grammar.specs.declared.request.Outer.{Outer}
use Rattle.cvc_grammar.specs.declared.request.RequestBody.{RequestBody}
use Rattle.cvc_grammar.specs.declared.refusal.CvcRefusal.{CvcRefusal}
use Rattle.policy_limits.specs.Setup.{SetupValue, IsSetup, party, is_authority, is_verifier, is_inspection_system}
use Rattle.policy_limits.specs.declared.party.Party.{Party}
use Rattle.policy_limits.specs.declared.party.PartyKind.{PartyKind}
use Rattle.policy_limits.specs.declared.party.PartyKind.TheVariants as kinds
use Rattle.keeper.specs.declared.rows.Row.{Row}
use Rattle.keeper.specs.declared.rows.OwnPart.{OwnPart}
use Rattle.keeper.specs.declared.rows.Table.TheVariants as table
use Rattle.keeper.specs.Rows.{row_at}
use Rattle.issue_core.specs.Issuing.Causes.{StaysTrue}
use Rattle.issue_core.specs.Issuing.Rows.{AreReadable}
use Rattle.issue_core.specs.Issuing.Signed.{Pair}
use Rattle.holder_core.specs.Bodies.{IsNoBody}
use Rattle.holder_core.specs.Faults.{HolderCause}
use Rattle.holder_core.specs.LawfulCalls.{KeepsNumbers}
use Rattle.holder_core.specs.Numbers.{most_keys, reference_after}
use Rattle.holder_core.specs.OwnRows.{own_rows, own_part, ca_rows}
use Rattle.holder_core.specs.Readings.{request_of, inner_message, outer_message}
use Rattle.holder_core.specs.Requesting.{Requests, RequestAsked, WritesRequest, OuterBy, pending_row, authority_in, outer_signer, or_home, request_refused, request_late}
use Rattle.holder_core.specs.Signers.{Signer, missing_of, newest_wanted}
use Rattle.holder_core.specs.Signing.{SignsNoBody}
use Rattle.holder_core.specs.WritesOnce.{HasWritten}
use Rattle.holder_core.specs.declared.fault.HolderFault.{HolderFault}
use Rattle.holder_core.specs.declared.made.Made.{Made as Answered}
use Rattle.holder_core.specs.declared.made.Made.TheVariants as answered
use Rattle.holder_core.specs.declared.newest.Wanted.TheVariants as wanted
use Rattle.holder_core.proofs.Bodies.{body_of_cert}
use Rattle.holder_core.proofs.Lawfuls.{request_keeps}
use Rattle.eac_messages.specs.declared.message.Message.TheVariants as messages
use Rattle.eac_net.specs.Acting.{ApplyFits, home_of, home_reference, HomeAsked, MissesApplying, applied_as, request_sent}
use Rattle.eac_net.specs.Answers.{Tells, Concludes, answer_by}
use Rattle.eac_net.specs.Ending.{Ends, Acts}
use Rattle.eac_net.specs.Lawful.{AreLawful}
use Rattle.eac_net.specs.Made.{key_at, key_named, made_outer, made_request, made_own, IsGood, AreGood, all_made}
use Rattle.eac_net.specs.Objects.{Outside, moment_at, IsAt}
use Rattle.eac_net.specs.Packets.{IsBetween, AreBetween, call_of, next_number}
use Rattle.eac_net.specs.Parties.{is_any, kind_is, is_party_of, holder_of, holder_at}
use Rattle.eac_net.specs.State.{State, Standing, standing_of, moved}
use Rattle.eac_net.specs.Steps.{GoesOn, HasStepped}
use Rattle.eac_net.specs.Tracing.{Stay, Traced, AllTraced}
use Rattle.eac_net.specs.declared.answer.Answer.{Answer}
use Rattle.eac_net.specs.declared.answer.Answer.TheVariants as answers
use Rattle.eac_net.specs.declared.answer.Happened.{Happened}
use Rattle.eac_net.specs.declared.event.Event.{Event}
use Rattle.eac_net.specs.declared.event.Event.TheVariants as events
use Rattle.eac_net.specs.declared.packet.Packet.{Packet}
use Rattle.eac_net.specs.declared.world.World.{World}
use Rattle.eac_net.proofs.Concluded.{concluded, between_after, same_day}
use Rattle.eac_net.proofs.EventKinds.{some_party}
use Rattle.eac_net.proofs.Finding.{none_some, asked_signs}
use Rattle.eac_net.proofs.Going.{KeepsRows, keeps_same, held_more, good_more, answers_to, moved_standing, goes_by, item, none_called, none_acked}
use Rattle.eac_net.proofs.Grows.{readable_append, held_append, good_append, AddsGood, key_named_more}
use Rattle.eac_net.proofs.Lawfulness.{lawful_after}
use Rattle.eac_net.proofs.Naming.{IsNamed, own_named_is, home_named_is}
use Rattle.eac_net.proofs.Stays.{more_stay, all_traced_stay}
use Rattle.eac_net.proofs.Writings.{writes_cases}

-- ---- the holder, by the setup

pub record IsHolder (setup : SetupValue) (number : ℕ) : Type 0 where
  pub p : Party
  pub party_is : party setup number ≡ Some p
  pub holder_is : holder_at setup number ≡ p.holder
  pub not_one : is_party_of is_authority setup number ≡ false
  pub no_kind : is_authority p.kind ≡ false

none_authority : (kind : PartyKind) → IsTrue (is_verifier kind) ⊎ IsTrue (is_inspection_system kind) → is_authority kind ≡ false
none_authority (kinds.Cvca form rights days) (inl h) = absurd (true≢false (sym h))
none_authority (kinds.Cvca form rights days) (inr h) = absurd (true≢false (sym h))
none_authority kinds.Dv h = refl
none_authority kinds.Terminal h = refl

holder_by : (setup : SetupValue) (number : ℕ) → IsTrue (is_party_of is_verifier setup number) ⊎ IsTrue (is_party_of is_inspection_system setup number) → IsHolder setup number
holder_by setup number fits = go (party setup number) refl fits
  where
    at : (test : PartyKind → Bool) (x : Option Party) → party setup number ≡ x → is_party_of test setup number ≡ kind_is test (option_map (λ (p : Party). p.kind) x)
    at test x is = ap (λ (o : Option Party). kind_is test (option_map (λ (p : Party). p.kind) o)) is

    go : (x : Option Party) → party setup number ≡ x → IsTrue (is_party_of is_verifier setup number) ⊎ IsTrue (is_party_of is_inspection_system setup number) → IsHolder setup number
    go None is (inl h) = absurd (true≢false (sym h ∙ at is_verifier None is))
    go None is (inr h) = absurd (true≢false (sym h ∙ at is_inspection_system None is))
    go (Some p) is h =
        let no = none_authority p.kind (kinds_of h) in
        record { p = p; party_is = is; holder_is = ap holder_of is; not_one = at is_authority (Some p) is ∙ no; no_kind = no }
      where
        kinds_of : IsTrue (is_party_of is_verifier setup number) ⊎ IsTrue (is_party_of is_inspection_system setup number) → IsTrue (is_verifier p.kind) ⊎ IsTrue (is_inspection_system p.kind)
        kinds_of (inl k) = inl (sym (at is_verifier (Some p) is) ∙ k)
        kinds_of (inr k) = inr (sym (at is_inspection_system (Some p) is) ∙ k)

pub holder_of_asks : (setup : SetupValue) (holder authority root : ℕ) → (IsTrue (is_party_of is_verifier setup holder) × (authority ≡ root)) ⊎ (IsTrue (is_party_of is_inspection_system setup holder) × IsTrue (is_party_of is_verifier setup authority)) → IsHolder setup holder
holder_of_asks setup holder authority root (inl h) = holder_by setup holder (inl h.0)
holder_of_asks setup holder authority root (inr h) = holder_by setup holder (inr h.0)

parties_of : (setup : SetupValue) (holder authority root : ℕ) → IsTrue (is_party_of is_authority setup root) → (IsTrue (is_party_of is_verifier setup holder) × (authority ≡ root)) ⊎ (IsTrue (is_party_of is_inspection_system setup holder) × IsTrue (is_party_of is_verifier setup authority)) →
    IsTrue (is_party_of is_any setup holder) × IsTrue (is_party_of is_any setup authority)
parties_of setup holder authority root r (inl h) = (some_party is_verifier setup holder h.0, some_party is_authority setup authority (subst (λ (n : ℕ). IsTrue (is_party_of is_authority setup n)) (sym h.1) r))
parties_of setup holder authority root r (inr h) = (some_party is_inspection_system setup holder h.0, some_party is_verifier setup authority h.1)

call_between : (setup : SetupValue) (holder authority root : ℕ) → ApplyFits setup holder authority root → (result : Result Answered HolderFault) → AreBetween setup (request_sent holder authority result)
call_between setup holder authority root fits (Ok (answered.Request reference bytes)) =
    let two = parties_of setup holder authority root fits.root_is fits.asks in
    All-cons (IsBetween setup) (call_of holder authority (messages.RequestCertificate [] bytes)) [] (record { sender = two.0; receiver = two.1 }) (All-nil (IsBetween setup))
call_between setup holder authority root fits (Ok answered.Exhausted) = All-nil (IsBetween setup)
call_between setup holder authority root fits (Ok answered.NoAuthority) = All-nil (IsBetween setup)
call_between setup holder authority root fits (Err f) = All-nil (IsBetween setup)

-- ---- no certificate's body was signed

nobody_traced : (rows : List Row) (lost pairs : List Pair) → All (λ (pair : Pair). IsNoBody pair.1) pairs → AllTraced rows lost pairs
nobody_traced rows lost pairs all =
    All-weaker (λ (pair : Pair). IsNoBody pair.1) (Traced rows lost) (λ pair no cert bytes is text. absurd (no cert.body (body_of_cert cert bytes pair.1 is text))) pairs all

pub bodiless_traced : (before after : List Row) (lost : List Pair) (signed : Signed × Signed) → Stay before after → SignsNoBody signed → IfSome signed.0 (λ ps. AllTraced before lost ps) → IfSome signed.1 (λ ps. AllTraced after lost ps)
bodiless_traced before after lost signed stay s all = subst (λ (x : Signed). IfSome x (λ ps. AllTraced after lost ps)) (sym s.more) (go signed.0 all)
  where
    go : (x : Signed) → IfSome x (λ ps. AllTraced before lost ps) → IfSome (option_map (λ (was : List Pair). was ++ s.pairs) x) (λ ps. AllTraced after lost ps)
    go None h = tt
    go (Some was) h = All-append (Traced after lost) was s.pairs (all_traced_stay before after lost lost was stay (λ x c. c) h) (nobody_traced after lost s.pairs s.bodies)

-- ---- the pending row

few_left : (own : List Row) (above : Option Signer) → request_refused own above ≡ None → length own < 99999
few_left own above e = go (nat_le most_keys (length own)) refl e
  where
    go : (b : Bool) → nat_le most_keys (length own) ≡ b → cond b (Some answered.Exhausted) (cond (is_none above) (Some answered.NoAuthority) None) ≡ None → length own < 99999
    go true is k = absurd (none_some answered.Exhausted (sym k))
    go false is k = leb-false most_keys (length own) is

module _ (setup : SetupValue) (said says : Saying) (held holds : Holds) (says_more : SaysMore said says) (holds_more : HoldsMore held holds) (desk : ℕ) (h : IsHolder setup desk) (before : List Row)
    (reference authority bytes : List ℕ) (key : Key) where
  abbrev row : Row
  row = pending_row desk reference authority bytes key

  abbrev own : OwnPart
  own = record { authority = authority; request = bytes; key = key; settled = None }

  pub pending_readable : AreReadable before → AreReadable (before ++ row ∷ [])
  pending_readable r = readable_append before (row ∷ []) r (tt, tt)

  abbrev IsHeld : Holds → Row → Type 0
  IsHeld holding r = IfSome (own_part r.part) (λ (o : OwnPart). holding (public_key o.key) ≡ true)

  pending_held : holds (public_key key) ≡ true → All (IsHeld held) before → All (IsHeld holds) (before ++ row ∷ [])
  pending_held now all = held_append holds before (row ∷ []) (held_more held holds before holds_more all) (All-cons (IsHeld holds) row [] now (All-nil (IsHeld holds)))

  module _ (request : Request) (outer : Option Signer) (read : request_of bytes ≡ Ok request) (key_is : request.body.key ≡ key) (inner : says (public_key key) (inner_message request) request.inner ≡ true) (outer_by : OuterBy says request outer request.outer)
      (named_is : (s : Signer) → outer ≡ Some s → IsNamed setup before s) where
    abbrev at : ℕ → List ℕ → Option PublicKey
    at = key_at (before ++ row ∷ [])

    abbrev named : List ℕ → Option PublicKey
    named = key_named setup (before ++ row ∷ [])

    abbrev of : ℕ → Bool
    of = is_party_of is_authority setup

    outer_good : (x : Option Signer) (o : Option Outer) → ((s : Signer) → x ≡ Some s → IsNamed setup before s) → OuterBy says request x o → AreGood says (made_outer at named of request o)
    outer_good None None names by = All-nil (IsGood says)
    outer_good None (Some o) names by = absurd by
    outer_good (Some s) None names by = absurd by
    outer_good (Some s) (Some o) names by =
        All-cons (IsGood says) (record { key = named o.reference; message = outer_message request o.reference; signature = o.signature }) []
        (record {
          key = public_key s.key;
          there = ap named by.0 ∙ key_named_more setup before (row ∷ []) s.reference (public_key s.key) (names s refl);
          good = by.1;
        }) (All-nil (IsGood says))

    inner_good : IsGood says (record { key = Some (public_key request.body.key); message = inner_message request; signature = request.inner })
    inner_good = record { key = public_key key; there = ap (λ (k : Key). Some (public_key k)) key_is; good = inner }

    request_good : AreGood says (made_request at named of (Ok request))
    request_good = All-cons (IsGood says) (record { key = Some (public_key request.body.key); message = inner_message request; signature = request.inner }) (made_outer at named of request request.outer)
        inner_good (outer_good outer request.outer named_is outer_by)

    adds_good : AddsGood setup says before (row ∷ [])
    adds_good =
        subst (λ (b : Bool). AreGood says (made_own at named of desk b own ++ [])) (sym h.not_one)
        (subst (λ (r : Result Request CvcRefusal). AreGood says (made_request at named of r ++ [])) (sym read)
        (subst (AreGood says) (sym (append-nil (made_request at named of (Ok request)))) request_good))

    pub pending_keeps : (AreLawful setup before → AreLawful setup (before ++ row ∷ [])) → holds (public_key key) ≡ true → KeepsRows setup said says held holds before (before ++ row ∷ [])
    pending_keeps lawful now = record {
      lawful = lawful;
      keys = λ l all. pending_held now all;
      good = λ l g. good_append setup says before (row ∷ []) (good_more said says (all_made setup before) says_more g) adds_good;
      stay = more_stay before (row ∷ []);
    }

-- ---- one call

-- who signs the outer part is named by its reference
outer_named : (setup : SetupValue) → IsSetup setup → (desk : ℕ) (h : IsHolder setup desk) (rows : List Row) → AreLawful setup rows → length (own_rows desk rows) < 99999 → (authority : List ℕ) (home : Option Signer) → ((s : Signer) → home ≡ Some s → IsNamed setup rows s)
    → (s : Signer) → outer_signer authority home (own_rows desk rows) ≡ Some s → IsNamed setup rows s
outer_named setup setup_is desk h rows lawful few authority home homes s e = go (newest_wanted (wanted.AskedFrom authority) (own_rows desk rows)) refl e
  where
    go : (x : Option Signer) → newest_wanted (wanted.AskedFrom authority) (own_rows desk rows) ≡ x → or_home x home ≡ Some s → IsNamed setup rows s
    go None is k = homes s k
    go (Some t) is k = own_named_is setup setup_is desk h.p h.party_is rows (lawful.numbered desk h.p h.party_is) few s (asked_signs authority desk rows s (is ∙ k))

module _ (setup : SetupValue) (setup_is : IsSetup setup) (holder authority root : ℕ) (h : IsHolder setup holder) (said says : Saying) (held holds : Holds) (signed : Signed × Signed) (says_more : SaysMore said says) (holds_more : HoldsMore held holds) (before after : List Row) where
  -- lawful, where what is added can be read
  lawful_so : KeepsNumbers holder (holder_at setup holder) before after → (rows : List Row) → after ≡ rows → (AreReadable before → AreReadable rows) → AreLawful setup before → AreLawful setup rows
  lawful_so keeps rows is reads l = lawful_after setup holder h.p h.party_is before rows
      (subst (λ (x : List ℕ × List Row). KeepsNumbers holder x.0 before x.1) (λ j. (h.holder_is j, is j)) keeps)
      (λ kind f. absurd (true≢false (sym kind ∙ h.no_kind))) (reads l.readable) l

  abbrev home : Option Signer
  home = home_of setup authority holder before

  abbrev asked : List ℕ
  asked = holder_at setup authority

  abbrev below : List ℕ
  below = holder_at setup root

  written_keeps : KeepsNumbers holder (holder_at setup holder) before after → AreLawful setup before → request_refused (own_rows holder before) (authority_in asked below (ca_rows holder before)) ≡ None → (answer : Answered) →
      WritesRequest says held holds signed holder (holder_at setup holder) asked below home before answer after → KeepsRows setup said says held holds before after
  written_keeps keeps lawful due answer w =
      let r = w.made.request in
      let few = few_left (own_rows holder before) (authority_in asked below (ca_rows holder before)) due in
      let next : List ℕ = reference_after (holder_at setup holder) (own_rows holder before) in
      subst (KeepsRows setup said says held holds before) (sym w.rows)
      (pending_keeps setup said says held holds says_more holds_more holder h before next asked w.bytes w.key
      r.request (outer_signer asked home (own_rows holder before)) r.read (ap (λ (b : RequestBody). b.key) r.body) r.inner r.outer_is
      (outer_named setup setup_is holder h before lawful few asked home (λ s e. home_named_is setup (home_reference setup authority holder) before s e))
      (lawful_so keeps (before ++ pending_row holder next asked w.bytes w.key ∷ []) w.rows (pending_readable setup said says held holds says_more holds_more holder h before next asked w.bytes w.key))
      r.made.now_held)

  apply_keeps : AreLawful setup before → (result : Result Answered HolderFault) → Requests says held holds signed holder (holder_at setup holder) asked below home before after result → KeepsRows setup said says held holds before after
  apply_keeps lawful result does = go (writes_cases
      (request_refused (own_rows holder before) (authority_in asked below (ca_rows holder before)))
      (missing_of held (outer_signer asked home (own_rows holder before)))
      (request_late (is_some (row_at table.Own holder (reference_after (holder_at setup holder) (own_rows holder before)) before)))
      (WritesRequest says held holds signed holder (holder_at setup holder) asked below home before) before after result does)
    where
      go : (after ≡ before) ⊎ ((answer : Answered) × HasWritten
          (request_refused (own_rows holder before) (authority_in asked below (ca_rows holder before)))
          (missing_of held (outer_signer asked home (own_rows holder before)))
          (request_late (is_some (row_at table.Own holder (reference_after (holder_at setup holder) (own_rows holder before)) before)))
          (WritesRequest says held holds signed holder (holder_at setup holder) asked below home before) after answer) → KeepsRows setup said says held holds before after
      go (inl same) = subst (KeepsRows setup said says held holds before) (sym same) (keeps_same setup said says held holds before says_more holds_more)
      go (inr x) = written_keeps (request_keeps says held holds signed holder (holder_at setup holder) asked below home before after result does) lawful x.1.due x.0 x.1.written

-- ---- as a step

module _ (setup : SetupValue) (setup_is : IsSetup setup) (holder authority root : ℕ) (fits : ApplyFits setup holder authority root) (w w' : World) (o o' : Outside) (same_disks : o'.disks ≡ o.disks) (result : Result Answered HolderFault)
    (cause : HolderCause (MissesApplying setup o.holds holder authority root) (o.keeper_faults, o'.keeper_faults) (o.provider_faults, o'.provider_faults) result)
    (provider : StaysTrue o.says o'.says o.holds o'.holds o.signed o'.signed) (bodiless : SignsNoBody (o.signed, o'.signed)) where
  abbrev event : Event
  event = events.Apply holder authority root

  abbrev said : List Packet → Result Answered HolderFault → Option Answer
  said packets = answer_by (λ a. answers.Applied (applied_as (next_number packets) a))

  abbrev Does : List Row → List Row → Result Answered HolderFault → Type 0
  Does before after x = Requests o'.says o.holds o'.holds (o.signed, o'.signed) holder (holder_at setup holder) (holder_at setup authority) (holder_at setup root) (home_of setup authority holder before) before after x

  goes_applied : (answer : Option Answer) → Ends (moment_at w o).parties answer (moment_at w' o').parties (said w.packets result) (request_sent holder authority result) → (r r' : List Row) → Does r r' result →
      (s : State) → IsAt setup w o r s → GoesOn setup (item setup event answer w w' o o') w' o o' r r' s
  goes_applied answer ends r r' does s there =
      let now : Standing = (moment_at w' o').parties in
      let day = same_day (moment_at w o).parties now answer (said w.packets result) (request_sent holder authority result) ends in
      let h = holder_of_asks setup holder authority root fits.asks in
      let keeps : KeepsRows setup o.says o'.says o.holds o'.holds r r' =
      apply_keeps setup setup_is holder authority root h o.says o'.says o.holds o'.holds (o.signed, o'.signed) provider.says_more provider.holds_more r r' there.lawful result does in
      let acts : Acts (standing_of s) answer now (said s.packets) (request_sent holder authority) (Does s.rows r') (MissesApplying setup o.holds holder authority root) =
      subst (λ (x : Standing × List Row). Acts x.0 answer now (said x.0.packets) (request_sent holder authority) (Does x.1 r') (MissesApplying setup o.holds holder authority root)) (λ j. (sym there.standing j, sym there.rows_are j))
      (record { result = result; does = does; cause = cause; ends = ends }) in
      goes_by setup event answer w w' o o' s (moved s now r') r r' there
      (record { rows = r'; now = now; event = acts; next = refl })
      (moved_standing setup event answer w w' o o' s r r' day there) refl refl [] (sym (append-nil s.lost)) (λ _. refl) keeps
      (bodiless_traced r r' (s.lost ++ s.dropped) (o.signed, o'.signed) keeps.stay bodiless)

  pub apply_steps : {E F : Type 0} (happened : Result Happened E) (r : Result (Unit {0}) F) (line line' : List ℕ) → Concludes happened r w w' line line' → Tells happened (said w.packets result) (request_sent holder authority result) →
      Told o.rows o'.rows (λ before after. Does before after result) →
      (home : Option Signer) × HomeAsked setup authority holder home × IfOk result (RequestAsked o'.says o.holds o'.holds (o.signed, o'.signed) holder (holder_at setup holder) (holder_at setup authority) (holder_at setup root) home) →
      AreBetween setup w.packets → HasStepped setup event r (w, line) (w', line') o o'
  apply_steps happened r line line' c t does asked was =
      let d = concluded w w' o.keeper_faults o'.keeper_faults o.provider_faults o'.provider_faults (said w.packets result) (request_sent holder authority result) happened r line line' c t in (
        item setup event d.answer w w' o o',
        refl,
        record {
          from = refl;
          to = refl;
          answers = answers_to setup event d.answer w w' o o'
              (record {
                none = refl;
                event = record {
                  home = asked.0;
                  home_asked = asked.1;
                  event = record { result = result; does = asked.2; cause = cause; ends = d.ends };
                  signed = bodiless;
                };
              }) (none_called event d.answer [] w w' o o' same_disks c.imports) provider;
          rows = told_more (λ before after. Does before after result)
              (λ (x x' : List Row). (s : State) → IsAt setup w o x s → GoesOn setup (item setup event d.answer w w' o o') w' o o' x x' s)
              o.rows o'.rows does (λ x x' one s there. goes_applied d.answer d.ends x x' one s there);
          parties = between_after setup (moment_at w o).parties (moment_at w' o').parties d.answer (said w.packets result) (request_sent holder authority result) was (call_between setup holder authority root fits result) (All-nil (IsBetween setup)) d.ends;
          acks = none_acked w w' c.acks;
        },
        d.told,
      )

-- Acts of parties (BSI TR-03110-3 for their certificates and requests; what is carried by hand is this project's own): an
-- authority is founded or links, a party trusts an authority, a holder applies.
use Rattle.std.specs.Prelude.{◌≡◌, ◌≢◌, ◌⊎◌, ℕ, List, [], ◌∷◌, length, Option, Some, None, Result, Ok, Err, IfOk, IfSome, IsTrue, false, is_ok, option_and_then}
use Rattle.eac_messages.specs.declared.message.Message.TheVariants as messages
use Rattle.holder_reference.specs.Reference.{holder_part}
use Rattle.signature_provider.specs.Provider.{Holds}
use Rattle.policy_limits.specs.Setup.{SetupValue, number_of, registration, is_authority, is_verifier, is_inspection_system}
use Rattle.policy_limits.specs.declared.registration.Registration.{Registration}
use Rattle.policy_limits.specs.declared.registration.First.{First}
use Rattle.policy_limits.specs.declared.registration.First.TheVariants.{Bare, Home}
use Rattle.keeper.specs.declared.rows.Row.{Row}
use Rattle.keeper.specs.declared.rows.CaPart.{CaPart}
use Rattle.keeper.specs.declared.rows.Table.TheVariants as table
use Rattle.keeper.specs.Rows.{row_at}
use Rattle.keeper.specs.Keeping.{IsAsked}
use Rattle.holder_core.specs.Faults.{NoneMissing}
use Rattle.holder_core.specs.Numbers.{numbered}
use Rattle.holder_core.specs.OwnRows.{own_rows}
use Rattle.holder_core.specs.Requesting.{Requests, RequestAsked, MissesOuter, home_signer}
use Rattle.holder_core.specs.Signers.{Signer}
use Rattle.holder_core.specs.Signing.{SignsNoBody}
use Rattle.holder_core.specs.Trusting.{Trusts, TrustCause, carried}
use Rattle.holder_core.specs.declared.ca_rule.CaRule.TheVariants as rule
use Rattle.holder_core.specs.declared.ca_rule.TakenCa.{TakenCa}
use Rattle.holder_core.specs.declared.ca_rule.TakenCa.TheVariants as taken
use Rattle.holder_core.specs.declared.fault.HolderFault.{HolderFault}
use Rattle.holder_core.specs.declared.made.Made.{Made}
use Rattle.holder_core.specs.declared.made.Made.TheVariants as made
use Rattle.cvca_desk.specs.Terms as setups
use Rattle.cvca_desk.specs.Terms.{dates}
use Rattle.cvca_desk.specs.Founding.{Founds, AsksFounding, found_refused, founding_due}
use Rattle.cvca_desk.specs.Linking.{ExactLink, AsksLink, MissesLink, refused_by, link_due}
use Rattle.cvca_desk.specs.declared.founding.Founded.{Founded}
use Rattle.cvca_desk.specs.declared.linking.Linked.{Linked}
use Rattle.cvca_desk.specs.declared.terms.Terms.{Terms}
use Rattle.eac_net.specs.Answers.{answer_by}
use Rattle.eac_net.specs.Ending.{Acts, KeeperActs, Moves, Signs}
use Rattle.eac_net.specs.Losing.{Losing, Loses, fate_of, IsOwnDue}
use Rattle.eac_net.specs.Moment.{Meanings}
use Rattle.eac_net.specs.Packets.{call_of, next_number}
use Rattle.eac_net.specs.Parties.{is_any, is_party_of, holder_at, own_named}
use Rattle.eac_net.specs.State.{State, Standing, standing_of}
use Rattle.eac_net.specs.declared.answer.Answer.{Answer}
use Rattle.eac_net.specs.declared.answer.Answer.TheVariants as answers
use Rattle.eac_net.specs.declared.answer.Applied.{Applied}
use Rattle.eac_net.specs.declared.answer.Applied.TheVariants as applied
use Rattle.eac_net.specs.declared.answer.Trusted.{Trusted}
use Rattle.eac_net.specs.declared.answer.Trusted.TheVariants as trusted
use Rattle.eac_net.specs.declared.packet.Packet.{Packet}

-- ---- which of them may be run

abbrev pub AuthorityFits : SetupValue → ℕ → Type 0
AuthorityFits setup authority = IsTrue (is_party_of is_authority setup authority)

pub record TrustFits (setup : SetupValue) (party authority : ℕ) : Type 0 where
  pub party_is : IsTrue (is_party_of is_any setup party)
  pub authority_is : IsTrue (is_party_of is_authority setup authority)
  pub differ : party ≢ authority

-- a verifier asks its root, an inspection system a verifier
pub record ApplyFits (setup : SetupValue) (holder authority root : ℕ) : Type 0 where
  pub root_is : IsTrue (is_party_of is_authority setup root)
  pub asks : (IsTrue (is_party_of is_verifier setup holder) × (authority ≡ root))
      ⊎ (IsTrue (is_party_of is_inspection_system setup holder) × IsTrue (is_party_of is_verifier setup authority))

-- ---- on the day in force, by what the setup says of an authority

pub record ByTerms (setup : SetupValue) (authority : ℕ) (s : Standing) (E : ℕ → Terms → Type 0) : Type 0 where
  pub day : ℕ
  pub today : s.day ≡ Some day
  pub terms : Terms
  pub terms_are : setups.terms setup authority ≡ Some terms
  pub event : E day terms

-- nothing is sent by such an act
abbrev pub no_packet : {A : Type 0} → Result A HolderFault → List Packet
no_packet result = []

-- ---- a founding

module _ (setup : SetupValue) (m : Meanings) where
  -- what it signed and added no row for
  abbrev pub FoundingLoses : (authority day : ℕ) → Terms → List Row → Result Founded HolderFault → Losing → Type 0
  FoundingLoses authority day t rows result losing =
      Loses (IsOwnDue (found_refused (length (own_rows authority rows)) (dates t day)) (founding_due t day) m.held m.holds)
      (fate_of result) losing

  abbrev pub FoundTurn : State → ℕ → Option Answer → State → Type 0
  FoundTurn s authority answer s' = Signs s (λ rows now losing. ByTerms setup authority (standing_of s) (λ day t.
      Acts (standing_of s) answer now (answer_by answers.Founded) no_packet
      (λ result. Founds m.held m.holds authority day t m.says s.rows rows result × FoundingLoses authority day t s.rows result losing)
      NoneMissing)) s'

  abbrev pub FoundAnswers : Standing → ℕ → Option Answer → Standing → Type 0
  FoundAnswers s authority answer s' = ByTerms setup authority s (λ day t.
      Acts s answer s' (answer_by answers.Founded) no_packet
      (AsksFounding m.held m.holds day t m.says m.signed) NoneMissing)

  -- ---- a link

  abbrev pub LinkLoses : (authority day : ℕ) → Terms → List Row → Result Linked HolderFault → Losing → Type 0
  LinkLoses authority day t rows result losing =
      Loses (IsOwnDue (refused_by day t (own_rows authority rows)) (link_due day t (own_rows authority rows)) m.held m.holds)
      (fate_of result) losing

  abbrev pub LinkTurn : State → ℕ → Option Answer → State → Type 0
  LinkTurn s authority answer s' = Signs s (λ rows now losing. ByTerms setup authority (standing_of s) (λ day t.
      Acts (standing_of s) answer now (answer_by answers.Linked) no_packet
      (λ result. ExactLink m.held m.holds authority day t m.says m.signed s.rows rows result
      × LinkLoses authority day t s.rows result losing)
      (MissesLink m.held authority day t))) s'

  abbrev pub LinkAnswers : Standing → ℕ → Option Answer → Standing → Type 0
  LinkAnswers s authority answer s' = ByTerms setup authority s (λ day t.
      Acts s answer s' (answer_by answers.Linked) no_packet
      (AsksLink m.held m.holds authority day t m.says m.signed) (MissesLink m.held authority day t))

-- ---- a founding certificate is carried by hand: the authority's own row with the number 1, where it has its certificate

abbrev pub founding_reference : SetupValue → ℕ → List ℕ
founding_reference setup authority = numbered (holder_at setup authority) 1

abbrev pub carried_in : Option Row → Option CaPart
carried_in found = option_and_then (λ row. carried row.part) found

abbrev pub founding_in : SetupValue → ℕ → List Row → Option CaPart
founding_in setup authority rows = carried_in (row_at table.Own authority (founding_reference setup authority) rows)

-- the answer that there is none; a fault while the row was looked for
abbrev pub Unstored : Result Trusted HolderFault → Type 0
Unstored result = result ≡ Ok trusted.Unfounded

abbrev pub Unread : Result Trusted HolderFault → Type 0
Unread result = is_ok result ≡ false

-- what a party's call is told as; of the refusals `Full` alone comes where a row is handed over
abbrev pub trusted_as : TakenCa → Trusted
trusted_as (taken.Stored reference) = trusted.Stored reference
trusted_as (taken.Held reference) = trusted.Held reference
trusted_as (taken.Refused k) = trusted.Full

-- the row was there, and the party's call gave this
abbrev pub TrustsRow : ℕ → List ℕ → CaPart → List Row → List Row → Result Trusted HolderFault → Type 0
TrustsRow party reference ca before after (Ok (trusted.Stored r)) = Trusts party reference ca before after (Ok (taken.Stored r))
TrustsRow party reference ca before after (Ok (trusted.Held r)) = Trusts party reference ca before after (Ok (taken.Held r))
TrustsRow party reference ca before after (Ok trusted.Full) = Trusts party reference ca before after (Ok (taken.Refused rule.Full))
TrustsRow party reference ca before after (Ok trusted.Unfounded) = ⊥
TrustsRow party reference ca before after (Err f) = Trusts party reference ca before after (Err f)

-- for every keeper
abbrev pub TrustRowAsked : ℕ → List ℕ → Trusted → Type 0
TrustRowAsked party reference (trusted.Stored r) = TrustCause party reference (taken.Stored r)
TrustRowAsked party reference (trusted.Held r) = TrustCause party reference (taken.Held r)
TrustRowAsked party reference trusted.Full = Unit {0}
TrustRowAsked party reference trusted.Unfounded = ⊥

abbrev pub TrustSays : ℕ → List ℕ → Option CaPart → Trusted → Type 0
TrustSays party reference None answer = answer ≡ trusted.Unfounded
TrustSays party reference (Some ca) answer = TrustRowAsked party reference answer

module _ (setup : SetupValue) (party authority : ℕ) where
  pub record Carries (before after : List Row) (result : Result Trusted HolderFault) : Type 0 where
    pub ca : CaPart
    pub there : founding_in setup authority before ≡ Some ca
    pub trusts : TrustsRow party (founding_reference setup authority) ca before after result

  -- there is none, or it was stored, or a fault came before that was known
  abbrev pub TrustsFounding : List Row → List Row → Result Trusted HolderFault → Type 0
  TrustsFounding before after result =
      (Unstored result × (founding_in setup authority before ≡ None) × (after ≡ before))
      ⊎ ((Unread result × (after ≡ before)) ⊎ Carries before after result)

  -- for every keeper: by a row as it was asked for
  pub record TrustAsked (answer : Trusted) : Type 0 where
    pub found : Option Row
    pub asked : IfSome found (IsAsked table.Own authority (founding_reference setup authority))
    pub says : TrustSays party (founding_reference setup authority) (carried_in found) answer

  abbrev pub TrustTurn : State → Option Answer → State → Type 0
  TrustTurn s answer s' = Moves s (λ rows now.
      KeeperActs (standing_of s) answer now (answer_by answers.Trusted) no_packet (TrustsFounding s.rows rows)) s'

  abbrev pub TrustAnswers : Standing → Option Answer → Standing → Type 0
  TrustAnswers s answer s' = KeeperActs s answer s' (answer_by answers.Trusted) no_packet (λ result. IfOk result TrustAsked)

-- ---- a holder applies: the home row is the home authority's founding row, where the registration names one

abbrev pub home_in : First → Option (List ℕ)
home_in (Home reference) = Some reference
home_in Bare = None

abbrev pub home_named : SetupValue → (authority : ℕ) → (holder : List ℕ) → Option (List ℕ)
home_named setup authority holder = option_and_then (λ (g : Registration). home_in g.first) (registration setup authority holder)

abbrev pub home_reference : SetupValue → (authority holder : ℕ) → Option (List ℕ)
home_reference setup authority holder = home_named setup authority (holder_at setup holder)

-- the own row of this reference, where there is one and it has its certificate
abbrev pub home_for : SetupValue → Option (List ℕ) → List Row → Option Signer
home_for setup reference rows = option_and_then (λ r. home_signer (own_named setup rows r)) reference

abbrev pub home_of : SetupValue → (authority holder : ℕ) → List Row → Option Signer
home_of setup authority holder rows = home_for setup (home_reference setup authority holder) rows

-- for every keeper: by a row as it was asked for
abbrev pub HomeFound : SetupValue → Option (List ℕ) → Option Row → Type 0
HomeFound setup None found = found ≡ None
HomeFound setup (Some reference) found =
    IfSome found (λ row. (desk : ℕ) × (number_of setup (holder_part reference) ≡ Some desk) × IsAsked table.Own desk reference row)

pub record HomeFor (setup : SetupValue) (reference : Option (List ℕ)) (home : Option Signer) : Type 0 where
  pub found : Option Row
  pub asked : HomeFound setup reference found
  pub home_is : home ≡ home_signer found

abbrev pub HomeAsked : SetupValue → (authority holder : ℕ) → Option Signer → Type 0
HomeAsked setup authority holder home = HomeFor setup (home_reference setup authority holder) home

-- as it is told, with the number of the packet that has the request
abbrev pub applied_as : (packet : ℕ) → Made → Applied
applied_as packet (made.Request reference bytes) = applied.Sent packet reference
applied_as packet made.Exhausted = applied.Exhausted
applied_as packet made.NoAuthority = applied.NoAuthority

abbrev pub request_sent : (holder authority : ℕ) → Result Made HolderFault → List Packet
request_sent holder authority (Ok (made.Request reference bytes)) =
    call_of holder authority (messages.RequestCertificate [] bytes) ∷ []
request_sent holder authority (Ok made.Exhausted) = []
request_sent holder authority (Ok made.NoAuthority) = []
request_sent holder authority (Err f) = []

-- the outer signature's key is missing, by a home row and rows as they were asked for
pub record MissesApplying (setup : SetupValue) (held : Holds) (holder authority root : ℕ) (reference : List ℕ) : Type 0 where
  pub home : Option Signer
  pub home_asked : HomeAsked setup authority holder home
  pub misses : MissesOuter held holder (holder_at setup authority) (holder_at setup root) home reference

module _ (setup : SetupValue) (m : Meanings) (holder authority root : ℕ) where
  abbrev pub Applies : Standing → Option Answer → Standing → (Result Made HolderFault → Type 0) → Type 0
  Applies s answer s' Does =
      Acts s answer s' (answer_by (λ a. answers.Applied (applied_as (next_number s.packets) a))) (request_sent holder authority)
      Does (MissesApplying setup m.held holder authority root)

  abbrev pub ApplyTurn : State → Option Answer → State → Type 0
  ApplyTurn s answer s' = Moves s (λ rows now. Applies (standing_of s) answer now
      (Requests m.says m.held m.holds m.signed holder (holder_at setup holder) (holder_at setup authority) (holder_at setup root)
      (home_of setup authority holder s.rows) s.rows rows)) s'

  -- whatever is told, a request has a home row as it was asked for, and no certificate's body is signed
  pub record ApplyAnswers (s : Standing) (answer : Option Answer) (s' : Standing) : Type 0 where
    pub home : Option Signer
    pub home_asked : HomeAsked setup authority holder home
    pub event : Applies s answer s' (λ result. IfOk result (RequestAsked m.says m.held m.holds m.signed holder (holder_at setup holder)
        (holder_at setup authority) (holder_at setup root) home))
    pub signed : SignsNoBody m.signed

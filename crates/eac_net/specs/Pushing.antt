-- A desk sends its list by itself (after BSI TR-03129).
use Rattle.std.specs.Prelude.{◌≡◌, ℕ, List, [], ◌∷◌, Option, Some, None, Result, Ok, Err, IfOk, IsTrue}
use Rattle.eac_messages.specs.declared.message.Message.TheVariants as messages
use Rattle.policy_limits.specs.Setup.{SetupValue}
use Rattle.policy_limits.specs.declared.party.PartyKind.{PartyKind}
use Rattle.policy_limits.specs.declared.party.PartyKind.TheVariants as kinds
use Rattle.keeper.specs.declared.rows.Row.{Row}
use Rattle.holder_core.specs.declared.fault.HolderFault.{HolderFault}
use Rattle.desk_core.specs.Lists.{authority_list, verifier_list, AuthorityAsked, VerifierAsked}
use Rattle.eac_net.specs.Answers.{answer_by}
use Rattle.eac_net.specs.Ending.{KeeperActs, MovesOnly}
use Rattle.eac_net.specs.Packets.{call_of, next_number}
use Rattle.eac_net.specs.Parties.{is_holder, is_issuer, kind_at, is_party_of}
use Rattle.eac_net.specs.State.{State, Standing, standing_of}
use Rattle.eac_net.specs.declared.answer.Answer.{Answer}
use Rattle.eac_net.specs.declared.answer.Answer.TheVariants as answers
use Rattle.eac_net.specs.declared.packet.Packet.{Packet}

pub record PushFits (setup : SetupValue) (desk party : ℕ) : Type 0 where
  pub desk_is : IsTrue (is_party_of is_issuer setup desk)
  pub party_is : IsTrue (is_party_of is_holder setup party)

-- ---- the list that is due, by the desk's kind

abbrev pub due_by : Option PartyKind → ℕ → List Row → List (List ℕ)
due_by (Some (kinds.Cvca form rights days)) desk rows = authority_list desk rows
due_by (Some kinds.Dv) desk rows = verifier_list desk rows
due_by (Some kinds.Terminal) desk rows = []
due_by None desk rows = []

abbrev pub list_due : SetupValue → ℕ → List Row → List (List ℕ)
list_due setup desk rows = due_by (kind_at setup desk) desk rows

abbrev pub asked_by : Option PartyKind → ℕ → List (List ℕ) → Type 0
asked_by (Some (kinds.Cvca form rights days)) desk list = AuthorityAsked desk list
asked_by (Some kinds.Dv) desk list = VerifierAsked desk list
asked_by (Some kinds.Terminal) desk list = ⊥
asked_by None desk list = ⊥

-- for every keeper
abbrev pub ListAsked : SetupValue → ℕ → List (List ℕ) → Type 0
ListAsked setup desk list = asked_by (kind_at setup desk) desk list

-- ---- one packet with the list

abbrev pub list_sent : (desk party : ℕ) → Result (List (List ℕ)) HolderFault → List Packet
list_sent desk party (Ok list) = call_of desk party (messages.SendCertificates [] list) ∷ []
list_sent desk party (Err f) = []

abbrev pub Pushes : Standing → (desk party : ℕ) → Option Answer → Standing
    → (Result (List (List ℕ)) HolderFault → Type 0) → Type 0
Pushes s desk party answer s' Does =
    KeeperActs s answer s' (answer_by (λ (list : List (List ℕ)). answers.Sent (next_number s.packets)))
    (list_sent desk party) Does

abbrev pub PushTurn : SetupValue → State → (desk party : ℕ) → Option Answer → State → Type 0
PushTurn setup s desk party answer s' = MovesOnly s (λ now. Pushes (standing_of s) desk party answer now
    (λ result. IfOk result (λ list. list ≡ list_due setup desk s.rows))) s'

abbrev pub PushAnswers : SetupValue → Standing → (desk party : ℕ) → Option Answer → Standing → Type 0
PushAnswers setup s desk party answer s' = Pushes s desk party answer s' (λ result. IfOk result (ListAsked setup desk))

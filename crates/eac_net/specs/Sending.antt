-- Packets that parties send by themselves (after BSI TR-03129): a question for a list, and bytes as they stand.
use Rattle.std.specs.Prelude.{◌≤◌, ℕ, List, [], ◌∷◌, length, Option, Some, IsTrue}
use Rattle.eac_messages.specs.declared.message.Message.TheVariants as messages
use Rattle.policy_limits.specs.Setup.{SetupValue}
use Rattle.eac_net.specs.Ending.{Idles, MovesOnly}
use Rattle.eac_net.specs.Packets.{packet_of, call_of, next_number}
use Rattle.eac_net.specs.Parties.{is_any, is_holder, is_issuer, is_party_of}
use Rattle.eac_net.specs.State.{State, Standing, standing_of}
use Rattle.eac_net.specs.declared.answer.Answer.{Answer}
use Rattle.eac_net.specs.declared.answer.Answer.TheVariants as answers
use Rattle.eac_net.specs.declared.packet.Packet.{Packet}

-- ---- which of them may be run

pub record FetchFits (setup : SetupValue) (party desk : ℕ) : Type 0 where
  pub party_is : IsTrue (is_party_of is_holder setup party)
  pub desk_is : IsTrue (is_party_of is_issuer setup desk)

pub record SendFits (setup : SetupValue) (from to : ℕ) (bytes : List ℕ) : Type 0 where
  pub sender : IsTrue (is_party_of is_any setup from)
  pub receiver : IsTrue (is_party_of is_any setup to)
  pub size : length bytes ≤ 4096

-- ---- one packet more. Neither keeper nor provider is called, so the same is known whatever is told.

abbrev pub Posts : Standing → Packet → Option Answer → Standing → Type 0
Posts s packet answer s' = Idles s answer s' (Some (answers.Sent (next_number s.packets))) (packet ∷ [])

-- the question for the desk's list
abbrev pub question : (party desk : ℕ) → Packet
question party desk = call_of party desk (messages.GetCaCertificates [])

abbrev pub FetchAnswers : Standing → (party desk : ℕ) → Option Answer → Standing → Type 0
FetchAnswers s party desk answer s' = Posts s (question party desk) answer s'

abbrev pub FetchTurn : State → (party desk : ℕ) → Option Answer → State → Type 0
FetchTurn s party desk answer s' = MovesOnly s (FetchAnswers (standing_of s) party desk answer) s'

abbrev pub SendAnswers : Standing → (from to : ℕ) → List ℕ → Option Answer → Standing → Type 0
SendAnswers s from to bytes answer s' = Posts s (packet_of from to bytes) answer s'

abbrev pub SendTurn : State → (from to : ℕ) → List ℕ → Option Answer → State → Type 0
SendTurn s from to bytes answer s' = MovesOnly s (SendAnswers (standing_of s) from to bytes answer) s'

-- Packets by number, and those that events send (this project's own; calls and replies after BSI TR-03129).
use Rattle.std.specs.Prelude.{◌==◌, ◌+◌, ◌-◌, ℕ, List, [], ◌∷◌, length, Option, Some, None, IsTrue, true, false, slice_get, if◌then◌else◌}
use Rattle.std.specs.List.{All}
use Rattle.eac_messages.specs.Message.{message_text}
use Rattle.eac_messages.specs.Reply.{reply_text}
use Rattle.eac_messages.specs.declared.message.Message.{Message}
use Rattle.eac_messages.specs.declared.reply.Reply.{Reply}
use Rattle.policy_limits.specs.Setup.{SetupValue}
use Rattle.eac_net.specs.Parties.{is_any, is_party_of}
use Rattle.eac_net.specs.declared.packet.Packet.{Packet}

-- ---- numbers, from 1

abbrev pub next_number : List Packet → ℕ
next_number packets = length packets + 1

abbrev pub packet_at : List Packet → ℕ → Option Packet
packet_at packets number = if number == 0 then None else slice_get packets (number - 1)

-- ---- what is sent

abbrev pub packet_of : (from to : ℕ) → List ℕ → Packet
packet_of from to body = record { from = from; to = to; reply = false; body = body }

-- a call; those that events make have no identifier
abbrev pub call_of : (from to : ℕ) → Message → Packet
call_of from to message = packet_of from to (message_text message)

-- a reply goes back to the sender of the call
abbrev pub reply_to : Packet → Reply → Packet
reply_to p reply = record { from = p.to; to = p.from; reply = true; body = reply_text reply }

-- one packet or none, as a list
abbrev pub sent_of : Option Packet → List Packet
sent_of None = []
sent_of (Some p) = p ∷ []

-- ---- between parties of the setup

pub record IsBetween (setup : SetupValue) (p : Packet) : Type 0 where
  pub sender : IsTrue (is_party_of is_any setup p.from)
  pub receiver : IsTrue (is_party_of is_any setup p.to)

abbrev pub AreBetween : SetupValue → List Packet → Type 0
AreBetween setup packets = All (IsBetween setup) packets

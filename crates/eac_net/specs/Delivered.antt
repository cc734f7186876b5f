-- What is told of a packet that came, and its reply (this project's own).
use Rattle.std.specs.Prelude.{◌==◌, ◌+◌, ℕ, List, [], ◌∷◌, ◌++◌, codes, map, Option, Some, None, if◌then◌else◌}
use Rattle.std.specs.Fmt.{decimal}
use Rattle.eac_messages.specs.Code.{code_text}
use Rattle.eac_messages.specs.declared.code.Code.TheVariants as code
use Rattle.eac_messages.specs.declared.reply.Reply.{Reply}
use Rattle.holder_core.specs.declared.ca_rule.TakenCa.{TakenCa}
use Rattle.holder_core.specs.declared.ca_rule.TakenCa.TheVariants as ca
use Rattle.holder_core.specs.declared.fault.HolderFault.{HolderFault}
use Rattle.holder_core.specs.declared.fault.HolderFault.TheVariants as fault
use Rattle.holder_core.specs.declared.received.Item.{Item}
use Rattle.holder_core.specs.declared.received.Item.TheVariants as item
use Rattle.holder_core.specs.declared.received.Received.{Received}
use Rattle.holder_core.specs.declared.take_rule.Taken.{Taken}
use Rattle.holder_core.specs.declared.take_rule.Taken.TheVariants as taken
use Rattle.holder_core.specs.RuleNumbers.{take_number, ca_number}
use Rattle.desk_core.specs.declared.served.Event1.{Event1}
use Rattle.desk_core.specs.declared.served.Event1.TheVariants as event
use Rattle.desk_core.specs.declared.served.Served.{Served}
use Rattle.eac_net.specs.Packets.{reply_to}
use Rattle.eac_net.specs.declared.answer.Answer.{Answer}
use Rattle.eac_net.specs.declared.answer.Answer.TheVariants as answers
use Rattle.eac_net.specs.declared.answer.Replied.{Replied}
use Rattle.eac_net.specs.declared.answer.Replied.TheVariants as replied
use Rattle.eac_net.specs.declared.packet.Packet.{Packet}

-- ---- texts

-- want of memory has none
abbrev pub fault_words : HolderFault → List ℕ
fault_words fault.KeeperFault = codes "fault keeper"
fault_words fault.ProviderFault = codes "fault provider"
fault_words (fault.NoKey reference) = codes "fault key " ++ reference
fault_words fault.NoMemory = []

abbrev pub own_text : Taken → List ℕ
own_text (taken.Stored reference) = codes "stored " ++ reference
own_text (taken.Already reference) = codes "already " ++ reference
own_text (taken.Refused k) = codes "refused own " ++ decimal (take_number k)

abbrev pub ca_text : TakenCa → List ℕ
ca_text (ca.Stored reference) = codes "ca " ++ reference
ca_text (ca.Held reference) = codes "ca held " ++ reference
ca_text (ca.Refused k) = codes "refused ca " ++ decimal (ca_number k)

abbrev pub item_text : Item → List ℕ
item_text (item.Own t) = own_text t
item_text (item.Ca t) = ca_text t

-- a fault stands last
abbrev pub fault_items : Option HolderFault → List (List ℕ)
fault_items None = []
fault_items (Some f) = fault_words f ∷ []

-- the text at this place of a list stands behind a comma, where it isn't the first
abbrev pub behind : ℕ → List ℕ → List ℕ
behind at text = if at == 0 then text else codes ", " ++ text

-- texts from this place on
abbrev pub listed : ℕ → List (List ℕ) → List ℕ
listed at [] = []
listed at (text ∷ texts) = behind at text ++ listed (at + 1) texts

abbrev pub joined : List (List ℕ) → List ℕ
joined [] = codes "nothing"
joined (text ∷ texts) = listed 0 (text ∷ texts)

abbrev pub received_text : Received → List ℕ
received_text r = joined (map item_text r.items ++ fault_items r.fault)

abbrev pub event_text : Event1 → List ℕ
event_text (event.Issued reference) = codes "issued " ++ reference
event_text (event.Kept reference) = codes "kept " ++ reference
event_text (event.Refused k) = codes "refused " ++ decimal k
event_text (event.Listed count) = codes "list " ++ decimal count
event_text (event.Received r) = received_text r
event_text event.NotServed = codes "not served"
event_text (event.Fault f) = fault_words f

abbrev pub call_words : Option Event1 → List ℕ
call_words (Some e) = event_text e
call_words None = codes "malformed"

abbrev pub called_text : Option Event1 → (reply : ℕ) → List ℕ
called_text e reply = call_words e ++ codes " reply " ++ decimal reply

abbrev pub replied_text : Replied → List ℕ
replied_text replied.Malformed = codes "malformed"
replied_text (replied.Noted c) = codes "noted " ++ code_text c
replied_text (replied.Took r) = received_text r

-- ---- answers

-- a call that was served, with the number of its reply; want of memory has no answer and no reply
abbrev pub served_answer : (reply : ℕ) → Option Served → Option Answer
served_answer reply (Some s) = Some (answers.Called (Some s.event) reply)
served_answer reply None = None

abbrev pub served_sent : Packet → Option Served → List Packet
served_sent p (Some s) = reply_to p s.reply ∷ []
served_sent p None = []

-- to a call that is no message
abbrev pub unread_reply : Reply
unread_reply = record { id = []; code = code.Syntax; rule = None; certificates = [] }

-- certificates of a reply: want of memory has no answer
abbrev pub took_answer : Option HolderFault → Received → Option Answer
took_answer None r = Some (answers.Replied (replied.Took r))
took_answer (Some fault.KeeperFault) r = Some (answers.Replied (replied.Took r))
took_answer (Some fault.ProviderFault) r = Some (answers.Replied (replied.Took r))
took_answer (Some (fault.NoKey reference)) r = Some (answers.Replied (replied.Took r))
took_answer (Some fault.NoMemory) r = None

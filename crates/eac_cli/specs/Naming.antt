-- The events that lines name, with the parties' numbers in a setup (this project's own). Where a party isn't there, or
-- can't have its part, or the chip isn't there, there is none.
use Rattle.std.specs.Prelude.{ℕ, List, ◌==◌, Bool, Option, Some, None, if◌then◌else◌}
use Rattle.std.specs.Option.{option_or}
use Rattle.eac_base.specs.Answers.{◌gives◌}
use Rattle.policy_limits.specs.Setup.{SetupValue, number_of, is_authority, is_verifier, is_inspection_system}
use Rattle.policy_limits.specs.declared.party.PartyKind.{PartyKind}
use Rattle.eac_net.specs.Parties.{is_any, is_issuer, is_holder, is_party_of}
use Rattle.eac_net.specs.declared.event.Event.{Event}
use Rattle.eac_net.specs.declared.event.Event.TheVariants as events
use Rattle.eac_cli.specs.declared.named_event.NamedEvent.{NamedEvent}
use Rattle.eac_cli.specs.declared.named_event.NamedEvent.TheVariants as named
use Rattle.eac_cli.specs.declared.parts.Part.{Part}
use Rattle.eac_cli.specs.declared.parts.Part.TheVariants as part

-- ---- one party

-- a party of this kind can have that part
abbrev pub has_part : Part → PartyKind → Bool
has_part part.Any kind = is_any kind
has_part part.Authority kind = is_authority kind
has_part part.Verifier kind = is_verifier kind
has_part part.InspectionSystem kind = is_inspection_system kind
has_part part.Issuer kind = is_issuer kind
has_part part.Holder kind = is_holder kind

-- the number of the party of this holder, where it is of such a kind
abbrev pub numbered : (PartyKind → Bool) → SetupValue → List ℕ → Option ℕ
numbered test setup holder = number_of setup holder gives λ n. if is_party_of test setup n then Some n else None

-- ---- acts of parties

abbrev pub found_in : SetupValue → List ℕ → Option Event
found_in setup authority = numbered is_authority setup authority gives λ a. Some (events.Found a)

abbrev pub link_in : SetupValue → List ℕ → Option Event
link_in setup authority = numbered is_authority setup authority gives λ a. Some (events.Link a)

-- The two differ.
abbrev pub trust_in : SetupValue → List ℕ → List ℕ → Option Event
trust_in setup party authority =
    numbered is_any setup party gives λ p. numbered is_authority setup authority gives λ a.
    if p == a then None else Some (events.Trust p a)

-- A verifier asks its root,
abbrev pub asked_by_verifier : SetupValue → List ℕ → List ℕ → ℕ → Option Event
asked_by_verifier setup holder authority root =
    numbered is_verifier setup holder gives λ h. number_of setup authority gives λ a.
    if a == root then Some (events.Apply h a root) else None

-- and an inspection system a verifier.
abbrev pub asked_by_system : SetupValue → List ℕ → List ℕ → ℕ → Option Event
asked_by_system setup holder authority root =
    numbered is_inspection_system setup holder gives λ h. numbered is_verifier setup authority gives λ a.
    Some (events.Apply h a root)

abbrev pub apply_in : SetupValue → List ℕ → List ℕ → List ℕ → Option Event
apply_in setup holder authority root =
    numbered is_authority setup root gives λ r.
    option_or (asked_by_verifier setup holder authority r) (asked_by_system setup holder authority r)

-- ---- packets

abbrev pub fetch_in : SetupValue → List ℕ → List ℕ → Option Event
fetch_in setup party desk =
    numbered is_holder setup party gives λ p. numbered is_issuer setup desk gives λ d. Some (events.Fetch p d)

abbrev pub push_in : SetupValue → List ℕ → List ℕ → Option Event
push_in setup desk party =
    numbered is_issuer setup desk gives λ d. numbered is_holder setup party gives λ p. Some (events.Push d p)

abbrev pub send_in : SetupValue → List ℕ → List ℕ → List ℕ → Option Event
send_in setup from to bytes =
    numbered is_any setup from gives λ f. numbered is_any setup to gives λ t. Some (events.Send f t bytes)

-- ---- chips

abbrev pub make_in : SetupValue → Option ℕ → List ℕ → Option Event
make_in setup chip authority = chip gives λ c. numbered is_authority setup authority gives λ a. Some (events.Make c a)

abbrev pub present_in : SetupValue → Option ℕ → List ℕ → Option Event
present_in setup chip terminal =
    chip gives λ c. numbered is_inspection_system setup terminal gives λ t. Some (events.Present c t)

abbrev pub import_in : Option ℕ → List ℕ → Option Event
import_in chip bytes = chip gives λ c. Some (events.Import c bytes)

abbrev pub look_in : Option ℕ → Option Event
look_in chip = chip gives λ c. Some (events.Look c)

-- ---- any event

abbrev pub event_in : SetupValue → NamedEvent → Option Event
event_in setup (named.Day day) = Some (events.Day day)
event_in setup (named.Ask reference bytes) = Some (events.Ask reference bytes)
event_in setup (named.Found authority) = found_in setup authority
event_in setup (named.Link authority) = link_in setup authority
event_in setup (named.Trust party authority) = trust_in setup party authority
event_in setup (named.Apply holder authority root) = apply_in setup holder authority root
event_in setup (named.Fetch party desk) = fetch_in setup party desk
event_in setup (named.Push desk party) = push_in setup desk party
event_in setup (named.Send from to bytes) = send_in setup from to bytes
event_in setup (named.Deliver packet) = Some (events.Deliver packet)
event_in setup (named.Make chip authority) = make_in setup chip authority
event_in setup (named.Present chip terminal) = present_in setup chip terminal
event_in setup (named.Import chip bytes) = import_in chip bytes
event_in setup (named.Look chip) = look_in chip

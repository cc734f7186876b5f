-- Setup lines: what the words of one say, behind the lines before it (this project's own).
use Rattle.std.specs.Prelude.{ℕ, ◌-◌, ◌^◌, min, nat_lt, List, [], ◌∷◌, ◌++◌, length, take, drop, Bool, true, false, ◌&&◌, ◌||◌, Option, Some, None, if◌then◌else◌, codes, is_none}
use Rattle.std.specs.Option.{option_map}
use Rattle.std.specs.Result.{result_ok}
use Rattle.std.specs.Str.{bytes_eq}
use Rattle.eac_base.specs.Answers.{◌gives◌}
use Rattle.eac_base.specs.Text.{decimal_of}
use Rattle.holder_reference.specs.Reference.{read_holder}
use Rattle.chat_rights.specs.Kinds.{rights_fit}
use Rattle.chat_rights.specs.declared.Kind.TheVariants.{Inspection}
use Rattle.chat_rights.specs.declared.Role.{Role}
use Rattle.chat_rights.specs.declared.Role.TheVariants.{Cvca, Domestic, Foreign, Terminal}
use Rattle.signature_provider.specs.declared.key.FormName.{FormName}
use Rattle.signature_provider.specs.declared.key.FormName.TheVariants.{Ec, Rsa}
use Rattle.plain_text.specs.Digits.{byte_word}
use Rattle.plain_text.specs.Lines.{pieces, one_word}
use Rattle.policy_limits.specs.Setup.{SetupValue, is_authority, can_be, party, number_of, registration, most_parties, party_fits, registration_fits}
use Rattle.policy_limits.specs.declared.party.Party.{Party}
use Rattle.policy_limits.specs.declared.party.PartyKind.{PartyKind}
use Rattle.policy_limits.specs.declared.party.PartyKind.TheVariants as kinds
use Rattle.policy_limits.specs.declared.registration.First.{First}
use Rattle.policy_limits.specs.declared.registration.First.TheVariants.{Bare, Home}
use Rattle.policy_limits.specs.declared.setup_line.SetupLine.{SetupLine}
use Rattle.policy_limits.specs.declared.setup_line.SetupLine.TheVariants as said

-- ---- single words

abbrev pub holder_word : List ℕ → Option (List ℕ)
holder_word w = result_ok (read_holder w)

abbrev pub form_word : List ℕ → Option FormName
form_word w = if bytes_eq w (codes "ec") then Some Ec else (if bytes_eq w (codes "rsa") then Some Rsa else None)

-- RIGHTS: two hexadecimal digits that say 00 to 3F.
abbrev pub rights_of : ℕ → Option ℕ
rights_of bits = if rights_fit Inspection bits then Some bits else None

abbrev pub rights_word : List ℕ → Option ℕ
rights_word w = byte_word w gives rights_of

-- DAYS and LIVE have no greatest length. A number that four bytes can't hold is beyond each limit, and so is the greatest
-- that they can, for which it is taken.
abbrev pub shortened : ℕ → ℕ
shortened n = min n (2 ^ 32 - 1)

abbrev pub limited_word : List ℕ → Option ℕ
limited_word w = option_map shortened (decimal_of w)

-- ---- words that name a party of an earlier line

abbrev pub named_party : SetupValue → List ℕ → Option (ℕ × Party)
named_party r w = holder_word w gives λ holder. number_of r holder gives λ number. party r number gives λ p. Some (number, p)

-- The holder of such a party, where it can have certificates of this role.
abbrev pub holder_in : SetupValue → Role → List ℕ → Option (List ℕ)
holder_in r role w = named_party r w gives λ named. if can_be role named.1.kind then Some named.1.holder else None

-- ---- words of a registration

-- At an authority the role is a verifier's, at a verifier it is an inspection system's.
abbrev pub role_word : PartyKind → List ℕ → Option Role
role_word (kinds.Cvca form rights days) w =
    if bytes_eq w (codes "domestic") then Some Domestic else (if bytes_eq w (codes "foreign") then Some Foreign else None)
role_word kinds.Dv w = if bytes_eq w (codes "terminal") then Some Terminal else None
role_word kinds.Terminal w = None

-- What stands behind `home:`.
abbrev pub behind_home : List ℕ → Option (List ℕ)
behind_home w = if bytes_eq (take 5 w) (codes "home:") then Some (drop 5 w) else None

-- `home:` and an authority: its reference with sequence 00001 is meant.
abbrev pub home_word : SetupValue → List ℕ → Option First
home_word r w = behind_home w gives λ authority. holder_in r Cvca authority gives λ holder. Some (Home (holder ++ codes "00001"))

-- `bare`, or at an authority the home.
abbrev pub first_word : SetupValue → PartyKind → List ℕ → Option First
first_word r desk w = if bytes_eq w (codes "bare") then Some Bare else (if is_authority desk then home_word r w else None)

-- `suspended` or nothing.
abbrev pub suspended_word : List ℕ → Option Bool
suspended_word w = if bytes_eq w (codes "suspended") then Some true else None

abbrev pub suspended_words : List (List ℕ) → Option Bool
suspended_words [] = Some false
suspended_words (w ∷ more) = one_word (w ∷ more) gives suspended_word

-- ---- lines

abbrev pub party_of : PartyKind → List ℕ → Option SetupLine
party_of kind w = holder_word w gives λ holder. Some (said.Party (record { holder = holder; kind = kind }))

-- `dv HOLDER`, `terminal HOLDER`
abbrev pub plain_said : PartyKind → List (List ℕ) → Option SetupLine
plain_said kind rest = one_word rest gives party_of kind

abbrev pub authority_of : List ℕ → List ℕ → List ℕ → List ℕ → Option SetupLine
authority_of w form rights days =
    form_word form gives λ f. rights_word rights gives λ bits. limited_word days gives λ n. party_of (kinds.Cvca f bits n) w

-- `cvca HOLDER FORM RIGHTS DAYS`
abbrev pub authority_said : List (List ℕ) → Option SetupLine
authority_said (w ∷ form ∷ rights ∷ rest) = one_word rest gives authority_of w form rights
authority_said other = None

abbrev pub registration_of : SetupValue → (desk w role rights days live first : List ℕ) → Bool → Option SetupLine
registration_of r desk w role rights days live first suspended =
    named_party r desk gives λ at. role_word at.1.kind role gives λ named. holder_in r named w gives λ holder.
    rights_word rights gives λ bits. limited_word days gives λ n. limited_word live gives λ limit.
    first_word r at.1.kind first gives λ begin.
    Some (said.Registration (record {
      desk = at.0;
      holder = holder;
      role = named;
      rights = bits;
      days = n;
      live_limit = limit;
      first = begin;
      suspended = suspended;
    }))

-- `register DESK HOLDER ROLE RIGHTS DAYS LIVE FIRST`, and `suspended` or nothing
abbrev pub registration_said : SetupValue → List (List ℕ) → Option SetupLine
registration_said r (desk ∷ w ∷ role ∷ rights ∷ days ∷ live ∷ first ∷ rest) =
    suspended_words rest gives registration_of r desk w role rights days live first
registration_said r other = None

-- The first word says the kind of the line.
abbrev pub line_said : SetupValue → List (List ℕ) → Option SetupLine
line_said r [] = None
line_said r (kind ∷ rest) =
    if bytes_eq kind (codes "cvca") then authority_said rest else (if bytes_eq kind (codes "dv") then plain_said kinds.Dv rest
    else (if bytes_eq kind (codes "terminal") then plain_said kinds.Terminal rest
    else (if bytes_eq kind (codes "register") then registration_said r rest else None)))

-- ---- which lines are setup lines

abbrev pub is_kind : List ℕ → Bool
is_kind w = bytes_eq w (codes "cvca") || bytes_eq w (codes "dv") || bytes_eq w (codes "terminal") || bytes_eq w (codes "register")

abbrev pub begins_with_kind : List (List ℕ) → Bool
begins_with_kind [] = false
begins_with_kind (w ∷ rest) = is_kind w

-- A line is a setup line by what stands before its first space, whatever comes behind it.
abbrev pub is_setup_line : List ℕ → Bool
is_setup_line line = begins_with_kind (pieces line)

-- ---- limits, what is said twice, and what a line adds

abbrev pub fits : SetupValue → SetupLine → Bool
fits r (said.Party p) = party_fits p.kind && nat_lt (length r.parties) most_parties
fits r (said.Registration g) = registration_fits g

abbrev pub is_new : SetupValue → SetupLine → Bool
is_new r (said.Party p) = is_none (number_of r p.holder)
is_new r (said.Registration g) = is_none (registration r g.desk g.holder)

abbrev pub added : SetupValue → SetupLine → SetupValue
added r (said.Party p) = record r { parties = r.parties ++ p ∷ [] }
added r (said.Registration g) = record r { registrations = r.registrations ++ g ∷ [] }
